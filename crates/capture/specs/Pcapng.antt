-- The meaning of bytes as a pcapng block: a section header, an interface description, or a packet.
use Rattle.std.specs.Prelude.{ℕ, Bool, suc, zero, ◌+◌, ◌-◌, ◌*◌, ◌/◌, ◌%◌, ◌^◌, ◌==◌, nat_lt, ◌||◌, ◌&&◌, not, if◌then◌else◌, List, [], length, take, drop, slice_get, slice_index, Option, Some, None}
use Rattle.byteorder.specs.Endian.{big_number}
use Rattle.refusals.specs.declared.errors.CaptureError.TheVariants.{NotCapture, LinkType}
use Rattle.capture.specs.declared.entry.Entry.{Entry}
use Rattle.capture.specs.declared.entry.Entry.TheVariants.{Faulty, Unread}
use Rattle.capture.specs.declared.entry.Fault.TheVariants.{Truncated}
use Rattle.capture.specs.declared.entry.Lengths.{Lengths}
use Rattle.capture.specs.declared.header.Order.{Order}
use Rattle.capture.specs.declared.header.Order.TheVariants.{Big, Little}
use Rattle.capture.specs.declared.piece.Interface.{Interface}
use Rattle.capture.specs.declared.piece.Piece.{Piece}
use Rattle.capture.specs.declared.piece.Piece.TheVariants.{Packet, Section, Described, Other}
use Rattle.capture.specs.Entries.{entry_with, fault_of}
use Rattle.capture.specs.Layout.{Numbers, numbers_in}
use Rattle.capture.specs.Record.{record_of}

-- The byte order for a section header's magic number, read as big-endian: 0x1a2b3c4d, or reversed.
abbrev pub order_of : ℕ → Option Order
order_of magic =
    if magic == 439041101 then Some Big
    else if magic == 1295788826 then Some Little
    else None

-- Whether the bytes begin with a section header: type 0x0a0d0d0a, the same in both orders.
abbrev pub is_section : List ℕ → Bool
is_section bytes = big_number 4 bytes == 168627466

-- The byte order of the first block in the bytes. A section header states its own.
abbrev pub block_order : Order → List ℕ → Option Order
block_order order bytes = if is_section bytes then order_of (big_number 4 (drop 8 bytes)) else Some order

-- `ticks` as seconds and nanoseconds, if a second has 10 ^ resolution ticks, at most 10 ^ 9. For other resolutions,
-- and from 2 ^ 32 seconds on, the time is 0.
abbrev pub time_with : ℕ → ℕ → ℕ × ℕ
time_with seconds nanos = if nat_lt seconds (2 ^ 32) then (seconds, nanos) else (0, 0)

abbrev pub time_of : ℕ → ℕ → ℕ × ℕ
time_of resolution ticks =
    if nat_lt 9 resolution then (0, 0)
    else time_with (ticks / 10 ^ resolution) (ticks % 10 ^ resolution * 10 ^ (9 - resolution))

-- The packet with these lengths and this time, whose data are the first of `bytes`.
abbrev pub held_in : Lengths → ℕ × ℕ → List ℕ → Entry
held_in lengths time bytes =
    if nat_lt (length bytes) lengths.captured then Faulty (record { fault = Truncated; lengths = Some lengths })
    else entry_with (fault_of lengths) lengths (record_of time.0 time.1 lengths.wire (take lengths.captured bytes))

-- The interface, if it is Ethernet.
abbrev pub if_ethernet : Option Interface → Option Interface
if_ethernet None = None
if_ethernet (Some i) = if i.link_type == 1 then Some i else None

-- An enhanced packet: its interface, the high and low half of its time, its lengths, and its data from byte 28.
unfoldable pub enhanced_with : Numbers → Option Interface → List ℕ → Entry
enhanced_with number None block = Unread LinkType
enhanced_with number (Some i) block =
    let lengths : Lengths = record { captured = number 4 (drop 20 block); wire = number 4 (drop 24 block) } in
    let ticks = number 4 (drop 12 block) * 2 ^ 32 + number 4 (drop 16 block) in
    held_in lengths (time_of i.resolution ticks) (take (length block - 32) (drop 28 block))

unfoldable pub enhanced_in : Numbers → List Interface → List ℕ → Entry
enhanced_in number interfaces block =
    if nat_lt (length block) 32 then Unread NotCapture
    else enhanced_with number (if_ethernet (slice_get interfaces (number 4 (drop 8 block)))) block

-- A simple packet, from interface 0 and without a time: its length on the wire, and its data from byte 12. The
-- interface's snap length, if any, limits the captured length.
abbrev pub snapped_len : ℕ → ℕ → ℕ
snapped_len snap_len wire = if not (snap_len == 0) && nat_lt snap_len wire then snap_len else wire

unfoldable pub simple_with : Numbers → Option Interface → List ℕ → Entry
simple_with number None block = Unread LinkType
simple_with number (Some i) block =
    let wire = number 4 (drop 8 block) in
    let lengths : Lengths = record { captured = snapped_len i.snap_len wire; wire = wire } in
    held_in lengths (0, 0) (take (length block - 16) (drop 12 block))

unfoldable pub simple_in : Numbers → List Interface → List ℕ → Entry
simple_in number interfaces block =
    if nat_lt (length block) 16 then Unread NotCapture
    else simple_with number (if_ethernet (slice_get interfaces 0)) block

-- The time resolution in the options. Each option has a code, a length, and that many bytes, padded to a multiple of
-- 4. Code 9 is the resolution, code 0 the end. Without code 9 it is 6: microseconds.
unfoldable pub resolution_from : Numbers → ℕ → List ℕ → ℕ
resolution_from number zero options = 6
resolution_from number (suc steps) options =
    let code = number 2 options in
    let len = number 2 (drop 2 options) in
    if nat_lt (length options) 5 || code == 0 then 6
    else if code == 9 && len == 1 then slice_index options 4
    else resolution_from number steps (drop (4 + (len + 3) / 4 * 4) options)

abbrev pub resolution_in : Numbers → List ℕ → ℕ
resolution_in number options = resolution_from number (length options) options

-- An interface: its link type, its snap length, and options from byte 16.
unfoldable pub interface_in : Numbers → List ℕ → Piece
interface_in number block =
    if nat_lt (length block) 20 then Packet (Unread NotCapture)
    else Described (record {
      link_type = number 2 (drop 8 block);
      snap_len = number 4 (drop 12 block);
      resolution = resolution_in number (take (length block - 20) (drop 16 block));
    })

-- A section header of version 1.
unfoldable pub section_in : Order → List ℕ → Piece
section_in order block =
    if nat_lt (length block) 28 || not (numbers_in order 2 (drop 12 block) == 1) then Packet (Unread NotCapture)
    else Section order

-- The meaning of a complete block, by its type.
unfoldable pub meaning_in : Order → List Interface → List ℕ → Piece
meaning_in order interfaces block =
    let number = numbers_in order in
    let type = number 4 block in
    if is_section block then section_in order block
    else if type == 1 then interface_in number block
    else if type == 3 then Packet (simple_in number interfaces block)
    else if type == 6 then Packet (enhanced_in number interfaces block)
    else Other

-- A block begins with its type and length and ends with its length, a multiple of 4 and at least 12.
unfoldable pub block_with : Option Order → List Interface → List ℕ → Piece × List ℕ
block_with None interfaces bytes = (Packet (Unread NotCapture), [])
block_with (Some order) interfaces bytes =
    let total = numbers_in order 4 (drop 4 bytes) in
    let block = take total bytes in
    if nat_lt total 12 || not (total % 4 == 0) then (Packet (Unread NotCapture), [])
    else if nat_lt (length bytes) total then (Packet (Faulty (record { fault = Truncated; lengths = None })), [])
    else if not (numbers_in order 4 (drop (total - 4) block) == total) then (Packet (Unread NotCapture), [])
    else (meaning_in order interfaces block, drop total bytes)

-- The first block in the bytes, in a section of this order with these interfaces, and the bytes after it.
unfoldable pub block_in : Order → List Interface → List ℕ → Piece × List ℕ
block_in order interfaces bytes =
    if nat_lt (length bytes) 12 then (Packet (Faulty (record { fault = Truncated; lengths = None })), [])
    else block_with (block_order order bytes) interfaces bytes
