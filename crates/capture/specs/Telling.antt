-- Details of a refused file.
use Rattle.std.specs.Prelude.{ℕ, suc, zero, ◌-◌, ◌==◌, nat_eq, nat_lt, Bool, if◌then◌else◌, List, [], ◌∷◌, length, codes, Option, Some, None, Result, Ok, Err}
use Rattle.std.specs.List.{starts_with}
use Rattle.byteorder.specs.Endian.{big_number}
use Rattle.limits.specs.declared.profile.TheConstants.{LEAST_FRAME, MOST_FRAME}
use Rattle.refusals.specs.declared.errors.CaptureError.{CaptureError}
use Rattle.capture.specs.declared.entry.Entry.{Entry}
use Rattle.capture.specs.declared.entry.Entry.TheVariants.{Frame, Faulty, Unread}
use Rattle.capture.specs.declared.entry.Fault.{Fault}
use Rattle.capture.specs.declared.entry.Fault.TheVariants.{Truncated, Snapped, Long, Short}
use Rattle.capture.specs.declared.entry.FaultyRecord.{FaultyRecord}
use Rattle.capture.specs.declared.piece.Piece.{Piece}
use Rattle.capture.specs.declared.piece.Piece.TheVariants.{Packet, Section, Described, Other}
use Rattle.capture.specs.declared.header.CaptureForm.{CaptureForm}
use Rattle.capture.specs.CaptureError.{◌>>=◌}
use Rattle.capture.specs.Layout.{form_of, link_type_in, numbers_in}
use Rattle.capture.specs.Reading.{header_in}
use Rattle.capture.specs.Sources.{entries_in, source_of}

-- A gzip file begins with 1f 8b.
abbrev pub is_gzip : List ℕ → Bool
is_gzip bytes = starts_with nat_eq bytes (31 ∷ 139 ∷ [])

-- The libpcap name of a link type.
abbrev pub name_of_link_type : ℕ → Option (List ℕ)
name_of_link_type n =
    if n == 0 then Some (codes "NULL")
    else if n == 1 then Some (codes "EN10MB")
    else if n == 6 then Some (codes "IEEE802")
    else if n == 9 then Some (codes "PPP")
    else if n == 101 then Some (codes "RAW")
    else if n == 105 then Some (codes "IEEE802_11")
    else if n == 108 then Some (codes "LOOP")
    else if n == 113 then Some (codes "LINUX_SLL")
    else if n == 127 then Some (codes "IEEE802_11_RADIOTAP")
    else if n == 189 then Some (codes "USB_LINUX")
    else if n == 195 then Some (codes "IEEE802_15_4")
    else if n == 201 then Some (codes "BLUETOOTH_HCI_H4_WITH_PHDR")
    else if n == 220 then Some (codes "USB_LINUX_MMAPPED")
    else if n == 228 then Some (codes "IPV4")
    else if n == 229 then Some (codes "IPV6")
    else if n == 239 then Some (codes "NFLOG")
    else if n == 249 then Some (codes "USBPCAP")
    else if n == 276 then Some (codes "LINUX_SLL2")
    else None

-- The link type in a classic pcap header of any version.
abbrev pub link_type_with : Option CaptureForm → List ℕ → Option ℕ
link_type_with None bytes = None
link_type_with (Some form) bytes = Some (link_type_in (numbers_in form.order) bytes)

abbrev pub link_type_of : List ℕ → Option ℕ
link_type_of bytes = if nat_lt (length bytes) 24 then None else link_type_with (form_of (big_number 4 bytes)) bytes

-- The limit of the frame length that a fault breaks.
abbrev pub limit_of : Fault → Option ℕ
limit_of Truncated = None
limit_of Snapped = None
limit_of Long = Some MOST_FRAME
limit_of Short = Some LEAST_FRAME

-- The fault of a packet, if any.
abbrev pub faulty_in : Entry → Option FaultyRecord
faulty_in (Frame r) = None
faulty_in (Faulty f) = Some f
faulty_in (Unread e) = None

-- The fault of the packet after `n` others.
unfoldable pub fault_after : ℕ → List Entry → Option FaultyRecord
fault_after n [] = None
fault_after zero (e ∷ entries) = faulty_in e
fault_after (suc n) (e ∷ entries) = fault_after n entries

-- The fault of a piece's packet. `left_after`: how many packets to pass after it, or `None` if it is the packet
-- sought.
abbrev pub fault_in_piece : Piece → Option FaultyRecord
fault_in_piece (Packet entry) = faulty_in entry
fault_in_piece (Section order) = None
fault_in_piece (Described interface) = None
fault_in_piece Other = None

abbrev pub left_after : ℕ → Piece → Option ℕ
left_after n (Packet entry) = if n == 0 then None else Some (n - 1)
left_after n (Section order) = Some n
left_after n (Described interface) = Some n
left_after n Other = Some n

-- The fault of packet `k` of a capture, counted from 1.
unfoldable pub fault_details : ℕ → List ℕ → Result (Option FaultyRecord) CaptureError
fault_details k bytes = do
  header ← header_in bytes
  Ok (fault_after (k - 1) (entries_in (source_of header.0) header.1))
