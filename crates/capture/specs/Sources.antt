-- All packets of a capture, in the order of its records or blocks.
use Rattle.std.specs.Prelude.{ℕ, suc, zero, List, [], ◌∷◌, ◌++◌, length}
use Rattle.capture.specs.declared.entry.Entry.{Entry}
use Rattle.capture.specs.declared.header.CaptureForm.{CaptureForm}
use Rattle.capture.specs.declared.header.Format.{Format}
use Rattle.capture.specs.declared.header.Format.TheVariants.{Classic, Blocks}
use Rattle.capture.specs.declared.header.Order.{Order}
use Rattle.capture.specs.declared.piece.Interface.{Interface}
use Rattle.capture.specs.declared.piece.Piece.{Piece}
use Rattle.capture.specs.declared.piece.Piece.TheVariants.{Packet, Section, Described, Other}
use Rattle.capture.specs.Entries.{entry_in}
use Rattle.capture.specs.Pcapng.{block_in}

-- The state of reading at one place: the format, the byte order, and the interfaces of the section so far.
pub record Source : Type 0 where
  pub format : Format
  pub order : Order
  pub interfaces : List Interface

-- The state after the header.
abbrev pub source_of : CaptureForm → Source
source_of form = record { format = form.format; order = form.order; interfaces = [] }

-- The first piece in the bytes, and the bytes after it.
abbrev pub piece_of_format : Format → Order → List Interface → List ℕ → Piece × List ℕ
piece_of_format Classic order interfaces bytes = let p = entry_in order bytes in (Packet p.0, p.1)
piece_of_format Blocks order interfaces bytes = block_in order interfaces bytes

abbrev pub piece_in : Source → List ℕ → Piece × List ℕ
piece_in s bytes = piece_of_format s.format s.order s.interfaces bytes

-- The state after this piece. A new section has no interfaces yet.
abbrev pub source_after : Source → Piece → Source
source_after s (Packet entry) = s
source_after s (Section order) = record { format = s.format; order = order; interfaces = [] }
source_after s (Described interface) = record { format = s.format; order = s.order; interfaces = s.interfaces ++ interface ∷ [] }
source_after s Other = s

-- The packet in a piece.
abbrev pub packets_of : Piece → List Entry
packets_of (Packet entry) = entry ∷ []
packets_of (Section order) = []
packets_of (Described interface) = []
packets_of Other = []

-- All packets in the bytes. A piece has at least one byte, so one step per byte suffices.
unfoldable pub entries_from : Source → ℕ → List ℕ → List Entry
entries_from s steps [] = []
entries_from s zero (b ∷ bytes) = []
entries_from s (suc steps) (b ∷ bytes) =
    let p = piece_in s (b ∷ bytes) in
    packets_of p.0 ++ entries_from (source_after s p.0) steps p.1

abbrev pub entries_in : Source → List ℕ → List Entry
entries_in s bytes = entries_from s (length bytes) bytes
