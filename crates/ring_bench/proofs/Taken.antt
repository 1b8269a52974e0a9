-- Copies of one frame: what is stored, and what is taken of it.
use Rattle.std.proofs.Common.{◌≡◌, Bool, true, false, List, [], length, refl, if◌then◌else◌}
use Rattle.std.specs.Prelude.{All, replicate}
use Rattle.std.proofs.lemmas.List.Elements.{All-nil, All-same, All-replicate}
use Rattle.ring_model.specs.receive.Lawful.{IsLawfulRxLedger}
use Rattle.ring_model.specs.shared.Frames.{Bytes, Piece, frames}
use Rattle.ring_model.specs.shared.Segments.{piece_of}
use Rattle.ring_laws.specs.Frames.{frames-beginning}
use Rattle.rx_ring.specs.Ends as receive
use Rattle.rx_ring.specs.Meeting as received
use Rattle.ring_bench.specs.Copies.{AllWhole}
use Rattle.ring_bench.proofs.Copies.{All-beginning, copies}

abbrev pub AreCopies : Bytes → List Bytes → Type 0
AreCopies frame fs = All (λ f. f ≡ frame) fs

-- items that each carry the whole frame are copies of it
pub whole_copies : {X : Type 0} (carries : X → Piece) (frame : Bytes) (xs : List X) → AllWhole carries frame xs → AreCopies frame (frames carries xs)
whole_copies carries frame xs all = All-same (λ f. f ≡ frame) (frames carries xs) (replicate (length xs) frame) (copies carries frame xs all) (All-replicate (λ f. f ≡ frame) (length xs) frame refl)

copies_unless : {X : Type 0} (carries : X → Piece) (frame : Bytes) (xs : List X) (none : Bool) → AreCopies frame (frames carries xs) → AreCopies frame (frames carries (if none then [] else xs))
copies_unless carries frame xs true all = All-nil (λ f. f ≡ frame)
copies_unless carries frame xs false all = all

-- where only copies of the frame were stored, only such were taken
pub taken_copies : (frame : Bytes) (d : receive.DriverSide) (c : receive.ControllerSide) → IsLawfulRxLedger Bytes (receive.driver_size d) (received.ledger_of d c)
    → AreCopies frame (frames piece_of (receive.stored c)) → AreCopies frame (frames piece_of (receive.taken d))
taken_copies frame d c lawful all =
    All-beginning (λ f. f ≡ frame) (frames piece_of (receive.taken d)) (frames piece_of (received.stored_now d c)) (frames-beginning piece_of (receive.taken d) (received.stored_now d c) lawful.taken)
    (copies_unless piece_of frame (receive.stored c) (received.is_unanswered d c) all)
