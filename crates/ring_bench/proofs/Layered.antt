-- What the records of both rings' ends amount to, where frames went through both layers.
use Rattle.std.proofs.Common.{◌≡◌, ◌∙◌, ℕ, Bool, true, List, [], ◌∷◌, ◌++◌, length, ap, sym, refl, subst, if◌then◌else◌}
use Rattle.std.specs.Prelude.{◌&&◌, Result, Ok, Err, replicate}
use Rattle.std.proofs.lemmas.List.Elements.{All-nil, All-append, All-head, All-tail, All-same, All-replicate}
use Rattle.atomic_table.specs.Seated.{TableId}
use Rattle.refusals.specs.declared.errors.CtlError.{CtlError}
use Rattle.controller.specs.declared.offer.Offer.{Offer}
use Rattle.controller.specs.declared.offer.Offer.TheVariants.{Off, Oversize, Stored, Dropped, Held}
use Rattle.controller.specs.Receiving.{frames_by}
use Rattle.ring_model.specs.transmit.Lawful.{IsLawfulTxLedger}
use Rattle.ring_model.specs.shared.Frames.{Bytes, frames}
use Rattle.ring_model.specs.shared.Handshakes.{is_open, is_serving}
use Rattle.ring_model.specs.shared.Lists.{IsBeginning}
use Rattle.ring_model.specs.shared.Segments.{piece_of}
use Rattle.ring_model.specs.transmit.Ring.{carried}
use Rattle.ring_laws.specs.Lists.{beginning-trans}
use Rattle.ring_laws.specs.Frames.{frames-beginning}
use Rattle.rx_ring.specs.Ends as receive
use Rattle.tx_ring.specs.Ends as transmit
use Rattle.tx_ring.specs.Meeting as transmitted
use Rattle.tx_ring.specs.Records.{Posting}
use Rattle.ring_bench.specs.declared.kit.meeting.Ends.{Ends}
use Rattle.ring_bench.specs.declared.pass.serving.Device.{Device}
use Rattle.ring_bench.specs.Forwarding.{HasMet}
use Rattle.ring_bench.specs.Serving.{HasGone, Serves}
use Rattle.ring_bench.proofs.Copies.{All-beginning, copies}
use Rattle.ring_bench.proofs.Handshakes.{serving_on}
use Rattle.ring_bench.proofs.Taken.{AreCopies, taken_copies}

-- copies of a frame are as many of it
pub as_replicate : (frame : Bytes) (fs : List Bytes) → AreCopies frame fs → fs ≡ replicate (length fs) frame
as_replicate frame [] all = refl
as_replicate frame (f ∷ fs) all =
    ap (λ (g : Bytes). g ∷ fs) (All-head (λ g. g ≡ frame) f fs all) ∙ ap (λ (gs : List Bytes). frame ∷ gs) (as_replicate frame fs (All-tail (λ g. g ≡ frame) f fs all))

-- a frame that is offered is stored or not: what is stored after it are copies of it, if what was stored before are
pub offered_copies : (frame : Bytes) (before after : List Bytes) (told : Result Offer CtlError) → AreCopies frame before → after ≡ before ++ frames_by told frame → AreCopies frame after
offered_copies frame before after told all grew = All-same (λ f. f ≡ frame) after (before ++ frames_by told frame) grew (All-append (λ f. f ≡ frame) before (frames_by told frame) all (more told))
  where
    one : AreCopies frame (frame ∷ [])
    one = All-replicate (λ f. f ≡ frame) 1 frame refl

    none : AreCopies frame []
    none = All-nil (λ f. f ≡ frame)

    more : (told : Result Offer CtlError) → AreCopies frame (frames_by told frame)
    more (Ok Off) = none
    more (Ok Oversize) = none
    more (Ok Stored) = one
    more (Ok Dropped) = none
    more (Ok Held) = none
    more (Err e) = none

-- what a controller that serves has sent is a beginning of what was posted
sent_begins : (d : transmit.DriverSide) (c : transmit.ControllerSide) → is_serving (transmit.controller_state c) ≡ true → IsLawfulTxLedger Bytes (transmit.driver_size d) (transmitted.ledger_of d c)
    → IsBeginning (transmit.sent c) (transmit.posted d)
sent_begins d c serving lawful =
    let live : transmitted.sent_now d c ≡ transmit.sent c = ap (λ (b : Bool). if b && is_open (transmit.driver_state d) then [] else transmit.sent c) (serving_on (transmit.controller_state c) serving) in
    subst (λ (ps : List Posting). IsBeginning ps (transmit.posted d)) live lawful.sent

-- where only copies of the frame were stored, only such were sent
pub sent_copies : (frame : Bytes) (e : Ends) → HasMet e → is_serving (transmit.controller_state e.tx_controller) ≡ true → AreCopies frame (frames piece_of (receive.stored e.rx_controller))
    → AreCopies frame (frames carried (transmit.sent e.tx_controller))
sent_copies frame e met serving all =
    let sent : List Bytes = frames carried (transmit.sent e.tx_controller) in
    let posted : List Bytes = frames carried (transmit.posted e.tx) in
    let taken : List Bytes = frames piece_of (receive.taken e.rx) in
    let begins = frames-beginning carried (transmit.sent e.tx_controller) (transmit.posted e.tx) (sent_begins e.tx e.tx_controller serving met.sent) in
    All-beginning (λ f. f ≡ frame) sent taken (beginning-trans sent posted taken begins met.sent_on) (taken_copies frame e.rx e.rx_controller met.received all)

-- so many copies are on the wire, where it has so many frames and the controllers stored nothing else
pub has_gone : (from to : TableId) (count : ℕ) (frame : Bytes) (d : Device) (e : Ends) → HasMet e → e.rx_controller ≡ d.rx.end → e.tx_controller ≡ d.tx
    → Serves from to frame d → is_serving (transmit.controller_state d.tx) ≡ true → length d.wire ≡ count → HasGone count frame e d.wire
has_gone from to count frame d e met rx_is tx_is serves serving many =
    let stores = serves.stores in
    let sends = serves.sends in
    let here : is_serving (transmit.controller_state e.tx_controller) ≡ true = ap (λ (c : transmit.ControllerSide). is_serving (transmit.controller_state c)) tx_is ∙ serving in
    let stored : AreCopies frame (frames piece_of (receive.stored e.rx_controller)) = subst (λ (c : receive.ControllerSide). AreCopies frame (frames piece_of (receive.stored c))) (sym rx_is) stores.copies in
    let wire : d.wire ≡ frames carried (transmit.sent e.tx_controller) = sends.wire_is ∙ ap (λ (c : transmit.ControllerSide). frames carried (transmit.sent c)) (sym tx_is) in
    let all : AreCopies frame d.wire = All-same (λ f. f ≡ frame) d.wire (frames carried (transmit.sent e.tx_controller)) wire (sent_copies frame e met here stored) in record {
      met = met;
      wire_is = wire;
      copies = as_replicate frame d.wire all ∙ ap (λ (k : ℕ). replicate k frame) many;
    }
