-- The record has one more event, and the fields follow it.
use Rattle.std.proofs.Common.{length, ap, refl, ◌∙◌}
use Rattle.std.specs.Box.{boxed_slice_items}
use Rattle.shared_ring.specs.declared.events.DriverEvent.TheVariants as driver
use Rattle.tx_ring.specs.Records.{drive, know}
use Rattle.tx_ring.specs.Ends.{DriverSide, driver_size, driver_record, known_of, posted}
use Rattle.shared_ring.specs.Ends.{driver_of}
use Rattle.tx_ring.specs.Form.{tx}
use Rattle.shared_ring.proofs.Posting.{record-after, known-after}
use Rattle.tx_ring.proofs.DriverEnds.{end-as, end-published}
use Rattle.tx_ring.proofs.driver.TxDriverEnd.publish.Goals as goal

pub invariant_of-self : goal.invariant_of-self
invariant_of-self c = let i = c.self.inside in end-as (driver_of tx i.seat) (driver_of tx c.publish.new.self) (driver.Published i.at.fill) (record (driver_record (driver_of tx i.seat)) { published = length (posted (driver_of tx i.seat)) }) (known_of (driver_of tx i.seat)) i.at i.seen i.done i.unseen i.whole (boxed_slice_items i.asks) i.passed (ap (driver_of tx) c.publish.ensures) refl refl
    (end-published (driver_size (driver_of tx i.seat)) (driver_record (driver_of tx i.seat)) (known_of (driver_of tx i.seat)) i.at i.seen i.done i.unseen i.whole (boxed_slice_items i.asks) i.passed c.self.invariant (length (posted (driver_of tx i.seat))))

pub returns-clause-record : goal.returns-clause-record
returns-clause-record c = let i = c.self.inside in record-after (driver_of tx i.seat) (driver_of tx c.publish.new.self) (driver.Published i.at.fill) (ap (driver_of tx) c.publish.ensures) ∙ ap (λ (s : DriverSide). drive (driver_record s) (driver.Published i.at.fill)) c.self.view_is

pub returns-clause-known : goal.returns-clause-known
returns-clause-known c = let i = c.self.inside in known-after (driver_of tx i.seat) (driver_of tx c.publish.new.self) (driver.Published i.at.fill) (ap (driver_of tx) c.publish.ensures) ∙ ap (λ (s : DriverSide). know (driver_record s) (known_of s) (driver.Published i.at.fill)) c.self.view_is
