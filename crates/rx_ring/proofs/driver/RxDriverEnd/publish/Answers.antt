-- The record has one more event, and the fields follow it.
use Rattle.std.proofs.Common.{length, ap, ◌∙◌}
use Rattle.shared_ring.specs.declared.events.DriverEvent.TheVariants as driver
use Rattle.rx_ring.specs.Records.{drive, know}
use Rattle.rx_ring.specs.Ends.{DriverSide, driver_size, driver_record, known_of, posted}
use Rattle.shared_ring.specs.Ends.{driver_of}
use Rattle.rx_ring.specs.Form.{rx}
use Rattle.shared_ring.proofs.Posting.{record-after, known-after}
use Rattle.rx_ring.proofs.DriverEnds.{end-after, end-published}
use Rattle.rx_ring.proofs.driver.RxDriverEnd.publish.Goals as goal

pub invariant_of-self : goal.invariant_of-self
invariant_of-self c = let i = c.self.inside in end-after (driver_of rx i.seat) (driver_of rx c.publish.new.self) (driver.Published i.at.fill) i.at (ap (driver_of rx) c.publish.ensures)
    (end-published (driver_size (driver_of rx i.seat)) (driver_record (driver_of rx i.seat)) (known_of (driver_of rx i.seat)) i.at c.self.invariant (length (posted (driver_of rx i.seat))))

pub returns-clause-record : goal.returns-clause-record
returns-clause-record c = record-after (driver_of rx c.self.inside.seat) (driver_of rx c.publish.new.self) (driver.Published c.self.inside.at.fill) (ap (driver_of rx) c.publish.ensures) ∙ ap (λ (s : DriverSide). drive (driver_record s) (driver.Published c.self.inside.at.fill)) c.self.view_is

pub returns-clause-known : goal.returns-clause-known
returns-clause-known c = known-after (driver_of rx c.self.inside.seat) (driver_of rx c.publish.new.self) (driver.Published c.self.inside.at.fill) (ap (driver_of rx) c.publish.ensures) ∙ ap (λ (s : DriverSide). know (driver_record s) (known_of s) (driver.Published c.self.inside.at.fill)) c.self.view_is
