-- The record has one more event, and the fields follow it.
use Rattle.std.proofs.Common.{◌+◌, ◌<◌, length, ap, sym, ◌∙◌, subst}
use Rattle.shared_ring.specs.declared.events.DriverEvent.TheVariants as driver
use Rattle.std.proofs.Common.{if◌then◌else◌}
use Rattle.std.specs.Prelude.{◌==◌}
use Rattle.rx_ring.specs.Records.{drive, know}
use Rattle.rx_ring.specs.Ends.{DriverSide, driver_size, driver_record, known_of, posted, returned}
use Rattle.shared_ring.specs.Ends.{driver_of}
use Rattle.rx_ring.specs.Form.{rx}
use Rattle.shared_ring.proofs.Posting.{record-after, known-after}
use Rattle.rx_ring.proofs.DriverEnds.{end-after, end-post}
use Rattle.rx_ring.proofs.driver.RxDriverEnd.post.Goals as goal

pub invariant_of-self : goal.invariant_of-self
invariant_of-self c = let i = c.self.inside in end-after (driver_of rx i.seat) (driver_of rx c.post.new.self) (driver.Posted i.at.fill 0 c.args.buf) _ (ap (driver_of rx) c.post.ensures) (end-post (driver_size (driver_of rx i.seat)) (driver_record (driver_of rx i.seat)) (known_of (driver_of rx i.seat)) i.at c.self.invariant c.args.buf.number c.place_after-self-inside.result (subst (λ (s : DriverSide). length (posted s) + 1 < returned s + driver_size s) (sym c.self.view_is) c.requires.room) (c.place_after-self-inside.ensures.value ∙ ap (λ n. if (i.at.fill + 1) == n then 0 else (i.at.fill + 1)) (c.self.invariant.size_is)))

pub returns-clause-record : goal.returns-clause-record
returns-clause-record c = record-after (driver_of rx c.self.inside.seat) (driver_of rx c.post.new.self) (driver.Posted c.self.inside.at.fill 0 c.args.buf) (ap (driver_of rx) c.post.ensures) ∙ ap (λ (s : DriverSide). drive (driver_record s) (driver.Posted c.self.inside.at.fill 0 c.args.buf)) c.self.view_is

pub returns-clause-known : goal.returns-clause-known
returns-clause-known c = known-after (driver_of rx c.self.inside.seat) (driver_of rx c.post.new.self) (driver.Posted c.self.inside.at.fill 0 c.args.buf) (ap (driver_of rx) c.post.ensures) ∙ ap (λ (s : DriverSide). know (driver_record s) (known_of s) (driver.Posted c.self.inside.at.fill 0 c.args.buf)) c.self.view_is
