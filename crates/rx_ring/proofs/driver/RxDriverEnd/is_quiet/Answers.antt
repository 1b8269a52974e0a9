-- The record has one more event, and what is learnt follows it.
use Rattle.std.proofs.Common.{ap, ◌∙◌}
use Rattle.shared_ring.specs.declared.events.DriverEvent.TheVariants as driver
use Rattle.rx_ring.specs.declared.events.RxDriverOwn.TheVariants as own
use Rattle.ring_model.specs.shared.Agreement.{bit}
use Rattle.rx_ring.specs.Records.{drive}
use Rattle.rx_ring.specs.Ends.{DriverSide, driver_size, driver_record, known_of}
use Rattle.shared_ring.specs.Ends.{driver_of}
use Rattle.rx_ring.specs.Calls.{told_quiet}
use Rattle.rx_ring.specs.Form.{rx}
use Rattle.shared_ring.proofs.Posting.{record-after, known-after}
use Rattle.rx_ring.proofs.DriverEnds.{end-after, end-quiet, quiet-seen, quiet-told}
use Rattle.rx_ring.proofs.driver.RxDriverEnd.is_quiet.Goals as goal

pub invariant_of-self : goal.invariant_of-self
invariant_of-self c = let i = c.self.inside in end-after (driver_of rx i.seat) (driver_of rx c.load_quiet.new.seat) (driver.Own (own.LoadedQuiet (bit c.load_quiet.result))) i.at c.load_quiet.ensures (end-quiet (driver_size (driver_of rx i.seat)) (driver_record (driver_of rx i.seat)) (known_of (driver_of rx i.seat)) i.at c.self.invariant (bit c.load_quiet.result))

pub returns-clause-record : goal.returns-clause-record
returns-clause-record c = record-after (driver_of rx c.self.inside.seat) (driver_of rx c.load_quiet.new.seat) (driver.Own (own.LoadedQuiet (bit c.load_quiet.result))) c.load_quiet.ensures ∙ ap (λ (s : DriverSide). drive (driver_record s) (driver.Own (own.LoadedQuiet (bit c.load_quiet.result)))) c.self.view_is

pub returns-clause-seen : goal.returns-clause-seen
returns-clause-seen c e = let i = c.self.inside in ap (λ k. k.quiet) (known-after (driver_of rx i.seat) (driver_of rx c.load_quiet.new.seat) (driver.Own (own.LoadedQuiet (bit c.load_quiet.result))) c.load_quiet.ensures) ∙ quiet-seen (known_of (driver_of rx i.seat)).quiet c.load_quiet.result e

pub returns-clause-known : goal.returns-clause-known
returns-clause-known c = let d = driver_of rx c.self.inside.seat in known-after d (driver_of rx c.load_quiet.new.seat) (driver.Own (own.LoadedQuiet (bit c.load_quiet.result))) c.load_quiet.ensures
    ∙ (quiet-told (driver_record d) (known_of d) c.load_quiet.result ∙ ap (told_quiet c.load_quiet.result) c.self.view_is)
