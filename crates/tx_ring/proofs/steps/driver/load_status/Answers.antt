-- The agreement allows the load, and DD tells whether the report is made.
use Rattle.std.proofs.Common.{◌≤◌, ap, arith}
use Rattle.shared_ring.specs.Ends.{driver_of}
use Rattle.tx_ring.specs.Ends.{driver_size}
use Rattle.tx_ring.specs.Form.{tx}
use Rattle.tx_ring.proofs.Looking.{status-at, status-shows, looked}
use Rattle.tx_ring.proofs.Owning.{may-report}
use Rattle.tx_ring.proofs.Words.{done-word}
use Rattle.tx_ring.proofs.steps.driver.load_status.Goals as goal

pub load_own-word-requires-clause-may : goal.load_own-word-requires-clause-may
load_own-word-requires-clause-may c = let s = driver_of tx c.args.seat.now in let z = c.size-size.ensures in let b : 8 ≤ c.size-size.result = z.lawful.0 in let big : 8 ≤ driver_size (driver_of tx c.args.seat.now) = (let v = z.value in omega arith) in
    let o = c.requires.oldest in may-report s.table.slots s.completion s.events c.args.place o.item big o.oldest (status-at s big c.args.place o c.requires.alone) c.requires.live

pub returns : goal.returns
returns c = let s = driver_of tx c.args.seat.now in let z = c.size-size.ensures in let b : 8 ≤ c.size-size.result = z.lawful.0 in let big : 8 ≤ driver_size (driver_of tx c.args.seat.now) = (let v = z.value in omega arith) in
    looked s big c.args.place c.requires.oldest c.args.place c.load_own-word.result (status-at s big c.args.place c.requires.oldest c.requires.alone) (driver_of tx c.load_own-word.new.self) (ap (driver_of tx) c.load_own-word.ensures.step) c.is_done.result
    (status-shows s big c.args.place c.requires.oldest c.load_own-word.result c.is_done.result (done-word c.is_done.result c.load_own-word.result c.is_done.ensures.0 c.is_done.ensures.1))
