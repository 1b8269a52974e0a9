-- The agreement allows the step.
use Rattle.std.proofs.Common.{ℕ, ◌≤◌, sym, subst, arith}
use Rattle.shared_ring.specs.Own.{MayStore}
use Rattle.tx_ring.specs.Form.{tx}
use Rattle.tx_ring.specs.Plays.{reports}
use Rattle.tx_ring.proofs.Owning.{may-report_status}
use Rattle.tx_ring.proofs.steps.controller.report_status.Goals as goal

pub store_own-requires-clause-may : goal.store_own-requires-clause-may
store_own-requires-clause-may c = let e = c.args.seat.now in let z = c.size-size.ensures in let b : 8 ≤ c.size-size.result = z.lawful.0 in
    subst (λ (v : ℕ). MayStore tx reports e.table.slots e.completion e.events c.args.place v) (sym c.second_word-word.ensures.value)
    (may-report_status e.table.slots e.completion e.events c.args.place (let v = z.value in omega arith) c.requires.alone c.requires.place c.requires.serving c.requires.owed)
