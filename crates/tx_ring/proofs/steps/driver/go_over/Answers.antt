-- Each step finds what the one before it left, and the agreement allows the last.
use Rattle.std.proofs.Common.{ℕ, ◌+◌, sym, ap, ◌∙◌, subst}
use Rattle.ring_model.specs.transmit.Steps.{by_head}
use Rattle.shared_ring.specs.Ends.{driver_of}
use Rattle.shared_ring.specs.Own.{MayEnd}
use Rattle.tx_ring.specs.Form.{tx}
use Rattle.tx_ring.specs.Plays.{ends_epoch, clears_report}
use Rattle.tx_ring.proofs.Owning.{may-end_epoch, may-clear_report}
use Rattle.tx_ring.proofs.Renewing.{head-cleared, head-place, head-back, tail-cleared, tail-place, tail-back}
use Rattle.tx_ring.proofs.steps.driver.go_over.Goals as goal

pub clear_tail-requires-clause-cleared : goal.clear_tail-requires-clause-cleared
clear_tail-requires-clause-cleared c = head-cleared (driver_of tx c.args.seat.now) (driver_of tx c.clear_head.new.self) (ap (driver_of tx) c.clear_head.ensures)

pub end_own-requires-clause-place : goal.end_own-requires-clause-place
end_own-requires-clause-place c = tail-place (driver_of tx c.args.seat.now) (driver_of tx c.clear_head.new.self) (ap (driver_of tx) c.clear_head.ensures) (driver_of tx c.clear_tail.new.self) (ap (driver_of tx) c.clear_tail.ensures) c.args.fill c.requires.place

pub end_own-requires-clause-back : goal.end_own-requires-clause-back
end_own-requires-clause-back c = tail-back (driver_of tx c.args.seat.now) (driver_of tx c.clear_head.new.self) (ap (driver_of tx) c.clear_head.ensures) (driver_of tx c.clear_tail.new.self) (ap (driver_of tx) c.clear_tail.ensures) c.requires.back

pub end_own-requires-clause-may : goal.end_own-requires-clause-may
end_own-requires-clause-may c = let e = c.clear_tail.new.self in
    subst (λ (n : ℕ). MayEnd tx clears_report e.table.slots e.completion e.events (n + 4)) (ap (λ s. s.table.slots) c.clear_tail.ensures ∙ ap (λ s. s.table.slots) c.clear_head.ensures ∙ sym c.size-size.ensures.value)
    (may-clear_report e.table.slots e.completion e.events (ap (λ s. by_head s.completion) c.clear_tail.ensures ∙ ap by_head (sym c.completion.ensures) ∙ sym c.is_by_head.ensures ∙ c.if-is_by_head.true) (tail-cleared (driver_of tx c.args.seat.now) (driver_of tx c.clear_head.new.self) (ap (driver_of tx) c.clear_head.ensures) (driver_of tx c.clear_tail.new.self) (ap (driver_of tx) c.clear_tail.ensures)))

pub end_own-requires-else-is_by_head-clause-place : goal.end_own-requires-else-is_by_head-clause-place
end_own-requires-else-is_by_head-clause-place c = head-place (driver_of tx c.args.seat.now) (driver_of tx c.clear_head.new.self) (ap (driver_of tx) c.clear_head.ensures) c.args.fill c.requires.place

pub end_own-requires-else-is_by_head-clause-back : goal.end_own-requires-else-is_by_head-clause-back
end_own-requires-else-is_by_head-clause-back c = head-back (driver_of tx c.args.seat.now) (driver_of tx c.clear_head.new.self) (ap (driver_of tx) c.clear_head.ensures) c.requires.back

pub end_own-requires-else-is_by_head-clause-may : goal.end_own-requires-else-is_by_head-clause-may
end_own-requires-else-is_by_head-clause-may c = let e = c.clear_head.new.self in
    subst (λ (n : ℕ). MayEnd tx ends_epoch e.table.slots e.completion e.events (n + 1)) (ap (λ s. s.table.slots) c.clear_head.ensures ∙ sym c.size-size.ensures.value)
    (may-end_epoch e.table.slots e.completion e.events (ap by_head (sym c.completion.ensures) ∙ sym c.is_by_head.ensures ∙ c.if-is_by_head.false) (head-cleared (driver_of tx c.args.seat.now) (driver_of tx c.clear_head.new.self) (ap (driver_of tx) c.clear_head.ensures)))
