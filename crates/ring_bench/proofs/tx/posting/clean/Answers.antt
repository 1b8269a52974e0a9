use Rattle.std.proofs.Common.{◌≡◌, ◌∙◌, ℕ, [], ◌∷◌, ◌++◌, ap, sym, subst, arith, length, length-append, refl}
use Rattle.atomic_table.specs.Seated.{TableId}
use Rattle.buffer_pool.specs.Buffer.{Buffer}
use Rattle.buffer_pool.specs.Stocked.{IsOut, Shares, with_number}
use Rattle.ring_model.specs.shared.Handshakes.{is_live}
use Rattle.tx_ring.specs.Ends.{DriverSide, driver_size, driver_record, cleaned}
use Rattle.tx_ring.specs.Records.{TxDriven, Knowing}
use Rattle.ring_bench.specs.Sending.{Supplies}
use Rattle.ring_bench.proofs.Sent.{out-next, only_cleaned-next, polled-only, polled-supplies, polled-live, supplies-clean}
use Rattle.ring_bench.proofs.tx.posting.clean.Goals as goal

pub give-requires-clause-out : goal.give-requires-clause-out
give-requires-clause-out c = let back = c.clean.ensures in let item = back.item in
    let number : c.clean.result.number ≡ item.number = ap (λ (b : Buffer). b.number) back.is in
    subst (IsOut c.loop.stock) (sym number) (out-next c.loop.stock (driver_size c.loop.driver) (driver_record c.loop.driver) item c.loop.invariant.supplies back.there)

pub loop-init : goal.loop-init
loop-init c = let old = c.args.driver.now in let found = c.poll_report.result in let new = c.poll_report.new.self in let saw = c.poll_report.ensures.found in record {
  only = polled-only old found new saw;
  live = polled-live old found new saw c.if-not-poll_report.false;
  supplies = polled-supplies old found new c.args.stock.now saw c.requires.stock;
  count = omega arith;
  seen = refl;
}

pub loop-preserved : goal.loop-preserved
loop-preserved c =
    let back = c.clean.ensures in let item = back.item in let gave = c.give.ensures in let kept = c.loop.invariant in
    let number : c.clean.result.number ≡ item.number = ap (λ (b : Buffer). b.number) back.is in
    let table = ap (λ (d : DriverSide). d.table) back.step in let way = ap (λ (d : DriverSide). d.completion) back.step in
    let did : driver_record c.clean.new.self ≡ record (driver_record c.loop.driver) { reaped = cleaned c.loop.driver ++ item.number ∷ [] } =
    back.same ∙ ap (λ (k : ℕ). record (driver_record c.loop.driver) { reaped = cleaned c.loop.driver ++ k ∷ [] }) number in
    let supplies = supplies-clean c.loop.stock c.give.new.self (driver_size c.loop.driver) (driver_record c.loop.driver) item kept.supplies back.there (gave.back ∙ ap (with_number c.loop.stock) number)
    (λ out h. gave.shared out (subst (λ (k : ℕ). Shares c.loop.stock (k ∷ out)) (sym number) h)) in
    let grew = ap (λ (x : TxDriven). length x.reaped) did ∙ length-append (cleaned c.loop.driver) (item.number ∷ []) in
    record {
      only = only_cleaned-next c.args.driver.now c.loop.driver c.clean.new.self (cleaned c.loop.driver ++ item.number ∷ []) kept.only table way did;
      live = ap (λ (x : TxDriven). is_live x.state) did ∙ kept.live;
      supplies = subst (λ (n : ℕ). Supplies c.give.new.self n (driver_record c.clean.new.self)) (sym (ap (λ (t : TableId). t.slots) table)) (subst (Supplies c.give.new.self (driver_size c.loop.driver)) (sym did) supplies);
      count = omega arith;
      seen = ap (λ (k : Knowing). k.seen) back.known ∙ kept.seen;
    }
