use Rattle.std.proofs.Common.{rules, refl, ap, subst, sym, ◌∙◌}
use Rattle.tx_ring.specs.Calls.{item_of}
use Rattle.tx_ring.specs.Ends.{DriverSide, posted}
use Rattle.poll82599_c.specs.rings.Following.{IsPosting}
use Rattle.tx_ring.specs.Records.{TxDriven}
use Rattle.poll82599_c.proofs.Posting.{driving_ended, driving_on}
use Rattle.poll82599_c.proofs.rings.driving.TxDriving.post.Goals as goal

pub invariant_of-self-then-not-ask : goal.invariant_of-self-then-not-ask
invariant_of-self-then-not-ask c =
    driving_on _ c.self.inside.end _ (item_of c.fill.new.self c.args.ask.now.eop c.args.ask.now.rs c.args.ask.now.paylen) c.in-Some.begun _ _
    (ap (λ (x : DriverSide). x.table) c.post.ensures.step ∙ c.self.invariant.own)
    (ap (λ (x : TxDriven). x.posted) c.post.ensures.record)
    c.if-not-ask.true
    refl
    (subst (λ (x : DriverSide). IsPosting (posted x) c.in-Some.begun c.args.ask.now.paylen) (sym c.self.view_is) c.in-Some.ensures)
    c.with-self-inside.ensures.segments
    (search rules)

pub invariant_of-self-else-not-ask : goal.invariant_of-self-else-not-ask
invariant_of-self-else-not-ask c =
    driving_ended _ c.self.inside.end _ (item_of c.fill.new.self c.args.ask.now.eop c.args.ask.now.rs c.args.ask.now.paylen) _ _
    (ap (λ (x : DriverSide). x.table) c.post.ensures.step ∙ c.self.invariant.own)
    (ap (λ (x : TxDriven). x.posted) c.post.ensures.record)
    c.if-not-ask.false
