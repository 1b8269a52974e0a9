use Rattle.std.proofs.Common.{◌≡◌, ◌∙◌, ℕ, sym, ap}
use Rattle.controller.proofs.Laying.{start_of, starts_behind, lies_between}
use Rattle.controller.proofs.arena.bounds.Goals.{then-i-eq0, else-i-eq0}
use Rattle.controller.proofs.arena.bounds.Goals as goal

pub returns : goal.returns
returns c =
    let start : c.if-i-eq0.start ≡ start_of 0 c.args.ends.now c.args.i = elim c.if-i-eq0.branch [
      | then-i-eq0 w ↦ w.start-is ∙ sym (ap (λ (k : ℕ). start_of 0 c.args.ends.now k) w.if-i-eq0.true)
      | else-i-eq0 w ↦ w.start-is ∙ sym (starts_behind c.args.i c.args.ends.now w.if-i-eq0.false c.requires.there)
    ] in
    let l = lies_between c.args.bytes.now c.args.ends.now c.args.i c.if-i-eq0.start c.requires.ends c.requires.there start in
    record { order = l.order; within = l.within; frame = l.frame }
