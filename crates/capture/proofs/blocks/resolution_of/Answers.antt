use Rattle.std.proofs.Common.{◌≡◌, ◌≢◌, ◌∙◌, drop, sym, rules, arith}
use Rattle.std.proofs.lemmas.List.{drop_min}
use Rattle.capture.specs.Layout.{numbers_in}
use Rattle.capture.specs.Pcapng.{resolution_in}
use Rattle.capture.proofs.Tsresol.{ended, few_left, found, goes_on, taken}
use Rattle.capture.proofs.blocks.resolution_of.Goals as goal
use Rattle.capture.proofs.blocks.resolution_of.Goals.{else-code-eq-IF_TSRESOL-via-then-code-eq-IF_TSRESOL+else-len-eq1, else-code-eq-IF_TSRESOL-via-else-code-eq-IF_TSRESOL}

pub returns-then-code-eq0 : goal.returns-then-code-eq0
returns-then-code-eq0 c =
    let number = numbers_in c.args.order in
    ended number (resolution_in number c.args.options.now) c.loop-rest.rest.now c.loop-rest.invariant.tells (omega arith)
    (sym c.half-code.ensures ∙ c.if-code-eq0.true)

pub returns-then-len-eq1 : goal.returns-then-len-eq1
returns-then-len-eq1 c =
    let number = numbers_in c.args.order in
    found number (resolution_in number c.args.options.now) c.loop-rest.rest.now c.loop-rest.invariant.tells (omega arith)
    (sym c.half-code.ensures ∙ c.if-code-eq-IF_TSRESOL.true) (sym c.half-len.ensures ∙ c.if-len-eq1.true)

pub loop-rest-preserved : goal.loop-rest-preserved
loop-rest-preserved c =
    let number = numbers_in c.args.order in
    let code : number 2 c.loop-rest.rest.now ≢ 0 = λ e. c.if-code-eq0.false (c.half-code.ensures ∙ e) in
    let other : number 2 c.loop-rest.rest.now ≡ 9 → number 2 (drop 2 c.loop-rest.rest.now) ≡ 1 → ⊥ = λ e f. elim c.else-code-eq-IF_TSRESOL.branch [
      | else-code-eq-IF_TSRESOL-via-then-code-eq-IF_TSRESOL+else-len-eq1 w ↦ w.if-len-eq1.false (c.half-len.ensures ∙ f)
      | else-code-eq-IF_TSRESOL-via-else-code-eq-IF_TSRESOL w ↦ w.if-code-eq-IF_TSRESOL.false (c.half-code.ensures ∙ e)
    ] in
    let next = goes_on number (resolution_in number c.args.options.now) c.loop-rest.rest.now c.loop-rest.invariant.tells (omega arith) code other in
    let back : c.split_at.result.1.now ≡ drop (taken number c.loop-rest.rest.now) c.loop-rest.rest.now = search (rules, drop_min) in
    record { tells = rw back next }

pub returns : goal.returns
returns c =
    let number = numbers_in c.args.order in
    few_left number (resolution_in number c.args.options.now) c.loop-rest.rest.now c.loop-rest.invariant.tells (omega arith)
