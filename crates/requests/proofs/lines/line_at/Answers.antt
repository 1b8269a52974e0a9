use Rattle.std.proofs.Common.{◌∙◌, ap, arith, ◌≡◌, ℕ, ◌+◌, ◌-◌, ◌<◌, [], get_or}
use Rattle.text_lines.specs.Parts.{lines_of}
use Rattle.requests.proofs.lines.line_at.Goals as goal

pub loop-preserved : goal.loop-preserved
loop-preserved c = λ k.
    let shifted : c.loop.counter + (k + 1) ≡ c.loop.counter + 1 + k = omega arith in
    c.after_line-rest.ensures k ∙ c.loop.invariant (k + 1) ∙ ap (λ (at : ℕ). get_or (lines_of c.args.text.now) at []) shifted

pub returns : goal.returns
returns c = λ some.
    let whole : c.loop.counter + 0 ≡ c.args.number - 1 = omega (arith, some, c.loop-test.false, c.loop.auto, c.saturating_sub-end.ensures) in
    c.first_line.ensures ∙ c.loop.invariant 0 ∙ ap (λ (at : ℕ). get_or (lines_of c.args.text.now) at []) whole
