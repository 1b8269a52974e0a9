use Rattle.std.proofs.Common.{◌∙◌, refl}
use Rattle.clap.specs.Words.{found_of}
use Rattle.clap.proofs.WalkLemmas.{raw_values-rows}
use Rattle.command_line.proofs.SaidWords.{all-said, no-word, one-more, said-tell}
use Rattle.command_line.proofs.files.told_in.Goals as goal

pub loop-word-init : goal.loop-word-init
loop-word-init g c = (
  c.requires,
  λ texts xs values are. (
    said-tell _ c.get_strs.result _ c.unwrap_or-word-items.result texts xs c.unwrap_or-word-items.ensures refl
        (c.get_strs.ensures ∙ (raw_values-rows (found_of c.args.matches.now) c.args.id.now ∙ values)) are,
    c.new-all.ensures.items,
  ),
)

pub loop-word-preserved : goal.loop-word-preserved
loop-word-preserved g c = (
  c.loop-word.invariant.0,
  λ texts xs values are.
      let before = c.loop-word.invariant.1 texts xs values are in (
        before.0,
        c.in_ok-push.ensures.items
            ∙ one-more _ c.unwrap_or-word-items.result.now xs c.loop-word.all.items c.loop-word.word-index _ c.in-Some.one before.0 c.loop-word-test.true before.1 c.in-Some.ensures,
      ),
)

pub returns-in_default : goal.returns-in_default
returns-in_default g c texts xs values are =
    no-word _ c.unwrap_or-word-items.result.now xs c.loop-word.word-index _ (c.loop-word.invariant.1 texts xs values are).0 c.loop-word-test.true c.in_default.ensures

pub returns : goal.returns
returns g c texts xs values are =
    let before = c.loop-word.invariant.1 texts xs values are in
    all-said _ c.unwrap_or-word-items.result.now xs c.loop-word.all.items c.loop-word.word-index before.0 c.loop-word-test.false before.1
