use Rattle.std.proofs.Common.{◌∙◌, ◌<◌, ◌++◌, [], ◌∷◌, length, take, ap, sym, refl, subst, arith}
use Rattle.std.proofs.lemmas.List.{take_all, take_more}
use Rattle.std.proofs.lemmas.List.Elements.{All-push}
use Rattle.wire_script.specs.Frame.{Frame}
use Rattle.settings.specs.Configs.{HasQueues}
use Rattle.settings.proofs.config.Config.queue_fault.Goals as goal

pub loop-at-preserved : goal.loop-at-preserved
loop-at-preserved c =
    let frames = c.args.frames.now in
    let at = c.loop-at.at in
    let frame = c.index-frames-at.result in
    let pairs = c.args.self.now.pairs in
    let low : at < length frames = omega (arith, c.loop-at-test.true, c.loop-at.auto.at-end) in
    let exists : frame.queue < pairs = omega (arith, c.queue.ensures.value, c.from.ensures, c.if-from-self.false) in
    subst (HasQueues c.args.self.now) (sym (take_more frames at frame low ∙ ap (λ (f : Frame). take at frames ++ f ∷ []) (sym c.index-frames-at.is)))
    (All-push (λ f. f.queue < pairs) (take at frames) frame c.loop-at.invariant exists)

pub returns-clause-none : goal.returns-clause-none
returns-clause-none c =
    let at = c.loop-at.at in
    let all = take_all at c.args.frames.now (omega (arith, c.loop-at-test.false)) in
    (λ _. subst (HasQueues c.args.self.now) all c.loop-at.invariant, λ _. refl)
