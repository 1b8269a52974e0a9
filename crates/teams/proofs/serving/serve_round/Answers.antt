use Rattle.std.proofs.Common.{rules, ◌∙◌}
use Rattle.std.proofs.Math.Seq.{map-set_same}
use Rattle.teams.proofs.serving.serve_round.Goals as goal

pub returns-in-Err-clause-keys : goal.returns-in-Err-clause-keys
returns-in-Err-clause-keys g c =
    map-set_same g.F.Flow.key c.loop-i.flows c.loop-i.i c.turn.new.self _ c.turn.ensures.key ∙ c.loop-i.invariant.keys

pub loop-i-preserved : goal.loop-i-preserved
loop-i-preserved g c =
    let kept = map-set_same g.F.Flow.key c.loop-i.flows c.loop-i.i c.turn.new.self _ c.turn.ensures.key ∙ c.loop-i.invariant.keys in
    search rules
