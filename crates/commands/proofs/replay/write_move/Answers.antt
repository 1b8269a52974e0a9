-- The line has what the queues told, and behind it is what is drawn of them.
use Rattle.std.proofs.Common.{◌∙◌, ◌++◌, ap, sym, subst, Bool}
use Rattle.std.specs.Option.{is_some}
use Rattle.std.specs.String.{string_bytes}
use Rattle.ring_machine.specs.Queues.{QueuesFollow}
use Rattle.commands.specs.Replay.{WroteMove, drawn_of, told_line}
use Rattle.commands.proofs.Replaying.{wrote}
use Rattle.commands.proofs.replay.write_move.Goals as goal

pub returns : goal.returns
unfolding QueuesFollow
returns c = λ pairs n w reached agrees.
    let line = c.in_ok-write_told.ensures ∙ ap (λ o. string_bytes c.args.page.now ++ told_line c.args.shown.json c.args.action.now o c.shown_registers-read.result) c.ok-told.ensures.value in
    let behind = c.in_ok-draw.ensures ∙ ap (λ o. string_bytes c.write_told.new.page ++ drawn_of c.args.shown.pictures c.step.new.self o) c.at_once.ensures in
    subst (λ (b : Bool). WroteMove c.args.shown w c.args.action.now b (string_bytes c.args.page.now) (string_bytes c.draw.new.page) c.step.new.self) (sym (c.is_some.ensures ∙ ap is_some c.ok-told.ensures.value))
    (wrote c.args.shown w c.args.action.now c.step.result (string_bytes c.args.page.now) (string_bytes c.write_told.new.page) (string_bytes c.draw.new.page) c.args.queues.now c.step.new.self
    (c.step.ensures.follows pairs n w reached agrees) c.shown_registers-read.result c.shown_registers-read.ensures line behind)
