-- Each number and each flag is that of the configuration, which keeps the frames that were sent.
use Rattle.std.proofs.Common.{ap, sym, Some}
use Rattle.std.specs.Prelude.{not}
use Rattle.settings.specs.declared.config.Config.{Config}
use Rattle.command_line.proofs.ForwardWords.{config_is}
use Rattle.command_line.proofs.ReplayWords.{begins_as}
use Rattle.command_line.proofs.command.config_in.Goals as goal

pub returns : goal.returns
returns c config has =
    ap (λ (given : Config). Some given)
    (config_is config _ _ _ _ _ _ _ _ _ _ _ _ _ (c.in_ok-pairs.ensures config.pairs has.pairs) (c.in_ok-ring.ensures config.ring has.ring)
    (c.in_ok-buffers.ensures config.buffers has.buffers) (c.in_ok-bsize.ensures config.bsize has.bsize) (c.in_ok-batch.ensures config.batch has.batch)
    (c.in_ok-rs_every.ensures config.rs_every has.rs_every) (c.in_ok-workers.ensures config.workers has.workers) (c.in_ok-turns.ensures config.turns has.turns)
    (c.in_ok-repeat.ensures config.repeat has.repeat) (c.flag_in-drop_en.ensures config.drop_en has.drop) (begins_as config.retry _ (c.flag_in-retry.ensures (not config.retry) has.no_retry))
    (c.completion_in-completion.ensures config.completion has.head) (sym has.keeps))
