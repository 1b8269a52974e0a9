use Rattle.std.proofs.Common.{take}
use Rattle.settings.specs.Configs.{HasQueues}
use Rattle.settings.proofs.config.Config.queue_fault.Given as goal

-- the frames so far have queues that exist
abbrev pub invariant-loop-at : goal.invariant-loop-at
invariant-loop-at l = HasQueues l.self (take l.at l.frames)
