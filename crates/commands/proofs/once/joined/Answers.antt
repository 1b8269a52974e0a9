use Rattle.commands.proofs.Joined.{concat-segments}
use Rattle.commands.proofs.once.joined.Goals as goal

pub loop-segment-init : goal.loop-segment-init
loop-segment-init c = rw (c.in_ok-bytes.ensures.items, c.into_iter-segment-iterator.ensures.into_iter_gives, c.iter-segment-items.ensures) (concat-segments c.args.packet.now)
