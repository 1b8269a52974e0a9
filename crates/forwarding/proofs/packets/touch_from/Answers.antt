use Rattle.std.proofs.Common.{rules}
use Rattle.forwarding.proofs.Touches.{so-far-none, so-far-more, packet-still}
use Rattle.forwarding.proofs.packets.touch_from.Goals as goal

pub loop-i-init : goal.loop-i-init
loop-i-init c = so-far-none c.args.first c.args.packets.now

pub touch-requires : goal.touch-requires
touch-requires c = packet-still c.args.packets.now c.loop-i.packets c.loop-i.i c.index-packets-i.result c.loop-i.invariant.shape c.requires.packets (search rules)

pub loop-i-preserved : goal.loop-i-preserved
loop-i-preserved c = so-far-more c.args.first c.loop-i.i c.args.packets.now c.loop-i.packets c.touch.new.packet c.index-packets-i.result (search rules) (search rules) c.loop-i.invariant c.touch.ensures
