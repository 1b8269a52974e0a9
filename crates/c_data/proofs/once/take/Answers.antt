use Rattle.std.proofs.Common.{◌∙◌, ap, sym}
use Rattle.c_data.proofs.Turns.{drives_asked, drives_more}
use Rattle.c_data.proofs.once.take.Goals as goal

pub returns : goal.returns
returns c =
    let asked = drives_asked c.args.ring.now c.args.driver.now.end c.enable.new.self.end c.args.driver.now.chain c.enable.new.self.chain c.args.packets.now.items
    c.enable.ensures.ring (ap (λ d. d.chain) c.enable.ensures.rest) (c.enable.ensures.open c.requires.not_shut) c.requires in
    drives_more c.args.ring.now (sym c.in-Ok-true.ensures.told ∙ c.in-Ok-true.field-0-test) c.rx_batch.ensures.state c.in-Ok.ensures.done.grew asked
