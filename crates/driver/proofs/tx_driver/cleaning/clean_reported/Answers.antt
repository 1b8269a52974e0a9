-- One buffer more is cleaned, and lies in the stash.
use Rattle.std.proofs.Common.{length, List, ℕ, ap, ◌∙◌, arith, length-append}
use Rattle.ring_model.specs.shared.Handshakes.{is_live}
use Rattle.tx_ring.specs.Records.{TxDriven}
use Rattle.driver.proofs.transmit.Cleaning.{off_one, off_more, into_one, into_more}
use Rattle.driver.proofs.tx_driver.cleaning.clean_reported.Goals as goal

pub loop-preserved : goal.loop-preserved
loop-preserved c =
    let i = c.loop.invariant in
    let one = c.clean-buf.ensures in
    let put = c.push.ensures in
    let grew = ap (λ (x : TxDriven). length x.reaped) one.same in
    let longer = ap (λ (ns : List ℕ). length ns) put in
    record {
      own = ap (λ s. s.table) one.step ∙ i.own;
      live = ap (λ (x : TxDriven). is_live x.state) one.same ∙ i.live;
      none_back = ap (λ (x : TxDriven). x.reclaimed) one.same ∙ i.none_back;
      off = off_more i.off (off_one c.loop.driver c.clean-buf.new.self c.clean-buf.result i.none_back one);
      into = into_more i.into (into_one c.loop.driver c.clean-buf.new.self c.clean-buf.result c.loop.stash c.push.new.self i.none_back one put);
      known = one.known ∙ i.known;
      cleans = omega (arith, grew, i.cleans, length-append {A = ℕ});
      stashed = omega (arith, longer, i.stashed);
    }
