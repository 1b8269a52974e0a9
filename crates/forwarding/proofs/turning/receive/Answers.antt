use Rattle.std.proofs.Common.{◌≡◌, ℕ, length, rules, List, sym, subst, ap}
use Rattle.std.specs.Prelude.{All}
use Rattle.buffer_pool.specs.Buffer.{Buffer}
use Rattle.limits.specs.declared.profile.TheConstants.{MOST_BATCH}
use Rattle.driver.specs.receive.Chains.{IsTaken}
use Rattle.driver.specs.receive.Receiver.{hands}
use Rattle.forwarding.proofs.Touches.{all-taken-shaped}
use Rattle.forwarding.proofs.Drives.{batch-waiting, refilled}
use Rattle.forwarding.specs.Touching.{TouchedFrom}
use Rattle.forwarding.proofs.turning.receive.Goals as goal

pub returns-clause-waiting : goal.returns-clause-waiting
returns-clause-waiting c =
    let n = c.args.from.now.slots in
    let list = c.rx_batch.new.packets.items in
    let has = c.touch_from.new.packets in
    let shape = c.touch_from.ensures.shape in
    let waits : All (IsTaken n) list = batch-waiting n c.args.rx.now.batch MOST_BATCH c.in-Ok.taken (hands c.args.rx.now c.args.stash.now c.args.packets.now.items) (hands c.rx_batch.new.self c.rx_batch.new.stash list)
    (ap (λ t. t.slots) c.requires.receives) c.in-Ok.ensures.done c.requires.waiting in
    subst (λ (ps : List (List Buffer)). All (IsTaken n) ps) (sym (refilled list has (search rules))) (all-taken-shaped n list has (search rules) waits)

pub returns-clause-received : goal.returns-clause-received
returns-clause-received c =
    let list = c.rx_batch.new.packets.items in
    let has = c.touch_from.new.packets in
    let waited = c.args.packets.now.items in
    let same : c.len-had.result ≡ length waited = search rules in
    let lent : c.as_mut_slice.result.now ≡ list = search rules in
    let touched : TouchedFrom (length waited) list has = subst (λ (ps : List (List Buffer)). TouchedFrom (length waited) ps has) lent (subst (λ (k : ℕ). TouchedFrom k c.as_mut_slice.result.now has) same c.touch_from.ensures) in
    record {
      untouched = list;
      batch = c.in-Ok.ensures.done;
      filled = c.in-Ok.ensures.filled;
      same = c.in-Ok.ensures.batch;
      touching = subst (λ (ps : List (List Buffer)). TouchedFrom (length waited) list ps) (sym (refilled list has touched.shape)) touched;
    }
