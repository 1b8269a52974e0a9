use Rattle.std.proofs.Common.{◌≡◌, ◌∙◌, ℕ, ◌+◌, ◌-◌, ◌<◌, true, false, Bool, [], ◌∷◌, ◌++◌, List, length, refl, sym, ap, subst, arith, inl, inr}
use Rattle.std.proofs.lemmas.Bool.{eqb-true}
use Rattle.buffer_pool.specs.Buffer.{Buffer}
use Rattle.ring_model.specs.shared.Handshakes.{is_live}
use Rattle.rx_ring.specs.Ends.{driver_state}
use Rattle.rx_ring.specs.Calls.{TookSegment}
use Rattle.rx_ring.specs.Records.{RxDriven}
use Rattle.limits.specs.declared.profile.TheConstants.{MOST_BATCH}
use Rattle.driver.specs.receive.Batches.{Hands, at, Polled, batch_of}
use Rattle.driver.proofs.receive.Exchanging.{goes-none, goes-one, goes-full, goes-nothing, nothing_taken, some-left, none-left}
use Rattle.driver.proofs.receive.Polling.{polled-none, polled-more, polled-ended, found_nothing, polled-nothing}
use Rattle.driver.proofs.rx_driver.polling.take.Goals as goal

pub loop-count-init : goal.loop-count-init
loop-count-init c = record { polled = polled-none _ c.requires.rest; few = omega arith; goes = goes-none _ _ c.args.driver.now c.args.stash.now (omega arith) }

pub loop-count-preserved-then-eop : goal.loop-count-preserved-then-eop
loop-count-preserved-then-eop c =
    let old : Hands = at c.args.driver.now c.args.chain.now c.args.stash.now c.args.packets.now.items in
    let most : ℕ = batch_of c.args.batch MOST_BATCH c.args.packets.now.items in
    let some : 0 < most - c.loop-count.count = some-left c.args.batch MOST_BATCH c.loop-count.count (length c.loop-count.packets.items) (length c.args.packets.now.items)
    c.loop-count.invariant.polled.count_is c.loop-count-test.true c.if-not-is_full.ensures.fits c.if-not-is_full.ensures.value in
    let took = subst (λ (e : Bool). TookSegment c.loop-count.driver c.in-Segment.buf e c.poll.new.self) c.if-eop.true c.in-Segment.ensures.found in
    let ended = polled-ended old c.loop-count.count c.loop-count.driver c.loop-count.chain c.loop-count.stash c.loop-count.packets.items c.loop-count.invariant.polled c.poll.new.self c.post_one.new.driver c.in-Segment.buf c.post_one.new.stash c.post_one.ensures.posted took in
    let list = c.push.ensures.items ∙ ap (λ (p : List Buffer). c.loop-count.packets.items ++ p ∷ []) c.ended.ensures.packet in record {
      polled = subst (λ (l : List (List Buffer)). Polled old (c.loop-count.count + 1) (at c.post_one.new.driver c.ended.new.chain c.post_one.new.stash l)) (sym list)
          (subst (λ (chain : List Buffer). Polled old (c.loop-count.count + 1) (at c.post_one.new.driver chain c.post_one.new.stash (c.loop-count.packets.items ++ (c.loop-count.chain ++ c.in-Segment.buf ∷ []) ∷ []))) (sym c.ended.ensures.left) ended);
      few = omega arith;
      goes = goes-one most (most - c.loop-count.count) c.args.driver.now c.args.stash.now c.loop-count.driver c.loop-count.stash c.loop-count.invariant.goes
          (most - (c.loop-count.count + 1)) c.poll.new.self c.post_one.new.driver c.post_one.new.stash c.in-Segment.buf true some (omega arith) took
          c.post_one.ensures.step c.post_one.ensures.left (ap (λ (x : RxDriven). x.reaped) c.post_one.ensures.posted.did);
    }

pub loop-count-preserved : goal.loop-count-preserved
loop-count-preserved c =
    let old : Hands = at c.args.driver.now c.args.chain.now c.args.stash.now c.args.packets.now.items in
    let most : ℕ = batch_of c.args.batch MOST_BATCH c.args.packets.now.items in
    let some : 0 < most - c.loop-count.count = some-left c.args.batch MOST_BATCH c.loop-count.count (length c.loop-count.packets.items) (length c.args.packets.now.items)
    c.loop-count.invariant.polled.count_is c.loop-count-test.true c.if-not-is_full.ensures.fits c.if-not-is_full.ensures.value in
    let took = subst (λ (e : Bool). TookSegment c.loop-count.driver c.in-Segment.buf e c.poll.new.self) c.if-eop.false c.in-Segment.ensures.found in record {
      polled = subst (λ (chain : List Buffer). Polled old c.loop-count.count (at c.post_one.new.driver chain c.post_one.new.stash c.loop-count.packets.items)) (sym c.push_back.ensures)
          (polled-more old c.loop-count.count c.loop-count.driver c.loop-count.chain c.loop-count.stash c.loop-count.packets.items c.loop-count.invariant.polled c.poll.new.self c.post_one.new.driver c.in-Segment.buf c.post_one.new.stash c.post_one.ensures.posted took);
      few = c.loop-count.invariant.few;
      goes = goes-one most (most - c.loop-count.count) c.args.driver.now c.args.stash.now c.loop-count.driver c.loop-count.stash c.loop-count.invariant.goes
          (most - c.loop-count.count) c.poll.new.self c.post_one.new.driver c.post_one.new.stash c.in-Segment.buf false some refl took
          c.post_one.ensures.step c.post_one.ensures.left (ap (λ (x : RxDriven). x.reaped) c.post_one.ensures.posted.did);
    }

pub returns-in_default : goal.returns-in_default
returns-in_default c =
    let old : Hands = at c.args.driver.now c.args.chain.now c.args.stash.now c.args.packets.now.items in
    let most : ℕ = batch_of c.args.batch MOST_BATCH c.args.packets.now.items in
    let some : 0 < most - c.loop-count.count = some-left c.args.batch MOST_BATCH c.loop-count.count (length c.loop-count.packets.items) (length c.args.packets.now.items)
    c.loop-count.invariant.polled.count_is c.loop-count-test.true c.if-not-is_full.ensures.fits c.if-not-is_full.ensures.value in
    let polled = c.loop-count.invariant.polled in
    let live : is_live (driver_state c.loop-count.driver) ≡ true = ap is_live polled.grew.state ∙ c.requires.live in
    let nothing = found_nothing c.loop-count.driver c.poll.result c.poll.new.self live c.in_default.not-Segment c.poll.ensures.found in
    let both = polled-nothing old c.loop-count.count c.loop-count.driver c.loop-count.chain c.loop-count.stash c.loop-count.packets.items polled c.poll.new.self nothing in record {
      polled = both.0;
      few = c.loop-count.invariant.few;
      stopped = inr (inr both.1);
      all = goes-nothing most (most - c.loop-count.count) c.args.driver.now c.args.stash.now c.loop-count.driver c.loop-count.stash c.loop-count.invariant.goes c.poll.new.self some nothing (nothing_taken c.loop-count.driver c.poll.new.self nothing);
    }

-- nothing more may be added: the list is full, or there is a batch
pub returns-else-not-is_full-clause-all : goal.returns-else-not-is_full-clause-all
returns-else-not-is_full-clause-all c =
    let most : ℕ = batch_of c.args.batch MOST_BATCH c.args.packets.now.items in
    let full = eqb-true (length c.loop-count.packets.items) MOST_BATCH (sym c.if-not-is_full.ensures.value) in
    goes-full most (most - c.loop-count.count) c.args.driver.now c.args.stash.now c.loop-count.driver c.loop-count.stash c.loop-count.invariant.goes
    (none-left c.args.batch MOST_BATCH c.loop-count.count (length c.loop-count.packets.items) (length c.args.packets.now.items) c.loop-count.invariant.polled.count_is (inr full))

pub returns-after-loop-count-clause-all : goal.returns-after-loop-count-clause-all
returns-after-loop-count-clause-all c =
    let most : ℕ = batch_of c.args.batch MOST_BATCH c.args.packets.now.items in
    goes-full most (most - c.loop-count.count) c.args.driver.now c.args.stash.now c.loop-count.driver c.loop-count.stash c.loop-count.invariant.goes
    (none-left c.args.batch MOST_BATCH c.loop-count.count (length c.loop-count.packets.items) (length c.args.packets.now.items) c.loop-count.invariant.polled.count_is (inl c.loop-count-test.false))
