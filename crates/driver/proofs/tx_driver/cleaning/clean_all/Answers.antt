-- Where it ends, and that each report seen leaves fewer to be seen.
use Rattle.std.proofs.Common.{◌≡◌, ap, ◌∙◌, arith, subst, sym, refl, ◌<◌, length}
use Rattle.std.proofs.lemmas.Bool.{false≢true}
use Rattle.buffer_pool.specs.declared.stash.TheConstants.{STASH_BUFFERS}
use Rattle.ring_model.specs.shared.Handshakes.{is_live}
use Rattle.tx_ring.specs.Ends.{DriverSide}
use Rattle.tx_ring.specs.Records.{TxDriven, Knowing}
use Rattle.driver.specs.transmit.Batches.{CleanedAll}
use Rattle.driver.specs.transmit.Cleaning.{CleanedUp}
use Rattle.driver.proofs.transmit.Cleaning.{into_more, into_wider, into_after, into_none, ends_full, ends_short, goes_on, found_one, fewer_unseen, more_seen, same_posted}
use Rattle.driver.proofs.tx_driver.cleaning.clean_all.Goals as goal
use Rattle.driver.proofs.tx_driver.cleaning.clean_all.Goals.{then-is_full-via-then-is_full, then-is_full-via-else-is_full+then-not-poll_report}

pub loop-driver-init : goal.loop-driver-init
loop-driver-init c = record {
  own = c.requires.own;
  live = c.requires.live;
  none_back = c.requires.none_back;
  into = into_none c.args.driver.now c.args.stash.now;
  seen = omega arith;
  goes = λ new has rest. rest;
}

pub returns-then-is_full : goal.returns-then-is_full
returns-then-is_full c =
    let i = c.loop-driver.invariant in
    let e = c.clean_reported.ensures in
    let up : CleanedUp c.loop-driver.driver c.loop-driver.stash c.clean_reported.new.driver c.clean_reported.new.stash = record { off = e.off; into = e.into; known = e.known; all = e.all } in
    elim c.then-is_full.branch [
      | then-is_full-via-then-is_full w ↦ subst (λ (d : DriverSide). CleanedAll c.args.driver.now c.args.stash.now d c.clean_reported.new.stash) (sym w.driver-is) (ends_full i.into up i.goes i.seen (w.if-is_full.ensures.value.0 refl))
      | then-is_full-via-else-is_full+then-not-poll_report w ↦
          let short : length c.clean_reported.new.stash < STASH_BUFFERS = (let some : ¬ (length c.clean_reported.new.stash ≡ STASH_BUFFERS) = λ full. false≢true (w.if-is_full.ensures.value.1 full) in omega (arith, some, w.if-is_full.ensures.few)) in
          subst (λ (d : DriverSide). CleanedAll c.args.driver.now c.args.stash.now d c.clean_reported.new.stash) (sym w.driver-is)
          (ends_short i.into up i.goes i.seen short _ w.if-not-poll_report.ensures.found)
    ]

pub loop-driver-smaller : goal.loop-driver-smaller
loop-driver-smaller c =
    let fewer = fewer_unseen c.clean_reported.new.driver c.poll_report.new.self c.if-not-poll_report.ensures.found in
    let seen = ap (λ (k : Knowing). k.seen) c.clean_reported.ensures.known in
    let same = same_posted c.clean_reported.ensures.into in
    omega (arith, fewer, seen, same)

pub loop-driver-preserved : goal.loop-driver-preserved
loop-driver-preserved c =
    let i = c.loop-driver.invariant in
    let e = c.clean_reported.ensures in
    let reported = into_wider e.into in
    let saw = c.if-not-poll_report.ensures.found in
    let found = found_one c.clean_reported.new.driver c.poll_report.new.self saw in
    let up : CleanedUp c.loop-driver.driver c.loop-driver.stash c.clean_reported.new.driver c.clean_reported.new.stash = record { off = e.off; into = e.into; known = e.known; all = e.all } in
    let short : length c.clean_reported.new.stash < STASH_BUFFERS = (let some : ¬ (length c.clean_reported.new.stash ≡ STASH_BUFFERS) = λ full. false≢true (c.if-is_full.ensures.value.1 full) in omega (arith, some, c.if-is_full.ensures.few)) in
    let more = more_seen c.clean_reported.new.driver c.poll_report.new.self saw in
    let seen = ap (λ (k : Knowing). k.seen) e.known in
    record {
      own = ap (λ (d : DriverSide). d.table) found.runs.step ∙ ap (λ (d : DriverSide). d.table) reported.went.runs.step ∙ i.own;
      live = ap (λ (x : TxDriven). is_live x.state) found.did ∙ ap (λ (x : TxDriven). is_live x.state) reported.went.did ∙ i.live;
      none_back = ap (λ (x : TxDriven). x.reclaimed) found.did ∙ ap (λ (x : TxDriven). x.reclaimed) reported.went.did ∙ i.none_back;
      into = into_after (into_more i.into reported) found;
      seen = omega (arith, i.seen, seen, more);
      goes = goes_on i.into up i.goes i.seen c.poll_report.new.self short saw;
    }
