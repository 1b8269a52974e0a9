-- Each step keeps the rule of a pool.
use Rattle.std.proofs.Common.{◌≡◌, ◌≢◌, ℕ, zero, suc, ◌+◌, ◌<◌, ◌≤◌, Bool, true, false, cond, List, [], ◌∷◌, ◌++◌, length, set, refl, sym, ap, ◌∙◌, subst, ⊎_elim, arith, Contains, eqb, Option, Some, None, IfSome, IsSome, All}
use Rattle.std.specs.List.{range_with_len}
use Rattle.std.proofs.lemmas.List.{length-map, map-append}
use Rattle.std.proofs.lemmas.List.FromFn.{length-range_with_len}
use Rattle.std.proofs.lemmas.List.Elements.{All-append, All-tail}
use mathlib.Core.Option.{some, some-ne-none}
use lib.ListN.{get_elem?}
use borrow.Author.Tests.{eqb-true, eq-eqb}
use Rattle.crossbeam_queue.specs.Fifo.{Pushes, Pops, Forks, Merges, Learns}
use Rattle.crossbeam_queue.proofs.Lists.{at_set, at_snoc}
use Rattle.buffer_pool.specs.Buffer.{Buffer, buffer}
use Rattle.pool.specs.declared.hand.Hand.{Hand}
use Rattle.pool.specs.declared.hand.TheConstants.{WHOLE_SHARE}
use Rattle.pool.specs.Hands.{hand, total, without, kept_hand, new_hand, joined_hand}
use Rattle.pool.specs.Sharing.{numbers, Fits, AllFit, Partition, Shared}
use Rattle.pool.specs.Plays.{IsFair, Taken, Given, Added, Looked}
use Rattle.pool.proofs.Totals.{total-append, total-set, total-at, total-two, total-alone, total-ones, total-without}

-- ---- what a pass knows of the queue

pub IfSome-map : {T : Type 0} (P Q : T → Type 0) (o : Option T) → ((x : T) → P x → Q x) → IfSome o P → IfSome o Q
IfSome-map P Q None f h = tt
IfSome-map P Q (Some x) f h = f x h

-- a pass with the whole share sees the queue as it is
known : ℕ → List ℕ → Option (List ℕ)
known share q = cond (eqb share WHOLE_SHARE) (Some q) None

known_by : (t : Bool) (A : Type 0) (q : List ℕ) → (t ≡ true → A) → IfSome (cond t (Some q) None) (λ r. A × (r ≡ q))
known_by true A q h = (h refl, refl)
known_by false A q h = tt

known-fits : (share : ℕ) (q : List ℕ) → IfSome (known share q) (λ r. (share ≡ WHOLE_SHARE) × (r ≡ q))
unfolding known
known-fits share q = known_by (eqb share WHOLE_SHARE) (share ≡ WHOLE_SHARE) q (eqb-true share WHOLE_SHARE)

known-some : (share : ℕ) (q : List ℕ) → share ≡ WHOLE_SHARE → known share q ≡ Some q
unfolding known
known-some share q e = ap (λ (t : Bool). cond t (Some q) None) (eq-eqb share WHOLE_SHARE e)

-- ---- the others

total-numbers : (items : List Buffer) → length (numbers items) ≡ length items
total-numbers items = length-map items (λ b. b.number)

others-fit : (count : ℕ) (queue queue' : List ℕ) (u : Hand) → u.share ≢ WHOLE_SHARE → Fits count queue u → Fits count queue' u
others-fit count queue queue' u part f = record {
  idle = f.idle;
  counted = f.counted;
  queued = IfSome-map (λ q. (u.share ≡ WHOLE_SHARE) × (q ≡ queue)) (λ q. (u.share ≡ WHOLE_SHARE) × (q ≡ queue')) u.queued (λ q h. absurd (part h.0)) f.queued;
}

-- no two passes have a share, if one has the whole
not-whole : (items : List Buffer) (views : List Hand) (count : ℕ) → Partition count items views
    → (port other : ℕ) (v u : Hand) → port ≢ other → get_elem? views port ≡ some v → get_elem? views other ≡ some u → 0 < v.share → u.share ≢ WHOLE_SHARE
not-whole items views count k port other v u apart at at' some_share whole =
    omega (arith, total-two (λ x. x.share) views port other v u apart at at', k.shares)

fit-set : (count : ℕ) (queue queue' : List ℕ) (views : List Hand) (port : ℕ) (w : Hand) → Fits count queue' w
    → ((j : ℕ) (u : Hand) → j ≢ port → get_elem? views j ≡ some u → Fits count queue' u) → AllFit count queue' (set views port w)
fit-set count queue queue' views port w mine others j u e = ⊎_elim
    (λ (x : (j ≡ port) × (w ≡ u)). subst (Fits count queue') x.1 mine)
    (λ (x : (j ≢ port) × (get_elem? views j ≡ some u)). others j u x.0 x.1)
    (at_set views port j w u e)

-- a pass's own part of what the rule says of all
fair-at : (items : List Buffer) (views : List Hand) (count port : ℕ) (w : Hand) → Partition count items views → get_elem? views port ≡ some w → 0 < w.share → IsFair w
fair-at items views count port w k at some_share =
    let fits : Fits count (numbers items) w = k.each port w at in
    let counted : w.count ≡ count = fits.counted some_share in
    record {
      once = λ h. rw counted (omega (arith, total-at (λ v. total h v.held) views port w at, k.once h));
      whole = IfSome-map (λ q. (w.share ≡ WHOLE_SHARE) × (q ≡ numbers items)) (λ q. (h : ℕ → ℕ) → total h w.held + total h q ≡ total h (range_with_len 0 w.count)) w.queued
          (λ q known h.
          let idle : (j : ℕ) (u : Hand) → get_elem? views j ≡ some u → u.share ≡ 0 → total h u.held ≡ 0 = λ j u e none. ap (total h) ((k.each j u e).idle none) in
          let alone = total-alone (λ v. total h v.held) (λ v. v.share) views port w at idle (k.shares ∙ sym known.0) in
          rw (counted, known.1) (omega (arith, alone, k.once h)))
          fits.queued;
    }

here : (views : List Hand) (port : ℕ) (v w : Hand) → get_elem? views port ≡ some v → get_elem? (set views port w) port ≡ some w
here [] port v w e = absurd (some-ne-none v (sym e))
here (x ∷ xs) zero v w e = refl
here (x ∷ xs) (suc port) v w e = here xs port v w e

-- ---- taking

pub takes : (port : ℕ) (v : Hand) → 0 < v.share → Pops Shared port v (Taken v)
takes port v some_share b items views (count, k) at =
    let w : Hand = hand v.share v.count (b.number ∷ v.held) (known v.share (numbers items)) in
    let ready : b ≡ buffer b.number [] = k.ready 0 b (omega arith) in
    let mine : Fits count (numbers (b ∷ items)) v = k.each port v at in
    let mine' : Fits count (numbers items) w = record {
      idle = λ none. absurd (omega arith);
      counted = mine.counted;
      queued = known-fits v.share (numbers items);
    } in
    let kept : Partition count items (set views port w) = record {
      shares = omega (arith, total-set (λ u. u.share) views port v w at, k.shares);
      once = λ h. omega (arith, total-set (λ u. total h u.held) views port v w at, k.once h);
      ready = All-tail (λ x. x ≡ buffer x.number []) b items k.ready;
      each = fit-set count (numbers (b ∷ items)) (numbers items) views port w mine'
          (λ j u apart e. others-fit count (numbers (b ∷ items)) (numbers items) u
          (not-whole (b ∷ items) views count k port j v u (λ same. apart (sym same)) at e some_share) (k.each j u e));
    } in (
      w,
      (count, kept),
      record {
        ready = ready;
        took = record {
          share = refl;
          count = refl;
          held = refl;
          queued = IfSome-map (λ q. (v.share ≡ WHOLE_SHARE) × (q ≡ numbers (b ∷ items))) (λ q. (rest : List ℕ) × (q ≡ (b.number ∷ []) ++ rest) × (w.queued ≡ Some rest)) v.queued
              (λ q h. (numbers items, h.1, known-some v.share (numbers items) h.0)) mine.queued;
        };
        fair = fair-at items (set views port w) count port w kept (here views port v w at) some_share;
        knows = λ whole. subst IsSome (sym (known-some v.share (numbers items) whole)) refl;
      },
    )

-- ---- giving

numbers-push : (items : List Buffer) (b : Buffer) → numbers (items ++ b ∷ []) ≡ numbers items ++ b.number ∷ []
numbers-push items b = map-append (λ (x : Buffer). x.number) items (b ∷ [])

ready-one : (b : Buffer) → b ≡ buffer b.number [] → All (λ x. x ≡ buffer x.number []) (b ∷ [])
ready-one b e zero d h = e
ready-one b e (suc k) d h = absurd (omega arith)

pub gives : (n port : ℕ) (v : Hand) (b : Buffer) → 0 < v.share → b ≡ buffer b.number [] → Contains v.held b.number → Pushes Shared n port v b (Given v b)
gives n port v b some_share ready contains items views room (count, k) at =
    let queue : List ℕ = numbers items ++ b.number ∷ [] in
    let w : Hand = hand v.share v.count (without b.number v.held) (known v.share queue) in
    let mine : Fits count (numbers items) v = k.each port v at in
    let mine' : Fits count queue w = record {
      idle = λ none. absurd (omega arith);
      counted = mine.counted;
      queued = known-fits v.share queue;
    } in
    let kept : Partition count (items ++ b ∷ []) (set views port w) = record {
      shares = omega (arith, total-set (λ u. u.share) views port v w at, k.shares);
      once = λ h. rw (numbers-push items b) (omega (
        arith,
        total-set (λ u. total h u.held) views port v w at,
        total-without h b.number v.held contains,
        total-append h (numbers items) (b.number ∷ []),
        k.once h,
      ));
      ready = All-append (λ x. x ≡ buffer x.number []) items (b ∷ []) k.ready (ready-one b ready);
      each = subst (λ (q : List ℕ). AllFit count q (set views port w)) (sym (numbers-push items b))
          (fit-set count (numbers items) queue views port w mine'
          (λ j u apart e. others-fit count (numbers items) queue u
          (not-whole items views count k port j v u (λ same. apart (sym same)) at e some_share) (k.each j u e)));
    } in (
      w,
      (count, kept),
      record {
        gave = record {
          share = refl;
          count = refl;
          held = refl;
          queued = IfSome-map (λ q. (v.share ≡ WHOLE_SHARE) × (q ≡ numbers items)) (λ q. w.queued ≡ Some (q ++ b.number ∷ [])) v.queued
              (λ q h. known-some v.share queue h.0 ∙ ap (λ (r : List ℕ). Some (r ++ b.number ∷ [])) (sym h.1)) mine.queued;
        };
        fair = fair-at (items ++ b ∷ []) (set views port w) count port w kept (here views port v w at) some_share;
        knows = λ whole. subst IsSome (sym (known-some v.share queue whole)) refl;
      },
    )

-- ---- making

range-more : (a n : ℕ) → range_with_len a (n + 1) ≡ range_with_len a n ++ (a + n) ∷ []
range-more a zero = let e : a + 0 ≡ a = omega arith in rw e
range-more a (suc n) =
    let longer : suc n + 1 ≡ suc (n + 1) = omega arith in
    let last : a + 1 + n ≡ a + suc n = omega arith in
    ap (range_with_len a) longer ∙ ap (λ (xs : List ℕ). a ∷ xs) (range-more (a + 1) n)
    ∙ ap (λ (m : ℕ). a ∷ (range_with_len (a + 1) n ++ m ∷ [])) last

pub range-last : (n : ℕ) → range_with_len 0 (n + 1) ≡ range_with_len 0 n ++ n ∷ []
range-last n = let e : 0 + n ≡ n = omega arith in range-more 0 n ∙ ap (λ (m : ℕ). range_with_len 0 n ++ m ∷ []) e

pub adds : (n port : ℕ) (v : Hand) (b : Buffer) → v.share ≡ WHOLE_SHARE → b ≡ buffer v.count [] → Pushes Shared n port v b (Added v b)
adds n port v b whole ready items views room (count, k) at =
    let queue : List ℕ = numbers items ++ b.number ∷ [] in
    let w : Hand = hand v.share (v.count + 1) v.held (Some queue) in
    let mine : Fits count (numbers items) v = k.each port v at in
    let counted : v.count ≡ count = mine.counted (omega arith) in
    let number : b.number ≡ v.count = ap (λ (x : Buffer). x.number) ready in
    let mine' : Fits (count + 1) queue w = record {
      idle = λ none. absurd (omega arith);
      counted = λ some_share. omega arith;
      queued = (whole, refl);
    } in
    let kept : Partition (count + 1) (items ++ b ∷ []) (set views port w) = record {
      shares = omega (arith, total-set (λ u. u.share) views port v w at, k.shares);
      once = λ h. rw (numbers-push items b) (omega (
        arith,
        total-set (λ u. total h u.held) views port v w at,
        total-append h (numbers items) (b.number ∷ []),
        ap (total h) (range-last count),
        total-append h (range_with_len 0 count) (count ∷ []),
        ap h (number ∙ counted),
        k.once h,
      ));
      ready = All-append (λ x. x ≡ buffer x.number []) items (b ∷ []) k.ready (ready-one b (ready ∙ ap (λ (m : ℕ). buffer m []) (sym number)));
      each = subst (λ (q : List ℕ). AllFit (count + 1) q (set views port w)) (sym (numbers-push items b))
          (fit-set-more count queue views port w mine'
          (λ j u apart e.
          let part : u.share ≡ 0 = omega (arith, total-two (λ x. x.share) views port j v u (λ same. apart (sym same)) at e, k.shares) in
          without-share (count + 1) (numbers items) queue count u part (k.each j u e)));
    } in (
      w,
      (count + 1, kept),
      record {
        share = refl;
        count = refl;
        held = refl;
        queued = IfSome-map (λ q. (v.share ≡ WHOLE_SHARE) × (q ≡ numbers items)) (λ q. w.queued ≡ Some (q ++ b.number ∷ [])) v.queued
            (λ q h. ap (λ (r : List ℕ). Some (r ++ b.number ∷ [])) (sym h.1)) mine.queued;
      },
    )
  where
    -- a pass without a share goes on fitting, whatever the pool becomes
    without-share : (count' : ℕ) (queue queue' : List ℕ) (count : ℕ) (u : Hand) → u.share ≡ 0 → Fits count queue u → Fits count' queue' u
    without-share count' queue queue' count u none f = record {
      idle = f.idle;
      counted = λ some_share. absurd (omega arith);
      queued = IfSome-map (λ q. (u.share ≡ WHOLE_SHARE) × (q ≡ queue)) (λ q. (u.share ≡ WHOLE_SHARE) × (q ≡ queue')) u.queued (λ q h. absurd (omega (arith, h.0))) f.queued;
    }

    fit-set-more : (count : ℕ) (queue' : List ℕ) (views : List Hand) (port : ℕ) (w : Hand) → Fits (count + 1) queue' w
        → ((j : ℕ) (u : Hand) → j ≢ port → get_elem? views j ≡ some u → Fits (count + 1) queue' u) → AllFit (count + 1) queue' (set views port w)
    fit-set-more count queue' views port w mine others = fit-set (count + 1) queue' queue' views port w mine others

-- ---- looking

pub learns : (port : ℕ) (v : Hand) → 0 < v.share → Learns Shared port v (Looked v)
learns port v some_share items views (count, k) at =
    let fits : Fits count (numbers items) v = k.each port v at in
    let counted : v.count ≡ count = fits.counted some_share in
    let at_most : (h : ℕ → ℕ) → total h v.held + total h (numbers items) ≤ total h (range_with_len 0 count) = λ h.
    omega (arith, total-at (λ u. total h u.held) views port v at, k.once h) in
    record {
      once = λ h. rw counted (omega (arith, at_most h));
      whole = λ whole h.
          let idle : (j : ℕ) (u : Hand) → get_elem? views j ≡ some u → u.share ≡ 0 → total h u.held ≡ 0 = λ j u e none. ap (total h) ((k.each j u e).idle none) in
          let alone = total-alone (λ u. total h u.held) (λ u. u.share) views port v at idle (k.shares ∙ sym whole) in
          rw counted (omega (arith, alone, k.once h));
      queued = IfSome-map (λ q. (v.share ≡ WHOLE_SHARE) × (q ≡ numbers items)) (λ q. q ≡ numbers items) v.queued (λ q h. h.1) fits.queued;
      room = omega (
        arith,
        at_most (λ x. 1),
        total-ones v.held,
        total-ones (numbers items),
        total-ones (range_with_len 0 count),
        length-range_with_len 0 count,
        total-numbers items,
      );
    }

-- ---- splitting and joining

pub forks : (port k : ℕ) (v : Hand) → 0 < k → k < v.share → Forks Shared port v (kept_hand k v) (new_hand k v)
forks port k v some_share less items views (count, p) at =
    let left : Hand = kept_hand k v in
    let right : Hand = new_hand k v in
    let split : List Hand = set views port left in
    let fits : Fits count (numbers items) v = p.each port v at in
    let left-fits : Fits count (numbers items) left = record { idle = λ none. absurd (omega arith); counted = λ some. fits.counted (omega arith); queued = tt } in
    let right-fits : Fits count (numbers items) right = record { idle = λ none. refl; counted = λ some. fits.counted (omega arith); queued = tt } in
    let split-fits : AllFit count (numbers items) split = fit-set count (numbers items) (numbers items) views port left left-fits (λ j u apart e. p.each j u e) in (
      count,
      record {
        shares = omega (arith, total-append (λ u. u.share) split (right ∷ []), total-set (λ u. u.share) views port v left at, p.shares);
        once = λ h. omega (arith, total-append (λ u. total h u.held) split (right ∷ []), total-set (λ u. total h u.held) views port v left at, p.once h);
        ready = p.ready;
        each = λ j u e. ⊎_elim (λ (x : get_elem? split j ≡ some u). split-fits j u x) (λ (x : right ≡ u). subst (Fits count (numbers items)) x right-fits) (at_snoc split right u j e);
      },
    )

pub merges : (port other : ℕ) (v u : Hand) → 0 < v.share → 0 < u.share → Merges Shared port v other u (joined_hand v u) (hand 0 0 [] None)
merges port other v u some_share other_share items views (count, p) at apart at' =
    let both : Hand = joined_hand v u in
    let spent : Hand = hand 0 0 [] None in
    let merged : List Hand = set views port both in
    let fits : Fits count (numbers items) v = p.each port v at in
    let both-fits : Fits count (numbers items) both = record { idle = λ none. absurd (omega arith); counted = λ some. fits.counted some_share; queued = tt } in
    let spent-fits : Fits count (numbers items) spent = record { idle = λ none. refl; counted = λ some. absurd (omega arith); queued = tt } in
    let merged-fits : AllFit count (numbers items) merged = fit-set count (numbers items) (numbers items) views port both both-fits (λ j x other_port e. p.each j x e) in (
      count,
      record {
        shares = omega (
          arith,
          total-set (λ x. x.share) views port v both at,
          total-set (λ x. x.share) merged other u spent at',
          p.shares,
        );
        once = λ h. omega (
          arith,
          total-set (λ x. total h x.held) views port v both at,
          total-set (λ x. total h x.held) merged other u spent at',
          total-append h v.held u.held,
          p.once h,
        );
        ready = p.ready;
        each = fit-set count (numbers items) (numbers items) merged other spent spent-fits (λ j x other_port e. merged-fits j x e);
      },
    )
