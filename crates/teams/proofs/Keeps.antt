-- Each step keeps the rule of a stop word.
use Rattle.std.proofs.Common.{◌≡◌, ◌≢◌, ◌∙◌, ℕ, zero, suc, ◌+◌, ◌<◌, ◌≤◌, Bool, true, false, List, [], ◌∷◌, ◌++◌, set, refl, sym, ap, subst, ⊎_elim, arith}
use Rattle.std.proofs.lemmas.Bool.{false≢true}
use Rattle.std.specs.List.{sum_by}
use Rattle.std.proofs.lemmas.List.Sums.{sum_by-cons, sum_by_push}
use mathlib.Core.Option.{some, some-ne-none, some-injective}
use lib.ListN.{get_elem?}
use Rattle.crossbeam_utils.specs.Register.{Turns, Forks, Merges}
use Rattle.atomic_table.proofs.Lists.{at_set, at_snoc}
use Rattle.teams.specs.declared.rule.Flag.{Flag}
use Rattle.teams.specs.declared.rule.PassKnowledge.{PassKnowledge}
use Rattle.teams.specs.Rule.{known, worth, either, turned, opened, same, spent, cut, given, both, Fits, IsSettled, HasLooked, HasSet}

-- ---- sums over all passes

module _ (f : PassKnowledge → ℕ) where
  -- the sum after a change of one pass
  sum-set : (all : List PassKnowledge) (i : ℕ) (v w : PassKnowledge) → get_elem? all i ≡ some v → sum_by f (set all i w) + f v ≡ sum_by f all + f w
  sum-set [] i v w e = absurd (some-ne-none v (sym e))
  sum-set (x ∷ xs) zero v w e = omega (arith, ap f (some-injective x v e), sum_by-cons f w xs, sum_by-cons f x xs)
  sum-set (x ∷ xs) (suc i) v w e = omega (arith, sum-set xs i v w e, sum_by-cons f x (set xs i w), sum_by-cons f x xs)

  sum-at : (all : List PassKnowledge) (i : ℕ) (v : PassKnowledge) → get_elem? all i ≡ some v → f v ≤ sum_by f all
  sum-at [] i v e = absurd (some-ne-none v (sym e))
  sum-at (x ∷ xs) zero v e = omega (arith, ap f (some-injective x v e), sum_by-cons f x xs)
  sum-at (x ∷ xs) (suc i) v e = omega (arith, sum-at xs i v e, sum_by-cons f x xs)

abbrev share_of : PassKnowledge → ℕ
share_of v = v.share

abbrev firsts_of : PassKnowledge → ℕ
firsts_of v = v.firsts

abbrev Idle : List PassKnowledge → Type 0
Idle all = (p : ℕ) (v : PassKnowledge) → get_elem? all p ≡ some v → v.share ≡ 0 → v.firsts ≡ 0

-- passes with no share were never the first
none-left : (all : List PassKnowledge) → Idle all → sum_by share_of all ≡ 0 → sum_by firsts_of all ≡ 0
none-left [] idle e = refl
none-left (x ∷ xs) idle e =
    let s = sum_by-cons share_of x xs in
    omega (arith, sum_by-cons firsts_of x xs, idle 0 x refl (omega (arith, s, e)), none-left xs (λ p v. idle (suc p) v) (omega (arith, s, e)))

-- a pass with all of the share was the first as often as any was
alone : (all : List PassKnowledge) (i : ℕ) (v : PassKnowledge) → get_elem? all i ≡ some v → Idle all → sum_by share_of all ≡ v.share → sum_by firsts_of all ≡ v.firsts
alone [] i v e idle h = absurd (some-ne-none v (sym e))
alone (x ∷ xs) zero v e idle h =
    let s = sum_by-cons share_of x xs in
    let same_share = ap share_of (some-injective x v e) in
    omega (arith, sum_by-cons firsts_of x xs, ap firsts_of (some-injective x v e), none-left xs (λ p u. idle (suc p) u) (omega (arith, s, h, same_share)))
alone (x ∷ xs) (suc i) v e idle h =
    let s = sum_by-cons share_of x xs in
    let there = sum-at share_of xs i v e in
    omega (arith, sum_by-cons firsts_of x xs, idle 0 x refl (omega (arith, s, h, there)), alone xs i v e (λ p u. idle (suc p) u) (omega (arith, s, h, there)))

-- ---- what holds of each pass

abbrev AllFit : Flag → List PassKnowledge → Type 0
AllFit now all = (p : ℕ) (v : PassKnowledge) → get_elem? all p ≡ some v → Fits now v

-- one pass is another, and the others fit the word as it is now
fit-set : (now : Flag) (all : List PassKnowledge) (pass : ℕ) (w : PassKnowledge) → AllFit now all → Fits now w → AllFit now (set all pass w)
fit-set now all pass w each one p v e = ⊎_elim
    (λ (t : (p ≡ pass) × (w ≡ v)). subst (Fits now) t.1 one)
    (λ (t : (p ≢ pass) × (get_elem? all p ≡ some v)). each p v t.1)
    (at_set all pass p w v e)

fit-more : (now : Flag) (all : List PassKnowledge) (w : PassKnowledge) → AllFit now all → Fits now w → AllFit now (all ++ w ∷ [])
fit-more now all w each one p v e = ⊎_elim (λ was. each p v was) (λ (t : w ≡ v). subst (Fits now) t one) (at_snoc all w v p e)

-- where the word becomes set, what fitted fits
fit-now : (was now : Flag) (all : List PassKnowledge) → now.set ≡ true → AllFit was all → AllFit now all
fit-now was now all is each p v e = record { idle = (each p v e).idle; seen = λ saw. is }

idle-of : (now : Flag) (all : List PassKnowledge) → AllFit now all → Idle all
idle-of now all each p v e = (each p v e).idle

-- ---- the steps

pub opens : (now : Flag) → now.set ≡ false → IsSettled now (opened ∷ [])
opens now clear = record {
  shares = sum_by_push share_of [] opened;
  once = sum_by_push firsts_of [] opened ∙ ap worth (sym clear);
  each = fit-more now [] opened (λ p v e. absurd (some-ne-none v (sym e))) (record { idle = λ none. refl; seen = λ saw. absurd (false≢true saw) });
}

unseen : (a b : Bool) → (a ≡ true → b ≡ true) → b ≡ false → a ≡ false
unseen true b was not = sym (was refl) ∙ not
unseen false b was not = refl

pub looks : (pass : ℕ) (old : PassKnowledge) → Turns IsSettled pass old (λ x. x) HasLooked
looks pass old x all h at =
    let new : PassKnowledge = known old.share old.firsts x.set in (
      new,
      record {
        shares = omega (arith, sum-set share_of all pass old new at, h.shares);
        once = omega (arith, sum-set firsts_of all pass old new at, h.once);
        each = fit-set x all pass new h.each (record { idle = (h.each pass old at).idle; seen = λ saw. saw });
      },
      record {
        set = λ is. ap (λ (b : Bool). known old.share old.firsts b) is;
        unset = λ not. ap (λ (b : Bool). known old.share old.firsts b) (not ∙ sym (unseen old.seen x.set (h.each pass old at).seen not));
        stays = (h.each pass old at).seen;
        whole = λ all_of. sym (alone all pass old at (idle-of x all h.each) (h.shares ∙ sym all_of)) ∙ h.once;
      },
    )

worth-turned : (b : Bool) → worth b + worth (turned b) ≡ 1
worth-turned true = refl
worth-turned false = refl

pub sets : (pass : ℕ) (old : PassKnowledge) (now : Flag) → now.set ≡ true → 0 < old.share → Turns IsSettled pass old (λ _. now) HasSet
sets pass old now is some_share x all h at =
    let new : PassKnowledge = known old.share (old.firsts + worth (turned x.set)) true in (
      new,
      record {
        shares = omega (arith, sum-set share_of all pass old new at, h.shares);
        once = omega (arith, sum-set firsts_of all pass old new at, h.once, worth-turned x.set, ap worth is);
        each = fit-set now all pass new (fit-now x now all is h.each) (record { idle = λ none. absurd (omega (arith, none, some_share)); seen = λ saw. is });
      },
      record { now = refl; once = (h.each pass old at).seen },
    )

-- a pass is cut in two, which have together what it had
forks : (pass : ℕ) (old left right : PassKnowledge) → left.share + right.share ≡ old.share → left.firsts + right.firsts ≡ old.firsts
    → ((now : Flag) → Fits now old → Fits now left × Fits now right) → Forks IsSettled pass old left right
forks pass old left right shares firsts fit x all h at =
    let fits = fit x (h.each pass old at) in
    record {
      shares = omega (arith, sum_by_push share_of (set all pass left) right, sum-set share_of all pass old left at, h.shares, shares);
      once = omega (arith, sum_by_push firsts_of (set all pass left) right, sum-set firsts_of all pass old left at, h.once, firsts);
      each = fit-more x (set all pass left) right (fit-set x all pass left h.each fits.0) fits.1;
    }

pub parts : (pass : ℕ) (old : PassKnowledge) → 1 < old.share → Forks IsSettled pass old (cut old) (given old)
parts pass old more = forks pass old (cut old) (given old) (omega (arith, more)) (omega arith)
    (λ now fits. (
      record { idle = λ none. absurd (omega (arith, none, more)); seen = fits.seen },
      record { idle = λ none. refl; seen = fits.seen },
    ))

fits-spent : (now : Flag) → Fits now spent
fits-spent now = record { idle = λ none. refl; seen = λ saw. absurd (false≢true saw) }

pub leaves : (pass : ℕ) (old : PassKnowledge) → Forks IsSettled pass old spent (same old)
leaves pass old = forks pass old spent (same old) (omega arith) (omega arith) (λ now fits. (fits-spent now, fits))

either-seen : (a b : Bool) (P : Type 0) → (a ≡ true → P) → (b ≡ true → P) → either a b ≡ true → P
either-seen true b P one other saw = one refl
either-seen false b P one other saw = other saw

pub meets : (pass : ℕ) (old : PassKnowledge) (other : ℕ) (w : PassKnowledge) → Merges IsSettled pass old other w (both old w) spent
meets pass old other w x all h at apart at_other =
    let fits_old = h.each pass old at in
    let fits_w = h.each other w (was-there all pass other (both old w) w apart at_other) in
    let more = set all pass (both old w) in
    record {
      shares = omega (arith, sum-set share_of all pass old (both old w) at, sum-set share_of more other w spent at_other, h.shares);
      once = omega (arith, sum-set firsts_of all pass old (both old w) at, sum-set firsts_of more other w spent at_other, h.once);
      each = fit-set x more other spent
          (fit-set x all pass (both old w) h.each (record { idle = λ none. omega (arith, fits_old.idle (omega (arith, none)), fits_w.idle (omega (arith, none))); seen = either-seen old.seen w.seen (x.set ≡ true) fits_old.seen fits_w.seen }))
          (fits-spent x);
    }
  where
    was-there : (all : List PassKnowledge) (pass other : ℕ) (b w : PassKnowledge) → ¬ (other ≡ pass) → get_elem? (set all pass b) other ≡ some w → get_elem? all other ≡ some w
    was-there all pass other b w apart e = ⊎_elim (λ (t : (other ≡ pass) × (b ≡ w)). absurd (apart t.0)) (λ (t : (other ≢ pass) × (get_elem? all other ≡ some w)). t.1) (at_set all pass other b w e)
