-- Each step keeps the rule of a cell.
use Rattle.std.proofs.Common.{◌≡◌, ◌≢◌, ◌∙◌, ℕ, zero, suc, true, List, [], ◌∷◌, ◌++◌, drop, set, refl, sym, ap, subst, ⊎_elim, arith}
use Rattle.std.proofs.lemmas.Bool.{false≢true}
use mathlib.Core.Option.{some, some-ne-none, some-injective}
use lib.ListN.{get_elem?}
use Rattle.crossbeam_utils.specs.Register.{Turns, Forks}
use Rattle.atomic_table.proofs.Lists.{at_set, at_snoc, set_again}
use Rattle.counters.specs.declared.rule.CellKnowledge.{CellKnowledge}
use Rattle.counters.specs.Snapshots.{AreSnapshots, Follows, GoesOn, NoneFalls}
use Rattle.counters.specs.Rule.{HoldsSeqCellRule, HasRead, HasWritten, known, snapshots_of, opened, told}

-- no number falls where nothing changes, nor over two changes at which none does
pub same_falls : (xs : List ℕ) → NoneFalls xs xs
same_falls [] = tt
same_falls (x ∷ xs) = (omega arith, same_falls xs)

falls_on : (xs ys zs : List ℕ) → NoneFalls xs ys → NoneFalls ys zs → NoneFalls xs zs
falls_on [] [] [] f g = tt
falls_on [] [] (z ∷ zs) f g = g
falls_on [] (y ∷ ys) zs f g = absurd f
falls_on (x ∷ xs) [] zs f g = absurd f
falls_on (x ∷ xs) (y ∷ ys) [] f g = absurd g
falls_on (x ∷ xs) (y ∷ ys) (z ∷ zs) f g = let a = f.0 in let b = g.0 in (omega arith, falls_on xs ys zs f.1 g.1)

alone : {X : Type 0} (a v : X) (j : ℕ) → get_elem? (a ∷ []) j ≡ some v → (j ≡ 0) × (a ≡ v)
alone a v zero e = (refl, some-injective a v e)
alone a v (suc j) e = absurd (some-ne-none v (sym e))

module _ {T : Type 0} where
  abbrev OnePen : List (CellKnowledge T) → Type 0
  OnePen all = (p q : ℕ) (j k : CellKnowledge T) → get_elem? all p ≡ some j → get_elem? all q ≡ some k → j.writes ≡ true → k.writes ≡ true → p ≡ q

  -- a pass that writes as before
  one_set : (all : List (CellKnowledge T)) (pass : ℕ) (old new : CellKnowledge T) → get_elem? all pass ≡ some old → new.writes ≡ old.writes → OnePen all → OnePen (set all pass new)
  one_set all pass old new at same one p q j k e f x y = ⊎_elim
      (λ (s : (p ≡ pass) × (new ≡ j)). ⊎_elim
      (λ (t : (q ≡ pass) × (new ≡ k)). s.0 ∙ sym t.0)
      (λ (t : (q ≢ pass) × (get_elem? all q ≡ some k)). s.0 ∙ one pass q old k at t.1 (sym same ∙ ap (λ (u : CellKnowledge T). u.writes) s.1 ∙ x) y)
      (at_set all pass q new k f))
      (λ (s : (p ≢ pass) × (get_elem? all p ≡ some j)). ⊎_elim
      (λ (t : (q ≡ pass) × (new ≡ k)). one p pass j old s.1 at x (sym same ∙ ap (λ (u : CellKnowledge T). u.writes) t.1 ∙ y) ∙ sym t.0)
      (λ (t : (q ≢ pass) × (get_elem? all q ≡ some k)). one p q j k s.1 t.1 x y)
      (at_set all pass q new k f))
      (at_set all pass p new j e)

  abbrev pub head_of : T → List T → T
  head_of x [] = x
  head_of x (y ∷ ys) = y

module _ {T : Type 0} (words : T → List ℕ) (lawful : T → Type 0) where
  pub opens : (opening now : T) → now ≡ opening → lawful now → HoldsSeqCellRule words lawful now (opened opening ∷ [])
  opens opening now same ok = let one_only : (k : CellKnowledge T) (pass : ℕ) → get_elem? (opened opening ∷ []) pass ≡ some k → snapshots_of k ≡ now ∷ [] = λ k pass e. sym (ap (λ (o : T). o ∷ []) same ∙ ap (λ (u : CellKnowledge T). snapshots_of u) (alone (opened opening) k pass e).1) in record {
    before = [];
    snapshots = (ok, tt, tt);
    each = λ pass k e. ([], sym (one_only k pass e));
    pen = λ pass k e writes. one_only k pass e;
    one = λ p q j k e f x y. (alone (opened opening) j p e).0 ∙ sym (alone (opened opening) k q f).0;
  }

  -- what follows moments is no less than the newest of them
  follows_newest : (later : List T) (old : T) (earlier : List T) (x : T) → Follows words lawful (later ++ old ∷ earlier) x → NoneFalls (words (head_of old (later ++ old ∷ earlier))) (words x)
  follows_newest [] old earlier x f = f
  follows_newest (y ∷ later) old earlier x f = f

  -- from any moment to the newest no number falls
  falls_to_newest : (later : List T) (old : T) (earlier : List T) → AreSnapshots words lawful (later ++ old ∷ earlier) → NoneFalls (words old) (words (head_of old (later ++ old ∷ earlier)))
  falls_to_newest [] old earlier are = same_falls (words old)
  falls_to_newest (x ∷ later) old earlier are = falls_on (words old) (words (head_of old (later ++ old ∷ earlier))) (words x) (falls_to_newest later old earlier are.2) (follows_newest later old earlier x are.1)

  goes_on_falls : (old : T) (earlier : List T) (now : T) (before : List T) → AreSnapshots words lawful (now ∷ before) → GoesOn (old ∷ earlier) (now ∷ before) → NoneFalls (words old) (words now)
  goes_on_falls old earlier now before are on = subst (λ (l : List T). NoneFalls (words old) (words (head_of old l))) (sym on.1)
      (falls_to_newest on.0 old earlier (subst (λ (l : List T). AreSnapshots words lawful l) on.1 are))

  -- a view that knows all moments knows the newest
  known_all : (old : CellKnowledge T) (x : T) (before : List T) → snapshots_of old ≡ x ∷ before → (x ≡ old.last) × (known old.writes x before ≡ old)
  known_all old x before all =
      let same : x ≡ old.last = sym (ap (head_of x) all) in
      let earlier : before ≡ old.earlier = sym (ap (drop 1) all) in
      (same, ap (λ (y : T). known old.writes y before) same ∙ ap (known old.writes old.last) earlier)

  pub reads : (pass : ℕ) (old : CellKnowledge T) → Turns (HoldsSeqCellRule words lawful) pass old (λ x. x) (HasRead words lawful)
  reads pass old x all h at =
      let new : CellKnowledge T = known old.writes x h.before in (
        new,
        record {
          before = h.before;
          snapshots = h.snapshots;
          each = λ p k e. ⊎_elim (λ (t : (p ≡ pass) × (new ≡ k)). ([], ap (λ (z : CellKnowledge T). snapshots_of z) t.1)) (λ (t : (p ≢ pass) × (get_elem? all p ≡ some k)). h.each p k t.1) (at_set all pass p new k e);
          pen = λ p k e writes. ⊎_elim (λ (t : (p ≡ pass) × (new ≡ k)). sym (ap (λ (z : CellKnowledge T). snapshots_of z) t.1)) (λ (t : (p ≢ pass) × (get_elem? all p ≡ some k)). h.pen p k t.1 writes) (at_set all pass p new k e);
          one = one_set all pass old new at refl h.one;
        },
        record { writes = refl; now = refl; later = h.each pass old at; lawful_now = h.snapshots.0; none_falls = goes_on_falls old.last old.earlier x h.before h.snapshots (h.each pass old at); knows = λ is. known_all old x h.before (h.pen pass old at is) },
      )

  pub writes : (pass : ℕ) (old : CellKnowledge T) (x : T) → old.writes ≡ true → lawful x → NoneFalls (words old.last) (words x) → Turns (HoldsSeqCellRule words lawful) pass old (λ _. x) (HasWritten words lawful)
  writes pass old x is ok rises was all h at =
      let new : CellKnowledge T = known old.writes x (snapshots_of old) in
      let now : snapshots_of old ≡ was ∷ h.before = h.pen pass old at is in (
        new,
        record {
          before = was ∷ h.before;
          snapshots = (ok, subst (λ (l : List T). Follows words lawful l x) now rises, h.snapshots);
          each = λ p k e. ⊎_elim (λ (t : (p ≡ pass) × (new ≡ k)). ([], ap (λ (l : List T). x ∷ l) (sym now) ∙ ap (λ (z : CellKnowledge T). snapshots_of z) t.1))
              (λ (t : (p ≢ pass) × (get_elem? all p ≡ some k)). let known_before = h.each p k t.1 in (x ∷ known_before.0, ap (λ (l : List T). x ∷ l) known_before.1)) (at_set all pass p new k e);
          pen = λ p k e writes. ⊎_elim (λ (t : (p ≡ pass) × (new ≡ k)). sym (ap (λ (l : List T). x ∷ l) (sym now) ∙ ap (λ (z : CellKnowledge T). snapshots_of z) t.1))
              (λ (t : (p ≢ pass) × (get_elem? all p ≡ some k)). absurd (t.0 (h.one p pass k old t.1 at writes is))) (at_set all pass p new k e);
          one = one_set all pass old new at refl h.one;
        },
        refl,
      )

  pub gives : (pass : ℕ) (old : CellKnowledge T) → Forks (HoldsSeqCellRule words lawful) pass old old (told old)
  gives pass old x all h at = subst (λ (l : List (CellKnowledge T)). HoldsSeqCellRule words lawful x (l ++ told old ∷ [])) (sym (set_again all pass old at)) (record {
    before = h.before;
    snapshots = h.snapshots;
    each = λ p k e. ⊎_elim (λ was. h.each p k was) (λ (same : told old ≡ k). subst (λ (z : CellKnowledge T). GoesOn (snapshots_of z) (x ∷ h.before)) same (h.each pass old at)) (at_snoc all (told old) k p e);
    pen = λ p k e writes. ⊎_elim (λ was. h.pen p k was writes) (λ (same : told old ≡ k). absurd (false≢true (ap (λ (z : CellKnowledge T). z.writes) same ∙ writes))) (at_snoc all (told old) k p e);
    one = λ p q j k e f y z. ⊎_elim (λ was. ⊎_elim (λ also. h.one p q j k was also y z) (λ (same : told old ≡ k). absurd (false≢true (ap (λ (u : CellKnowledge T). u.writes) same ∙ z))) (at_snoc all (told old) k q f))
        (λ (same : told old ≡ j). absurd (false≢true (ap (λ (u : CellKnowledge T). u.writes) same ∙ y))) (at_snoc all (told old) j p e);
  })
