-- Each step keeps the rule of registers.
use Rattle.std.proofs.Common.{◌≡◌, ◌∙◌, ℕ, zero, suc, ◌≤◌, true, List, [], ◌∷◌, length, get_or, set, refl, sym, ap, subst, arith}
use Rattle.std.proofs.lemmas.List.{length-replicate, length-set}
use mathlib.Core.Option.{none}
use Rattle.std.specs.Prelude.{slice_index, slice_set}
use Rattle.atomic_table.specs.Table.{Allows, Me, Splits, opening, step}
use Rattle.atomic_table.specs.Table.Act.{keeps}
use Rattle.counters.specs.declared.rule.CellKnowledge.{CellKnowledge}
use Rattle.counters.specs.Registers.{HoldsRegisters, loaded, stored, zeros}
use Rattle.counters.specs.Rule.{HoldsSeqCellRule, opened, same, told}
use Rattle.counters.specs.Snapshots.{NoneFalls}
use Rattle.counters.proofs.Rises.{gives, head_of, opens, reads, same_falls, writes}

abbrev numbers : List ℕ → List ℕ
numbers ns = ns

abbrev AreSoMany : ℕ → List ℕ → Type 0
AreSoMany count ns = length ns ≡ count

set_itself : (ns : List ℕ) (at : ℕ) → slice_set ns at (slice_index ns at) ≡ ns
set_itself [] at = refl
set_itself (n ∷ ns) zero = refl
set_itself (n ∷ ns) (suc at) = ap (λ (l : List ℕ). n ∷ l) (set_itself ns at)

-- a register that gets a number that is not below it
set_falls : (ns : List ℕ) (at n : ℕ) → slice_index ns at ≤ n → NoneFalls ns (slice_set ns at n)
set_falls [] at n h = tt
set_falls (m ∷ ns) zero n h = (h, same_falls ns)
set_falls (m ∷ ns) (suc at) n h = (omega arith, set_falls ns at n h)

module _ (count : ℕ) where
  pub registers_open : HoldsRegisters count (opening (zeros count) [] (opened (zeros count)))
  registers_open = opens numbers (AreSoMany count) (zeros count) (zeros count) refl (length-replicate count 0)

  pub registers_tell : (id : ℕ) (k : CellKnowledge (List ℕ)) → Splits (HoldsRegisters count) id k (same k) (told k)
  registers_tell id k s h seen = gives numbers (AreSoMany count) id k s.words s.views h seen

module _ (count slots id : ℕ) (me : Me (Unit {0}) (CellKnowledge (List ℕ))) (at : ℕ) where
  pub registers_load : Allows (HoldsRegisters count) slots id me at (λ n. n) (loaded (step slots at 0 0 none) me)
  registers_load s h homes seen small =
      let t = reads numbers (AreSoMany count) id me.0 s.words s.views h seen in (
        t.0,
        keeps,
        tt,
        subst (λ (ws : List ℕ). HoldsSeqCellRule numbers (AreSoMany count) ws (set s.views id t.0)) (sym (set_itself s.words at)) t.1,
        (
          record {
            value = ap (λ (ws : List ℕ). slice_index ws at) (sym t.2.now);
            writes = t.2.writes;
            later = t.2.later;
            none_falls = subst (λ (ws : List ℕ). NoneFalls me.0.last ws) (sym t.2.now) t.2.none_falls;
            knows = λ is. (t.2.knows is).1;
          },
          refl,
        ),
      )

  pub registers_store : (n : ℕ) → me.0.writes ≡ true → slice_index me.0.last at ≤ n → Allows (HoldsRegisters count) slots id me at (λ _. n) (λ _. stored (step slots at n 0 none) me n)
  registers_store n is above s h homes seen small =
      let now : me.0.last ≡ s.words = ap (head_of s.words) (h.pen id me.0 seen is) in
      let long : length (slice_set me.0.last at n) ≡ count = length-set me.0.last at n ∙ (ap length now ∙ h.snapshots.0) in
      let t = writes numbers (AreSoMany count) id me.0 (slice_set me.0.last at n) is long (set_falls me.0.last at n above) s.words s.views h seen in (
        t.0,
        keeps,
        tt,
        subst (λ (ws : List ℕ). HoldsSeqCellRule numbers (AreSoMany count) (slice_set ws at n) (set s.views id t.0)) now t.1,
        (t.2, refl),
      )
