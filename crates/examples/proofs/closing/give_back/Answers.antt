-- What came back is what was out.
use Rattle.std.proofs.Common.{rules, ◌≡◌, ℕ, ◌+◌, List, ◌∷◌, ◌++◌, length, Option, Some, None, IfSome, IsPermutation, sym, ap, ◌∙◌, subst, arith, append-nil}
use Rattle.std.proofs.lemmas.List.Elements.{All-tail}
use Rattle.std.proofs.lemmas.List.Sorted.{IsPermutation-trans, IsPermutation-append_right}
use Rattle.std.specs.List.{range_with_len}
use Rattle.std.specs.Vec.Iter.{into_iter_items, into_iter_len}
use Rattle.buffer_pool.specs.Buffer.{Buffer}
use Rattle.buffer_pool.specs.Stocked.{Stocked, Shares}
use Rattle.buffer_pool.proofs.Numbers.{IsOut-from_Shares}
use Rattle.rx_ring.specs.Ends.{DriverSide, ControllerSide, held}
use Rattle.rx_ring.specs.Meeting.{out_of, AllCameBack, AllReal, IsReal, numbers_at}
use Rattle.shared_ring.specs.Meeting.{number_at}
use Rattle.examples.proofs.closing.give_back.Goals as goal

-- where none is held, all that was out came back
came-back : (s : Stocked) (d : DriverSide) (c : ControllerSide) (xs : List (Option Buffer)) → Shares s (out_of d) → AllCameBack d c xs → held c ≡ None → Shares s (numbers_at xs)
came-back s d c xs shares back none = IsPermutation-trans (range_with_len s.first s.count) (s.numbers ++ out_of d) (s.numbers ++ numbers_at xs) shares
    (IsPermutation-append_right s.numbers (out_of d) (numbers_at xs)
    (subst (λ (ns : List ℕ). IsPermutation (out_of d) ns) (ap (λ (o : Option Buffer). numbers_at xs ++ number_at o) none ∙ append-nil (numbers_at xs)) back))

-- the next one, and those behind it
next-back : (s : Stocked) (o : Option Buffer) (items rest : List (Option Buffer)) (b : Buffer) → items ≡ o ∷ rest → o ≡ Some b → Shares s (numbers_at items) → Shares s (b.number ∷ numbers_at rest)
next-back s o items rest b e is h = subst (λ (xs : List (Option Buffer)). Shares s (numbers_at xs)) (e ∙ ap (λ (x : Option Buffer). x ∷ rest) is) h

none-back : (s : Stocked) (o : Option Buffer) (items rest : List (Option Buffer)) → items ≡ o ∷ rest → o ≡ None → Shares s (numbers_at items) → Shares s (numbers_at rest)
none-back s o items rest e is h = subst (λ (xs : List (Option Buffer)). Shares s (numbers_at xs)) (e ∙ ap (λ (x : Option Buffer). x ∷ rest) is) h

real-rest : (o : Option Buffer) (items rest : List (Option Buffer)) → items ≡ o ∷ rest → AllReal items → AllReal rest
real-rest o items rest e h = All-tail (λ (x : Option Buffer). IfSome x IsReal) o rest (subst AllReal e h)

one-less : (o : Option Buffer) (items rest : List (Option Buffer)) (before after : ℕ) → items ≡ o ∷ rest → after + 1 ≡ before → before ≡ length items → after ≡ length rest
one-less o items rest before after e less all = let n : length items ≡ length (o ∷ rest) = ap length e in omega arith

pub loop-slot-init : goal.loop-slot-init
loop-slot-init c = let g = c.into_iter-slot-iterator.ensures.into_iter_gives in let e = c.close-slot-items.ensures in record {
  shared = subst (λ (xs : List (Option Buffer)). Shares c.args.stock.now (numbers_at xs)) (sym g.0) (came-back c.args.stock.now c.args.driver c.args.controller c.close-slot-items.result.items c.requires.shared e.once c.requires.free);
  real = subst AllReal (sym g.0) e.real;
  left = search rules;
}

pub give-requires-clause-out : goal.give-requires-clause-out
give-requires-clause-out c = let at = c.loop-slot in let e = c.in-Some.ensures.steps in
    IsOut-from_Shares at.stock c.in-Some-slot.buf.number (numbers_at (into_iter_items c.next.new.self))
    (next-back at.stock c.in-Some.slot (into_iter_items at.slot-iterator) (into_iter_items c.next.new.self) c.in-Some-slot.buf e.0 c.in-Some-slot.is at.invariant.shared)

pub loop-slot-preserved-in-Some-slot : goal.loop-slot-preserved-in-Some-slot
loop-slot-preserved-in-Some-slot c = let at = c.loop-slot in let e = c.in-Some.ensures.steps in record {
  shared = c.give.ensures.shared (numbers_at (into_iter_items c.next.new.self))
      (next-back at.stock c.in-Some.slot (into_iter_items at.slot-iterator) (into_iter_items c.next.new.self) c.in-Some-slot.buf e.0 c.in-Some-slot.is at.invariant.shared);
  real = real-rest c.in-Some.slot (into_iter_items at.slot-iterator) (into_iter_items c.next.new.self) e.0 at.invariant.real;
  left = one-less c.in-Some.slot (into_iter_items at.slot-iterator) (into_iter_items c.next.new.self) (into_iter_len at.slot-iterator) (into_iter_len c.next.new.self) e.0 e.1 at.invariant.left;
}

pub loop-slot-preserved : goal.loop-slot-preserved
loop-slot-preserved c = let at = c.loop-slot in let e = c.in-Some.ensures.steps in record {
  shared = none-back at.stock c.in-Some.slot (into_iter_items at.slot-iterator) (into_iter_items c.next.new.self) e.0 c.in_default.is at.invariant.shared;
  real = real-rest c.in-Some.slot (into_iter_items at.slot-iterator) (into_iter_items c.next.new.self) e.0 at.invariant.real;
  left = one-less c.in-Some.slot (into_iter_items at.slot-iterator) (into_iter_items c.next.new.self) (into_iter_len at.slot-iterator) (into_iter_len c.next.new.self) e.0 e.1 at.invariant.left;
}
