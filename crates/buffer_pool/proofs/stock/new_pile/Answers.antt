use Rattle.std.proofs.Common.{◌≡◌, ℕ, ◌+◌, ◌-◌, List, [], ◌∷◌, refl, sym, ap, ◌∙◌, arith}
use Rattle.buffer_pool.specs.Buffer.{Buffer, buffer}
use Rattle.buffer_pool.proofs.Numbers.{range_with_len-before}
use Rattle.buffer_pool.proofs.Pile.{numbers_of-push, AllReady-push}
use Rattle.buffer_pool.proofs.stock.new_pile.Goals as goal

pub loop-number-preserved : goal.loop-number-preserved
loop-number-preserved c =
    let number : ℕ = c.loop-number.number in
    let before : List Buffer = c.loop-number.pile.items in
    let made : c.in_ok-new.field-0 ≡ buffer (number - 1) [] = c.in_ok-new.ensures in
    let pushed = rw made at c.push_reserved.ensures.items in
    let top = numbers_of-push before (buffer (number - 1) []) in
    let below = ap (λ (numbers : List ℕ). (number - 1) ∷ numbers) c.loop-number.invariant.numbers in
    let range = range_with_len-before number (c.args.first + c.args.count) (omega arith) (omega arith) in
    record {
      numbers = rw pushed (top ∙ below ∙ sym range);
      ready = rw pushed (AllReady-push before (buffer (number - 1) []) c.loop-number.invariant.ready refl);
      made = omega arith;
      room = rw c.push_reserved.ensures.capacity c.loop-number.invariant.room;
    }
