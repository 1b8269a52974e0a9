-- A place that asks for no report is passed over.
use Rattle.std.proofs.Common.{◌≡◌, ℕ, suc, ◌+◌, ◌-◌, false, List, refl, sym, ap, ◌∙◌, arith}
use Rattle.std.specs.Prelude.{slice_index}
use Rattle.ring_model.specs.shared.Places.{place_next}
use Rattle.ring_machine.specs.code.Words.{first_asking, word_asks}
use Rattle.ring_machine.proofs.machine.words.first_asking.Goals as goal

passed : (words : List ℕ) (n place after k left : ℕ) → k ≡ suc left → after ≡ place_next n place → word_asks (slice_index words place) ≡ false → first_asking words n after left ≡ first_asking words n place k
passed words n place after k left e f no_report = rw (e, f) (rw no_report refl)

pub loop-i-preserved : goal.loop-i-preserved
loop-i-preserved c = let t = c.loop-i in let lt = c.loop-i-test.true in let after = c.place_after-place.ensures in
    record {
      inside = after.below;
      rest = passed c.args.words.now c.args.size t.place c.place_after-place.result (c.args.count - t.i) (c.args.count - (t.i + 1)) (omega arith) after.value
          (ap (λ (q : ℕ). word_asks (slice_index c.args.words.now q)) (sym c.from.ensures) ∙ sym c.if-word_asks.ensures) ∙ t.invariant.rest;
    }
