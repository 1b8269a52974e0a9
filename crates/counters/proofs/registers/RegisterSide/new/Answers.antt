use Rattle.counters.proofs.Registering.{registers_open}
use Rattle.counters.proofs.registers.RegisterSide.new.Goals as goal

pub of_words-requires : goal.of_words-requires
of_words-requires c = rw (c.as_slice.ensures.value, c.in_ok-zeros.ensures.items_if_clones_equal (λ y h. h)) (registers_open c.args.count)
