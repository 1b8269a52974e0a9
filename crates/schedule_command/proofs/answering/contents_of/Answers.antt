-- One list more is shown.
use Rattle.std.proofs.Common.{◌∙◌, ◌++◌, List, ℕ, ap}
use Rattle.std.specs.String.{string_bytes}
use Rattle.schedule_command.proofs.Printing.{one-shown}
use Rattle.schedule_command.proofs.answering.contents_of.Goals as goal

pub loop-number-preserved : goal.loop-number-preserved
loop-number-preserved c =
    let now = string_bytes c.loop-number.contents in let one = string_bytes c.in_ok-content.content in
    record {
      so_far = one-shown c.args.request.now c.loop-number.number now one (string_bytes c.push_str.new.self) c.in_ok-content.ensures.done
          (c.in_ok-push_str.ensures.bytes ∙ ap (λ (t : List ℕ). now ++ t) c.as_str.ensures.value) c.loop-number.invariant.so_far;
      able = λ some off. let bad = c.in_ok-content.ensures.no_queues off in let never : ⊥ = cc bad in never;
    }
