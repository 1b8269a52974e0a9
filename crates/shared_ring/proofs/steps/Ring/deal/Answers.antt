-- The first seat takes all slots, and is cut into the seats of the two ends.
use Rattle.std.proofs.Common.{rules, refl, ◌≡◌, ◌≤◌, [], length, ap, ◌∙◌, arith}
use Rattle.std.proofs.lemmas.List.{length-replicate}
use Rattle.buffer_pool.specs.Buffer.{blank}
use Rattle.shared_ring.specs.Tables.{words_of}
use Rattle.shared_ring.proofs.SeatRules.{words-big}
use Rattle.shared_ring.proofs.Meeting.{deal-asks, halve-asks}
use Rattle.shared_ring.proofs.steps.Ring.deal.Goals as goal

pub load-requires : goal.load-requires
load-requires g c =
    let made = c.in-Ok.ensures.ok in
    let least : 8 ≤ c.args.size = c.requires.length.0 in
    let big = words-big c.args.size c.args.completion in
    let words : c.in-Ok.table.shared.table_id.words ≡ words_of c.args.size c.args.completion = made.0 ∙ ap length (c.as_slice.ensures.value ∙ c.in_ok-words.ensures) ∙ length-replicate (words_of c.args.size c.args.completion) 0 in (
      made.2,
      omega arith,
      deal-asks g.R.Direction.form c.requires.law c.args.size c.args.completion c.in-Ok.table.shared.key c.in-Ok.table.shared.table_id.slots c.in-Ok.seat.id c.in-Ok.seat.me (omega arith) c.requires.reports made.5 (made.1 ∙ ap length c.in_ok-blanks.ensures ∙ length-replicate c.args.size blank) made.4,
    )

pub split_seat-completed-requires : goal.split_seat-completed-requires
split_seat-completed-requires g c =
    let made = c.in-Ok.ensures.ok in
    let big = words-big c.args.size c.args.completion in
    let words : c.in-Ok.table.shared.table_id.words ≡ words_of c.args.size c.args.completion = made.0 ∙ ap length (c.as_slice.ensures.value ∙ c.in_ok-words.ensures) ∙ length-replicate (words_of c.args.size c.args.completion) 0 in (
      c.load.ensures.0 ∙ made.2,
      omega arith,
      halve-asks g.R.Direction.form c.requires.law c.in-Ok.table.shared.key c.load.new.seat.id c.load.new.seat.me.0 [] [] (ap (λ m. m.0) c.load.ensures.2.seat),
    )

pub returns : goal.returns
returns g c = let made = c.in-Ok.ensures.ok in record {
  length_is = c.requires.length;
  size_is = made.1 ∙ ap length c.in_ok-blanks.ensures ∙ length-replicate c.args.size blank;
  driver_own = search rules;
  controller_own = search rules;
  driver_reports = refl;
  controller_reports = refl;
  driver_empty = search rules;
  controller_empty = search rules;
}
