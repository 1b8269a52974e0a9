-- Each line that is to be read is a move's, and adds that move's line to the page.
use Rattle.std.proofs.Common.{◌+◌, ◌++◌, ◌≤◌, length, List, ℕ, refl, sym, ap, subst, ◌∙◌, arith}
use Rattle.std.specs.Result.{is_ok}
use Rattle.std.specs.String.{string_bytes}
use Rattle.text_lines.specs.Parts.{later_parts}
use Rattle.text_lines.proofs.Cuts.{left_len, part_counted}
use Rattle.commands.specs.Replay.{drawn_of}
use Rattle.commands.proofs.Replaying.{PageSoFar, one-at_most, page-first, page-last, page-more, page-skipped, read-said, unread-line}
use Rattle.commands.proofs.replay.page_of.Goals as goal

pub loop-rest-init : goal.loop-rest-init
loop-rest-init c = record { page = page-first c.args.shown c.args.text.now (string_bytes c.in_ok-page.page) c.args.queues.now c.in_ok-page.ensures; few = omega arith; lines = omega arith }

pub loop-rest-preserved-then-not-says_something : goal.loop-rest-preserved-then-not-says_something
loop-rest-preserved-then-not-says_something c =
    let l = c.loop-rest in let line = c.cut.result.0.now in let later = later_parts 10 c.cut.result.1 in
    let same = ap (later_parts 10) c.in-Some.is ∙ c.cut.ensures.parts in
    let before = subst (λ (lines : List (List ℕ)). PageSoFar c.args.shown c.args.text.now (string_bytes l.page) l.made l.read l.last lines c.args.queues.now l.queues) same l.invariant.page in
    let so_far = subst (λ rest. l.read + left_len rest ≤ length c.args.text.now + 1) c.in-Some.is l.invariant.lines in
    let counted = part_counted l.read (length c.in-Some.left.now) (length c.args.text.now + 1) c.cut.result.1 c.cut.ensures.shorter so_far in
    record { page = page-skipped c.args.shown c.args.text.now (string_bytes l.page) l.made l.read l.last line later c.args.queues.now l.queues (sym c.if-not-says_something.ensures) before; few = l.invariant.few; lines = omega arith }

pub loop-rest-preserved-in-Ok : goal.loop-rest-preserved-in-Ok
loop-rest-preserved-in-Ok c =
    let l = c.loop-rest in let line = c.cut.result.0.now in let later = later_parts 10 c.cut.result.1 in
    let same = ap (later_parts 10) c.in-Some.is ∙ c.cut.ensures.parts in
    let before = subst (λ (lines : List (List ℕ)). PageSoFar c.args.shown c.args.text.now (string_bytes l.page) l.made l.read l.last lines c.args.queues.now l.queues) same l.invariant.page in
    let so_far = subst (λ rest. l.read + left_len rest ≤ length c.args.text.now + 1) c.in-Some.is l.invariant.lines in
    let said = (c.in-Ok.ensures.exact c.in-Ok.action).0 refl in let added = c.from.ensures in let few = one-at_most c.in_ok-write_move.field-0 c.from.result added in let made_few = l.invariant.few in
    record {
      page = page-more c.args.shown c.args.text.now (string_bytes l.page) (string_bytes c.write_move.new.page) l.made c.from.result l.read c.in_ok-write_move.field-0 l.last line later c.args.queues.now l.queues c.write_move.new.queues c.in-Ok.action (sym c.if-not-says_something.ensures) said.0 said.1 c.in_ok-write_move.ensures added before;
      few = omega arith;
      lines = part_counted l.read (length c.in-Some.left.now) (length c.args.text.now + 1) c.cut.result.1 c.cut.ensures.shorter so_far;
    }

pub loop-rest-preserved : goal.loop-rest-preserved
loop-rest-preserved c =
    let l = c.loop-rest in let line = c.cut.result.0.now in let later = later_parts 10 c.cut.result.1 in
    let same = ap (later_parts 10) c.in-Some.is ∙ c.cut.ensures.parts in
    let before = subst (λ (lines : List (List ℕ)). PageSoFar c.args.shown c.args.text.now (string_bytes l.page) l.made l.read l.last lines c.args.queues.now l.queues) same l.invariant.page in
    let none = unread-line line c.parse.result c.parse.ensures.exact (sym c.if-not-says_something.ensures) (ap is_ok c.in_default-parse.is) in
    absurd (read-said c.args.shown c.args.text.now (string_bytes l.page) l.made l.read l.last line later c.args.queues.now l.queues c.requires none before)

pub returns : goal.returns
returns c pairs n w reached agrees =
    let l = c.loop-rest in
    let done = subst (λ rest. PageSoFar c.args.shown c.args.text.now (string_bytes l.page) l.made l.read l.last (later_parts 10 rest) c.args.queues.now l.queues) c.in_default.is l.invariant.page in
    page-last c.args.shown w pairs n c.args.text.now (string_bytes l.page) (string_bytes c.draw.new.page) (string_bytes c.write_count.new.page) l.made l.read l.last c.args.queues.now l.queues reached agrees
    (c.in_ok-draw.ensures ∙ ap (λ o. string_bytes l.page ++ drawn_of c.args.shown.pictures l.queues o) c.at_last.ensures) c.in_ok-write_count.ensures done
