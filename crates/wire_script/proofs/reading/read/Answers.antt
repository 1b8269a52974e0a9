use Rattle.std.proofs.Common.{◌+◌, ◌≤◌, length, Ok, sym, ap, subst, ◌∙◌}
use Rattle.std.proofs.lemmas.Result.{err_from_is_err_and}
use Rattle.text_lines.proofs.Cuts.{left_len, part_counted}
use Rattle.text_lines.specs.Parts.{later_parts}
use Rattle.wire_script.specs.Script.{script_of}
use Rattle.wire_script.proofs.Steps.{Reads, goes_on, is_read, stops_at, stops_full}
use Rattle.wire_script.proofs.reading.read.Goals as goal

pub returns-in_err-line_of : goal.returns-in_err-line_of
returns-in_err-line_of c =
    let same = ap (later_parts 10) c.in-Some.is ∙ c.cut.ensures.parts in
    let before = subst (λ lines. Reads c.loop-rest.frames.items (c.loop-rest.line + 1) lines (script_of c.args.text.now)) same c.loop-rest.invariant.reads in
    let p = err_from_is_err_and c.from_residual.result c.from_residual.ensures.1 in
    rw (p.1, p.2) (stops_at c.in_err-line_of.field-0.0 c.loop-rest.frames.items (c.loop-rest.line + 1) c.cut.result.0.now (later_parts 10 c.cut.result.1) (script_of c.args.text.now) c.in_err-line_of.ensures before)

pub returns-in_err-add : goal.returns-in_err-add
returns-in_err-add c =
    let same = ap (later_parts 10) c.in-Some.is ∙ c.cut.ensures.parts in
    let before = subst (λ lines. Reads c.loop-rest.frames.items (c.loop-rest.line + 1) lines (script_of c.args.text.now)) same c.loop-rest.invariant.reads in
    let p = err_from_is_err_and c.from_residual-in_err-add.result c.from_residual-in_err-add.ensures.1 in
    rw (p.1, p.2) (stops_full c.in_err-add.field-0.0 c.loop-rest.frames.items (c.loop-rest.line + 1) c.cut.result.0.now (later_parts 10 c.cut.result.1) c.in_ok-line_of.field-0 (script_of c.args.text.now) c.in_ok-line_of.ensures c.in_err-add.ensures.err before)

pub loop-rest-preserved : goal.loop-rest-preserved
loop-rest-preserved c =
    let same = ap (later_parts 10) c.in-Some.is ∙ c.cut.ensures.parts in
    let before = subst (λ lines. Reads c.loop-rest.frames.items (c.loop-rest.line + 1) lines (script_of c.args.text.now)) same c.loop-rest.invariant.reads in
    let so_far = subst (λ rest. c.loop-rest.line + left_len rest ≤ length c.args.text.now + 1) c.in-Some.is c.loop-rest.invariant.lines in
    record {
      reads = subst (λ frames. Reads frames (c.loop-rest.line + 1 + 1) (later_parts 10 c.cut.result.1) (script_of c.args.text.now)) (sym c.in_ok-add.ensures.added)
          (goes_on c.loop-rest.frames.items (c.loop-rest.line + 1) c.cut.result.0.now (later_parts 10 c.cut.result.1) c.in_ok-line_of.field-0 (script_of c.args.text.now) c.in_ok-line_of.ensures c.in_ok-add.ensures.room before);
      lines = part_counted c.loop-rest.line (length c.in-Some.left.now) (length c.args.text.now + 1) c.cut.result.1 c.cut.ensures.shorter so_far;
    }

pub returns : goal.returns
returns c =
    let done = subst (λ rest. Reads c.loop-rest.frames.items (c.loop-rest.line + 1) (later_parts 10 rest) (script_of c.args.text.now)) c.in_default.is c.loop-rest.invariant.reads in
    is_read c.loop-rest.frames.items (c.loop-rest.line + 1) (script_of c.args.text.now) done ∙ sym (ap Ok c.new.ensures)
