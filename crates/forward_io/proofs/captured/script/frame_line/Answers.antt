use Rattle.std.proofs.Common.{◌≡◌, ◌+◌, ◌≤◌, ◌∙◌, ap, sym, subst, length}
use Rattle.text_lines.proofs.Cuts.{left_len, part_counted}
use Rattle.text_lines.specs.Parts.{later_parts, lines_of}
use Rattle.forward_io.specs.Intakes.{frame_line}
use Rattle.forward_io.proofs.Scripts.{at-end, goes-on, stops}
use Rattle.forward_io.proofs.captured.script.frame_line.Goals as goal

pub returns-in_default-left_after : goal.returns-in_default-left_after
returns-in_default-left_after c =
    let same = ap (later_parts 10) c.in-Some.is ∙ c.cut.ensures.parts in
    sym (stops c.loop-rest.line c.loop-rest.left c.cut.result.0.now (later_parts 10 c.cut.result.1) (sym c.left_after.ensures ∙ c.in_default-left_after.is))
    ∙ (ap (frame_line c.loop-rest.line c.loop-rest.left) (sym same) ∙ c.loop-rest.invariant.line)

pub loop-rest-preserved : goal.loop-rest-preserved
loop-rest-preserved c =
    let same = ap (later_parts 10) c.in-Some.is ∙ c.cut.ensures.parts in
    let so_far = subst (λ rest. c.loop-rest.line + left_len rest ≤ length c.args.text.now + 2) c.in-Some.is c.loop-rest.invariant.lines in
    record {
      line = sym (goes-on c.loop-rest.line c.loop-rest.left c.in-Some-left_after.more c.cut.result.0.now (later_parts 10 c.cut.result.1) (sym c.left_after.ensures ∙ c.in-Some-left_after.is))
          ∙ (ap (frame_line c.loop-rest.line c.loop-rest.left) (sym same) ∙ c.loop-rest.invariant.line);
      lines = part_counted c.loop-rest.line (length c.in-Some.bytes.now) (length c.args.text.now + 2) c.cut.result.1 c.cut.ensures.shorter so_far;
    }

pub returns : goal.returns
returns c = sym (at-end c.loop-rest.line c.loop-rest.left) ∙ subst (λ rest. frame_line c.loop-rest.line c.loop-rest.left (later_parts 10 rest) ≡ frame_line 1 c.args.place (lines_of c.args.text.now)) c.in_default.is c.loop-rest.invariant.line
