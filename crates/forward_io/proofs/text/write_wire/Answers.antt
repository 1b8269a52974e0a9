use Rattle.std.proofs.Common.{◌≡◌, ◌++◌, ◌∷◌, ◌∙◌, ap, sym, map, refl, rules}
use Rattle.std.specs.String.{string_bytes}
use Rattle.wire_script.specs.Frame.{frame_of}
use Rattle.wire_script.specs.Script.{text_for}
use Rattle.forward_io.proofs.Lines.{frame-more}
use Rattle.forward_io.proofs.text.write_wire.Goals as goal

pub loop-frame-init : goal.loop-frame-init
loop-frame-init c = rw (c.into_iter-frame-iterator.ensures.into_iter_gives, c.iter-frame-items.ensures) refl

pub loop-frame-preserved : goal.loop-frame-preserved
loop-frame-preserved c =
    let rest = c.next.new.self in
    let first : c.loop-frame.frame-iterator ≡ c.in-Some.frame.now ∷ rest = search rules in
    frame-more c.args.port c.args.queue c.in-Some.frame.now rest
    (string_bytes c.loop-frame.text) (string_bytes c.print_line.new.text) _
    (ap (λ (it : _). string_bytes c.loop-frame.text ++ text_for (map (frame_of c.args.port c.args.queue) it)) (sym first) ∙ c.loop-frame.invariant)
    c.in-Ok.ensures.line
