-- Each place is written behind those before it.
use Rattle.std.proofs.Common.{◌≡◌, ℕ, suc, ◌+◌, ◌++◌, List, ap, ◌∙◌, arith, append_assoc}
use Rattle.std.specs.String.{string_bytes}
use Rattle.ring_model.specs.shared.Agreement.{Wrapped}
use Rattle.ring_machine.specs.declared.registers.QueueKind.{QueueKind}
use Rattle.pictures.specs.Pictures.{heading, place_text, places_text}
use Rattle.pictures.proofs.picture.write_picture.Goals as goal

places-one_more : (kind : QueueKind) (w : Wrapped ℕ) (place : ℕ) → places_text kind w place ++ place_text kind w place ≡ places_text kind w (place + 1)
places-one_more kind w place = let next : suc place ≡ place + 1 = omega arith in ap (places_text kind w) next

pub loop-place-preserved : goal.loop-place-preserved
loop-place-preserved c =
    let kind = c.args.kind in let w = c.args.machine.now in let l = c.loop-place in let before = string_bytes c.push_str.new.self in
    c.in_ok-write_place.ensures ∙ (ap (λ (bytes : List ℕ). bytes ++ place_text kind w l.place) l.invariant ∙ (append_assoc before (places_text kind w l.place) (place_text kind w l.place) ∙ ap (λ (bytes : List ℕ). before ++ bytes) (places-one_more kind w l.place)))

pub returns : goal.returns
returns c =
    let kind = c.args.kind in let w = c.args.machine.now in let l = c.loop-place in let old = string_bytes c.args.text.now in
    let all : l.place ≡ w.size = omega arith in
    l.invariant ∙ (ap (λ (bytes : List ℕ). bytes ++ places_text kind w l.place) c.in_ok-push_str.ensures.bytes ∙ (append_assoc old heading (places_text kind w l.place) ∙ ap (λ (count : ℕ). old ++ (heading ++ places_text kind w count)) all))
