use Rattle.std.proofs.Common.{◌≡◌, ◌∙◌, ◌∷◌, List, Option, IfSome, subst}
use Rattle.std.proofs.lemmas.List.Elements.{All-rest}
use Rattle.std.specs.Vec.Iter.{into_iter_items}
use Rattle.buffer_pool.specs.Buffer.{Buffer}
use Rattle.buffer_accounting.specs.Lent.{Exchanged}
use Rattle.buffer_accounting.proofs.Giving.{exchanged-given}
use Rattle.shared_ring.specs.Meeting.{IsReal, number_at, numbers_at}
use Rattle.forwarder.proofs.giving.give_places.Goals as goal

pub loop-place-preserved : goal.loop-place-preserved
loop-place-preserved g c =
    let was = c.loop-place.invariant in
    let held = c.args.pass.now.hand.held in
    let all = numbers_at c.args.places.items in
    let place = c.in-Some.place in
    let rest = into_iter_items c.loop-place.place-iterator in
    let rest' = into_iter_items c.next.new.self in
    let first : rest ≡ place ∷ rest' = c.in-Some.ensures.steps.0 in
    let now = c.loop-place.pass.hand.held in
    record {
      pool = c.give_place.ensures.pool;
      share = c.give_place.ensures.share ∙ was.share;
      real = All-rest (λ (o : Option Buffer). IfSome o IsReal) place rest' rest first was.real;
      given = exchanged-given held all now (number_at place) (numbers_at rest') c.give_place.new.pass.hand.held
          (subst (λ (l : List (Option Buffer)). Exchanged held all now (numbers_at l)) first was.given) c.give_place.ensures.given;
    }
