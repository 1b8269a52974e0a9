-- The agreement allows the load, and the head that it found tells whether the report is made.
use Rattle.std.proofs.Common.{◌≡◌, ℕ, ◌+◌, ◌≤◌, Some, sym, ap, ◌∙◌, subst, arith}
use Rattle.std.specs.Prelude.{not, nat_lt}
use Rattle.ring_model.specs.shared.Places.{between_places, place_next}
use Rattle.shared_ring.specs.Ends.{driver_of}
use Rattle.shared_ring.specs.Own.{MayLoad}
use Rattle.tx_ring.specs.Ends.{driver_size, seen_reported}
use Rattle.tx_ring.specs.Form.{tx}
use Rattle.tx_ring.specs.Plays.{reports_item, reports_seen, IsPlace}
use Rattle.tx_ring.proofs.Looking.{head-at, head-shows, looked}
use Rattle.tx_ring.proofs.Owning.{may-report}
use Rattle.tx_ring.proofs.steps.driver.load_report.Goals as goal

pub load_own-head-requires-clause-may : goal.load_own-head-requires-clause-may
load_own-head-requires-clause-may c = let s = driver_of tx c.args.seat.now in let z = c.size-size.ensures in let b : 8 ≤ c.size-size.result = z.lawful.0 in let big : 8 ≤ driver_size (driver_of tx c.args.seat.now) = (let v = z.value in omega arith) in
    let o = c.requires.oldest in subst (λ (n : ℕ). MayLoad tx reports_seen IsPlace s.table.slots s.completion s.events (n + 4)) (sym z.value)
    (may-report s.table.slots s.completion s.events (s.table.slots + 4) o.item big o.oldest (head-at s big c.args.place o c.requires.more) c.requires.live)

pub returns : goal.returns
returns c = let s = driver_of tx c.args.seat.now in let z = c.size-size.ensures in let b : 8 ≤ c.size-size.result = z.lawful.0 in let big : 8 ≤ driver_size (driver_of tx c.args.seat.now) = (let v = z.value in omega arith) in
    looked s big c.args.place c.requires.oldest (c.size-size.result + 4) c.load_own-head.result (ap (λ (n : ℕ). n + 4) z.value ∙ head-at s big c.args.place c.requires.oldest c.requires.more) (driver_of tx c.load_own-head.new.self) (ap (driver_of tx) c.load_own-head.ensures.step)
    (not (nat_lt c.places_between.result c.places_between-wanted.result))
    (subst (λ (n : ℕ). reports_item (driver_size s) (seen_reported s) (Some c.requires.oldest.item) (n + 4) c.load_own-head.result ≡ not (nat_lt c.places_between.result c.places_between-wanted.result)) (sym z.value)
    (head-shows s big c.args.place c.requires.oldest c.load_own-head.result c.args.seen c.place_after.result c.requires.seen (c.place_after.ensures.value ∙ ap (λ n. place_next n c.args.place) z.value)
    ∙ ap (λ n. not (nat_lt (between_places n c.args.seen c.load_own-head.result) (between_places n c.args.seen c.place_after.result))) (sym z.value)
    ∙ ap (λ x. not (nat_lt x (between_places c.size-size.result c.args.seen c.place_after.result))) (sym c.places_between.ensures.value) ∙ ap (λ y. not (nat_lt c.places_between.result y)) (sym c.places_between-wanted.ensures.value)))
