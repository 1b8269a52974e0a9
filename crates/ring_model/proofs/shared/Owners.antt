-- The owner map, kept by each step that passes a place on: one write at the place of one item.
use Rattle.std.proofs.Common.{◌≡◌, ◌≢◌, ℕ, zero, suc, ◌+◌, ◌%◌, ◌<◌, ◌≤◌, Bool, true, false, ◌&&◌, List, length, replicate, Some, sym, refl, ap, ◌∙◌, ⊎_elim, arith, mod-lt, length-set, if◌then◌else◌}
use Rattle.std.specs.Prelude.{slice_get, slice_set, ◌==◌}
use Rattle.std.proofs.lemmas.Bool.{cases_eq, cases_Bool, both_ways, ne_eqb, eq-eqb}
use Rattle.std.proofs.lemmas.List.{length-replicate}
use Rattle.ring_model.specs.declared.states.Owner.{Owner}
use Rattle.ring_model.specs.declared.states.Owner.TheVariants.{Driver, Ring, Controller}
use Rattle.ring_model.specs.shared.Lawful.{Window, IsLawfulMap}
use Rattle.ring_model.specs.kept.Writes.{Writes}
use Rattle.ring_model.proofs.shared.Places.{each_item-set, each_item-push, each_item-drop, slice_set-writes}

abbrev pub window_of : ℕ → ℕ → ℕ → ℕ → Bool → Window
window_of n first serving past held = record { size = n; first = first; serving = serving; past = past; held = held }

-- who has item k, where the item `serving` may be fetched
abbrev pub who : ℕ → Bool → ℕ → Owner
who serving held k = if held && (k == serving) then Controller else Ring

pub who-unheld : (serving k : ℕ) (held : Bool) → held ≡ false → who serving held k ≡ Ring
who-unheld serving k true e = absurd (both_ways true e refl)
who-unheld serving k false e = refl

pub who-other : (serving k : ℕ) (held : Bool) → k ≢ serving → who serving held k ≡ Ring
who-other serving k true ne = ap (λ (b : Bool). if b then Controller else Ring) (ne_eqb k serving ne)
who-other serving k false ne = refl

pub who-held : (k : ℕ) → who k true k ≡ Controller
who-held k = ap (λ (b : Bool). if b then Controller else Ring) (eq-eqb k k refl)

owners-write : (n p : ℕ) (owners : List Owner) (x : Owner) → length owners ≡ n → p < n → Writes n (slice_get owners) (slice_get (slice_set owners p x)) p (Some x)
owners-write n p owners x e h = let w = slice_set-writes owners p x (rw e h) in record { here = w.here; rest = λ j b ne. w.rest j (rw e b) ne }

module _ (n first serving past : ℕ) (held : Bool) (owners : List Owner) (m : IsLawfulMap (window_of n first serving past held) owners) (pos : 0 < n) where
  -- the place after the last goes to the ring
  pub map-post : past < first + n → first ≤ past → (held ≡ true → serving < past) → IsLawfulMap (window_of n first serving (past + 1) held) (slice_set owners (past % n) Ring)
  map-post small some inside = let w = owners-write n (past % n) owners Ring m.places (mod-lt past pos) in
      let rings : who serving held past ≡ Ring = ⊎_elim (λ t. let b = inside t in who-other serving past held (λ e. omega arith)) (λ f. who-unheld serving past held f) (cases_Bool held) in
      record {
        places = length-set owners (past % n) Ring ∙ m.places;
        out = each_item-push n first past (slice_get owners) (slice_get (slice_set owners (past % n) Ring)) (λ k. Some (who serving held k)) (λ k. Some (who serving held k)) pos small
            (record { here = w.here ∙ ap Some (sym rings); rest = w.rest }) (λ k a b. refl) some m.out;
        home = λ place below away. w.rest place below (λ e. away past some (omega arith) (sym e)) ∙ m.home place below (λ k a b. away k a (omega arith));
      }

  -- the place of the next item to store goes to another, which from then on has it
  pub map-complete : (serves : ℕ) (holds : Bool) (x : Owner) → x ≡ who serves holds serving → past ≤ first + n → first ≤ serving → serving < past → ((k : ℕ) → k ≢ serving → who serves holds k ≡ who serving held k)
      → IsLawfulMap (window_of n first serves past holds) (slice_set owners (serving % n) x)
  map-complete serves holds x is small from below same = let w = owners-write n (serving % n) owners x m.places (mod-lt serving pos) in
      record {
        places = length-set owners (serving % n) x ∙ m.places;
        out = each_item-set n first past serving (slice_get owners) (slice_get (slice_set owners (serving % n) x)) (λ k. Some (who serving held k)) (λ k. Some (who serves holds k)) pos small from below
            (record { here = w.here ∙ ap Some is; rest = w.rest }) (λ k a b ne. ap Some (same k ne)) m.out;
        home = λ place inside away. w.rest place inside (λ e. away serving from below (sym e)) ∙ m.home place inside away;
      }

  -- the place of the first item that is out goes to the driver
  map-return : past ≤ first + n → first < past → IsLawfulMap (window_of n (first + 1) serving past held) (slice_set owners (first % n) Driver)
  map-return small some = let w = owners-write n (first % n) owners Driver m.places (mod-lt first pos) in
      record {
        places = length-set owners (first % n) Driver ∙ m.places;
        out = each_item-drop n first past (slice_get owners) (slice_get (slice_set owners (first % n) Driver)) (λ k. Some (who serving held k)) pos small some w.rest m.out;
        home = λ place below away. ⊎_elim
            (λ e. ap (λ (p : ℕ). slice_get (slice_set owners (first % n) Driver) p) e ∙ w.here)
            (λ ne. w.rest place below ne ∙ m.home place below (λ k a b. ⊎_elim (λ e e'. ne (sym e' ∙ ap (λ (p : ℕ). p % n) e)) (λ other. away k (omega arith) b) (cases_eq k first)))
            (cases_eq place (first % n));
      }

  pub map-return_at : (i after : ℕ) → i ≡ first → after ≡ first + 1 → past ≤ first + n → first < past → IsLawfulMap (window_of n after serving past held) (slice_set owners (i % n) Driver)
  map-return_at i after e f small some = rw e (rw f (map-return small some))

-- with nothing out, all places are the driver's
pub map-none : (n first serving past serves begin : ℕ) (held holds : Bool) (owners : List Owner) → past ≤ first → IsLawfulMap (window_of n first serving past held) owners → IsLawfulMap (window_of n begin serves begin holds) owners
map-none n first serving past serves begin held holds owners none m = record {
  places = m.places;
  out = λ k a b. absurd (omega arith);
  home = λ place below away. m.home place below (λ k a b. absurd (omega arith));
}

all_of : (n p : ℕ) → p < n → slice_get (replicate n Driver) p ≡ Some Driver
all_of zero p h = absurd (omega arith)
all_of (suc n) zero h = refl
all_of (suc n) (suc p) h = all_of n p (omega arith)

pub map-opening : (n serving : ℕ) (held : Bool) → IsLawfulMap (window_of n 0 serving 0 held) (replicate n Driver)
map-opening n serving held = record { places = length-replicate n Driver; out = λ k a b. absurd (omega arith); home = λ place below away. all_of n place below }
