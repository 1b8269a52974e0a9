-- What a look at the oldest outstanding report tells.
use Rattle.std.proofs.Common.{◌≡◌, ℕ, ◌+◌, ◌%◌, ◌<◌, ◌≤◌, Bool, true, false, not, if◌then◌else◌, Option, Some, sym, refl, ap, ◌∙◌, arith, mod-lt}
use Rattle.std.specs.Prelude.{nat_lt}
use Rattle.std.proofs.lemmas.Bool.{lt-ltb, le-ltb, false≢true}
use Rattle.ring_model.specs.declared.states.Completion.{Completion}
use Rattle.ring_model.specs.declared.states.Completion.TheVariants.{Status, Head}
use Rattle.ring_model.specs.shared.Places.{between_places, place_next}
use Rattle.ring_model.specs.transmit.Steps.{by_head}
use Rattle.ring_laws.specs.Places.{next_place as next_place-of}
use Rattle.shared_ring.specs.declared.events.DriverEvent.TheVariants as driver
use Rattle.tx_ring.specs.declared.events.TxDriverOwn.TheVariants.{NoReport, SawReport}
use Rattle.tx_ring.specs.Ends.{DriverSide, driver_size, seen_reported, driver_grown}
use Rattle.tx_ring.specs.Plays.{is_done, report_word, reports_item, shows_report}
use Rattle.tx_ring.specs.Steps.{OldestAt, Looked}

status-word : (n : ℕ) (mode : Completion) (j : ℕ) → by_head mode ≡ false → report_word n mode j ≡ j % n
status-word n Status j e = refl
status-word n Head j e = absurd (false≢true (sym e))

head-word : (n : ℕ) (mode : Completion) (j : ℕ) → by_head mode ≡ true → report_word n mode j ≡ n + 4
head-word n Status j e = absurd (false≢true e)
head-word n Head j e = refl

module _ (s : DriverSide) (big : 8 ≤ driver_size s) (place : ℕ) (o : OldestAt s place) where
  abbrev n : ℕ
  n = driver_size s

  -- by the descriptor
  pub status-at : by_head s.completion ≡ false → place ≡ report_word (driver_size s) s.completion o.item
  status-at alone = o.at ∙ sym (status-word (driver_size s) s.completion o.item alone)

  pub place-below : place < driver_size s
  place-below = let m : o.item % driver_size s < driver_size s = mod-lt o.item (omega arith) in let h = o.at in omega arith

  pub status-shows : (r : ℕ) (b : Bool) → is_done r ≡ b → reports_item (driver_size s) (seen_reported s) (Some o.item) place r ≡ b
  status-shows r b e = ap (λ (c : Bool). if c then is_done r else not (nat_lt (between_places n (seen_reported s % n) r) (between_places n (seen_reported s % n) ((o.item + 1) % n)))) (lt-ltb place (driver_size s) place-below) ∙ e

  -- by the head word
  pub head-at : by_head s.completion ≡ true → driver_size s + 4 ≡ report_word (driver_size s) s.completion o.item
  head-at more = sym (head-word (driver_size s) s.completion o.item more)

  pub head-shows : (r from next : ℕ) → from ≡ seen_reported s % driver_size s → next ≡ place_next (driver_size s) place
      → reports_item (driver_size s) (seen_reported s) (Some o.item) (driver_size s + 4) r ≡ not (nat_lt (between_places (driver_size s) from r) (between_places (driver_size s) from next))
  head-shows r from next seen after =
      ap (λ (c : Bool). if c then is_done r else not (nat_lt (between_places n (seen_reported s % n) r) (between_places n (seen_reported s % n) ((o.item + 1) % n)))) (le-ltb (driver_size s + 4) (driver_size s) (omega arith))
      ∙ ap (λ (f : ℕ). not (nat_lt (between_places n f r) (between_places n f ((o.item + 1) % n)))) (sym seen)
      ∙ ap (λ (k : ℕ). not (nat_lt (between_places n from r) (between_places n from k))) (sym (after ∙ ap (λ (p : ℕ). place_next n p) o.at ∙ next_place-of n o.item (omega arith)))

  -- what was found at that word
  module _ (i r : ℕ) (at : i ≡ report_word (driver_size s) s.completion o.item) (new : DriverSide)
      (step : new ≡ driver_grown s (driver.Own (if shows_report (driver_size s) s.events i r then SawReport i r else NoReport i r))) where
    found : shows_report (driver_size s) s.events i r ≡ reports_item (driver_size s) (seen_reported s) (Some o.item) i r
    found = ap (λ (x : Option ℕ). reports_item (driver_size s) (seen_reported s) x i r) o.oldest

    stepped : (b c : Bool) → shows_report (driver_size s) s.events i r ≡ b → b ≡ c → new ≡ driver_grown s (driver.Own (if c then SawReport (report_word (driver_size s) s.completion o.item) r else NoReport (report_word (driver_size s) s.completion o.item) r))
    stepped b c e f = step ∙ ap (λ (x : Bool). driver_grown s (driver.Own (if x then SawReport i r else NoReport i r))) (e ∙ f) ∙ ap (λ (k : ℕ). driver_grown s (driver.Own (if c then SawReport k r else NoReport k r))) at

    pub looked : (b : Bool) → reports_item (driver_size s) (seen_reported s) (Some o.item) i r ≡ b → Looked s new b
    looked b e = record {
      item = o.item;
      oldest = o.oldest;
      word = r;
      shows = ap (λ (k : ℕ). shows_report (driver_size s) s.events k r) (sym at) ∙ found ∙ e;
      nothing = λ f. stepped b false (found ∙ e) f;
      report = λ f. stepped b true (found ∙ e) f;
    }
