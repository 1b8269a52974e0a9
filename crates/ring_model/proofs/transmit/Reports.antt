-- The counts of reports, as each step leaves them.
use Rattle.std.proofs.Common.{◌≡◌, ℕ, ◌+◌, ◌-◌, ◌<◌, ◌≤◌, Bool, true, false, List, [], ◌∷◌, ◌++◌, length, Some, refl, ap, ◌∙◌, ⊎_elim, arith, length-append}
use Rattle.std.specs.Prelude.{slice_get}
use Rattle.std.proofs.lemmas.Bool.{cases_lt, cases_Bool, both_ways, false≢true}
use Rattle.ring_model.specs.transmit.Ring.{Posting}
use Rattle.ring_model.specs.transmit.Steps.{asks_report}
use Rattle.ring_model.proofs.shared.Beginnings.{slice_get-front}
use Rattle.ring_model.specs.kept.Transmit.{InReports}

module _ {Payload : Type 0} where
  pub slice_get-last : (xs : List (Posting Payload)) (p : Posting Payload) → slice_get (xs ++ p ∷ []) (length xs) ≡ Some p
  slice_get-last [] p = refl
  slice_get-last (x ∷ xs) p = slice_get-last xs p

  pub reports-none : (held owed serving : Bool) → owed ≡ false → InReports {Payload = Payload} [] 0 0 0 held owed serving
  reports-none held owed serving none = record {
    reaped_seen = omega arith;
    seen_reported = omega arith;
    reported_sent = omega arith;
    owed_unheld = λ e. absurd (both_ways owed none e);
    owed_serving = λ e. absurd (both_ways owed none e);
    owed_last = λ e. absurd (both_ways owed none e);
    asked = λ e. absurd (both_ways owed none e);
    silent = λ k a b f. absurd (omega arith);
  }

  module _ (sent : List (Posting Payload)) (reaped seen reported : ℕ) (held owed serving : Bool) (s : InReports sent reaped seen reported held owed serving) where
    -- while the controller serves no more, nothing is owed
    pub unserving_paid : serving ≡ false → owed ≡ false
    unserving_paid none = ⊎_elim (λ e. absurd (both_ways serving none (s.owed_serving e))) (λ e. e) (cases_Bool owed)

    pub held_paid : held ≡ true → owed ≡ false
    held_paid so = ⊎_elim (λ e. absurd (both_ways held (s.owed_unheld e) so)) (λ e. e) (cases_Bool owed)

    pub reports-fetch : owed ≡ false → InReports sent reaped seen reported true owed serving
    reports-fetch none = record {
      reaped_seen = s.reaped_seen;
      seen_reported = s.seen_reported;
      reported_sent = s.reported_sent;
      owed_unheld = λ e. absurd (both_ways owed none e);
      owed_serving = s.owed_serving;
      owed_last = s.owed_last;
      asked = s.asked;
      silent = s.silent;
    }

    silent_now : (p : Posting Payload) → owed ≡ false → (k : ℕ) → reported ≤ k → k < length sent + 1 → (p.rs ≡ true → k + 1 < length sent + 1) → asks_report (slice_get (sent ++ p ∷ []) k) ≡ false
    silent_now p none k a b f = ⊎_elim
        (λ lt. ap asks_report (slice_get-front sent (p ∷ []) k lt) ∙ s.silent k a lt (λ e. absurd (both_ways owed none e)))
        (λ le. let e : k ≡ length sent = omega arith in ap (λ (j : ℕ). asks_report (slice_get (sent ++ p ∷ []) j)) e ∙ ap asks_report (slice_get-last sent p)
        ∙ ⊎_elim (λ t. let u = f t in absurd (omega arith)) (λ t. t) (cases_Bool p.rs))
        (cases_lt k (length sent))

    pub reports-send : (p : Posting Payload) → held ≡ true → serving ≡ true → InReports (sent ++ p ∷ []) reaped seen reported false p.rs serving
    reports-send p so serves = let n = length-append sent (p ∷ []) in let below = s.reported_sent in record {
      reaped_seen = s.reaped_seen;
      seen_reported = s.seen_reported;
      reported_sent = omega arith;
      owed_unheld = λ e. refl;
      owed_serving = λ e. serves;
      owed_last = λ e. omega arith;
      asked = λ e. let last : length (sent ++ p ∷ []) - 1 ≡ length sent = omega arith in
          ap (λ (j : ℕ). asks_report (slice_get (sent ++ p ∷ []) j)) last ∙ ap asks_report (slice_get-last sent p) ∙ e;
      silent = λ k a b f. silent_now p (held_paid so) k a (omega arith) (λ e. let g = f e in omega arith);
    }

    pub reports-report : owed ≡ true → InReports sent reaped seen (length sent) held false serving
    reports-report so = let a = s.seen_reported in let b = s.reported_sent in record {
      reaped_seen = s.reaped_seen;
      seen_reported = omega arith;
      reported_sent = omega arith;
      owed_unheld = λ e. absurd (false≢true e);
      owed_serving = λ e. absurd (false≢true e);
      owed_last = λ e. absurd (false≢true e);
      asked = λ e. absurd (false≢true e);
      silent = λ k a b f. absurd (omega arith);
    }

    -- a driver's step changes what it gave and what it saw reported, and nothing else
    reports-seen : (gave saw : ℕ) → gave ≤ saw → saw ≤ reported → InReports sent gave saw reported held owed serving
    reports-seen gave saw few made = record {
      reaped_seen = few;
      seen_reported = made;
      reported_sent = s.reported_sent;
      owed_unheld = s.owed_unheld;
      owed_serving = s.owed_serving;
      owed_last = s.owed_last;
      asked = s.asked;
      silent = s.silent;
    }

    pub reports-load : (j : ℕ) → j < reported → seen ≤ j → InReports sent reaped (j + 1) reported held owed serving
    reports-load j below above = let a = s.reaped_seen in reports-seen reaped (j + 1) (omega arith) (omega arith)

    pub reports-reap : reaped < seen → InReports sent (reaped + 1) seen reported held owed serving
    reports-reap below = reports-seen (reaped + 1) seen (omega arith) s.seen_reported

    -- an answered control word: nothing is owed, and nothing was
    pub reports-answer : (serves : Bool) (owing : Bool) → owed ≡ false → owing ≡ false → InReports sent reaped seen reported held owing serves
    reports-answer serves owing was none = record {
      reaped_seen = s.reaped_seen;
      seen_reported = s.seen_reported;
      reported_sent = s.reported_sent;
      owed_unheld = λ e. absurd (both_ways owing none e);
      owed_serving = λ e. absurd (both_ways owing none e);
      owed_last = λ e. absurd (both_ways owing none e);
      asked = λ e. absurd (both_ways owing none e);
      silent = λ k a b f. s.silent k a b (λ e. absurd (both_ways owed was e));
    }
