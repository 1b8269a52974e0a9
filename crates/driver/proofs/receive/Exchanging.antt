-- Polling, one exchange after another. What was done so far is told by what polling from here on makes of it, so that an exchange more is added at its end.
use Rattle.std.proofs.Common.{◌≡◌, ◌∙◌, ℕ, ◌-◌, ◌<◌, Bool, false, List, [], ◌∷◌, ◌++◌, sym, refl, ap, subst, arith, append_assoc, append-nil, inl, inr, ⊎_elim}
use Rattle.std.specs.Prelude.{◌+◌, ◌≤◌, ◌≢◌, ◌⊎◌, ◌==◌, min}
use Rattle.std.proofs.lemmas.Bool.{false≢true, eq-eqb}
use Rattle.buffer_pool.specs.Buffer.{Buffer}
use Rattle.ring_model.specs.shared.Segments.{Segment}
use Rattle.ring_model.specs.shared.Frames.{Bytes}
use Rattle.ring_model.specs.shared.Handshakes.{is_open}
use Rattle.rx_ring.specs.Records.{RxDriven}
use Rattle.rx_ring.specs.Ends.{DriverSide, driver_state, taken}
use Rattle.rx_ring.specs.Calls.{segment, TookSegment}
use Rattle.driver.specs.receive.Exchanges.{posting, in_place, left_after, FoundNothing, Polls, PolledAll}

-- These segments were exchanged, and so many packets may still be added
pub record GoesOn (most left : ℕ) (old : DriverSide) (had : List ℕ) (d : DriverSide) (stash : List ℕ) : Type 0 where
  pub segments : List (Segment Bytes)
  pub took : taken d ≡ taken old ++ segments
  pub on : (more : List (Segment Bytes)) (new : DriverSide) (has : List ℕ) → Polls left more d stash new has → Polls most (segments ++ more) old had new has

pub goes-none : (most left : ℕ) (d : DriverSide) (stash : List ℕ) → left ≡ most → GoesOn most left d stash d stash
goes-none most left d stash e = record {
  segments = [];
  took = sym (append-nil (taken d));
  on = λ more new has p. subst (λ (k : ℕ). Polls k more d stash new has) e p;
}

module _ (most left : ℕ) (old : DriverSide) (had : List ℕ) (d : DriverSide) (stash : List ℕ) (h : GoesOn most left old had d stash) where
  -- one exchange more
  pub goes-one : (left' : ℕ) (mid new : DriverSide) (has : List ℕ) (buf : Buffer) (eop : Bool) → 0 < left → left' ≡ left_after eop left → TookSegment d buf eop mid
      → new ≡ posting (in_place (is_open (driver_state mid)) stash) mid → stash ≡ in_place (is_open (driver_state mid)) stash ++ has → taken new ≡ taken mid → GoesOn most left' old had new has
  goes-one left' mid new has buf eop some e t step kept same = record {
    segments = h.segments ++ segment buf eop ∷ [];
    took = same ∙ (ap (λ (x : RxDriven). x.reaped) t.grew ∙ (ap (λ (l : List (Segment Bytes)). l ++ segment buf eop ∷ []) h.took ∙ append_assoc (taken old) h.segments (segment buf eop ∷ [])));
    on = λ more new' has' p. subst (λ (l : List (Segment Bytes)). Polls most l old had new' has') (sym (append_assoc h.segments (segment buf eop ∷ []) more))
        (h.on (segment buf eop ∷ more) new' has' (
          new,
          has,
          (
            some,
            record {
              emptied = mid;
              took = subst (λ (b : Buffer). TookSegment d b eop mid) t.real t;
              step = subst (λ (o : Bool). new ≡ posting (in_place o stash) mid) stays step;
              stash = subst (λ (o : Bool). stash ≡ in_place o stash ++ has) stays kept;
            },
            subst (λ (k : ℕ). Polls k more new has new' has') e p,
          ),
        ));
  }
    where
      stays : is_open (driver_state mid) ≡ is_open (driver_state d)
      stays = ap (λ (x : RxDriven). is_open x.state) t.grew

  -- the end of polling
  pub goes-out : (new : DriverSide) → Polls left [] d stash new stash → taken new ≡ taken d → PolledAll most old had new stash
  goes-out new p same = record {
    segments = h.segments;
    took = same ∙ h.took;
    polls = subst (λ (l : List (Segment Bytes)). Polls most l old had new stash) (append-nil h.segments) (h.on [] new stash p);
  }

  -- as no packet more may be added, or since nothing was found
  pub goes-full : left ≡ 0 → PolledAll most old had d stash
  goes-full none = goes-out d (inl (none, refl), refl) refl

  pub goes-nothing : (new : DriverSide) → 0 < left → FoundNothing d new → taken new ≡ taken d → PolledAll most old had new stash
  goes-nothing new some found same = goes-out new (inr (some, found), refl) same

pub nothing_taken : (d new : DriverSide) → FoundNothing d new → taken new ≡ taken d
nothing_taken d new found = ⊎_elim (λ s. ap (λ (x : RxDriven). x.reaped) s.same) (λ s. ap (λ (x : DriverSide). taken x) s.same) found

-- while fewer than a batch are added and the list is not full, a packet more may be added; else none
module _ (batch most count len was : ℕ) (grew : len ≡ was + count) where
  pub some-left : count < batch → len ≤ most → false ≡ (len == most) → 0 < min batch (most - was) - count
  some-left few fits other = let unlike : len ≢ most = λ e. false≢true (other ∙ eq-eqb len most e) in omega arith

  pub none-left : (batch ≤ count) ⊎ (len ≡ most) → min batch (most - was) - count ≡ 0
  none-left full = ⊎_elim (λ e. omega arith) (λ e. omega arith) full
