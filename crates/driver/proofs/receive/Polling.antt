-- What polling did, one segment more, or none.
use Rattle.std.proofs.Common.{◌≡◌, ◌∙◌, ℕ, ◌+◌, Bool, true, false, List, [], ◌∷◌, ◌++◌, sym, refl, ap, subst, arith, length-append, inl, inr, ⊎_elim}
use Rattle.std.specs.Prelude.{◌⊎◌}
use Rattle.buffer_pool.specs.Buffer.{Buffer}
use Rattle.ring_model.specs.shared.Segments.{piece_of}
use Rattle.ring_model.specs.shared.Frames.{unfinished}
use Rattle.ring_model.specs.shared.Handshakes.{is_live}
use Rattle.std.proofs.lemmas.Bool.{false≢true}
use Rattle.shared_ring.specs.declared.events.DriverEvent.TheVariants as driver
use Rattle.rx_ring.specs.declared.driver.Poll.{Poll}
use Rattle.rx_ring.specs.declared.driver.Poll.TheVariants as poll
use Rattle.rx_ring.specs.declared.events.RxDriverOwn.TheVariants.{NotDone, Taken, LoadedQuiet, ClearedQuiet}
use Rattle.rx_ring.specs.Records.{RxDriven, DriverStep}
use Rattle.rx_ring.specs.Ends.{DriverSide, driver_state, next_place}
use Rattle.rx_ring.specs.Calls.{TookSegment, SawNotDone, SawEmpty, Polled as Found}
use Rattle.driver.specs.Steps.{Runs, is_post}
use Rattle.driver.specs.receive.Chains.{IsRest}
use Rattle.driver.specs.receive.Batches.{Hands, at, Filled, Polled, SawNothing, is_exchange}
use Rattle.driver.proofs.Running.{runs-none, runs-one, runs-trans, runs-more}
use Rattle.driver.proofs.receive.Growing.{grew-none, grew-trans, grew-filled, grew-more, grew-ended, grew-not_done, rest-grows, rest-ends}

-- a posting is a step of polling and posting
exchange_post : (e : DriverStep) → is_post e ≡ true → is_exchange e ≡ true
exchange_post (driver.Posted place word buf) h = h
exchange_post (driver.Published tail) h = h
exchange_post driver.AskedEnable h = h
exchange_post (driver.LoadedControl word) h = h
exchange_post driver.AskedDisable h = h
exchange_post (driver.LoadedHead word) h = h
exchange_post (driver.Reclaimed place buf) h = h
exchange_post driver.ClearedHead h = h
exchange_post driver.ClearedTail h = h
exchange_post (driver.Own (NotDone place word)) h = refl
exchange_post (driver.Own (Taken place word buf)) h = refl
exchange_post (driver.Own (LoadedQuiet word)) h = h
exchange_post (driver.Own ClearedQuiet) h = h

-- a poll of a live queue that gave no segment
pub found_nothing : (d : DriverSide) (p : Poll) (new : DriverSide) → is_live (driver_state d) ≡ true → ((b : Buffer) (eop : Bool) → p ≡ poll.Segment b eop → ⊥) → Found d p new → SawNotDone d new ⊎ SawEmpty d new
found_nothing d (poll.Segment b eop) new live none found = absurd (none b eop refl)
found_nothing d poll.NotDone new live none found = inl found
found_nothing d poll.Empty new live none found = inr found
found_nothing d poll.Off new live none found = absurd (false≢true (sym found.off ∙ live))

rest_filled : (d new : DriverSide) (had has : List ℕ) (chain : List Buffer) → Filled d had new has → IsRest d chain → IsRest new chain
rest_filled d new had has chain f r = record { rest = ap (λ (x : RxDriven). unfinished piece_of x.reaped) f.did ∙ r.rest; each = r.each }

pub polled-none : (h : Hands) → IsRest h.end h.chain → Polled h 0 h
polled-none h r = record { grew = grew-none h; count_is = omega arith; runs = runs-none is_exchange h.end; unpublished = refl; rest = r }

module _ (old : Hands) (count : ℕ) (d : DriverSide) (chain : List Buffer) (stash : List ℕ) (list : List (List Buffer)) (h : Polled old count (at d chain stash list)) where
  -- a segment was taken, and perhaps a buffer posted
  module _ (mid new : DriverSide) (buf : Buffer) (has : List ℕ) (f : Filled mid stash new has) where
    runs_on : (eop : Bool) → TookSegment d buf eop mid → Runs is_exchange old.end new
    runs_on eop t = runs-trans is_exchange old.end mid new
        (runs-trans is_exchange old.end d mid h.runs (runs-one is_exchange d mid (driver.Own (Taken (next_place d) _ buf)) t.step refl))
        (runs-more is_post is_exchange mid new exchange_post f.runs)

    pub polled-more : TookSegment d buf false mid → Polled old count (at new (chain ++ buf ∷ []) has list)
    polled-more t = record {
      grew = grew-trans old (at mid (chain ++ buf ∷ []) stash list) (at new (chain ++ buf ∷ []) has list)
          (grew-trans old (at d chain stash list) (at mid (chain ++ buf ∷ []) stash list) h.grew (grew-more d mid buf stash list chain t h.rest))
          (grew-filled mid new stash has (chain ++ buf ∷ []) list f);
      count_is = h.count_is;
      runs = runs_on false t;
      unpublished = ap (λ (x : RxDriven). x.published) f.did ∙ (ap (λ (x : RxDriven). x.published) t.grew ∙ h.unpublished);
      rest = rest_filled mid new stash has (chain ++ buf ∷ []) f (rest-grows d mid buf stash list chain t h.rest);
    }

    pub polled-ended : TookSegment d buf true mid → Polled old (count + 1) (at new [] has (list ++ (chain ++ buf ∷ []) ∷ []))
    polled-ended t = record {
      grew = grew-trans old (at mid [] stash (list ++ (chain ++ buf ∷ []) ∷ [])) (at new [] has (list ++ (chain ++ buf ∷ []) ∷ []))
          (grew-trans old (at d chain stash list) (at mid [] stash (list ++ (chain ++ buf ∷ []) ∷ [])) h.grew (grew-ended d mid buf stash list chain t h.rest))
          (grew-filled mid new stash has [] (list ++ (chain ++ buf ∷ []) ∷ []) f);
      count_is = let was = h.count_is in let more = length-append list ((chain ++ buf ∷ []) ∷ []) in omega arith;
      runs = runs_on true t;
      unpublished = ap (λ (x : RxDriven). x.published) f.did ∙ (ap (λ (x : RxDriven). x.published) t.grew ∙ h.unpublished);
      rest = rest_filled mid new stash has [] f (rest-ends d mid buf stash list chain t h.rest);
    }

  -- nothing was there to take
  polled-not_done : (new : DriverSide) → SawNotDone d new → Polled old count (at new chain stash list)
  polled-not_done new s = record {
    grew = grew-trans old (at d chain stash list) (at new chain stash list) h.grew (grew-not_done d new (let b : Buffer = record { number = 0; bytes = []; capacity = 0 } in b) stash list chain s);
    count_is = h.count_is;
    runs = runs-trans is_exchange old.end d new h.runs (runs-one is_exchange d new (driver.Own (NotDone (next_place d) s.word)) s.step refl);
    unpublished = ap (λ (x : RxDriven). x.published) s.same ∙ h.unpublished;
    rest = record { rest = ap (λ (x : RxDriven). unfinished piece_of x.reaped) s.same ∙ h.rest.rest; each = h.rest.each };
  }

  nothing-not_done : (new : DriverSide) → SawNotDone d new → SawNothing old.end new
  nothing-not_done new s = record { before = d; polling = h.runs; last = inl s; drained = λ e. s.drained (h.grew.quiet ∙ e) }

  polled-empty : (new : DriverSide) → SawEmpty d new → Polled old count (at new chain stash list)
  polled-empty new s = subst (λ (x : DriverSide). Polled old count (at x chain stash list)) (sym s.same) h

  nothing-empty : (new : DriverSide) → SawEmpty d new → SawNothing old.end new
  nothing-empty new s = record { before = d; polling = h.runs; last = inr s; drained = λ e. s.drained (h.grew.quiet ∙ e) }

  pub polled-nothing : (new : DriverSide) → SawNotDone d new ⊎ SawEmpty d new → Polled old count (at new chain stash list) × SawNothing old.end new
  polled-nothing new f = ⊎_elim (λ s. (polled-not_done new s, nothing-not_done new s)) (λ s. (polled-empty new s, nothing-empty new s)) f
