-- What the fields of a controller's end keep as its record grows.
use Rattle.std.proofs.Common.{◌≡◌, ℕ, ◌+◌, ◌-◌, ◌%◌, ◌<◌, ⊎_elim, Bool, true, false, if◌then◌else◌, List, [], ◌∷◌, ◌++◌, length, Option, Some, None, sym, refl, ap, ◌∙◌, subst, arith, length-append}
use Rattle.std.specs.Prelude.{◌==◌}
use Rattle.std.proofs.Math.Nat.{zero-mod}
use Rattle.std.proofs.lemmas.Bool.{false≢true, both_ways}
use Rattle.buffer_pool.specs.Buffer.{Buffer}
use Rattle.descriptor.specs.declared.tx_read.TxRead.{TxRead}
use Rattle.limits.specs.RingLength.{IsRingLength}
use Rattle.ring_model.specs.shared.Handshakes.{is_serving}
use Rattle.ring_model.specs.transmit.Agreement.{tx_word}
use Rattle.ring_model.specs.transmit.Ring.{carried}
use Rattle.shared_ring.specs.declared.ends.ControllerLoad.{ControllerLoad}
use Rattle.shared_ring.specs.declared.ends.ControllerLoad.TheVariants.{Tail, Request}
use Rattle.shared_ring.specs.declared.ends.ControllerPlaces.{ControllerPlaces}
use Rattle.shared_ring.specs.declared.events.ControllerEvent.TheVariants as controller
use Rattle.shared_ring.specs.Calls.{IsServer, MayAnswer, LoadedWord, Answered}
use Rattle.shared_ring.specs.Slots.{is_there}
use Rattle.shared_ring.specs.Steps.{CameOut}
use Rattle.shared_ring.specs.Records.{uncontrolled}
use Rattle.shared_ring.proofs.Serving as shared
use Rattle.shared_ring.proofs.Serving.{unplaced, record-after, loaded-leaves, server-fetch, server-completed, server-same}
use Rattle.tx_ring.specs.declared.events.TxControllerOwn.TheVariants.{Sent, Reported}
use Rattle.descriptor.specs.Transmit.{eop_of, rs_of, paylen_of}
use Rattle.tx_ring.specs.Records.{Posting, TxControlled, ControllerStep, control, fetch_word, posting_of}
use Rattle.tx_ring.specs.Ends.{ControllerSide, controller_size, controller_record, sent, known_ready, held, held_word, controller_state, is_owed, serve_place, controller_grown}
use Rattle.tx_ring.specs.Calls.{IsServerOf, IsControllerEnd, Fetched}
use Rattle.tx_ring.proofs.Placing.{fetched-snoc}

pub word-after : (c new : ControllerSide) (e : ControllerStep) → new ≡ controller_grown c e → held_word new ≡ fetch_word (held_word c) e
word-after c new e step = ap held_word step ∙ fetched-snoc c.events e

pub end-after : (c new : ControllerSide) (e : ControllerStep) (at : ControllerPlaces) (last : ℕ) (ends asks owing : Bool) → new ≡ controller_grown c e
    → IsServerOf (controller_size c) (control (controller_size c) (controller_record c) e) (fetch_word (held_word c) e) at last ends asks owing → IsControllerEnd new at last ends asks owing
end-after c new e at last ends asks owing step h = subst (λ (n : ℕ). IsServerOf n (controller_record new) (held_word new) at last ends asks owing) (sym (ap controller_size step))
    (subst (λ (x : TxControlled). IsServerOf (controller_size c) x (held_word new) at last ends asks owing) (sym (record-after c new e step))
    (subst (λ (w : ℕ). IsServerOf (controller_size c) (control (controller_size c) (controller_record c) e) w at last ends asks owing) (sym (word-after c new e step)) h))

some-there : (o : Option Buffer) (b : Buffer) → o ≡ Some b → is_there o ≡ true
some-there o b e = ap is_there e

module _ (c : ControllerSide) (at : ControllerPlaces) (last : ℕ) (ends asks owing : Bool) (h : IsControllerEnd c at last ends asks owing) (now : ControllerSide) (was : c ≡ now) where
  abbrev n : ℕ
  n = controller_size c

  abbrev x : TxControlled
  x = controller_record c

  -- B4
  module _ (new : ControllerSide) (buf : Buffer) (word : ℕ) (f : CameOut c at.serve buf word new) where
    pub fetch-keeps : (eop rs : Bool) → eop ≡ eop_of word → rs ≡ rs_of word → is_serving (controller_state now) ≡ true → 0 < known_ready now → IsControllerEnd new (record at { holding = true }) last eop rs owing
    fetch-keeps eop rs e r serving some = end-after c new (controller.Fetched at.serve word buf) (record at { holding = true }) last eop rs owing f.step (record {
      server = server-fetch carried (controller_size c) x at h.server buf (ap (λ (s : ControllerSide). is_serving (controller_state s)) was ∙ serving) (subst (λ (s : ControllerSide). 0 < known_ready s) (sym was) some);
      head_is = h.head_is;
      ends_is = λ t. e;
      asks_is = λ t. r;
      owing_is = h.owing_is;
      owing_serving = h.owing_serving;
      last_is = h.last_is;
    })

    pub fetched : (read : TxRead) → read.number ≡ buf.number → read.len ≡ length buf.bytes → read.eop ≡ eop_of word → read.rs ≡ rs_of word → read.paylen ≡ paylen_of word → Fetched now buf read new
    fetched read number len e r p = let i = h.available_is in subst (λ (s : ControllerSide). Fetched s buf read new) was (record {
      word = word;
      step = f.step ∙ ap (λ (k : ℕ). controller_grown c (controller.Fetched k word buf)) h.serve_is;
      word_is = f.fetched.word_is ∙ ap (λ (b : Bool). tx_word (length buf.bytes) b (rs_of word) (paylen_of word)) (sym e) ∙ ap (λ (b : Bool). tx_word (length buf.bytes) read.eop b (paylen_of word)) (sym r) ∙ ap (λ (v : ℕ). tx_word (length buf.bytes) read.eop read.rs v) (sym p);
      eop = e;
      rs = r;
      paylen = p;
      number = number;
      len = len;
      real = f.fetched.real;
      follows = f.fetched.follows;
      ready = λ t. let m = f.fetched.ready (sym e ∙ t) in omega arith;
      same = record-after c new (controller.Fetched at.serve word buf) f.step;
      held_is = word-after c new (controller.Fetched at.serve word buf) f.step;
    })

  -- B5
  module _ (buf : Buffer) (holds_it : held now ≡ Some buf) where
    holds : at.holding ≡ true
    holds = h.held_is ∙ some-there x.held buf (ap held was ∙ holds_it)

    pub some-ready : 0 < at.available
    some-ready = h.held_available holds

    pub holder-serves : is_serving (controller_state c) ≡ true
    holder-serves = h.held_serving holds

    pub send-head : (head : ℕ) → head ≡ (if (at.serve + 1) == controller_size c then 0 else (at.serve + 1)) → head ≡ (length (sent c) + 1) % controller_size c
    send-head head e = shared.next-is carried (controller_size c) x at h.server head e

    module _ (new : ControllerSide) (head : ℕ) (is : head ≡ (if (at.serve + 1) == controller_size c then 0 else (at.serve + 1))) (step : new ≡ controller_grown c (controller.Own (Sent head (held_word c) buf))) where
      pub send-keeps : IsControllerEnd new (record at { serve = head; available = at.available - 1; holding = false; at_frame_end = ends }) at.serve ends asks asks
      send-keeps = let len = length-append x.completed (posting_of (held_word c) buf ∷ []) in
          end-after c new (controller.Own (Sent head (held_word c) buf)) (record at { serve = head; available = at.available - 1; holding = false; at_frame_end = ends }) at.serve ends asks asks step (record {
            server = server-completed carried (controller_size c) x at h.server (posting_of (held_word c) buf) head ends holds is (h.ends_is holds) head (rs_of (held_word c));
            head_is = λ f. send-head head is ∙ ap (λ (j : ℕ). j % n) (sym len);
            ends_is = λ f. absurd (false≢true f);
            asks_is = λ f. absurd (false≢true f);
            owing_is = h.asks_is holds;
            owing_serving = λ f. h.held_serving holds;
            last_is = λ f. h.serve_is ∙ ap (λ (j : ℕ). j % n) (let g : length x.completed ≡ length (x.completed ++ posting_of (held_word c) buf ∷ []) - 1 = omega arith in g);
          })

      pub send-step : new ≡ controller_grown now (controller.Own (Sent ((length (sent now) + 1) % controller_size now) (held_word now) buf))
      send-step = step ∙ ap (λ (k : ℕ). controller_grown c (controller.Own (Sent k (held_word c) buf))) (send-head head is) ∙ ap (λ (s : ControllerSide). controller_grown s (controller.Own (Sent ((length (sent s) + 1) % controller_size s) (held_word s) buf))) was

      pub send-record : controller_record new ≡ record (controller_record now) { completed = sent now ++ posting_of (held_word now) buf ∷ []; held = None; head = (length (sent now) + 1) % controller_size now; barred = rs_of (held_word now) }
      send-record = record-after c new (controller.Own (Sent head (held_word c) buf)) step
          ∙ ap (λ (k : ℕ). let y : TxControlled = record x { completed = x.completed ++ posting_of (held_word c) buf ∷ []; held = None; head = k; barred = rs_of (held_word c) } in y) (send-head head is)
          ∙ ap (λ (s : ControllerSide). let y : TxControlled = record (controller_record s) { completed = sent s ++ posting_of (held_word s) buf ∷ []; held = None; head = (length (sent s) + 1) % controller_size s; barred = rs_of (held_word s) } in y) was

  -- B6
  module _ (owes : is_owed now ≡ true) where
    pub owing-now : owing ≡ true
    owing-now = h.owing_is ∙ ap is_owed was ∙ owes

    pub report-keeps : (new : ControllerSide) (p w : ℕ) → new ≡ controller_grown c (controller.Own (Reported p w)) → IsControllerEnd new at last ends asks false
    report-keeps new p w step = end-after c new (controller.Own (Reported p w)) at last ends asks false step (record {
      server = server-same carried (controller_size c) x at h.server (record x { barred = false }) refl refl refl refl refl;
      head_is = h.head_is;
      ends_is = h.ends_is;
      asks_is = h.asks_is;
      owing_is = refl;
      owing_serving = λ f. absurd (false≢true f);
      last_is = λ f. absurd (false≢true f);
    })

    pub report-record : (new : ControllerSide) (p w : ℕ) → new ≡ controller_grown c (controller.Own (Reported p w)) → controller_record new ≡ record (controller_record now) { barred = false }
    report-record new p w step = record-after c new (controller.Own (Reported p w)) step ∙ ap (λ (s : ControllerSide). let y : TxControlled = record (controller_record s) { barred = false } in y) was

  -- what the places and the word of a held buffer still tell
  module _ (new : ControllerSide) (at' : ControllerPlaces) (same-word : held_word new ≡ held_word c) (same-held : (controller_record new).held ≡ x.held) (k : IsServer carried (controller_size new) (controller_record new) at') where
    still-held : at'.holding ≡ true → at.holding ≡ true
    still-held t = h.held_is ∙ ap is_there (sym same-held) ∙ sym k.held_is ∙ t

    still-ends : at'.holding ≡ true → ends ≡ eop_of (held_word new)
    still-ends t = h.ends_is (still-held t) ∙ ap eop_of (sym same-word)

    still-asks : at'.holding ≡ true → asks ≡ rs_of (held_word new)
    still-asks t = h.asks_is (still-held t) ∙ ap rs_of (sym same-word)

  -- B3 and C2
  loaded-word : (new : ControllerSide) (which : ControllerLoad) (word : ℕ) → LoadedWord which c word new → held_word new ≡ held_word c
  loaded-word new Tail word f = word-after c new (controller.Looked word) f.step
  loaded-word new Request word f = word-after c new (controller.LoadedRequest word) f.step

  pub load-keeps : (new : ControllerSide) (which : ControllerLoad) (word : ℕ) (at' : ControllerPlaces) → LoadedWord which c word new → IsServer carried (controller_size new) (controller_record new) at' → IsControllerEnd new at' last ends asks owing
  load-keeps new which word at' f k = let l = loaded-leaves c new which word f in let w = loaded-word new which word f in let sizes : controller_size new ≡ controller_size c = loaded-size new which word f in record {
    server = k;
    head_is = λ t. l.head ∙ h.head_is (ap is_serving (sym l.state) ∙ t) ∙ ap (λ (m : ℕ). length x.completed % m) (sym sizes) ∙ ap (λ (xs : List Posting). length xs % controller_size new) (sym l.completed);
    ends_is = still-ends new at' w l.held k;
    asks_is = still-asks new at' w l.held k;
    owing_is = h.owing_is ∙ sym l.barred;
    owing_serving = λ t. ap is_serving l.state ∙ h.owing_serving t;
    last_is = λ t. h.last_is t ∙ ap (λ (m : ℕ). (length x.completed - 1) % m) (sym sizes) ∙ ap (λ (xs : List Posting). (length xs - 1) % controller_size new) (sym l.completed);
  }
    where
      loaded-size : (new : ControllerSide) (which : ControllerLoad) (word : ℕ) → LoadedWord which c word new → controller_size new ≡ controller_size c
      loaded-size new Tail word f = ap controller_size f.step
      loaded-size new Request word f = ap controller_size f.step

  -- C3
  pub answer-keeps : (new : ControllerSide) (at' : ControllerPlaces) → MayAnswer c → Answered c new → IsServer carried (controller_size new) (controller_record new) at' → IsControllerEnd new at' last ends asks false
  answer-keeps new at' may answered k = ⊎_elim
      (λ a. let y = record-after c new controller.Enabled a.step in let w = word-after c new controller.Enabled a.step in record {
        server = k;
        head_is = λ t. ap (λ (z : TxControlled). z.head) y ∙ sym (zero-mod (controller_size new)) ∙ ap (λ (z : TxControlled). length z.completed % controller_size new) (sym y);
        ends_is = still-ends new at' w (ap (λ (z : TxControlled). z.held) y) k;
        asks_is = still-asks new at' w (ap (λ (z : TxControlled). z.held) y) k;
        owing_is = ap (λ (z : TxControlled). z.barred) (sym y);
        owing_serving = λ t. absurd (false≢true t);
        last_is = λ t. absurd (false≢true t);
      })
      (λ a. let y = record-after c new controller.Disabled a.step in let w = word-after c new controller.Disabled a.step in record {
        server = k;
        head_is = λ t. absurd (false≢true (ap (λ (z : TxControlled). is_serving z.state) (sym y) ∙ t));
        ends_is = still-ends new at' w (ap (λ (z : TxControlled). z.held) y) k;
        asks_is = still-asks new at' w (ap (λ (z : TxControlled). z.held) y) k;
        owing_is = sym (paid a.was) ∙ ap (λ (z : TxControlled). z.barred) (sym y);
        owing_serving = λ t. absurd (false≢true t);
        last_is = λ t. absurd (false≢true t);
      })
      answered
    where
      paid : is_serving (controller_state c) ≡ true → x.barred ≡ false
      paid serving = ⊎_elim (λ e. absurd (both_ways (is_serving (controller_state c)) e.idle serving)) (λ d. d.may.1) may

  pub settled-head : is_serving at.state ≡ true → (controller_record c).head ≡ serve_place c
  settled-head serving = h.head_is (sym (ap is_serving h.state_is) ∙ serving)

pub server-fresh : (n : ℕ) → IsRingLength n → IsServerOf n uncontrolled 0 (unplaced n) 0 false false false
server-fresh n lawful = record {
  server = shared.server-fresh carried n lawful;
  head_is = λ t. sym (zero-mod n);
  ends_is = λ t. absurd (false≢true t);
  asks_is = λ t. absurd (false≢true t);
  owing_is = refl;
  owing_serving = λ t. absurd (false≢true t);
  last_is = λ t. absurd (false≢true t);
}
