-- No buffer comes in or goes out by a batch, whether it was refused or not.
use Rattle.std.proofs.Common.{◌≡◌, ◌∙◌, ℕ, ◌+◌, ◌⊎◌, List, [], ◌∷◌, ◌++◌, length, map, drop, Bool, true, false, Result, Ok, Err, IsPermutation, sym, refl, ap, subst, inl, inr, arith, append_assoc, append-nil}
use Rattle.std.proofs.lemmas.List.Sorted.{IsPermutation-append_comm, IsPermutation-trans, length_permutation}
use Rattle.std.specs.Prelude.{OnErr, IfOk, IfErr}
use Rattle.buffer_pool.specs.Buffer.{Buffer}
use Rattle.refusals.specs.declared.errors.DriverError.{DriverError}
use Rattle.refusals.specs.declared.errors.DriverError.TheVariants.{QueueOff, TooLong}
use Rattle.ring_model.specs.shared.Handshakes.{is_open}
use Rattle.ring_model.specs.transmit.Ring.{number_of_posting}
use Rattle.rx_ring.specs.Ends as receiving
use Rattle.rx_ring.specs.Records.{RxDriven}
use Rattle.tx_ring.specs.Ends as transmitting
use Rattle.tx_ring.specs.Records.{TxDriven}
use Rattle.driver.specs.Handshake.{AskedEnabling}
use Rattle.driver.specs.receive.Batches.{Hands, Batched}
use Rattle.driver.specs.receive.Returns.{itself, numbers_of}
use Rattle.driver.specs.receive.Receiver.{Receiver, hands}
use Rattle.driver.specs.transmit.Batches as transmit
use Rattle.driver.specs.transmit.Frames.{numbers_in}
use Rattle.driver.specs.transmit.Transmitter.{Transmitter, Sending, sending}
use Rattle.pool.specs.Hands.{total, HoldsAll}
use Rattle.buffer_accounting.specs.Lent.{lent, with_receiver, with_transmitter, SameNumbers, GivenBack}
use Rattle.buffer_accounting.proofs.Giving.{shuffled}
use Rattle.buffer_accounting.proofs.Batches.{total-received, total-sent, total-cleaned}

pub same-trans : (a b c : List ℕ) → SameNumbers a b → SameNumbers b c → SameNumbers a c
same-trans a b c e f = λ h. e h ∙ f h

pub batch-received : (most batch : ℕ) (old new : Receiver) (had has : List ℕ) (before after : List (List Buffer)) (r : Result ℕ DriverError) → OnErr r (hands new has after ≡ hands old had before)
    → IfOk r (λ count. Batched batch most count (hands old had before) (hands new has after)) → (tx : Transmitter) → SameNumbers (lent old tx had before) (lent new tx has after)
batch-received most batch old new had has before after (Ok count) same done tx = λ h. total-received h old new tx had has before after done.grew
batch-received most batch old new had has before after (Err e) same done tx = λ h.
    ap (λ (x : Hands). total h (lent (let r : Receiver = record { end = x.end; chain = x.chain; batch = batch } in r) tx x.stash x.list)) (sym same)

module _ (old new : Transmitter) (had has : List ℕ) (before after : List (List Buffer)) where
  refused : (e : DriverError) → (e ≡ QueueOff) ⊎ (e ≡ TooLong) → (e ≡ QueueOff → sending new has after ≡ sending old had before)
      → (e ≡ TooLong → transmit.OnlyCleaned (sending old had before) (sending new has after)) → (rx : Receiver) → SameNumbers (lent rx old had before) (lent rx new has after)
  refused e (inl off) same cleaned rx = λ h. ap (λ (x : Sending). total h (lent rx x.driver x.stash x.packets)) (sym (same off))
  refused e (inr long) same cleaned rx = let c = cleaned long in λ h.
      total-cleaned h rx old new had has before c.cleaning.into ∙ ap (λ (l : List (List Buffer)). total h (lent rx new has l)) (sym c.packets)

  pub batch-sent : (r : Result ℕ DriverError) → IfErr r (λ e. (e ≡ QueueOff) ⊎ (e ≡ TooLong)) → (r ≡ Err QueueOff → sending new has after ≡ sending old had before)
      → (r ≡ Err TooLong → transmit.OnlyCleaned (sending old had before) (sending new has after)) → IfOk r (λ count. transmit.Batched count (sending old had before) (sending new has after))
      → (rx : Receiver) → SameNumbers (lent rx old had before) (lent rx new has after)
  batch-sent (Ok count) refusal same cleaned done rx = λ h. total-sent h count rx old new had has before after done
  batch-sent (Err e) refusal same cleaned done rx = refused e refusal (λ q. same (ap (λ (x : DriverError). Err x) q)) (λ q. cleaned (ap (λ (x : DriverError). Err x) q)) rx

-- an enabling leaves all buffers where they are
received-enabled : (old new : Receiver) (is : Bool) → is_open (receiving.driver_state old.end) ≡ is → (is_open (receiving.driver_state old.end) ≡ true → AskedEnabling old.end new.end)
    → (is_open (receiving.driver_state old.end) ≡ false → new ≡ old) → new.chain ≡ old.chain → with_receiver new ≡ with_receiver old
received-enabled old new true e asked same chain = ap (λ (x : RxDriven). map itself (drop (length x.reaped + x.reclaimed) x.posted) ++ numbers_of new.chain) (asked e).did
    ∙ ap (λ (l : List Buffer). map itself (drop (receiving.returned old.end) (receiving.posted old.end)) ++ numbers_of l) chain
received-enabled old new false e asked same chain = ap with_receiver (same e)

pub lent-receiving : (held : List ℕ) (old new : Receiver) (tx : Transmitter) (stash : List ℕ) (packets : List (List Buffer)) → SameNumbers held (lent old tx stash packets)
    → (is_open (receiving.driver_state old.end) ≡ true → AskedEnabling old.end new.end) → (is_open (receiving.driver_state old.end) ≡ false → new ≡ old) → new.chain ≡ old.chain
    → SameNumbers held (lent new tx stash packets)
lent-receiving held old new tx stash packets s asked same chain = λ h. s h
    ∙ ap (λ (l : List ℕ). total h (stash ++ (l ++ (numbers_in packets ++ with_transmitter tx)))) (sym (received-enabled old new (is_open (receiving.driver_state old.end)) refl asked same chain))

sent-enabled : (old new : Transmitter) (is : Bool) → is_open (transmitting.driver_state old.end) ≡ is → (is_open (transmitting.driver_state old.end) ≡ true → AskedEnabling old.end new.end)
    → (is_open (transmitting.driver_state old.end) ≡ false → new ≡ old) → with_transmitter new ≡ with_transmitter old
sent-enabled old new true e asked same = ap (λ (x : TxDriven). map number_of_posting (drop (length x.reaped + x.reclaimed) x.posted)) (asked e).did
sent-enabled old new false e asked same = ap with_transmitter (same e)

pub lent-sending : (held : List ℕ) (rx : Receiver) (old new : Transmitter) (stash : List ℕ) (packets : List (List Buffer)) → SameNumbers held (lent rx old stash packets)
    → (is_open (transmitting.driver_state old.end) ≡ true → AskedEnabling old.end new.end) → (is_open (transmitting.driver_state old.end) ≡ false → new ≡ old)
    → SameNumbers held (lent rx new stash packets)
lent-sending held rx old new stash packets s asked same = λ h. s h
    ∙ ap (λ (l : List ℕ). total h (stash ++ (with_receiver rx ++ (numbers_in packets ++ l)))) (sym (sent-enabled old new (is_open (transmitting.driver_state old.end)) refl asked same))

-- ---- all of it goes back: first what the receive driver has, then what the transmit driver has, and then the packets

none-left : (xs : List ℕ) → IsPermutation xs [] → xs ≡ []
none-left [] p = refl
none-left (x ∷ xs) p = let e = length_permutation (x ∷ xs) [] p in absurd (omega arith)

module _ (held stash received waiting sent : List ℕ) (same : SameNumbers held (stash ++ (received ++ (waiting ++ sent)))) where
  all-held : IsPermutation held ((stash ++ received) ++ (waiting ++ sent))
  all-held = shuffled held ((stash ++ received) ++ (waiting ++ sent)) (λ h. same h ∙ ap (total h) (sym (append_assoc stash received (waiting ++ sent))))

  pub received-held : HoldsAll held (stash ++ received)
  received-held = (waiting ++ sent, all-held)

  module _ (first empty : List ℕ) (given : GivenBack held (stash ++ received) first) (none : empty ≡ []) where
    rest-held : IsPermutation first ((empty ++ sent) ++ waiting)
    rest-held = subst (λ (l : List ℕ). IsPermutation first ((l ++ sent) ++ waiting)) (sym none)
        (IsPermutation-trans first (waiting ++ sent) (sent ++ waiting) (given (waiting ++ sent) all-held) (IsPermutation-append_comm waiting sent))

    pub sent-held : HoldsAll first (empty ++ sent)
    sent-held = (waiting, rest-held)

    module _ (second : List ℕ) (gave : GivenBack first (empty ++ sent) second) where
      last-held : IsPermutation second (waiting ++ [])
      last-held = subst (λ (l : List ℕ). IsPermutation second l) (sym (append-nil waiting)) (gave waiting rest-held)

      pub waiting-held : HoldsAll second waiting
      waiting-held = ([], last-held)

      pub none-held : (third : List ℕ) → GivenBack second waiting third → third ≡ []
      none-held third last = none-left third (last [] last-held)
