-- What a renewal finds after each of its steps.
use Rattle.std.proofs.Common.{◌≡◌, ℕ, ◌+◌, ◌%◌, true, length, sym, ap, ◌∙◌, subst}
use Rattle.ring_model.specs.shared.Handshakes.{is_cleared, is_tailed}
use Rattle.shared_ring.specs.declared.events.DriverEvent.TheVariants as driver
use Rattle.tx_ring.specs.Records.{TxDriven, drive}
use Rattle.tx_ring.specs.Ends.{DriverSide, driver_size, driver_record, posted, returned, driver_state, fill_place, driver_grown}
use Rattle.shared_ring.proofs.Posting.{record-after}

module _ (d d1 : DriverSide) (one : d1 ≡ driver_grown d driver.ClearedHead) where
  first : driver_record d1 ≡ drive (driver_record d) driver.ClearedHead
  first = record-after d d1 driver.ClearedHead one

  pub head-cleared : is_cleared (driver_state d1) ≡ true
  head-cleared = ap (λ (x : TxDriven). is_cleared x.state) first

  pub head-place : (fill : ℕ) → fill ≡ fill_place d → fill ≡ fill_place d1
  head-place fill e = e ∙ ap (λ (n : ℕ). length (posted d) % n) (sym (ap driver_size one)) ∙ ap (λ (x : TxDriven). length x.posted % driver_size d1) (sym first)

  pub head-back : returned d ≡ length (posted d) → returned d1 ≡ length (posted d1)
  head-back e = subst (λ (x : TxDriven). length x.reaped + x.reclaimed ≡ length x.posted) (sym first) e

  module _ (d2 : DriverSide) (two : d2 ≡ driver_grown d1 driver.ClearedTail) where
    second : driver_record d2 ≡ drive (driver_record d1) driver.ClearedTail
    second = record-after d1 d2 driver.ClearedTail two

    pub tail-cleared : is_tailed (driver_state d2) ≡ true
    tail-cleared = ap (λ (x : TxDriven). is_tailed x.state) second

    pub tail-place : (fill : ℕ) → fill ≡ fill_place d → fill ≡ fill_place d2
    tail-place fill e = head-place fill e ∙ ap (λ (n : ℕ). length (posted d1) % n) (sym (ap driver_size two)) ∙ ap (λ (x : TxDriven). length x.posted % driver_size d2) (sym second)

    pub tail-back : returned d ≡ length (posted d) → returned d2 ≡ length (posted d2)
    tail-back e = subst (λ (x : TxDriven). length x.reaped + x.reclaimed ≡ length x.posted) (sym second) (head-back e)
