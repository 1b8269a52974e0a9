-- The flows of several workers.
use Rattle.std.specs.Prelude.{◌≡◌, Bool, true, List, map, All, Vec, Result, Ok, Err}
use Rattle.std.specs.Global.{Global}

module _ {F : Type 0} where
  -- The keys of the flows, hand by hand.
  abbrev pub hand_keys : {K : Type 0} → (F → K) → List (Vec F Global) → List (List K)
  hand_keys key hands = map (λ h. map key h.items) hands

  abbrev pub AllOver : (F → Bool) → List (Vec F Global) → Type 0
  AllOver over hands = All (λ h. All (λ f. over f ≡ true) h.items) hands

-- What a hand was given: as its worker received it, or as it came back if no worker was started.
abbrev pub given_by : {W S X : Type 0} → (W → X) → (S → X) → Result W S → X
given_by of_worker of_back (Ok worker) = of_worker worker
given_by of_worker of_back (Err back) = of_back back
