-- The thresholds of a poll-mode driver: their text, and the rings that they fit.
use Rattle.std.specs.Prelude.{◌≡◌, ℕ, ◌+◌, ◌%◌, ◌^◌, ◌<◌, ◌≤◌, List, ◌∷◌, ◌++◌, codes, decimal}
use Rattle.settings.specs.declared.thresholds.Thresholds.{Thresholds}

-- A field `NAME=VALUE`.
abbrev pub field_text : List ℕ → ℕ → List ℕ
field_text name value = name ++ 61 ∷ decimal value

-- The field has this name, and a value less than 100,000.
pub record HasValue (field name : List ℕ) (value : ℕ) : Type 0 where
  pub text_is : field ≡ field_text name value
  pub few_digits : value < 10 ^ 5

-- The text `refill=F,report=R,clean=T`.
abbrev pub thresholds_text : Thresholds → List ℕ
thresholds_text t = field_text (codes "refill") t.refill ++ 44 ∷ (field_text (codes "report") t.report ++ 44 ∷ field_text (codes "clean") t.clean)

-- The text states these thresholds, each less than 100,000.
pub record IsThresholds (text : List ℕ) (t : Thresholds) : Type 0 where
  pub text_is : text ≡ thresholds_text t
  pub refill : t.refill < 10 ^ 5
  pub report : t.report < 10 ^ 5
  pub clean : t.clean < 10 ^ 5

-- The same of its three fields, for private functions.
pub record HaveThresholds (refill report clean : List ℕ) (t : Thresholds) : Type 0 where
  pub refill_is : HasValue refill (codes "refill") t.refill
  pub report_is : HasValue report (codes "report") t.report
  pub clean_is : HasValue clean (codes "clean") t.clean

-- DPDK's ixgbe driver accepts these thresholds for transmit rings of n descriptors.
pub record FitTransmit (n : ℕ) (t : Thresholds) : Type 0 where
  pub least_report : 1 ≤ t.report
  pub most_report : t.report ≤ 32
  pub divides : n % t.report ≡ 0
  pub in_order : t.report ≤ t.clean
  pub clean : t.clean + 3 < n
  pub together : t.clean + t.report ≤ n

-- It accepts them for rings of n descriptors in both directions.
pub record Fit (n : ℕ) (t : Thresholds) : Type 0 where
  pub least_ring : 32 ≤ n
  pub refill : t.refill + 1 < n
  pub transmit : FitTransmit n t
