-- The result of a refused call.
use Rattle.std.specs.Prelude.{◌≡◌, Result, Ok, Err}
use Rattle.refusals.specs.declared.errors.CaptureError.{CaptureError}
use Rattle.refusals.specs.declared.errors.CaptureError.TheVariants.{Memory}

-- The first step, and then the second with its value.
infixl 10 ◌>>=◌
abbrev pub ◌>>=◌ : {A B : Type 0} → Result A CaptureError → (A → Result B CaptureError) → Result B CaptureError
Ok x >>= f = f x
Err e >>= f = Err e

-- The error is the expected one, unless memory ran out.
abbrev pub Fails : {X : Type 0} → CaptureError → Result X CaptureError → Type 0
Fails Memory meant = Unit {0}
Fails e meant = meant ≡ Err e

-- The result is the expected one, unless memory ran out.
abbrev pub Answers : {X : Type 0} → Result X CaptureError → Result X CaptureError → Type 0
Answers (Ok x) meant = meant ≡ Ok x
Answers (Err e) meant = Fails e meant

-- The same for a result seen through `view`.
abbrev pub AnswersAs : {X Y : Type 0} → (X → Y) → Result X CaptureError → Result Y CaptureError → Type 0
AnswersAs view (Ok x) meant = meant ≡ Ok (view x)
AnswersAs view (Err e) meant = Fails e meant
