-- Why a script is not forwarded.
use Rattle.std.proofs.Common.{◌≡◌, ℕ, List, true, false, inl, inr, refl, subst, sym}
use Rattle.std.specs.Prelude.{◌⊎◌, Result, Ok, Err}
use Rattle.refusals.specs.declared.errors.ForwardError.{ForwardError}
use Rattle.refusals.specs.declared.errors.ForwardError.TheVariants as forward
use Rattle.teams.specs.Refusals.{Halted}
use Rattle.settings.specs.Configs.{FitsIn}
use Rattle.settings.specs.declared.config.Config.{Config}
use Rattle.wire_script.specs.Frame.{Frame}
use Rattle.wire_script.specs.Script.{script_of}
use Rattle.wire_script.specs.ScriptError.{Fails}
use Rattle.refusals.specs.declared.errors.ScriptError.{ScriptError}
use Rattle.requests.specs.declared.refusal.Refusal.{Refusal}
use Rattle.requests.specs.declared.refusal.Refusal.TheVariants as refusal
use Rattle.program.specs.Forwards.{ForwardRefused, IsUnforwarded, IsUnrun}

-- a fault of the script
pub by-script : (config : Config) (text : List ℕ) (e : Refusal) (fault : ScriptError) → e ≡ refusal.Script fault → Fails fault (script_of text)
    → ForwardRefused config text e
by-script config text e fault is fails = subst (ForwardRefused config text) (sym is) fails

-- the configuration, or what a forwarding wants that may begin
pub unrun : {A : Type 0} (config : Config) (script : List Frame) (e : ForwardError)
    → (◌≡◌ {A = Result A ForwardError} (Err e) (Err forward.Config) → ¬ (FitsIn script config))
    → ◌≡◌ {A = Result A ForwardError} (Err e) (Err forward.Config) ⊎ FitsIn script config
    → {G : Type 0} (gate : G) → (FitsIn script config → Halted {G = G} (λ _ _ _ b. b ≡ true) gate e) → IsUnrun config script e
unrun config script forward.Config unfit either gate halted = unfit refl
unrun config script forward.Memory unfit (inl bad) gate halted = cc bad
unrun config script forward.Memory unfit (inr fits) gate halted = fits
unrun config script forward.Thread unfit (inl bad) gate halted = cc bad
unrun config script forward.Thread unfit (inr fits) gate halted = fits
unrun config script forward.Gate unfit (inl bad) gate halted = cc bad
unrun config script forward.Gate unfit (inr fits) gate halted = let never : false ≡ true = (halted fits).1.1 in cc never

-- a script that is not forwarded
pub by-forward : (config : Config) (text : List ℕ) (script : List Frame) (e : Refusal) → script_of text ≡ Ok script → IsUnforwarded config script e
    → ForwardRefused config text e
by-forward config text script e says (why, is, unrun) = subst (ForwardRefused config text) (sym is) (script, says, unrun)

-- and want of memory for its text
pub by-text : (config : Config) (text : List ℕ) (script : List Frame) (e : Refusal) → e ≡ refusal.Memory → script_of text ≡ Ok script → FitsIn script config
    → ForwardRefused config text e
by-text config text script e is says fits = subst (ForwardRefused config text) (sym is) (script, says, fits)

-- a forwarding that was not refused for its configuration began with one that fits
pub fits-then : {A : Type 0} (x : A) (P : Type 0) → ◌≡◌ {A = Result A ForwardError} (Ok x) (Err forward.Config) ⊎ P → P
fits-then x P (inl bad) = cc bad
fits-then x P (inr fits) = fits
