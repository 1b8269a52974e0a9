-- The frames at the places of a flow are the script's frames of that flow.
use Rattle.std.proofs.Common.{◌≡◌, ◌∙◌, ℕ, ◌+◌, ◌==◌, List, [], ◌∷◌, ◌++◌, Bool, true, false, Some, refl, ap, sym, cond, length, append_assoc, length-append, arith}
use Rattle.std.specs.Prelude.{slice_get}
use Rattle.flows.specs.Keys.{bytes_at, frames_at, repeated}
use Rattle.ring_model.specs.shared.Frames.{Bytes}
use Rattle.wire_script.specs.Frame.{Frame}
use Rattle.settings.specs.declared.config.Config.{Config}
use Rattle.forwarder.specs.Plans.{plan}
use Rattle.forwarder.specs.Flows.{flow_of, frames_of, places_from}

read-at : {X : Type 0} (front rest : List X) (x : X) → slice_get (front ++ x ∷ rest) (length front) ≡ Some x
read-at [] rest x = refl
read-at (y ∷ ys) rest x = read-at ys rest x

frames-from : (pairs flow k : ℕ) (script front rest : List Frame) → script ≡ front ++ rest → k ≡ length front → frames_at script (places_from pairs flow k rest) ≡ frames_of pairs flow rest
frames-from pairs flow k script front [] whole here = refl
frames-from pairs flow k script front (x ∷ xs) whole here =
    by-case (flow_of pairs x == flow) (places_from pairs flow (k + 1) xs) (frames_of pairs flow xs)
    (frames-from pairs flow (k + 1) script (front ++ x ∷ []) xs (whole ∙ sym (append_assoc front (x ∷ []) xs)) (let long = length-append front (x ∷ []) in omega (arith, here, long)))
    (ap bytes_at (ap (λ l. slice_get l k) whole ∙ ap (λ i. slice_get (front ++ x ∷ xs) i) here ∙ read-at front xs x))
  where
    by-case : (b : Bool) (later : List ℕ) (frames : List Bytes) → frames_at script later ≡ frames → bytes_at (slice_get script k) ≡ x.bytes → frames_at script (cond b (k ∷ later) later) ≡ cond b (x.bytes ∷ frames) frames
    by-case true later frames same own = ap (λ l. bytes_at (slice_get script k) ∷ l) same ∙ ap (λ f. f ∷ frames) own
    by-case false later frames same own = same

-- so a plan has just these
pub plan-frames : (config : Config) (script : List Frame) (flow : ℕ) → (plan config script flow).frames ≡ repeated config.repeat (frames_of config.pairs flow script)
plan-frames config script flow = ap (repeated config.repeat) (frames-from config.pairs flow 0 script [] script refl refl)
