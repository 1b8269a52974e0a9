-- A completed error has the kind of the error, or memory was missing for it.
use Rattle.std.proofs.Common.{◌∙◌, ⊎_elim, inl, subst, sym}
use Rattle.std.specs.Prelude.{◌≡◌, ◌⊎◌}
use Rattle.clap.specs.declared.error.kind.ErrorKind.{ErrorKind}
use Rattle.clap.specs.declared.error.kind.ErrorKind.TheVariants.{OutOfMemory}
use Rattle.command_line.specs.CommandLine.{IsMistake}
use Rattle.command_line.proofs.command.asked_of.Goals as goal

still-memory : (told kind : ErrorKind) → (told ≡ kind) ⊎ (told ≡ OutOfMemory) → kind ≡ OutOfMemory → told ≡ OutOfMemory
still-memory told kind is memory = ⊎_elim (λ same. same ∙ memory) (λ lost. lost) is

still-mistake : (told kind : ErrorKind) → (told ≡ kind) ⊎ (told ≡ OutOfMemory) → (kind ≡ OutOfMemory) ⊎ IsMistake kind → (told ≡ OutOfMemory) ⊎ IsMistake told
still-mistake told kind is wrong =
    ⊎_elim (λ same. subst (λ (k : ErrorKind). (k ≡ OutOfMemory) ⊎ IsMistake k) (sym same) wrong) (λ lost. inl lost) is

pub returns-in-Err-clause-said : goal.returns-in-Err-clause-said
returns-in-Err-clause-said c saying says = still-memory _ _ c.completed.ensures (c.in-Err.ensures.said saying says)

pub returns-in-Err-clause-misuse : goal.returns-in-Err-clause-misuse
returns-in-Err-clause-misuse c misuse = still-mistake _ _ c.completed.ensures (c.in-Err.ensures.misuse misuse)
