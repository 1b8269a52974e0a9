-- What the words say of pictures is what is read.
use Rattle.std.proofs.Common.{◌≡◌, ◌∙◌, refl, codes, Option, Some, None}
use Rattle.clap.specs.Words.{found_of}
use Rattle.clap.proofs.WalkLemmas.{first_value-rows}
use Rattle.requests.specs.declared.replay.Pictures.{Pictures as Drawn}
use Rattle.requests.specs.declared.replay.Pictures.TheVariants.{Never, Each, Last, States, Page}
use Rattle.command_line.specs.OptionWords.{picture_value, said_pictures}
use Rattle.command_line.proofs.drawings.pictures_in.Goals as goal

pub returns-in-Some : goal.returns-in-Some
returns-in-Some c pictures has =
    c.pictures_named.ensures pictures (c.in-Some.ensures ∙ (first_value-rows (found_of c.args.replay.now) (codes "picture") ∙ has))

none_never : (pictures : Drawn) → None ≡ picture_value pictures → ◌≡◌ {A = Option Drawn} (Some Never) (Some (said_pictures pictures))
none_never Never is = refl
none_never Each is = let bad : ⊥ = cc is in absurd bad
none_never Last is = let bad : ⊥ = cc is in absurd bad
none_never States is = refl
none_never Page is = refl

pub returns-in-None : goal.returns-in-None
returns-in-None c pictures has =
    none_never pictures (c.in-None.ensures ∙ (first_value-rows (found_of c.args.replay.now) (codes "picture") ∙ has))
