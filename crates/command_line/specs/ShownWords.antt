-- The words for the form of the output of `replay`: notes as words or objects, registers, pictures, or a page.
use Rattle.std.specs.Prelude.{◌≡◌, Bool, true, false, not, ◌&&◌, ◌||◌, List, Option, Some, None, codes, if◌then◌else◌}
use Rattle.clap.specs.Words.{Row, first_of}
use Rattle.requests.specs.Replaying.{is_page}
use Rattle.requests.specs.declared.replay.Pictures.{Pictures}
use Rattle.requests.specs.declared.replay.Pictures.TheVariants.{Never, Each, Last, States, Page}
use Rattle.requests.specs.declared.replay.ReplayOutput.{ReplayOutput}
use Rattle.requests.specs.declared.replay.TheConstants.{PAGE}
use Rattle.command_line.specs.OptionWords.{HasFlag, draws_any, picture_value}

-- A page has objects and registers in any case, so no words say so.
abbrev pub says_json : ReplayOutput → Bool
says_json s = s.json && not (is_page s.pictures)

abbrev pub says_registers : ReplayOutput → Bool
says_registers s = s.registers && not (is_page s.pictures)

-- Which forms have words: pictures exclude objects, and states are only shown in a page.
abbrev pub HasWords : Pictures → Bool → Bool → Type 0
HasWords Never json registers = Unit {0}
HasWords Each json registers = json ≡ false
HasWords Last json registers = json ≡ false
HasWords States json registers = ⊥
HasWords Page json registers = (json ≡ true) × (registers ≡ true)

abbrev pub IsSayable : ReplayOutput → Type 0
IsSayable s = HasWords s.pictures s.json s.registers

-- The form for the values of the four options, if they may stand together.
abbrev pub form_of : Bool → Bool → Bool → Pictures → Option ReplayOutput
form_of page json registers pictures = if page then (if json || (registers || draws_any pictures) then None else Some PAGE)
    else (if json && draws_any pictures then None else Some (record { json = json; registers = registers; pictures = pictures }))

-- The values of the options.
pub record HasShown (rows : List Row) (shown : ReplayOutput) : Type 0 where
  pub json : HasFlag rows (codes "json") (says_json shown)
  pub registers : HasFlag rows (codes "registers") (says_registers shown)
  pub picture : first_of (codes "picture") rows ≡ picture_value shown.pictures
  pub page : HasFlag rows (codes "page") (is_page shown.pictures)
  pub sayable : IsSayable shown
