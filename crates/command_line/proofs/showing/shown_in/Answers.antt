-- The four options say the form.
use Rattle.std.proofs.Common.{◌≡◌, ◌∙◌, ap, refl, Bool, true, false, ◌&&◌, Option, Some, unwrap_or}
use Rattle.std.specs.Prelude.{not}
use Rattle.requests.specs.Replaying.{is_page}
use Rattle.requests.specs.declared.replay.Pictures.{Pictures}
use Rattle.requests.specs.declared.replay.Pictures.TheVariants.{Never, Each, Last, States, Page}
use Rattle.requests.specs.declared.replay.ReplayOutput.{ReplayOutput}
use Rattle.command_line.specs.OptionWords.{said_pictures}
use Rattle.command_line.specs.ShownWords.{HasWords, form_of, says_json, says_registers}
use Rattle.command_line.proofs.showing.shown_in.Goals as goal

shown : (p : Pictures) (j r : Bool) → HasWords p j r → form_of (is_page p) (j && not (is_page p)) (r && not (is_page p)) (said_pictures p) ≡ Some (record { json = j; registers = r; pictures = p })
shown Never true true sayable = refl
shown Never true false sayable = refl
shown Never false true sayable = refl
shown Never false false sayable = refl
shown Each j true json = rw json refl
shown Each j false json = rw json refl
shown Last j true json = rw json refl
shown Last j false json = rw json refl
shown States j r none = absurd none
shown Page j r (json, registers) = rw (json, registers) refl

read_as : (s : ReplayOutput) (page json registers : Bool) (p : Pictures) → page ≡ is_page s.pictures → json ≡ says_json s → registers ≡ says_registers s → p ≡ said_pictures s.pictures
    → HasWords s.pictures s.json s.registers → form_of page json registers p ≡ Some s
read_as s page json registers p page_is json_is registers_is pictures_are sayable = rw (page_is, json_is, registers_is, pictures_are) (shown s.pictures s.json s.registers sayable)

pub returns : goal.returns
returns c form has =
    c.form_of.ensures ∙ read_as form _ _ _ _ (c.flag_in-page.ensures (is_page form.pictures) has.page) (c.flag_in-json.ensures (says_json form) has.json)
    (c.flag_in-registers.ensures (says_registers form) has.registers)
    (ap (λ (o : Option Pictures). unwrap_or o Never) (c.in_ok-pictures.ensures form.pictures has.picture)) has.sayable
