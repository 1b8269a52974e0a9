-- The four flags tell what is expected.
use Rattle.std.proofs.Common.{◌≡◌, ◌∙◌, refl, Bool, true, false, ◌&&◌, Option, Some, None}
use Rattle.std.specs.Prelude.{not}
use Rattle.requests.specs.Replaying.{is_page}
use Rattle.requests.specs.declared.replay.Pictures.{Pictures}
use Rattle.requests.specs.declared.replay.Pictures.TheVariants.{Never, Each, Last, States, Page}
use Rattle.requests.specs.declared.replay.ReplayOutput.{ReplayOutput}
use Rattle.requests.specs.Lists.{shows_page}
use Rattle.command_line.specs.ScheduleWords.{IsExpected, IsExpectedBy, expect_of, expects_json, expects_registers, says_expect}
use Rattle.command_line.proofs.expects.expect_in.Goals as goal

expected : (p : Pictures) (j r : Bool) → IsExpectedBy p j r
    → ◌≡◌ {A = Option (Option ReplayOutput)} (expect_of (is_page p) (true && not (is_page p)) (j && not (is_page p)) (r && not (is_page p))) (Some (Some (record { json = j; registers = r; pictures = p })))
expected Never true true is = refl
expected Never true false is = refl
expected Never false true is = refl
expected Never false false is = refl
expected Each j r none = absurd none
expected Last j r none = absurd none
expected States j r none = absurd none
expected Page j r (json, registers) = rw (json, registers) refl

read_as : (e : Option ReplayOutput) (page stands json registers : Bool) → page ≡ shows_page e → stands ≡ says_expect e → json ≡ expects_json e → registers ≡ expects_registers e → IsExpected e
    → ◌≡◌ {A = Option (Option ReplayOutput)} (expect_of page stands json registers) (Some e)
read_as None page stands json registers page_is stands_is json_is registers_is is = rw (page_is, stands_is, json_is, registers_is) refl
read_as (Some form) page stands json registers page_is stands_is json_is registers_is is = rw (page_is, stands_is, json_is, registers_is) (expected form.pictures form.json form.registers is)

pub returns : goal.returns
returns c expect has =
    c.expect_of.ensures ∙ read_as expect _ _ _ _ (c.flag_in-page.ensures (shows_page expect) has.page) (c.flag_in-stands.ensures (says_expect expect) has.stands)
    (c.flag_in-json.ensures (expects_json expect) has.json) (c.flag_in-registers.ensures (expects_registers expect) has.registers) has.expected
