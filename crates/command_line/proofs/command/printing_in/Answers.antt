-- Each flag is that of what is to be printed.
use Rattle.std.proofs.Common.{◌≡◌, refl, Bool}
use Rattle.requests.specs.declared.printing.Printing.{Printing}
use Rattle.command_line.proofs.command.printing_in.Goals as goal

printing_is : (printing : Printing) (q j p r : Bool) → q ≡ printing.quiet → j ≡ printing.json → p ≡ printing.progress → r ≡ printing.rate
    → ◌≡◌ {A = Printing} (record { quiet = q; json = j; progress = p; rate = r }) printing
printing_is printing q j p r quiet json progress rate = rw (quiet, json, progress, rate) refl

pub returns : goal.returns
returns c printing has =
    printing_is printing _ _ _ _ (c.flag_in-quiet.ensures printing.quiet has.quiet) (c.flag_in-json.ensures printing.json has.json)
    (c.flag_in-progress.ensures printing.progress has.progress) (c.flag_in-rate.ensures printing.rate has.rate)
