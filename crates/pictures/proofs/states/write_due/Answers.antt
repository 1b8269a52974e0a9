-- The bit is whether a report is due.
use Rattle.std.proofs.Common.{◌≡◌, ◌∙◌, ap, sym}
use Rattle.std.specs.Int.{from_bool}
use Rattle.ring_model.specs.shared.Agreement.{bit}
use Rattle.pictures.proofs.Joining.{bit_is}
use Rattle.pictures.proofs.states.write_due.Goals as goal

pub returns : goal.returns
returns c =
    let due : bit c.args.machine.now.owed ≡ c.from-due.result = bit_is c.args.machine.now.owed ∙ sym (c.from-due.ensures ∙ ap from_bool c.is_report_due.ensures) in
    rw due c.write.ensures.bytes
