use Rattle.std.proofs.Common.{◌≡◌, ◌∙◌, refl, sym, true, false}
use Rattle.ring_model.specs.declared.states.Completion.{Completion}
use Rattle.ring_model.specs.declared.states.Completion.TheVariants.{Head, Status}
use Rattle.command_line.specs.OptionWords.{is_head}
use Rattle.command_line.proofs.command.completion_in.Goals as goal

by_head : (c : Completion) → is_head c ≡ true → Head ≡ c
by_head Head is = refl
by_head Status is = cc is

by_status : (c : Completion) → is_head c ≡ false → Status ≡ c
by_status Head is = cc is
by_status Status is = refl

pub returns-then-flag_in : goal.returns-then-flag_in
returns-then-flag_in c said has = by_head said (sym (c.flag_in.ensures (is_head said) has) ∙ c.if-flag_in.true)

pub returns-else-flag_in : goal.returns-else-flag_in
returns-else-flag_in c said has = by_status said (sym (c.flag_in.ensures (is_head said) has) ∙ c.if-flag_in.false)
