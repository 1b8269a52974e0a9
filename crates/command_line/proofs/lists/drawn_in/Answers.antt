-- The flag tells which lists are drawn.
use Rattle.std.proofs.Common.{◌≡◌, ◌∙◌, ⊎_elim, Bool, true, false}
use Rattle.command_line.proofs.lists.drawn_in.Goals as goal

never : (stands : Bool) → stands ≡ true → stands ≡ false → ⊥
never stands is other = cc

pub returns-then-flag_in : goal.returns-then-flag_in
returns-then-flag_in c request has =
    ⊎_elim (λ h. absurd (never _ c.if-flag_in.true (c.flag_in.ensures false h.recommended)))
    (λ h. ⊎_elim (λ k. c.recommended_in.ensures request k) (λ k. absurd (never _ c.if-flag_in.true (c.flag_in.ensures false k.recommended))) h) has

pub returns-then-is_said : goal.returns-then-is_said
returns-then-is_said c request has =
    ⊎_elim (λ h. absurd (never _ c.if-is_said.true (c.is_said.ensures ∙ h.undriven)))
    (λ h. ⊎_elim (λ k. absurd (never _ (c.flag_in.ensures true k.recommended) c.if-flag_in.false)) (λ k. c.driven_in.ensures.said request k) h) has

pub returns-else-is_said : goal.returns-else-is_said
returns-else-is_said c request has =
    ⊎_elim (λ h. c.schedules_in.ensures request h)
    (λ h. ⊎_elim (λ k. absurd (never _ (c.flag_in.ensures true k.recommended) c.if-flag_in.false))
    (λ k. absurd (never _ (c.is_said.ensures ∙ k.is_driver) c.if-is_said.false)) h) has
