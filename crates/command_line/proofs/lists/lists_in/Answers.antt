-- The flag tells which lists are asked for.
use Rattle.std.proofs.Common.{◌≡◌, ⊎_elim, Bool, true, false, List, codes}
use Rattle.clap.specs.Words.{Row}
use Rattle.requests.specs.declared.lists.ScheduleRequest.{ScheduleRequest}
use Rattle.command_line.specs.OptionWords.{HasFlag}
use Rattle.command_line.specs.ScheduleWords.{HasLists}
use Rattle.command_line.proofs.lists.lists_in.Goals as goal

never : (stands : Bool) → stands ≡ true → stands ≡ false → ⊥
never stands is other = cc

no-cover : (rows : List Row) (request : ScheduleRequest) → HasLists rows request → HasFlag rows (codes "cover") false
no-cover rows request has = ⊎_elim (λ h. h.cover) (λ h. ⊎_elim (λ k. k.cover) (λ k. k.cover) h) has

pub returns-in_err-cover_in-clause-schedules : goal.returns-in_err-cover_in-clause-schedules
returns-in_err-cover_in-clause-schedules c request has = absurd (never _ c.if-flag_in.true (c.flag_in.ensures false (no-cover _ request has)))

pub returns-in_err-drawn_in-clause-cover : goal.returns-in_err-drawn_in-clause-cover
returns-in_err-drawn_in-clause-cover c request has = absurd (never _ (c.flag_in.ensures true has.cover) c.if-flag_in.false)

pub returns-in_ok-cover_in-clause-schedules : goal.returns-in_ok-cover_in-clause-schedules
returns-in_ok-cover_in-clause-schedules c request has = never _ c.if-flag_in.true (c.flag_in.ensures false (no-cover _ request has))

pub returns-in_ok-drawn_in-clause-cover : goal.returns-in_ok-drawn_in-clause-cover
returns-in_ok-drawn_in-clause-cover c request has = never _ (c.flag_in.ensures true has.cover) c.if-flag_in.false
