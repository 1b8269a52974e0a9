-- The lists that `schedules` prints.
use Rattle.std.specs.Prelude.{Bool, false, Option, Some, None}
use Rattle.requests.specs.declared.replay.ReplayOutput.{ReplayOutput}
use Rattle.requests.specs.Replaying.{is_page}

-- Whether the lists are shown as a page.
abbrev pub shows_page : Option ReplayOutput → Bool
shows_page None = false
shows_page (Some form) = is_page form.pictures
