-- The pictures of `replay`.
use Rattle.std.specs.Prelude.{Bool, true, false}
use Rattle.requests.specs.declared.replay.Pictures.{Pictures}
use Rattle.requests.specs.declared.replay.Pictures.TheVariants as pictures

-- Whether the output is a page.
abbrev pub is_page : Pictures → Bool
is_page pictures.Page = true
is_page form = false
