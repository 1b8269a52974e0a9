-- The page with these data: they are between two constant texts.
use Rattle.std.specs.Prelude.{ℕ, List, ◌++◌}
use Rattle.commands.specs.declared.page.head.TheConstants.{PAGE_HEAD}
use Rattle.commands.specs.declared.page.tail.TheConstants.{PAGE_TAIL}

abbrev pub page_of : List ℕ → List ℕ
page_of content = PAGE_HEAD.now ++ (content ++ PAGE_TAIL.now)
