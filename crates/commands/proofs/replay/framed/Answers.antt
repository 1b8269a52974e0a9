-- A page has the data between its two constant parts.
use Rattle.std.proofs.Common.{◌≡◌, ◌∙◌, Bool, ap}
use Rattle.std.proofs.lemmas.Result.{IfOk-weaker}
use Rattle.std.specs.String.{string_bytes}
use Rattle.requests.specs.Replaying.{is_page}
use Rattle.commands.specs.Page.{page_of}
use Rattle.commands.specs.Replay.{framed}
use Rattle.commands.proofs.replay.framed.Goals as goal

pub returns-then-is_page : goal.returns-then-is_page
returns-then-is_page c =
    let content = string_bytes c.args.content in
    IfOk-weaker c.page_with.result _ (λ page. string_bytes page ≡ framed (is_page c.args.pictures) content)
    (λ page is. is ∙ ap page_of c.as_str.ensures.value ∙ ap (λ (b : Bool). framed b content) c.if-is_page.ensures) c.page_with.ensures
