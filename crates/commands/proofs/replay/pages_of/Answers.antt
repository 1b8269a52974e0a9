-- Each list that is cut off adds its page.
use Rattle.std.proofs.Common.{◌≡◌, ◌∙◌, ◌++◌, Bool, ap, subst, sym}
use Rattle.std.specs.String.{string_bytes}
use Rattle.commands.specs.Lists.{IsListCut}
use Rattle.commands.proofs.ListPages.{PagesSoFar, cut-moves, pages-first, pages-last, pages-next, pages-skipped}
use Rattle.commands.proofs.replay.pages_of.Goals as goal

pub loop-rest-init : goal.loop-rest-init
loop-rest-init c = pages-first c.args.plan c.args.text (string_bytes c.new-pages.result) c.new-pages.ensures.bytes c.requires.moves

pub list_page-requires-clause-moves : goal.list_page-requires-clause-moves
list_page-requires-clause-moves c =
    let here = subst (λ rest. PagesSoFar c.args.plan c.args.text.now (string_bytes c.loop-rest.pages) rest) c.in-Some.is c.loop-rest.invariant in
    cut-moves c.args.plan c.args.text.now (string_bytes c.loop-rest.pages) c.cut_list-cut.result.list.now c.cut_list-cut.result.is_list c.in-Some.left c.cut_list-cut.result.rest
    c.cut_list-cut.ensures.cut here

pub loop-rest-preserved-then-cut : goal.loop-rest-preserved-then-cut
loop-rest-preserved-then-cut c =
    let cut = c.cut_list-cut.result in let pages = string_bytes c.loop-rest.pages in let page = string_bytes c.in_ok-page.page in
    let here = subst (λ rest. PagesSoFar c.args.plan c.args.text.now pages rest) c.in-Some.is c.loop-rest.invariant in
    let is_cut = subst (λ (b : Bool). IsListCut c.in-Some.left.now cut.list.now b cut.rest) c.if-cut.true c.cut_list-cut.ensures.cut in
    let adds : string_bytes c.push_str.new.self ≡ pages ++ page = c.in_ok-push_str.ensures.bytes ∙ ap (λ t. pages ++ t) c.as_str.ensures.value in
    subst (λ t. PagesSoFar c.args.plan c.args.text.now t cut.rest) (sym adds)
    (pages-next c.args.plan c.args.text.now pages page cut.list.now c.in-Some.left cut.rest is_cut c.in_ok-page.ensures.done here)

pub loop-rest-preserved : goal.loop-rest-preserved
loop-rest-preserved c =
    let cut = c.cut_list-cut.result in let pages = string_bytes c.loop-rest.pages in
    let here = subst (λ rest. PagesSoFar c.args.plan c.args.text.now pages rest) c.in-Some.is c.loop-rest.invariant in
    let is_cut = subst (λ (b : Bool). IsListCut c.in-Some.left.now cut.list.now b cut.rest) c.if-cut.false c.cut_list-cut.ensures.cut in
    pages-skipped c.args.plan c.args.text.now pages cut.list.now c.in-Some.left cut.rest is_cut here

pub returns-clause-done : goal.returns-clause-done
returns-clause-done c = pages-last c.args.plan c.args.text.now (string_bytes c.loop-rest.pages) c.loop-rest.rest c.in_default.is c.loop-rest.invariant
