use Rattle.std.proofs.Common.{rules, arith, ◌≡◌, ◌∙◌, [], ◌∷◌, ◌++◌, List, IsPermutation, ap, append-nil, sym, subst}
use Rattle.std.proofs.lemmas.List.{take_all}
use Rattle.driver.specs.receive.Returns.{numbers_of}
use Rattle.driver.specs.transmit.Frames.{numbers_in}
use Rattle.buffer_accounting.specs.Lent.{GivenBack}
use Rattle.buffer_accounting.proofs.Giving.{exchanged-given, given-first, holds-first, holds-on}
use Rattle.pool.specs.Hands.{HoldsAll}
use Rattle.forwarder.proofs.abort.give_at_hand.Goals as goal

pub give_all-requires-clause-held : goal.give_all-requires-clause-held
give_all-requires-clause-held g c =
    let held = c.args.pass.now.hand.held in
    subst (HoldsAll held) (sym (take_all c.len-count.result c.args.stash (omega arith)))
    (holds-first held c.args.stash (numbers_in c.args.packets.items ++ numbers_of c.args.chain) c.requires.held)

pub give_packets-requires-2-clause-held : goal.give_packets-requires-2-clause-held
give_packets-requires-2-clause-held g c =
    let held = c.args.pass.now.hand.held in
    let waiting = numbers_in c.args.packets.items in
    let chain = numbers_of c.args.chain in
    let all = c.args.stash ++ (waiting ++ chain) in
    let next = c.give_all.new.pass.hand.held in
    let last = c.give_packets.new.pass.hand.held in
    let gave : GivenBack held c.args.stash next = λ rest p. c.give_all.ensures.left rest (subst (λ (l : List _). IsPermutation held (l ++ rest)) (sym (take_all c.give_all.result c.args.stash (omega arith))) p) in
    let one : c.push.new.self.items ≡ c.args.chain ∷ [] = search rules in
    subst (HoldsAll last) (sym (ap numbers_in one ∙ append-nil chain))
    (holds-on held all last chain (exchanged-given held all next waiting chain last (given-first held c.args.stash (waiting ++ chain) next gave) c.give_packets.ensures.given) c.requires.held)
