-- Each turn moves what the stash has room for, and gives it.
use Rattle.std.proofs.Common.{rules, ◌≡◌, ◌∙◌, ◌<◌, ◌++◌, ℕ, List, [], length}
use Rattle.pool.specs.Hands.{HoldsAll}
use Rattle.buffer_accounting.specs.Lent.{Exchanged, GivenBack}
use Rattle.buffer_accounting.proofs.Giving.{all-given, exchanged-given, fewer, holds-begun, holds-first, holds-on, moved-out, reclaimed}
use Rattle.buffer_accounting.proofs.returning.give_disabled.Goals as goal
use Rattle.buffer_accounting.proofs.returning.give_disabled.Goals.{After-give_into}

-- what came into the stash, and what is still out, is all that is held of what was
moved : (g : _) (c : After-give_into g) → Exchanged c.give_stash.new.pass.hand.held (c.give_stash.new.stash ++ g.Q.LentDriver.with c.args.driver.now) c.loop-pass.pass.hand.held
    (c.give_into.new.stash ++ g.Q.LentDriver.with c.give_into.new.self)
moved g c =
    let i = c.loop-pass.invariant in
    let with = g.Q.LentDriver.with in
    reclaimed c.give_stash.new.pass.hand.held (c.give_stash.new.stash ++ with c.args.driver.now) c.loop-pass.pass.hand.held c.loop-pass.stash (with c.loop-pass.driver)
    c.give_into.new.stash (with c.give_into.new.self) i.given i.stash c.give_into.ensures.moved

-- so what came into the stash is held
holds : (g : _) (c : After-give_into g) → HoldsAll c.loop-pass.pass.hand.held c.give_into.new.stash
holds g c = holds-first c.loop-pass.pass.hand.held c.give_into.new.stash (g.Q.LentDriver.with c.give_into.new.self)
    (holds-on c.give_stash.new.pass.hand.held (c.give_stash.new.stash ++ g.Q.LentDriver.with c.args.driver.now) c.loop-pass.pass.hand.held (c.give_into.new.stash ++ g.Q.LentDriver.with c.give_into.new.self) (moved g c)
    (holds-begun c.args.pass.now.hand.held c.args.stash.now (g.Q.LentDriver.with c.args.driver.now) c.give_stash.new.pass.hand.held c.give_stash.new.stash c.requires.held c.give_stash.ensures.given c.give_stash.ensures.empty))

-- once that is given, what is still out is all that is held of what was
gives : (g : _) (c : After-give_into g) (next : List ℕ) → GivenBack c.loop-pass.pass.hand.held c.give_into.new.stash next
    → Exchanged c.give_stash.new.pass.hand.held (c.give_stash.new.stash ++ g.Q.LentDriver.with c.args.driver.now) next (g.Q.LentDriver.with c.give_into.new.self)
gives g c next given = exchanged-given c.give_stash.new.pass.hand.held (c.give_stash.new.stash ++ g.Q.LentDriver.with c.args.driver.now) c.loop-pass.pass.hand.held c.give_into.new.stash
    (g.Q.LentDriver.with c.give_into.new.self) next (moved g c) given

pub give_stash-requires-in-loop-pass-clause-held : goal.give_stash-requires-in-loop-pass-clause-held
give_stash-requires-in-loop-pass-clause-held g c = holds g (goal.at.give_stash-requires-in-loop-pass-clause-held g c).After-give_into

pub give_stash-requires-2-clause-held : goal.give_stash-requires-2-clause-held
give_stash-requires-2-clause-held g c = holds g (goal.at.give_stash-requires-2-clause-held g c).After-give_into

pub loop-pass-smaller : goal.loop-pass-smaller
loop-pass-smaller g c =
    let i = c.loop-pass.invariant in
    let with = g.Q.LentDriver.with in
    let some : 0 < length c.give_into.new.stash = search rules in
    fewer (with c.loop-pass.driver) c.give_into.new.stash (with c.give_into.new.self)
    (moved-out c.give_stash.new.pass.hand.held (c.give_stash.new.stash ++ with c.args.driver.now) c.loop-pass.pass.hand.held c.loop-pass.stash (with c.loop-pass.driver)
    c.give_into.new.stash (with c.give_into.new.self) i.given i.stash c.give_into.ensures.moved) some

pub loop-pass-preserved : goal.loop-pass-preserved
loop-pass-preserved g c =
    let i = c.loop-pass.invariant in
    record {
      ring = c.give_into.ensures.ring ∙ i.ring;
      pool = c.give_stash-in-loop-pass.ensures.pool;
      share = c.give_stash-in-loop-pass.ensures.share ∙ i.share;
      stopped = c.give_into.ensures.stopped;
      stash = c.give_stash-in-loop-pass.ensures.empty;
      given = gives g (goal.at.loop-pass-preserved g c).After-give_into c.give_stash-in-loop-pass.new.pass.hand.held c.give_stash-in-loop-pass.ensures.given;
    }

pub returns-clause-given : goal.returns-clause-given
returns-clause-given g c =
    let none : g.Q.LentDriver.with c.give_into.new.self ≡ [] = search rules in
    all-given c.args.pass.now.hand.held c.args.stash.now (g.Q.LentDriver.with c.args.driver.now) c.give_stash.new.pass.hand.held c.give_stash.new.stash c.give_stash-2.new.pass.hand.held
    (g.Q.LentDriver.with c.give_into.new.self) c.give_stash.ensures.given c.give_stash.ensures.empty
    (gives g (goal.at.returns-clause-given g c).After-give_into c.give_stash-2.new.pass.hand.held c.give_stash-2.ensures.given) none
