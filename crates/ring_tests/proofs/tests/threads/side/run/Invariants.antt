use Rattle.ring_tests.proofs.tests.threads.side.run.Given as goal

abbrev pub invariant-loop : goal.invariant-loop
invariant-loop g l = g.S.ThreadSide.is_of l.shared l.side
