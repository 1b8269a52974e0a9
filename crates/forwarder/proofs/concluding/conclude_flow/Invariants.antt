use Rattle.forwarder.proofs.concluding.conclude_flow.Given as goal

abbrev pub ghost-conclude : goal.ghost-conclude
ghost-conclude g a = g.keys
