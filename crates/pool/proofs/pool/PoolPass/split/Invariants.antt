use Rattle.pool.proofs.pool.PoolPass.split.Given as goal

abbrev pub ghosts-part : goal.ghosts-part
ghosts-part a = record { amount = a.k }
