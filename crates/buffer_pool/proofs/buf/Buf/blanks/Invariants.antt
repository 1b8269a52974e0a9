use Rattle.std.proofs.Common.{◌≡◌, ◌≤◌, ◌-◌, replicate, vec_len, vec_capacity}
use Rattle.buffer_pool.specs.Buffer.{blank}
use Rattle.buffer_pool.proofs.buf.Buf.blanks.Given as goal

abbrev pub invariant-loop-blanks : goal.invariant-loop-blanks
invariant-loop-blanks l = record {
  items : l.blanks.items ≡ replicate (vec_len l.blanks) blank;
  few : vec_len l.blanks ≤ l.count;
  room : l.count ≤ vec_capacity l.blanks;
}

abbrev pub decreases-loop-blanks : goal.decreases-loop-blanks
decreases-loop-blanks l = l.count - vec_len l.blanks
