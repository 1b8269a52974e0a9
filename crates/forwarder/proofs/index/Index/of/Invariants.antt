use Rattle.std.proofs.Common.{◌≡◌, ℕ, ◌*◌, ◌<◌, take, vec_len, get_or}
use Rattle.limits.specs.declared.profile.TheConstants.{PORTS}
use Rattle.forwarder.specs.Flows.{places_of}
use Rattle.forwarder.proofs.index.Index.of.Given as goal

abbrev pub invariant-loop-k : goal.invariant-loop-k
invariant-loop-k l =
    record {
      len : vec_len l.flows ≡ PORTS * l.pairs;
      places : (flow : ℕ) (d : _) → flow < PORTS * l.pairs → (get_or l.flows.items flow d).items ≡ places_of l.pairs flow (take l.k l.frames);
    }
