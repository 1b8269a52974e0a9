-- The counters of a flow, in one list with their names.
use Rattle.std.specs.Prelude.{ℕ, List, [], ◌∷◌, Option, Some, codes, option_map}
use Rattle.counters.specs.declared.flow_counters.Counter.{Counter}
use Rattle.counters.specs.declared.flow_counters.FlowCounters.{FlowCounters}

-- A counter: its word in the line of a flow, if the line shows it, its key in JSON, and its value.
pub record Entry : Type 0 where
  pub word : Option (List ℕ)
  pub key : List ℕ
  pub value : ℕ

abbrev pub entry_of : Counter → Entry
entry_of c = record { word = option_map (λ w. w.now) c.word; key = c.key.now; value = c.value }

-- A counter whose word and key are the same.
abbrev pub named : List ℕ → ℕ → Entry
named name value = record { word = Some name; key = name; value = value }

-- All counters, in the order in which they are printed.
abbrev pub entries : FlowCounters → List Entry
entries c =
    named (codes "offered") c.tally.offered
    ∷ named (codes "stored") c.tally.stored
    ∷ named (codes "dropped") c.tally.dropped
    ∷ named (codes "oversize") c.tally.oversize
    ∷ named (codes "taken") c.driven.taken
    ∷ named (codes "posted") c.driven.posted
    ∷ record { word = Some (codes "tx-dropped"); key = codes "tx_dropped"; value = c.driven.tx_dropped }
    ∷ []
