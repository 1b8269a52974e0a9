-- The handle and its parts own what a box at the same types owns; and how a walk of a function that takes one of these shows what is stated of it.
use mir.Syntax.{Fn, impl, tnil, dnil}
use mathlib.Core.List.{[], ◌∷◌}
use seplogic.Ra.Ura.{Ura}
use contract.Running.{Running, tables, tables_of}
use prog.Model.{Model}
use prog.Routine.{Callee}
use prog.Wp.{Closed, Tables, WpFn}
use types.Logic.{Logic}
use sound.WpLaws.{WpFn-mono}
use denote.Exit.{yes}
use denote.Signature.{Slot, plain}
use denote.Triple.Clauses.{Clauses, Ended, closing}
use denote.Triple.Spec.{triple_of}
use denote.Triple.Statement.{Triple}
use denote.Triple.Table.{entered}
use denote.Triple.Walked.{AllGo, Stays, Walks, stay_dropped, walk_Meets}
use Rattle.std_alloc.proofs.BoxSteps.Form.{Bx}
use Rattle.std_heap.specs.contracts.Global as Heap
use Rattle.std_heap.specs.contracts.GlobalAllocator.TheImpl.{ghosts, dict}
use Rattle.std_heap.proofs.Global.TheLaws as heap
use Rattle.poll82599_c.specs.contracts.end.End as Held
use Rattle.poll82599_c.proofs.end.End.TheLaws as held
use Rattle.ffi_handle.specs.contracts.Parts as Parts
use Rattle.poll82599_c.specs.contracts.handle.Handle as Handle

abbrev pub E : Bx
E = record { row = Held.the_row; laws = held.the_row_laws; al = record { row = Heap.the_row; laws = heap.the_row_laws; g = ghosts; d = dict; drops = impl [] tnil dnil } }

abbrev pub FromParts : Slot 0
FromParts = plain (λ _. Parts.the_row Held.the_row Heap.the_row ghosts)

abbrev pub FromHandle : Slot 0
FromHandle = plain (λ _. Handle.the_row)

abbrev pub FromGlobal : Slot 0
FromGlobal = plain (λ _. Heap.the_row)

-- nothing is had at exit of the one that is passed
abbrev pub dropped : (S : Slot 0) → Stays (S ∷ []) (yes, tt)
dropped S = (stay_dropped S yes, tt)

module _ {M : Type 1} {𝓤 : Ura M} (𝓛 : Logic 𝓤) (𝓜 : Model 𝓤 𝓛.H) (𝓡 : Running 𝓤 𝓛.H 𝓜) (T : Ended) (hs : Stays T.signature.params T.kept) (c : Clauses 𝓤 T) (fn : Fn) where
  abbrev pub there : Tables 𝓤 𝓛.H
  there = tables_of 𝓤 𝓛.H 𝓜 (tables 𝓤 𝓛.H 𝓜 𝓡 𝓡.env)

  -- a walk of the function's body, which lies at this entry of the tables, shows that what is called there meets its contract
  pub walked_there : AllGo 𝓛 T.signature.lifetimes T.signature.params T.kept hs → (k : Callee) → Closed 𝓤 𝓛.H there.C there.Λ k fn → ((𝓣 : Tables 𝓤 𝓛.H) → Walks 𝓛 T hs (WpFn 𝓤 𝓛.H 𝓣.C 𝓣.Λ fn) c)
      → Triple 𝓤 (there.C k) (triple_of 𝓛 T.signature (closing 𝓛 T c))
  walked_there gs k closed walk = entered 𝓤 𝓛.H (triple_of 𝓛 T.signature (closing 𝓛 T c)) there.C there.Λ k fn closed (walk_Meets 𝓛 T hs gs c (WpFn 𝓤 𝓛.H there.C there.Λ fn) (WpFn-mono 𝓤 𝓛.H 𝓛.laws there fn) (walk there))
