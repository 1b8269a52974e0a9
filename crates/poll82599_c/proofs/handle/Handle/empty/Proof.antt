-- `empty` makes a handle with the null pointer, which owns nothing but its allocator.
use mathlib.Core.Path.{refl, sym, subst}
use Rattle.std.specs.Prelude.{None}
use Rattle.std.proofs.Common.{lit<, w64}
use mathlib.Core.List.{List, [], ◌∷◌, ◌++◌}
use seplogic.Ra.Ura.{Ura}
use mir.Val.{Val, vint, vstruct, vcons, vnil, has_ty}
use base.Logic.{SProp, ent, emp, id⊢}
use base.Fml.{ftrue, fsep}
use prog.Memory.{Memory}
use prog.Routine.{Routine}
use prog.Wp.{WpFn, Tables}
use types.Logic.{Logic}
use contract.Monad.{Fun}
use contract.Running.{tables_of}
use types.Kit.{Item, ‵, raw, ◌⊛◌, ◌$◌, ◌∵◌, !, qed, by, move, drop, use1, join, split, fsplit, fjoin, fpack, feq_i, suffices, done}
use types.Part.{agg}
use types.Run.{no_more, and_then, lit, returns, enter}
use types.ByLocal.{alloc_all, pass_all, free_all, look_at, get, sets}
use denote.Exit.{yes}
use denote.RattleType.{Valss}
use denote.RawPtr.{RawPtr, null_ptr}
use denote.Signature.{type_at}
use denote.Steps.{nothing}
use denote.Struct.Struct.{within}
use denote.Struct.Owning.{shape}
use denote.Triple.Walked.{says, Walks, walk_of, ends_at, Goes-dropped}
use Rattle.core.proofs.alloc.Calls.{α, handle_tells}
use Rattle.std_alloc.proofs.BoxSteps.Form.{P, owning}
use Rattle.std_alloc.proofs.ResultValues.{and_tt}
use Rattle.poll82599_c.proofs.HandleAsBox.{E, dropped, walked_there, FromGlobal as From}
use Rattle.poll82599_c.specs.contracts.handle.Handle.empty as F
use Rattle.poll82599_c.specs.contracts.handle.Handle.empty.Key.{name as #self}
use Rattle.poll82599_c.proofs.handle.Handle.empty.Statement as stated
use Rattle.poll82599_c.proofs.handle.Handle.empty.Code as code

module _ {M : Type 1} {𝓤 : Ura M} (𝓛 : Logic 𝓤) (at_mem : Memory → SProp 𝓤) (run : Routine → Fun 𝓤) (𝓣 : Tables 𝓤 𝓛.H) where
  open 𝓛 use {H}

  walk : Walks 𝓛 F.ended (dropped From) (WpFn 𝓤 H 𝓣.C 𝓣.Λ code.function) (F.clauses 𝓛 at_mem run)
  walk z =
      let Post = (walk_of 𝓛 F.ended (dropped From) (F.clauses 𝓛 at_mem run)).post z in
      let a = z.0.3.0 in
      let To = type_at (F.signature).result tt in
      let made : To.Denot = record { ptr = null_ptr; alloc = a; held = None } in
      qed 𝓛 ((‵ ftrue ⊛ ‵ (fsep (E.al.row.own_val a z.0.4.0) ftrue)) ∷ raw (emp 𝓤) ∷ []) ∵ split ! $ drop ! $ fsplit ! $
      handle_tells E.al ! a z.0.4.0 (λ hv eh fa. move ! (1 ∷ 2 ∷ []) $ drop ! $ drop ! $
      let w : Val = vstruct (vcons (vint w64 0) (vcons hv vnil)) in
      let Γ : List (Item 𝓤) = ‵ (E.al.row.own_val a (hv ∷ [])) ∷ [] in
      by ! (subst (λ (us : List Val). ent 𝓤 (types.Kit.⋆ 𝓛 Γ) (WpFn 𝓤 H 𝓣.C 𝓣.Λ code.function (us ++ []) Post)) (sym eh)
      (qed 𝓛 Γ ∵ enter ! 𝓣.C 𝓣.Λ code.function (hv ∷ []) _ $ alloc_all ! (λ ls. pass_all ! refl (fa, tt) $
      sets ! (agg ! (and_then ! (lit ! tt) (and_then ! (get ! refl) (no_more !)))) refl (and_tt (has_ty (α E.al) hv) fa.0, (record { fits = lit< tt }, (fa.1, tt))) $ returns ! (look_at ! 0 refl) $ free_all ! refl $
      nothing ! $ nothing ! $ move ! (2 ∷ 0 ∷ []) $ fjoin ! $ feq_i ! (List Val) (vint w64 0 ∷ []) (vint w64 0 ∷ []) refl $ fjoin ! $
      feq_i ! (List Val) (w ∷ []) (w ∷ []) refl $ fjoin ! $
      fpack ! (Valss (RawPtr ∷ P E ∷ [])) (within (shape (owning E)) (null_ptr, (a, tt)) (w ∷ [])) (vint w64 0 ∷ [], (hv ∷ [], tt)) $ fjoin ! $
      use1 𝓛 (‵ (To.own_val made (w ∷ []))) (id⊢ 𝓤 _) $
      suffices ! _ (ends_at 𝓛 F.ended (dropped From) (F.clauses 𝓛 at_mem run) z w made (tt, tt) (tt, tt)) $ says ! refl $
      nothing ! $ nothing ! $ fjoin ! $ join ! $ nothing ! $ join ! $ done !))))

pub empty_spec : {M : Type 1} → stated.statement M
unfolding tables_of
empty_spec 𝓤 𝓛 𝓜 𝓡 wired = walked_there 𝓛 𝓜 𝓡 F.ended (dropped From) (F.clauses 𝓛 𝓜.mem 𝓡.returns) code.function (Goes-dropped 𝓛 0 From yes (λ κs x f. refl), tt) #self (code.unfolded 𝓤 𝓛.H 𝓜 𝓡 wired) (walk 𝓛 𝓜.mem 𝓡.returns)
