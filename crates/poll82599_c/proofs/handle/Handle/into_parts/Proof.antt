-- `into_parts` tests the pointer: null owns nothing, and what another owns goes with its two fields.
use mathlib.Core.Path.{◌≡◌, refl, sym, subst}
use Rattle.std.specs.Prelude.{Option, Some, None}
use Rattle.std.proofs.Common.{lit<, w64}
use mathlib.Core.List.{List, [], ◌∷◌, ◌++◌}
use seplogic.Ra.Ura.{Ura}
use mir.Val.{Val, vint, vstruct, vcons, vnil, of_list, has_ty}
use mir.Raw.{raw as bare}
use base.Logic.{SProp, ent, emp, id⊢, guard_i, never, never_e}
use base.Fml.{ftrue, fsep}
use prog.Memory.{Memory}
use prog.Routine.{Routine}
use prog.Wp.{WpFn, Tables}
use types.Logic.{Logic}
use contract.Monad.{Fun, fact_use}
use contract.Running.{tables_of}
use types.Kit.{Item, ‵, raw, ◌⊛◌, given, at_ret, ◌$◌, ◌∵◌, !, qed, by, move, drop, use0, use1, learn, join, split, fsplit, fjoin, fpick, feq_l, suffices, done}
use types.Match.{live}
use types.Part.{whole, sub, agg}
use types.Run.{stop, fld, lit, bin, no_more, and_then, of_opd, first, branches, exec, returns, enter}
use types.ByLocal.{alloc_all, pass_all, free_all, look_at, get, get_in, sets, sets_last, env}
use denote.Exit.{yes}
use denote.RattleType.{RattleType}
use denote.Signature.{type_at}
use denote.Steps.{nothing}
use denote.Param.{layout}
use denote.RawPtr.{Ptr, block_ptr, null_ptr, ptr_val, Testable, tests_null}
use denote.Triple.Walked.{says, walk_of, ends_at, Goes-dropped}
use Rattle.core.proofs.alloc.Calls.{α, token, handle_tells}
use Rattle.core.proofs.alloc.Shapes.{after}
use Rattle.core.proofs.atomic.Steps.{Ptr-Good}
use Rattle.core.proofs.cell.Inside.{Good}
use Rattle.core.proofs.option.Made.{Some-of, none_of}
use Rattle.std_alloc.proofs.BoxSteps.Form.{D, B, τ, word, box_typed}
use Rattle.std_alloc.proofs.BoxSteps.Steps.{box_out, box_in}
use Rattle.std_alloc.proofs.ResultValues.{and_tt}
use Rattle.std_heap.proofs.GlobalToken.{dealloc_token-Testable}
use Rattle.std_heap.specs.contracts.Global as Heap
use Rattle.std_heap.specs.contracts.GlobalAllocator.TheImpl.{ghosts}
use Rattle.ffi_handle.specs.contracts.Parts as Parts
use Rattle.poll82599_c.specs.contracts.end.End as Held
use Rattle.poll82599_c.specs.contracts.handle.Handle as Handle
use Rattle.poll82599_c.proofs.HandleAsBox.{E, dropped, walked_there, FromHandle as From}
use Rattle.poll82599_c.specs.contracts.handle.Handle.into_parts as F
use Rattle.poll82599_c.specs.contracts.handle.Handle.into_parts.Key.{name as #self}
use Rattle.poll82599_c.proofs.handle.Handle.into_parts.Statement as stated
use Rattle.poll82599_c.proofs.handle.Handle.into_parts.Code as code

-- what is handed out
abbrev Out : RattleType
Out = Parts.the_row Held.the_row Heap.the_row ghosts

module _ {M : Type 1} {𝓤 : Ura M} (𝓛 : Logic 𝓤) (at_mem : Memory → SProp 𝓤) (run : Routine → Fun 𝓤) (𝓣 : Tables 𝓤 𝓛.H) where
  open 𝓛 use {H}

  abbrev Bound : Type 0
  Bound = (walk_of 𝓛 F.ended (dropped From) (F.clauses 𝓛 at_mem run)).Ghost

  abbrev at : Ptr → E.al.row.Denot → Option E.row.Denot → List Val → Bound
  at p a h us = ((tt, tt, tt, (record { ptr = p; alloc = a; held = h }, tt), (us, tt)), tt)

  abbrev Walked : Bound → Type 1
  Walked z = ent 𝓤 ((walk_of 𝓛 F.ended (dropped From) (F.clauses 𝓛 at_mem run)).pre z) (WpFn 𝓤 H 𝓣.C 𝓣.Λ code.function (z.0.4.0 ++ []) ((walk_of 𝓛 F.ended (dropped From) (F.clauses 𝓛 at_mem run)).post z))

  walk_full : (p : Ptr) (a : E.al.row.Denot) (x : E.row.Denot) (us : List Val) → Walked (at p a (Some x) us)
  walk_full p a x us =
      let z : Bound = at p a (Some x) us in
      let Post = (walk_of 𝓛 F.ended (dropped From) (F.clauses 𝓛 at_mem run)).post z in
      let v : D E = record { ptr = p; alloc = a; value = x } in
      let made : Out.Denot = record { ptr = p; alloc = a; value = x } in
      qed 𝓛 ((‵ ftrue ⊛ ‵ (fsep ((B E).own_val v z.0.4.0) ftrue)) ∷ raw (emp 𝓤) ∷ []) ∵ split ! $ drop ! $ fsplit ! $
      box_out E ! v z.0.4.0 (λ b o hv e ws fa.
      let q : Ptr = block_ptr b o in
      let Token = token E.al a (bare (τ E)) q in
      move ! (1 ∷ []) $ use1 𝓛 (given (Testable q) (‵ Token)) (fact_use 𝓤 (Testable q) (dealloc_token-Testable 𝓛 a (bare (τ E)) q) (guard_i 𝓤 (Testable q) _)) $ learn ! (λ t. move ! (1 ∷ 0 ∷ []) $
      box_in E ! v b o v.value e refl $ use1 𝓛 (‵ (Out.own_val made (word E hv b o ∷ []))) (id⊢ 𝓤 _) $ move ! (1 ∷ 2 ∷ []) $ drop ! $ drop ! $
      let w = word E hv b o in
      let Γ : List (Item 𝓤) = ‵ (Out.own_val made (w ∷ [])) ∷ [] in
      let said : Val = live 1 (vcons w vnil) in
      let typed = box_typed E hv b o fa in
      by ! (subst (λ (us' : List Val). ent 𝓤 (types.Kit.⋆ 𝓛 Γ) (WpFn 𝓤 H 𝓣.C 𝓣.Λ code.function (us' ++ []) Post)) (sym ws)
      (qed 𝓛 Γ ∵ enter ! 𝓣.C 𝓣.Λ code.function (w ∷ []) Post $ alloc_all ! (λ ls. pass_all ! refl (typed, tt) $
      sets ! (of_opd ! (get_in ! (fld ! refl (stop !)) (sub ! 0 refl (whole !)))) refl (tt, tt) $ sets ! (of_opd ! (get_in ! (fld ! refl (stop !)) (sub ! 1 refl (whole !)))) refl fa $
      sets ! (bin ! (get ! refl) (lit ! tt) (tests_null q t)) refl (tt, tt) $ first ! $ branches ! (get ! refl) (λ wrong. absurd wrong) (λ _.
      sets ! (of_opd ! (get ! refl)) refl (tt, tt) $ sets ! (agg ! (and_then ! (get ! refl) (and_then ! (get ! refl) (no_more !)))) refl typed $
      let good : Good (layout (type_at (F.signature).result tt)) said = (and_tt _ typed.0, (record { fits = lit< tt }, (typed.1, tt))) in
      sets_last ! (agg ! (and_then ! (lit ! tt) (and_then ! (get ! refl) (no_more !)))) refl good $
      exec ! 𝓣.C 𝓣.Λ (env code.function.locals ls) (after 4 code.function.body) (at_ret (env code.function.locals ls) Post) $ sets ! (of_opd ! (get ! refl)) refl good $
      use1 𝓛 (‵ ((type_at (F.signature).result tt).own_val (Some made) (said ∷ []))) (Some-of 𝓛 Out made w) $ returns ! (look_at ! 0 refl) $ free_all ! refl $
      suffices ! _ (ends_at 𝓛 F.ended (dropped From) (F.clauses 𝓛 at_mem run) z said (Some made) (tt, tt) (tt, tt)) $ says ! refl $
      nothing ! $ nothing ! $ fjoin ! $ join ! $ nothing ! $ join ! $ done !))))))

  walk_empty : (a : E.al.row.Denot) (us : List Val) → Walked (at null_ptr a None us)
  walk_empty a us =
      let z : Bound = at null_ptr a None us in
      let Post = (walk_of 𝓛 F.ended (dropped From) (F.clauses 𝓛 at_mem run)).post z in
      let it : (Handle.the_row).Denot = record { ptr = null_ptr; alloc = a; held = None } in
      qed 𝓛 ((‵ ftrue ⊛ ‵ (fsep ((Handle.the_row).own_val it us) ftrue)) ∷ raw (emp 𝓤) ∷ []) ∵ split ! $ drop ! $ fsplit ! $
      fsplit ! $ fpick ! (λ vss. fsplit ! $ feq_l ! (λ ev. fsplit ! $ feq_l ! (λ ep. fsplit ! $ handle_tells E.al ! a vss.1.0 (λ hv ea fa.
      let w : Val = vstruct (vcons (vint w64 0) (vcons hv vnil)) in
      let ws : us ≡ w ∷ [] = subst (λ (hs : List Val). us ≡ vstruct (of_list (ptr_val null_ptr ∷ (hs ++ []))) ∷ []) ea (subst (λ (ps : List Val). us ≡ vstruct (of_list (ps ++ (vss.1.0 ++ []))) ∷ []) ep ev) in
      let none : Val = live 0 vnil in
      drop ! $ drop ! $ drop ! $ drop ! $ drop ! $
      by ! (subst (λ (us' : List Val). ent 𝓤 (types.Kit.⋆ 𝓛 []) (WpFn 𝓤 H 𝓣.C 𝓣.Λ code.function (us' ++ []) Post)) (sym ws)
      (qed 𝓛 [] ∵ enter ! 𝓣.C 𝓣.Λ code.function (w ∷ []) Post $ alloc_all ! (λ ls. pass_all ! refl ((and_tt (has_ty (α E.al) hv) fa.0, (record { fits = lit< tt }, (fa.1, tt))), tt) $
      sets ! (of_opd ! (get_in ! (fld ! refl (stop !)) (sub ! 0 refl (whole !)))) refl (Ptr-Good null_ptr) $ sets ! (of_opd ! (get_in ! (fld ! refl (stop !)) (sub ! 1 refl (whole !)))) refl fa $
      sets ! (bin ! (get ! refl) (lit ! tt) tt) refl (tt, tt) $ first ! $ branches ! (get ! refl) (λ _.
      sets_last ! (agg ! (and_then ! (lit ! tt) (no_more !))) refl (tt, (record { fits = lit< tt }, tt)) $
      exec ! 𝓣.C 𝓣.Λ (env code.function.locals ls) (after 4 code.function.body) (at_ret (env code.function.locals ls) Post) $ sets ! (of_opd ! (get ! refl)) refl (tt, (record { fits = lit< tt }, tt)) $
      use0 𝓛 (‵ ((type_at (F.signature).result tt).own_val None (none ∷ []))) (none_of 𝓛 Out) $ returns ! (look_at ! 0 refl) $ free_all ! refl $
      suffices ! _ (ends_at 𝓛 F.ended (dropped From) (F.clauses 𝓛 at_mem run) z none None (tt, tt) (tt, tt)) $ says ! refl $
      nothing ! $ nothing ! $ fjoin ! $ join ! $ nothing ! $ join ! $ done !) (λ wrong. absurd wrong))))))))

  walk_each : (p : Ptr) (a : E.al.row.Denot) (h : Option E.row.Denot) (us : List Val) → Walked (at p a h us)
  walk_each p a (Some x) us = walk_full p a x us
  walk_each null_ptr a None us = walk_empty a us
  walk_each (block_ptr b o) a None us =
      let it : (Handle.the_row).Denot = record { ptr = block_ptr b o; alloc = a; held = None } in
      qed 𝓛 ((‵ ftrue ⊛ ‵ (fsep ((Handle.the_row).own_val it us) ftrue)) ∷ raw (emp 𝓤) ∷ []) ∵ split ! $ drop ! $ fsplit ! $
      fsplit ! $ move ! (1 ∷ []) $ use1 𝓛 (raw (never 𝓤)) (id⊢ 𝓤 _) $ types.Kit.keep ! (0 ∷ []) $ by ! (never_e 𝓤 _)

  walk : (z : Bound) → Walked z
  walk z = walk_each z.0.3.0.ptr z.0.3.0.alloc z.0.3.0.held z.0.4.0

pub into_parts_spec : {M : Type 1} → stated.statement M
unfolding tables_of
into_parts_spec 𝓤 𝓛 𝓜 𝓡 wired = walked_there 𝓛 𝓜 𝓡 F.ended (dropped From) (F.clauses 𝓛 𝓜.mem 𝓡.returns) code.function (Goes-dropped 𝓛 0 From yes (λ κs x f. refl), tt) #self (code.unfolded 𝓤 𝓛.H 𝓜 𝓡 wired) (walk 𝓛 𝓜.mem 𝓡.returns)
