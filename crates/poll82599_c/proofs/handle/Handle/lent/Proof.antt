-- `lent` tests the pointer: the object behind it is lent, and the handle follows it. Null owns nothing, and the handle stays as it is.
use mathlib.Core.Path.{◌≡◌, refl, sym, subst}
use Rattle.std.specs.Prelude.{ℕ, Option, Some, None}
use Rattle.std.proofs.Common.{lit<, w64}
use mathlib.Core.List.{List, [], ◌∷◌, ◌++◌}
use seplogic.Ra.Ura.{Ura}
use base.Fraction.{full_share}
use mir.Syntax.{named}
use mir.Val.{Val, vint, vptr, vstruct, vcons, vnil, of_list}
use mir.Raw.{raw as bare}
use base.Logic.{SProp, ent, sep, emp, id⊢, via, fst∗, guard_i, never, never_e}
use base.Fml.{Lft, GName, Share, Fml, ftrue, fsep, flft, fobs, fres}
use prog.Memory.{Memory}
use prog.Routine.{Routine}
use prog.Wp.{Env, WpFn, Tables}
use types.Logic.{Logic, sem}
use contract.Monad.{Fun, fact, fact_i, fact_use}
use contract.Running.{tables_of}
use types.Kit.{‵, raw, ◌⊛◌, some, later, given, at_ret, ◌$◌, ◌∵◌, !, qed, by, move, keep, drop, use0, use1, learn, pick, split, join, fsplit, fsplit3, fjoin, fpick, fpack, feq_l, rewrite, suffices, frame, group, await, done}
use types.Match.{live}
use types.Part.{whole, sub, look_in, agg}
use types.Run.{stop, fld, lit, bin, load, addr, no_more, and_then, of_opd, first, blocks, branches, skips, exec, returns, returns_within, enter}
use types.ByLocal.{alloc_all, pass_all, free_all, look_at, get, through, sets, sets_last, env}
use denote.Exit.{no}
use denote.RattleType.{RattleType, owns}
use denote.Memory.{part_at, part_of, cell_at, mem}
use denote.RawPtr.{Ptr, block_ptr, null_ptr, ptr_val, Testable, tests_null}
use denote.Ref.{MutRef, MutBor, mut_vals, mut_Tells}
use denote.Follow.{follows, follows_by, lends_Part}
use denote.Signature.{plain, mut_ref_to}
use denote.Steps.{nothing, opens, closes}
use denote.Triple.Entry.{on_entry}
use denote.Triple.Walked.{says, Stays, stay_dropped, walk_of, walked, ends_at, Goes-spent_ref}
use Rattle.core.proofs.alloc.Calls.{Fits, token, handle_tells}
use Rattle.core.proofs.alloc.Shapes.{after}
use Rattle.core.proofs.atomic.Steps.{Ptr-Good}
use Rattle.core.proofs.option.Made.{Some-of, none_of}
use Rattle.core.specs.contracts.option.Option as OP
use Rattle.std_alloc.proofs.BoxSteps.Form.{D, B, R, τ, word, handle}
use Rattle.std_alloc.proofs.BoxSteps.Steps.{box_out, box_in}
use Rattle.std_heap.proofs.GlobalToken.{dealloc_token-Testable}
use Rattle.poll82599_c.specs.Lent.{with_held}
use Rattle.poll82599_c.specs.contracts.end.End as Held
use Rattle.poll82599_c.specs.contracts.handle.Handle as Handle
use Rattle.poll82599_c.proofs.HandleAsBox.{E, walked_there}
use Rattle.poll82599_c.specs.contracts.handle.Handle.lent as F
use Rattle.poll82599_c.specs.contracts.handle.Handle.lent.Key.{name as #self}
use Rattle.poll82599_c.proofs.handle.Handle.lent.Statement as stated
use Rattle.poll82599_c.proofs.handle.Handle.lent.Code as code

abbrev Row : RattleType
Row = Handle.the_row

abbrev spent : Stays F.ended.signature.params F.ended.kept
spent = (stay_dropped (mut_ref_to (0 ∷ []) tt (plain (λ _. Row))) no, tt)

-- the machine value of an empty handle
abbrev empty_word : Val → Val
empty_word hv = vstruct (vcons (vint w64 0) (vcons hv vnil))

module _ {M : Type 1} {𝓤 : Ura M} (𝓛 : Logic 𝓤) (at_mem : Memory → SProp 𝓤) (run : Routine → Fun 𝓤) (𝓣 : Tables 𝓤 𝓛.H) (κ : Lft) (q : Share) (rb ro : ℕ) (γ : GName) where
  open 𝓛 use {H, A}

  abbrev self : Row.Denot → MutBor Row.Denot
  self h = record { ref_ptr = (rb, ro); ghost_name = γ; now = h }

  abbrev bound : Row.Denot → (walk_of 𝓛 F.ended spent (F.clauses 𝓛 at_mem run)).Ghost
  bound h = (((κ, tt), (q, tt), tt, (self h, tt), (vptr rb ro ∷ [], tt)), tt)

  abbrev Post : Row.Denot → Val → SProp 𝓤
  Post h = (walk_of 𝓛 F.ended spent (F.clauses 𝓛 at_mem run)).post (bound h)

  abbrev Lent : RattleType
  Lent = MutRef (named 0) κ Held.the_row

  abbrev Walked : Row.Denot → Type 1
  Walked h = ent 𝓤 (on_entry 𝓛 F.signature (κ, tt) (q, tt) (self h, tt) (vptr rb ro ∷ [], tt)) (WpFn 𝓤 H 𝓣.C 𝓣.Λ code.function (vptr rb ro ∷ []) (Post h))

  module _ (p : Ptr) (a : E.al.row.Denot) (x : E.row.Denot) where
    abbrev full : Row.Denot
    full = record { ptr = p; alloc = a; held = Some x }

    module _ (b o : ℕ) (hv : Val) where
      -- all of the handle but its object
      abbrev Rest : Fml
      Rest = fsep (fsep (token E.al a (bare (τ E)) (block_ptr b o)) (handle E a hv)) (cell_at full_share Row.mir (word E hv b o ∷ []) rb ro)

      back : p ≡ block_ptr b o → (w : E.row.Denot) → ent 𝓤 (sep 𝓤 (sem 𝓛 ((mem Held.the_row).own_at w b o)) (sem 𝓛 Rest)) (sem 𝓛 ((mem Row).own_at (with_held full w) rb ro))
      unfolding part_of
      back at_b w =
          let d : D E = record { ptr = p; alloc = a; value = w } in
          qed 𝓛 (‵ (part_at (R E) full_share w b o) ∷ ‵ Rest ∷ []) ∵ move ! (1 ∷ []) $ fsplit ! $ fsplit ! $ move ! (3 ∷ []) $
          box_in E ! d b o w at_b refl $ use1 𝓛 (‵ (Row.own_val (with_held full w) (word E hv b o ∷ []))) (id⊢ 𝓤 _) $ move ! (1 ∷ 0 ∷ []) $ fjoin ! $
          fpack ! (List Val) (λ us. fsep (cell_at full_share Row.mir us rb ro) (Row.own_val (with_held full w) us)) (word E hv b o ∷ []) $ done !

    exits : (b o : ℕ) (γ' : GName)
        → ent 𝓤 (sep 𝓤 (sem 𝓛 (Lent.own_val (record { ref_ptr = (b, o); ghost_name = γ'; now = x }) (vptr b o ∷ []))) (sep 𝓤 (A.lft κ q) (sem 𝓛 (follows Row Held.the_row γ γ' (with_held full))))) (Post full (live 1 (of_list (vptr b o ∷ []))))
    unfolding follows_by
    exits b o γ' =
        let r : MutBor E.row.Denot = record { ref_ptr = (b, o); ghost_name = γ'; now = x } in
        let v : Val = vptr b o in
        qed 𝓛 (‵ (Lent.own_val r (v ∷ [])) ∷ ‵ (flft κ q) ∷ ‵ (follows Row Held.the_row γ γ' (with_held full)) ∷ []) ∵
        use1 𝓛 (‵ ((OP.the_row Lent).own_val (Some r) (live 1 (of_list (v ∷ [])) ∷ []))) (Some-of 𝓛 Lent r v) $
        suffices ! _ (ends_at 𝓛 F.ended spent (F.clauses 𝓛 at_mem run) (bound full) (live 1 (of_list (v ∷ []))) (Some r) (tt, tt) (tt, tt)) $
        nothing ! $ nothing ! $ fjoin ! $ join ! $ nothing ! $ move ! (2 ∷ 0 ∷ []) $ join ! $ join ! $ frame ! $ says ! refl $ done !

    walk_full : Walked full
    walk_full =
        let v : D E = record { ptr = p; alloc = a; value = x } in
        qed 𝓛 ((‵ (flft κ q) ⊛ ‵ ftrue) ∷ ‵ (owns (MutRef (named 0) κ Row ∷ []) (self full, tt) (vptr rb ro ∷ [], tt)) ∷ []) ∵
        enter ! 𝓣.C 𝓣.Λ code.function (vptr rb ro ∷ []) _ $ alloc_all ! (λ l. pass_all ! refl ((tt, tt), tt) $
        let En : Env 𝓤 H = env code.function.locals l in
        move ! (1 ∷ []) $ fsplit ! $ fsplit3 ! $ drop ! $ move ! (3 ∷ []) $ split ! $ move ! (2 ∷ 3 ∷ 0 ∷ []) $
        opens ! tt Row rb ro (λ vs. move ! (1 ∷ []) $ use1 𝓛 (‵ ((B E).own_val v vs)) (id⊢ 𝓤 _) $ box_out E ! v vs (λ b o hv at_b ws fa.
        let at : Ptr = block_ptr b o in
        let Token = token E.al a (bare (τ E)) at in
        move ! (1 ∷ []) $ use1 𝓛 (given (Testable at) (‵ Token)) (fact_use 𝓤 (Testable at) (dealloc_token-Testable 𝓛 a (bare (τ E)) at) (guard_i 𝓤 (Testable at) _)) $ learn ! (λ t. move ! (1 ∷ 0 ∷ []) $
        rewrite ! 3 (λ (us : List Val). ‵ (cell_at full_share Row.mir us rb ro)) ws refl $
        -- [the object; the token; the allocator; the word; the open borrow; obs; auth]
        sets ! (of_opd ! (load ! (through ! refl (fld ! refl (stop !))) (look_in ! 3 (sub ! 0 refl (whole !))))) refl (tt, tt) $
        sets ! (of_opd ! (get ! refl)) refl (tt, tt) $ sets ! (bin ! (get ! refl) (lit ! tt) (tests_null at t)) refl (tt, tt) $
        first ! $ branches ! (get ! refl) (λ wrong. absurd wrong) (λ _.
        skips ! $ exec ! 𝓣.C 𝓣.Λ En (after 4 code.function.body) (at_ret En (Post full)) $ first ! $ blocks ! $
        sets ! (of_opd ! (get ! refl)) refl (tt, tt) $ sets ! (of_opd ! (get ! refl)) refl (tt, tt) $ sets_last ! (addr ! (through ! refl (stop !))) refl (tt, tt) $
        exec ! 𝓣.C 𝓣.Λ En (after 5 code.function.body) (at_ret En (Post full)) $ sets ! (of_opd ! (get ! refl)) refl (tt, tt) $
        sets ! (agg ! (and_then ! (lit ! tt) (and_then ! (get ! refl) (no_more !)))) refl (tt, (record { fits = lit< tt }, (tt, tt))) $
        move ! (1 ∷ 2 ∷ []) $ fjoin ! $ move ! (0 ∷ 2 ∷ []) $ fjoin ! $ move ! (2 ∷ 3 ∷ 4 ∷ 1 ∷ 0 ∷ []) $ group ! 5 $
        use1 𝓛 (later (some (λ (γ' : GName). ‵ (Lent.own_val (record { ref_ptr = (b, o); ghost_name = γ'; now = x }) (vptr b o ∷ [])) ⊛ ‵ (flft κ q) ⊛ ‵ (follows Row Held.the_row γ γ' (with_held full)))))
        (lends_Part 𝓛 Row Held.the_row (with_held full) (named 0) κ q rb ro b o γ (sem 𝓛 (Rest b o hv)) (back b o hv at_b) (Row.coded.code full) (Row.coded.code full) x) $ await ! tt $ pick ! (λ γ'.
        returns ! (look_at ! 0 refl) $ free_all ! refl $ keep ! (0 ∷ []) $ by ! (exits b o γ')))))))

  module _ (a : E.al.row.Denot) where
    abbrev empty : Row.Denot
    empty = record { ptr = null_ptr; alloc = a; held = None }

    abbrev Is_empty : List Val → Type 0
    Is_empty vs = (hv : Val) × (vs ≡ empty_word hv ∷ []) × Fits E.al hv

    told : (vs : List Val) → ent 𝓤 (sem 𝓛 (Row.own_val empty vs)) (fact 𝓤 (Is_empty vs))
    told vs =
        qed 𝓛 (‵ (Row.own_val empty vs) ∷ []) ∵
        fsplit ! $ fpick ! (λ vss. fsplit ! $ feq_l ! (λ ev. fsplit ! $ feq_l ! (λ ep. fsplit ! $ handle_tells E.al ! a vss.1.0 (λ hv ea fa.
        let ws : vs ≡ empty_word hv ∷ [] = subst (λ (hs : List Val). vs ≡ vstruct (of_list (ptr_val null_ptr ∷ (hs ++ []))) ∷ []) ea (subst (λ (ps : List Val). vs ≡ vstruct (of_list (ps ++ (vss.1.0 ++ []))) ∷ []) ep ev) in
        drop ! $ drop ! $ drop ! $ by ! (fact_i 𝓤 (Is_empty vs) (emp 𝓤) (hv, ws, fa))))))

    leaves : ent 𝓤 (sep 𝓤 (A.obs γ (Row.coded.code empty)) (A.lft κ q)) (Post empty (live 0 (of_list [])))
    unfolding follows_by
    leaves =
        qed 𝓛 (‵ (fobs γ (Row.coded.code empty)) ∷ ‵ (flft κ q) ∷ []) ∵ use1 𝓛 (‵ (fres γ (Row.coded.code empty))) (𝓛.names.obs-res γ (Row.coded.code empty)) $ move ! (1 ∷ []) $
        use0 𝓛 (‵ ((OP.the_row Lent).own_val None (live 0 (of_list []) ∷ []))) (none_of 𝓛 Lent) $
        suffices ! _ (ends_at 𝓛 F.ended spent (F.clauses 𝓛 at_mem run) (bound empty) (live 0 (of_list [])) None (tt, tt) (tt, tt)) $
        nothing ! $ nothing ! $ fjoin ! $ join ! $ nothing ! $ move ! (2 ∷ 0 ∷ []) $ join ! $ join ! $ frame ! $ says ! refl $ done !

    walk_empty : Walked empty
    walk_empty =
        qed 𝓛 ((‵ (flft κ q) ⊛ ‵ ftrue) ∷ ‵ (owns (MutRef (named 0) κ Row ∷ []) (self empty, tt) (vptr rb ro ∷ [], tt)) ∷ []) ∵
        enter ! 𝓣.C 𝓣.Λ code.function (vptr rb ro ∷ []) _ $ alloc_all ! (λ l. pass_all ! refl ((tt, tt), tt) $
        move ! (1 ∷ []) $ fsplit ! $ fsplit3 ! $ drop ! $ move ! (3 ∷ []) $ split ! $ move ! (2 ∷ 3 ∷ 0 ∷ []) $
        opens ! tt Row {κ = κ} {q = q} {h = empty} rb ro (λ vs. move ! (1 ∷ []) $
        use1 𝓛 (given (Is_empty vs) (‵ (Row.own_val empty vs))) (fact_use 𝓤 (Is_empty vs) (told vs) (guard_i 𝓤 (Is_empty vs) (sem 𝓛 (Row.own_val empty vs)))) $ learn ! (λ is. move ! (1 ∷ 0 ∷ []) $
        rewrite ! 0 (λ (us : List Val). ‵ (cell_at full_share Row.mir us rb ro)) is.1 refl $
        -- [the word; the allocator; the open borrow; obs; auth]
        sets ! (of_opd ! (load ! (through ! refl (fld ! refl (stop !))) (look_in ! 0 (sub ! 0 refl (whole !))))) refl (Ptr-Good null_ptr) $
        sets ! (of_opd ! (get ! refl)) refl (Ptr-Good null_ptr) $ sets ! (bin ! (get ! refl) (lit ! tt) tt) refl (tt, tt) $
        first ! $ branches ! (get ! refl) (λ _.
        sets ! (agg ! (and_then ! (lit ! tt) (no_more !))) refl (tt, (record { fits = lit< tt }, tt)) $
        rewrite ! 0 (λ (us : List Val). ‵ (cell_at full_share Row.mir us rb ro)) (sym is.1) refl $ closes ! tt Row empty vs rb ro $
        returns_within ! (Post empty) refl (look_at ! 0 refl) $ free_all ! refl $ keep ! (0 ∷ 2 ∷ []) $ by ! leaves)
        (λ wrong. absurd wrong))))

    -- no other pointer owns nothing
    walk_never : (b o : ℕ) → Walked (record { ptr = block_ptr b o; alloc = a; held = None })
    walk_never b o =
        let it : Row.Denot = record { ptr = block_ptr b o; alloc = a; held = None } in
        qed 𝓛 ((‵ (flft κ q) ⊛ ‵ ftrue) ∷ ‵ (owns (MutRef (named 0) κ Row ∷ []) (self it, tt) (vptr rb ro ∷ [], tt)) ∷ []) ∵
        enter ! 𝓣.C 𝓣.Λ code.function (vptr rb ro ∷ []) _ $ alloc_all ! (λ l. pass_all ! refl ((tt, tt), tt) $
        move ! (1 ∷ []) $ fsplit ! $ fsplit3 ! $ drop ! $ move ! (3 ∷ []) $ split ! $ move ! (2 ∷ 3 ∷ 0 ∷ []) $
        opens ! tt Row {κ = κ} {q = q} {h = it} rb ro (λ vs. move ! (1 ∷ []) $ use1 𝓛 (‵ (Row.own_val it vs)) (id⊢ 𝓤 _) $ fsplit ! $ move ! (1 ∷ []) $ use1 𝓛 (raw (never 𝓤)) (id⊢ 𝓤 _) $ keep ! (0 ∷ []) $ by ! (never_e 𝓤 _)))

  walk_each : (p : Ptr) (a : E.al.row.Denot) (h : Option E.row.Denot) → Walked (record { ptr = p; alloc = a; held = h })
  walk_each p a (Some x) = walk_full p a x
  walk_each null_ptr a None = walk_empty a
  walk_each (block_ptr b o) a None = walk_never a b o

pub lent_spec : {M : Type 1} → stated.statement M
unfolding tables_of
lent_spec 𝓤 𝓛 𝓜 𝓡 wired = walked_there 𝓛 𝓜 𝓡 F.ended spent (F.clauses 𝓛 𝓜.mem 𝓡.returns) code.function (Goes-spent_ref 𝓛 1 (0 ∷ []) tt (plain (λ _. Row)), tt) #self (code.unfolded 𝓤 𝓛.H 𝓜 𝓡 wired)
    (λ 𝓣. walked 𝓛 F.ended spent (F.clauses 𝓛 𝓜.mem 𝓡.returns) (WpFn 𝓤 𝓛.H 𝓣.C 𝓣.Λ code.function) (λ κs. (mut_vals, tt)) (λ κs. (mut_Tells (named 0) κs.0 Row, tt))
    (λ κs qs bounds a g are. via 𝓤 _ (fst∗ 𝓤 _ (emp 𝓤)) (walk_each 𝓛 𝓜.mem 𝓡.returns 𝓣 κs.0 qs.0 a.0.ref_ptr.0 a.0.ref_ptr.1 a.0.ghost_name a.0.now.ptr a.0.now.alloc a.0.now.held)))
