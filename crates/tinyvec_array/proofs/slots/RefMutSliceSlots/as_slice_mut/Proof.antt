-- `as_slice_mut` lends the slots that a `&mut [T]` behind another `&mut` points at. The borrow checker does not follow
-- a slice through two references, so this proof walks the code by hand.
use mathlib.Core.Path.{◌≡◌, refl, sym}
use mathlib.Core.List.{List, [], ◌∷◌}
use lib.ListN.{length}
use seplogic.Ra.Ura.{Ura}
use base.Fraction.{full_share}
use mir.Syntax.{Fn, Args, Dict, Ty, named, erased, mut, ty_ref, ty_param, a_type, dcons, dnil}
use mir.MapTy.{inst_fn}
use mir.Val.{Val}
use base.Logic.{SProp, ent, sep, emp, via, fst∗}
use base.Fml.{Lft, GName, Share, ftrue, flft, fat}
use prog.Memory.{Memory}
use prog.Routine.{Routine}
use prog.Wp.{WpFn, Tables}
use types.Logic.{Logic}
use types.Kit.{‵, raw, ◌⊛◌, some, later, ◌$◌, ◌∵◌, !, qed, by, move, keep, drop, use1, use3, split, split3, join, pick, fsplit, fsplit3, fjoin, suffices, frame, await, rewrite, done}
use types.Part.{agg, whole, sub, look_in}
use types.Run.{stop, fld, hop, addr, load, of_opd, and_then, no_more, returns, enter}
use types.ByLocal.{alloc_all, pass_all, free_all, look_at, get, through, sets}
use contract.Lifetimes.{AllOutlive}
use contract.Monad.{Fun}
use contract.Running.{tables, tables_of}
use denote.Builtin.{RefMutOf, SliceRefMutOf}
use denote.Exit.{no}
use denote.Array.{Array}
use denote.Follow.{follows}
use denote.Laws.{Is, shows}
use denote.Memory.{cell_at}
use denote.Param.{param, bounded}
use denote.RattleType.{RattleType, owns}
use denote.Ref.{MutBor, MutRef, at_last, mut_vals, mut_Tells}
use denote.Signature.{Slot, plain}
use denote.Slice.{MutSlice, Room, mut_slice_vals, slice_ty, slice_val, mut_slice_Tells}
use denote.Steps.{opens, closes, peeks, nothing}
use denote.Through.{LentSlice, renamed, lends_inner_slice}
use denote.Triple.Clauses.{Clauses, Ended}
use denote.Triple.Entry.{on_entry}
use denote.Triple.Walked.{says, Stays, stay_dropped, walk_of, Goes-spent_ref}
use Rattle.std.proofs.raw_atomic.Walks.{leaves, proved}
use Rattle.tinyvec_array.specs.contracts.slots.RefMutSliceSlots.as_slice_mut as F
use Rattle.tinyvec_array.proofs.slots.RefMutSliceSlots.as_slice_mut.Statement.{statement}
use Rattle.tinyvec_array.proofs.slots.RefMutSliceSlots.as_slice_mut.Code as code

module _ (X : RattleType) (d : Dict) where
  abbrev T : RattleType
  T = param 0 X

  abbrev inner : Slot 3
  inner = SliceRefMutOf (1 ∷ []) tt (plain (λ _. T)) (λ _. tt)

  abbrev args : Args
  args = bounded (a_type ∷ []) (X, tt) (dcons d dnil)

  abbrev function : Fn
  function = inst_fn args code.function

  abbrev ended : Ended
  ended = F.ended X d

  abbrev stayed : Stays ended.signature.params ended.kept
  stayed = (stay_dropped (RefMutOf (0 ∷ []) tt inner (λ _. tt)) no, tt)

module _ (X : RattleType) (d : Dict) {M : Type 1} {𝓤 : Ura M} (𝓛 : Logic 𝓤) (at_mem : Memory → SProp 𝓤) (run : Routine → Fun 𝓤) where
  open 𝓛 use {H, A}

  abbrev clauses : Clauses 𝓤 (ended X d)
  clauses = F.clauses X d 𝓛 at_mem run

  abbrev R : RattleType
  R = T X d

  module _ (𝓣 : Tables 𝓤 H) (κ κ' κT : Lft) (q q' qT : Share) (bounds : AllOutlive 3 (ended X d).signature.outlives (κ, (κ', (κT, tt)))) (x : MutBor (MutBor (List X.Denot))) where
    abbrev Sl : RattleType
    Sl = MutSlice (named 1) κ' R

    abbrev bound : (walk_of 𝓛 (ended X d) (stayed X d) clauses).Ghost
    bound = (((κ, (κ', (κT, tt))), (q, (q', (qT, tt))), bounds, (x, tt), (mut_vals x, tt)), tt)

    abbrev Post : Val → SProp 𝓤
    Post = (walk_of 𝓛 (ended X d) (stayed X d) clauses).post bound

    abbrev to : Val
    to = slice_val x.now.ref_ptr (length x.now.now)

    -- the type at which the code reads the inner reference
    abbrev word : Ty
    word = slice_ty (ty_ref erased mut (ty_param 0))

    abbrev Given : GName → SProp 𝓤
    Given γ' = LentSlice 𝓛 R (named 0) (named 1) κ κ' x q γ'

    exits : (γ' : GName) → ent 𝓤 (sep 𝓤 (Given γ') (sep 𝓤 (A.lft κ' q') (sep 𝓤 (A.lft κT qT) (emp 𝓤)))) (Post to)
    exits γ' =
        qed 𝓛 ((‵ ((MutSlice (named 0) κ R).own_val (renamed x.now γ') (mut_slice_vals x.now)) ⊛ ‵ (flft κ q) ⊛ ‵ (follows Sl (Array R 0) x.ghost_name γ' (at_last x.now))) ∷ (‵ (flft κ' q') ⊛ ‵ (flft κT qT) ⊛ ‵ ftrue) ∷ []) ∵
        -- [the slice; its token; what it follows; the other tokens]
        split3 ! $ move ! (1 ∷ 3 ∷ []) $ join ! $
        suffices ! _ (leaves 𝓛 (ended X d) (stayed X d) clauses bound to (renamed x.now γ') (tt, tt) (tt, tt)) $
        frame ! $ nothing ! $ nothing ! $ fjoin ! $ frame ! $ frame ! $ says ! refl $ done !

    walk : ent 𝓤 (on_entry 𝓛 (ended X d).signature (κ, (κ', (κT, tt))) (q, (q', (qT, tt))) (x, tt) (mut_vals x, tt)) (WpFn 𝓤 H 𝓣.C 𝓣.Λ (function X d) (mut_vals x) Post)
    walk =
        qed 𝓛 ((‵ (flft κ q) ⊛ ‵ (flft κ' q') ⊛ ‵ (flft κT qT) ⊛ ‵ ftrue) ∷ ‵ (owns (MutRef (named 0) κ Sl ∷ []) (x, tt) (mut_vals x, tt)) ∷ []) ∵
        -- [the outer reference in two; its token; the other tokens]
        split ! $ move ! (2 ∷ []) $ fsplit ! $ fsplit3 ! $ drop ! $ move ! (0 ∷ 1 ∷ 3 ∷ 4 ∷ []) $
        enter ! 𝓣.C 𝓣.Λ (function X d) (mut_vals x) _ $ alloc_all ! (λ l. pass_all ! refl ((tt, tt), tt) $
        opens ! tt Sl x.ref_ptr.0 x.ref_ptr.1 (λ us. move ! (1 ∷ []) $
        peeks ! Sl (Is Sl) (shows 𝓛 Sl) x.now us (λ is. move ! (1 ∷ []) $
        -- [the inner reference; what it owns; the outer's borrow, open, in three; the other tokens; nothing; the locals]
        let told : us ≡ mut_slice_vals x.now = mut_slice_Tells (named 1) κ' R x.now us is in
        let rm : Room R (length x.now.now) = is.0.1 in
        rewrite ! 0 (λ (ws : List Val). ‵ (cell_at full_share Sl.mir ws x.ref_ptr.0 x.ref_ptr.1)) told refl $
        use1 𝓛 (‵ (fat full_share word x.ref_ptr.0 x.ref_ptr.1 to)) (𝓛.laws.raw_at full_share word x.ref_ptr.0 x.ref_ptr.1 to) $
        sets ! (of_opd ! (load ! (through ! refl (fld ! refl (stop !))) (look_in ! 0 (sub ! 1 refl (whole !))))) refl (tt, record { fits = rm.0 }) $
        sets ! (addr ! (through ! refl (fld ! refl (hop ! (look_in ! 0 (sub ! 0 refl (whole !))) (stop !))))) refl (tt, tt) $
        sets ! (agg ! (and_then ! (get ! refl) (and_then ! (get ! refl) (no_more !)))) refl (tt, (tt, (record { fits = rm.0 }, tt))) $
        use1 𝓛 (‵ (cell_at full_share Sl.mir (to ∷ []) x.ref_ptr.0 x.ref_ptr.1)) (𝓛.laws.at_raw full_share word x.ref_ptr.0 x.ref_ptr.1 to) $
        rewrite ! 0 (λ (ws : List Val). ‵ (cell_at full_share Sl.mir ws x.ref_ptr.0 x.ref_ptr.1)) (sym told) refl $
        closes ! tt Sl x.now us x.ref_ptr.0 x.ref_ptr.1 $
        use3 𝓛 (later (some (λ (γ' : GName). raw (Given γ')))) (lends_inner_slice 𝓛 R (named 0) (named 1) κ κ' x bounds.0 rm q) $ await ! tt $ pick ! (λ γ'.
        returns ! (look_at ! 0 refl) $ free_all ! refl $ keep ! (0 ∷ 1 ∷ []) $ by ! (exits γ')))))

pub as_slice_mut_spec : {M : Type 1} → statement M
unfolding tables_of
as_slice_mut_spec 𝓤 𝓛 𝓜 𝓡 wired X LX d met =
    let c = F.clauses X d 𝓛 𝓜.mem 𝓡.returns in
    proved 𝓛 (ended X d) (stayed X d) c 𝓜 𝓡 (Goes-spent_ref 𝓛 3 (0 ∷ []) tt (inner X d), tt) (F.Key.name (args X d)) (function X d) (code.unfolded 𝓤 𝓛.H 𝓜 𝓡 wired (X, tt) d)
    (λ κs. (mut_vals, tt)) (λ κs. (mut_Tells (named 0) κs.0 (MutSlice (named 1) κs.1.0 (T X d)), tt)) (λ κs qs bounds a g are.
    via 𝓤 _ (fst∗ 𝓤 _ ((c κs a).requires g))
    (walk X d 𝓛 𝓜.mem 𝓡.returns (tables_of 𝓤 𝓛.H 𝓜 (tables 𝓤 𝓛.H 𝓜 𝓡 𝓡.env)) κs.0 κs.1.0 κs.1.1.0 qs.0 qs.1.0 qs.1.1.0 bounds a.0))
