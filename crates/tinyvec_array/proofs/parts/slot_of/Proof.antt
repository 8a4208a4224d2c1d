-- `slot_of` lends one slot of what `as_slice_mut` lends. The borrow checker does not follow
-- a part of a call's result, so this proof walks the code by hand.
use lib.ListN.{get_or, set}
use types.Run.{size_lit}
use Rattle.std.proofs.lemmas.List.{get_or_default}
use Rattle.tinyvec_slots.proofs.Lists.{an_element}
use Rattle.tinyvec_array.proofs.Walks.{fewer, lends_element}
use Rattle.tinyvec_array.proofs.PartWalks.{refl, ℕ, ◌+◌, ◌*◌, ◌^◌, ◌<◌, arith, List, [], ◌∷◌, length, Fn, named, w64, inst_fn, vptr, vint, GName, ftrue, size, ‵, given, ◌$◌, ◌∵◌, !, move, drop, split3, learn, fjoin, await, pick, suffices, frame, done, stop, fld, addr, bin, and_then, no_more, returns, enter, alloc_all, pass_all, free_all, look_at, get, get_in, through, sets, lands_as, whole, sub, tables, usize, yes, no, layout, uint_vals, uint_Tells, owns, MutBor, MutRef, mut_vals, mut_Tells, plain, nothing, calls_at, Ended, framed, says, Stays, stay_dropped, Goes-dropped, Goes-spent_ref, leaves, proved, Par, S, R, args, Con, asked, begins, lends_on}
use Rattle.tinyvec_array.specs.contracts.parts.slot_of as F
use Rattle.tinyvec_array.proofs.parts.slot_of.Statement.{statement}
use Rattle.tinyvec_array.proofs.parts.slot_of.Code as code

module _ (Z : Par) where
  abbrev function : Fn
  function = inst_fn (args Z) code.function

  abbrev ended : Ended
  ended = F.ended Z.self Z.item Z.len Z.g Z.d Z.xs Z.xi Z.xl

  abbrev stayed : Stays ended.signature.params ended.kept
  stayed = (stay_dropped _ no, (stay_dropped _ yes, tt))

pub slot_of_spec : {M : Type 1} → statement M
slot_of_spec 𝓤 𝓛 𝓜 𝓡 wired X Y L LX LY LL g d xs xi xl met gx gy gl =
    let Z : Par = record { self = X; item = Y; len = L; g = g; d = d; xs = xs; xi = xi; xl = xl } in
    let c = F.clauses X Y L g d xs xi xl 𝓛 𝓜.mem 𝓡.returns in
    proved 𝓛 (ended Z) (stayed Z) c 𝓜 𝓡 (Goes-spent_ref 𝓛 4 (0 ∷ []) tt (plain (λ _. S Z)), (Goes-dropped 𝓛 4 (plain (λ _. usize)) yes (λ κs x f. refl), tt)) (F.Key.name (args Z)) (function Z) (code.unfolded 𝓤 𝓛.H 𝓜 𝓡 wired (X, (Y, (L, tt))) d xs xi xl)
    (λ κs. (mut_vals, (uint_vals w64, tt))) (λ κs. (mut_Tells (named 0) κs.0 (S Z), (uint_Tells w64, tt))) (λ κs qs bounds a t are.
    let i : ℕ = a.1.0 in let slots : List Y.Denot = g.slots a.0.now in let k : ℕ = size (layout Y) in
    begins Z 𝓛 𝓜.mem 𝓡.returns κs qs bounds a.0 (owns (usize ∷ []) a.1 (vint w64 i ∷ [], tt)) (given (i < length slots) (‵ ftrue)) ∵
    learn ! (λ within. drop ! $
    let e : Y.Denot = an_element slots i within in let item : Y.Denot = get_or slots i e in
    let lent : ℕ × ℕ → GName → MutBor Y.Denot = λ p δ. record { ref_ptr = (p.0, i * k + p.1); ghost_name = δ; now = item } in
    enter ! _ _ _ _ _ $ alloc_all ! (λ l. pass_all ! refl ((tt, tt), ((tt, record { fits = are.1.0.1 }), tt)) $
    sets ! (addr ! (through ! refl (stop !))) refl (tt, tt) $
    calls_at ! (framed 𝓤 𝓛.H 𝓜 (tables 𝓤 𝓛.H 𝓜 𝓡 𝓡.env)) (Con Z 𝓛 𝓜.mem 𝓡.returns) (met.as_slice_mut xs xi xl) (asked Z 𝓛 𝓜.mem 𝓡.returns κs qs bounds a.0) (and_then ! (get ! refl) (no_more !)) (λ v.
    lends_on Z 𝓛 𝓜.mem 𝓡.returns κs qs bounds a.0 (R Z) (set slots i) (λ p δ. (MutRef (named 0) κs.0 (R Z)).own_val (lent p δ) (mut_vals (lent p δ))) v
    (λ p γ room. lends_element 𝓛 (R Z) κs.0 qs.0 p.0 p.1 γ slots i within e (v ∷ [])) $ await ! tt $ pick ! (λ p. learn ! (λ told. learn ! (λ room. pick ! (λ δ. split3 ! $
    -- [the slot; the tokens; what it follows; the locals]
    lands_as ! told refl (tt, (tt, (record { fits = room.0 }, tt))) $
    let before : i * k < 2 ^ 63 = (fewer (R Z) i room (omega arith)).1 in let fi : i * k < 2 ^ 64 = omega arith in
    let one : 1 * k < 2 ^ 63 = (fewer (R Z) 1 room (omega arith)).1 in let tiny : k < 2 ^ 64 = omega arith in
    sets ! (bin ! (get ! refl) (size_lit ! (record { fits = tiny })) (record { fits = fi })) refl (tt, record { fits = fi }) $
    sets ! (bin ! (get_in ! (fld ! refl (stop !)) (sub ! 0 refl (whole !))) (get ! refl) tt) refl (tt, tt) $
    sets ! (addr ! (through ! refl (stop !))) refl (tt, tt) $
    returns ! (look_at ! 0 refl) $ free_all ! refl $
    suffices ! _ (leaves 𝓛 (ended Z) (stayed Z) c ((κs, qs, bounds, a, (mut_vals a.0, (vint w64 i ∷ [], tt))), t) (vptr p.0 (i * k + p.1)) (lent p δ) (tt, (tt, tt)) (tt, (tt, tt))) $
    move ! (1 ∷ []) $ frame ! $ nothing ! $ nothing ! $ fjoin ! $ nothing ! $ fjoin ! $ frame ! $ frame ! $ says ! (get_or_default slots i e item within) $ done !))))))))
