-- `part_of` lends a range of what `as_slice_mut` lends. The borrow checker does not follow
-- a part of a call's result, so this proof walks the code by hand.
use lib.ListN.{take, drop as drop_list}
use types.Part.{agg}
use types.Run.{size_word}
use types.ByLocal.{is as valued}
use denote.Array.{Array}
use denote.Slice.{MutSlice, slice_val}
use Rattle.tinyvec_array.specs.SliceParts.{with_part}
use Rattle.tinyvec_array.proofs.Walks.{bytes_before, fewer, lends_run}
use Rattle.tinyvec_array.proofs.PartWalks.{refl, sym, ap, subst, ℕ, ◌+◌, ◌-◌, ◌*◌, ◌^◌, ◌<◌, ◌≤◌, arith, List, [], ◌∷◌, length, Fn, named, w64, inst_fn, vint, GName, ftrue, size, ‵, ◌⊛◌, given, ◌$◌, ◌∵◌, !, move, drop, split, split3, learn, fjoin, await, pick, suffices, frame, done, stop, fld, addr, bin, and_then, no_more, returns, enter, alloc_all, pass_all, free_all, look_at, get, get_in, through, sets, lands_as, whole, sub, tables, usize, yes, no, layout, uint_vals, uint_Tells, owns, MutBor, mut_vals, mut_Tells, plain, nothing, calls_at, Ended, framed, says, Stays, stay_dropped, Goes-dropped, Goes-spent_ref, leaves, proved, Par, S, R, args, Con, asked, begins, lends_on}
use Rattle.tinyvec_array.specs.contracts.parts.part_of as F
use Rattle.tinyvec_array.proofs.parts.part_of.Statement.{statement}
use Rattle.tinyvec_array.proofs.parts.part_of.Code as code

module _ (Z : Par) where
  abbrev function : Fn
  function = inst_fn (args Z) code.function

  abbrev ended : Ended
  ended = F.ended Z.self Z.item Z.len Z.g Z.d Z.xs Z.xi Z.xl

  abbrev stayed : Stays ended.signature.params ended.kept
  stayed = (stay_dropped _ no, (stay_dropped _ yes, (stay_dropped _ yes, tt)))

pub part_of_spec : {M : Type 1} → statement M
part_of_spec 𝓤 𝓛 𝓜 𝓡 wired X Y L LX LY LL g d xs xi xl met gx gy gl =
    let Z : Par = record { self = X; item = Y; len = L; g = g; d = d; xs = xs; xi = xi; xl = xl } in
    let c = F.clauses X Y L g d xs xi xl 𝓛 𝓜.mem 𝓡.returns in let word = Goes-dropped 𝓛 4 (plain (λ _. usize)) yes (λ κs x f. refl) in
    proved 𝓛 (ended Z) (stayed Z) c 𝓜 𝓡 (Goes-spent_ref 𝓛 4 (0 ∷ []) tt (plain (λ _. S Z)), (word, (word, tt))) (F.Key.name (args Z)) (function Z) (code.unfolded 𝓤 𝓛.H 𝓜 𝓡 wired (X, (Y, (L, tt))) d xs xi xl)
    (λ κs. (mut_vals, (uint_vals w64, (uint_vals w64, tt)))) (λ κs. (mut_Tells (named 0) κs.0 (S Z), (uint_Tells w64, (uint_Tells w64, tt)))) (λ κs qs bounds a t are.
    let i : ℕ = a.1.0 in let j : ℕ = a.1.1.0 in let n : ℕ = j - i in let slots : List Y.Denot = g.slots a.0.now in let k : ℕ = size (layout Y) in
    let from : ℕ × ℕ → ℕ × ℕ = λ p. (p.0, i * k + p.1) in
    let lent : ℕ × ℕ → GName → MutBor (List Y.Denot) = λ p δ. record { ref_ptr = from p; ghost_name = δ; now = take n (drop_list i slots) } in
    begins Z 𝓛 𝓜.mem 𝓡.returns κs qs bounds a.0 (owns (usize ∷ usize ∷ []) a.1 (vint w64 i ∷ [], (vint w64 j ∷ [], tt))) (given (i ≤ j) (‵ ftrue) ⊛ given (j ≤ length slots) (‵ ftrue)) ∵
    split ! $ learn ! (λ le. drop ! $ learn ! (λ within. drop ! $
    enter ! _ _ _ _ _ $ alloc_all ! (λ l. pass_all ! refl ((tt, tt), ((tt, record { fits = are.1.0.1 }), ((tt, record { fits = are.1.1.0.1 }), tt))) $
    sets ! (addr ! (through ! refl (stop !))) refl (tt, tt) $
    calls_at ! (framed 𝓤 𝓛.H 𝓜 (tables 𝓤 𝓛.H 𝓜 𝓡 𝓡.env)) (Con Z 𝓛 𝓜.mem 𝓡.returns) (met.as_slice_mut xs xi xl) (asked Z 𝓛 𝓜.mem 𝓡.returns κs qs bounds a.0) (and_then ! (get ! refl) (no_more !)) (λ v.
    lends_on Z 𝓛 𝓜.mem 𝓡.returns κs qs bounds a.0 (Array (R Z) 0) (with_part slots i j) (λ p δ. (MutSlice (named 0) κs.0 (R Z)).own_val (lent p δ) (slice_val (from p) n ∷ [])) v
    (λ p γ room. lends_run 𝓛 (R Z) κs.0 qs.0 p.0 p.1 γ slots i j le within room (v ∷ [])) $ await ! tt $ pick ! (λ p. learn ! (λ told. learn ! (λ room. pick ! (λ δ. split3 ! $
    -- [the part; the tokens; what it follows; the locals]
    lands_as ! told refl (tt, (tt, (record { fits = room.0 }, tt))) $
    let before : i * k < 2 ^ 63 = (fewer (R Z) i room (omega arith)).1 in let fs : i * k < 2 ^ 64 = omega arith in
    let long : length slots < 2 ^ 64 = room.0 in let fm : n < 2 ^ 64 = omega arith in
    let bytes = bytes_before (R Z) i room (omega arith) in
    sets ! (valued ! (bin ! (get ! refl) (size_word !) (record { fits = subst (λ (m : ℕ). m < 2 ^ 64) (sym bytes) fs })) (ap (vint w64) bytes)) refl (tt, record { fits = fs }) $
    sets ! (bin ! (get_in ! (fld ! refl (stop !)) (sub ! 0 refl (whole !))) (get ! refl) tt) refl (tt, tt) $
    sets ! (bin ! (get ! refl) (get ! refl) le) refl (tt, record { fits = fm }) $
    sets ! (addr ! (through ! refl (stop !))) refl (tt, tt) $
    sets ! (agg ! (and_then ! (get ! refl) (and_then ! (get ! refl) (no_more !)))) refl (tt, (tt, (record { fits = fm }, tt))) $
    returns ! (look_at ! 0 refl) $ free_all ! refl $
    suffices ! _ (leaves 𝓛 (ended Z) (stayed Z) c ((κs, qs, bounds, a, (mut_vals a.0, (vint w64 i ∷ [], (vint w64 j ∷ [], tt)))), t) (slice_val (from p) n) (lent p δ) (tt, (tt, (tt, tt))) (tt, (tt, (tt, tt)))) $
    move ! (1 ∷ []) $ frame ! $ nothing ! $ nothing ! $ fjoin ! $ nothing ! $ fjoin ! $ nothing ! $ fjoin ! $ frame ! $ frame ! $ says ! refl $ done !)))))))))
