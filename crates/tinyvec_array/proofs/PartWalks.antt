-- What the proofs by hand share of functions that lend on a part of what `as_slice_mut` lends, with the names that they cite.
pub use mathlib.Core.Path.{refl, sym, ap, subst}
pub use Prim.Native.Nat.{ℕ, ◌+◌, ◌-◌, ◌*◌, ◌^◌, ◌<◌, ◌≤◌}
pub use native.Mathlib.Omega.{arith}
pub use mathlib.Core.List.{List, [], ◌∷◌}
pub use lib.ListN.{length}
pub use mir.Syntax.{Fn, named, w64}
pub use mir.MapTy.{inst_fn}
pub use mir.Val.{vptr, vint}
pub use base.Fml.{GName, ftrue}
pub use prog.Memory.{size}
pub use types.Kit.{‵, ◌⊛◌, given, ◌$◌, ◌∵◌, !, move, drop, split, split3, learn, fjoin, await, pick, suffices, frame, done}
pub use types.Run.{stop, fld, addr, bin, and_then, no_more, returns, enter}
pub use types.ByLocal.{alloc_all, pass_all, free_all, look_at, get, get_in, through, sets, lands_as}
pub use types.Part.{whole, sub}
pub use contract.Running.{tables}
pub use denote.Builtin.{usize}
pub use denote.Exit.{yes, no}
pub use denote.Param.{layout}
pub use denote.Plain.{uint_vals, uint_Tells}
pub use denote.RattleType.{owns}
pub use denote.Ref.{MutBor, MutRef, mut_vals, mut_Tells}
pub use denote.Signature.{plain}
pub use denote.Steps.{nothing}
pub use denote.Triple.Call.{calls_at}
pub use denote.Triple.Clauses.{Ended}
pub use denote.Triple.Table.{framed}
pub use denote.Triple.Walked.{says, Stays, stay_dropped, Goes-dropped, Goes-spent_ref}
pub use Rattle.std.proofs.raw_atomic.Walks.{leaves, proved}
use mathlib.Core.Path.{◌≡◌}
use seplogic.Ra.Ura.{Ura}
use mir.Syntax.{Args, Dict, a_type, dcons, dnil}
use mir.Val.{Val}
use base.Logic.{SProp, ent, sep, ex, id⊢}
use base.Fml.{Fml, flft, fsep}
use prog.Memory.{Memory}
use prog.Routine.{Routine}
use types.Logic.{Logic, sem}
use types.Kit.{Item, Goal, prop, Step, Sq, mean, ⋆, raw, some, later, qed, join, use1, use2, updating, now, show, check, rewrite}
use contract.BorrowLft.{◌⊑◌}
use contract.Lifetimes.{Lfts, Shares, AllOutlive, toks}
use contract.Monad.{Fun, fact}
use denote.Array.{Array}
use denote.Follow.{follows, follows_then}
use denote.Laws.{Is, shows}
use denote.Param.{param, bounded}
use denote.RattleType.{RattleType}
use denote.Slice.{MutSlice, Room, slice_val, mut_slice_Tells}
use denote.Steps.{heard, peeks, only}
use denote.Triple.Spec.{triple_of}
use denote.Triple.Statement.{Contract}
use Rattle.tinyvec_array.specs.declared.slots.Slots as Storage
use Rattle.tinyvec_array.specs.contracts.slots.Slots.as_slice_mut as AM

-- the parameter, its items and lengths, and what a statement assumes of them
pub record Par : Type 2 where
  pub self : RattleType
  pub item : RattleType
  pub len : RattleType
  pub g : Storage.Ghosts self.Denot item.Denot len.Denot
  pub d : Dict
  pub xs : Dict
  pub xi : Dict
  pub xl : Dict

module _ (Z : Par) where
  abbrev pub S : RattleType
  S = param 0 Z.self

  abbrev pub R : RattleType
  R = param 1 Z.item

  abbrev pub args : Args
  args = bounded (a_type ∷ a_type ∷ a_type ∷ []) (Z.self, (Z.item, (Z.len, tt))) (dcons Z.d (dcons Z.xs (dcons Z.xi (dcons Z.xl dnil))))

module _ (Z : Par) {M : Type 1} {𝓤 : Ura M} (𝓛 : Logic 𝓤) (at_mem : Memory → SProp 𝓤) (run : Routine → Fun 𝓤) where
  open 𝓛 use {H, A}

  -- the contract of `as_slice_mut`
  abbrev pub Con : Contract 𝓤
  Con = triple_of 𝓛 (AM.signature Z.self Z.item Z.len) (AM.spec Z.self Z.item Z.len Z.g Z.d Z.xs Z.xi Z.xl 𝓛 at_mem run)

  module _ (κs : Lfts 4) (qs : Shares 4) (bounds : AllOutlive 4 (AM.signature Z.self Z.item Z.len).outlives κs) (self : MutBor Z.self.Denot) where
    -- the call for the slots behind `self`
    abbrev pub asked : Con.Ghost
    asked = ((κs, qs, bounds, (self, tt), (mut_vals self, tt)), tt)

    abbrev Tokens : Item 𝓤
    Tokens = ‵ (flft κs.0 qs.0) ⊛ raw (toks 𝓛 3 κs.1 qs.1)

    -- what is had on entry: Q of the other parameters, and C of the clauses
    abbrev Entry : Fml → Item 𝓤 → List (Item 𝓤)
    Entry Q C = (Tokens ⊛ ‵ ((MutRef (named 0) κs.0 (S Z)).own_val self (mut_vals self)) ⊛ ‵ Q)
        ∷ (raw (fact 𝓤 (κs.1.0 ⊑ Z.self.lives)) ⊛ raw (fact 𝓤 (κs.1.1.0 ⊑ Z.item.lives)) ⊛ raw (fact 𝓤 (κs.1.1.1.0 ⊑ Z.len.lives)) ⊛ C) ∷ []

    -- a walk begins with what the call asks
    pub begins : (Q : Fml) (C : Item 𝓤) {P : SProp 𝓤} → Sq 𝓛 (C ∷ raw (Con.pre asked) ∷ []) (prop P) → ent 𝓤 (⋆ 𝓛 (Entry Q C)) P
    begins Q C s =
        qed 𝓛 (Entry Q C) ∵ split3 ! $ move ! (2 ∷ 3 ∷ []) $ drop ! $ split3 ! $ move ! (2 ∷ []) $ split ! $
        -- [the lengths' lifetime; C; the array's; the items'; the tokens; `self`]
        nothing ! $ move ! (1 ∷ 0 ∷ []) $ join ! $ move ! (3 ∷ 0 ∷ []) $ join ! $ move ! (2 ∷ 0 ∷ []) $ join ! $
        nothing ! $ move ! (4 ∷ 0 ∷ []) $ join ! $ move ! (3 ∷ 0 ∷ []) $ join ! $ join ! $ use1 𝓛 (raw (Con.pre asked)) (id⊢ 𝓤 (Con.pre asked)) $ move ! (1 ∷ []) $ s

    -- `Lent p` of the slots at p is lent on, and they end as `filled` of what is then there.
    module _ (X : RattleType) (filled : X.Denot → List Z.item.Denot) (Lent : ℕ × ℕ → GName → Fml) (v : Val) where
      abbrev slots : List Z.item.Denot
      slots = Z.g.slots self.now

      abbrev Slice : RattleType
      Slice = MutSlice (named 0) κs.0 (R Z)

      -- the slots, under the name γ
      abbrev all : ℕ × ℕ → GName → MutBor (List Z.item.Denot)
      all p γ = record { ref_ptr = p; ghost_name = γ; now = slots }

      abbrev Then : ℕ × ℕ → GName → Item 𝓤
      Then p δ = ‵ (Lent p δ) ⊛ Tokens ⊛ ‵ (follows (S Z) X self.ghost_name δ (λ w. Z.g.with_slots self.now (filled w)))

      abbrev At : ℕ × ℕ → Item 𝓤
      At p = given (v ≡ slice_val p (length slots)) (given (Room (R Z) (length slots)) (some (Then p)))

      abbrev Lends : Type 1
      Lends = (p : ℕ × ℕ) (γ : GName) → Room (R Z) (length slots)
          → ent 𝓤 (sep 𝓤 (sem 𝓛 (Slice.own_val (all p γ) (v ∷ []))) (A.lft κs.0 qs.0)) (H.⇛ (ex 𝓤 (λ (δ : GName). sep 𝓤 (sem 𝓛 (Lent p δ)) (sep 𝓤 (A.lft κs.0 qs.0) (sem 𝓛 (follows (Array (R Z) 0) X γ δ filled))))))

      lent : Lends → ent 𝓤 (Con.post asked v) (mean 𝓛 (later (some At)))
      lent lends =
          qed 𝓛 (later (some (λ (r : MutBor (List Z.item.Denot)). (Tokens ⊛ ‵ (Slice.own_val r (v ∷ [])))
          ⊛ some (λ (ws : Unit {0} × Unit {0}). ‵ (fsep ftrue ftrue) ⊛ ‵ (follows (S Z) (Array (R Z) 0) self.ghost_name r.ghost_name (Z.g.with_slots self.now)) ⊛ raw (fact 𝓤 (r.now ≡ slots))))) ∷ []) ∵
          updating ! $ await ! tt $ pick ! (λ r. split ! $ split ! $ move ! (2 ∷ []) $ pick ! (λ ws. split3 ! $ drop ! $ move ! (1 ∷ []) $ heard ! (r.now ≡ slots) (λ shown.
          -- [what follows the slots; the tokens; the slots]
          move ! (2 ∷ []) $ rewrite ! 0 (λ (l : List Z.item.Denot). ‵ (Slice.own_val (record { ref_ptr = r.ref_ptr; ghost_name = r.ghost_name; now = l }) (v ∷ []))) shown refl $
          peeks ! Slice (Is Slice) (shows 𝓛 Slice) (all r.ref_ptr r.ghost_name) (v ∷ []) (λ is. move ! (2 ∷ []) $ split ! $ move ! (2 ∷ 0 ∷ []) $
          use2 𝓛 (later (some (λ (δ : GName). ‵ (Lent r.ref_ptr δ) ⊛ ‵ (flft κs.0 qs.0) ⊛ ‵ (follows (Array (R Z) 0) X r.ghost_name δ filled)))) (lends r.ref_ptr r.ghost_name is.0.1) $ await ! tt $ pick ! (λ δ. split3 ! $
          -- [what is lent on; its token; what follows it; the other tokens; what follows the slots]
          move ! (4 ∷ 2 ∷ []) $ use2 𝓛 (‵ (follows (S Z) X self.ghost_name δ (λ w. Z.g.with_slots self.now (filled w)))) (follows_then 𝓛 (S Z) (Array (R Z) 0) X (Z.g.with_slots self.now) filled self.ghost_name r.ghost_name δ) $
          move ! (2 ∷ 3 ∷ []) $ join ! $ move ! (2 ∷ []) $ now ! $ show ! (λ p. mean 𝓛 (At p)) r.ref_ptr $
          check ! (ap only (mut_slice_Tells (named 0) κs.0 (R Z) (all r.ref_ptr r.ghost_name) (v ∷ []) is)) $ check ! is.0.1 $ show ! (λ δ'. mean 𝓛 (Then r.ref_ptr δ')) δ $ done !)))))

      -- what the call gave, v, is lent on
      pub lends_on : {K : Type 0} {Γ : List (Item 𝓤)} {G : Goal 𝓤 H} → Lends → Step K 𝓛 (later (some At) ∷ Γ) G (raw (Con.post asked v) ∷ Γ) G
      lends_on lends = use1 𝓛 (later (some At)) (lent lends)
