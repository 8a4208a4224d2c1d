-- Lemmas for proofs by hand of functions that lend on a part of a slice, which a call lent them.
use mathlib.Core.Path.{◌≡◌, refl, sym, ap, ◌∙◌}
use Prim.Native.Nat.{ℕ, zero, suc, ◌+◌, ◌-◌, ◌*◌, ◌^◌, ◌<◌, ◌≤◌}
use native.Mathlib.Nat.{mul-le-mul_right, zero-mul}
use native.Mathlib.Omega.{arith}
use mathlib.Core.List.{List, [], ◌∷◌, ◌++◌}
use seplogic.Ra.Ura.{Ura}
use mir.Syntax.{named}
use mir.Val.{Val, vptr}
use base.Logic.{SProp, ent, sep, ex}
use base.Stored.{coded_list}
use base.Fml.{Fml, Lft, GName, Share, flft, fsep, fobs, fbor}
use prog.Memory.{capped}
use prog.Capped.{capped_is}
use types.Logic.{Logic, sem}
use types.Mut.{open_ref}
use types.Follow.{takes_part}
use types.Kit.{Item, ‵, ◌⊛◌, some, later, ◌$◌, ◌∵◌, !, qed, move, drop, split, split3, fsplit, fsplit3, fjoin, fjoin3, use1, use2, use3, await, pick, done, updating, group, now, show, rewrite, feq_l, feq_i}
use types.SemTy.{SemTy, cells, Arr, Body}
use denote.Array.{Array}
use denote.Follow.{follows}
use denote.FollowSlice.{heres_id, slice_of}
use denote.Memory.{mem}
use denote.RattleType.{RattleType}
use denote.Ref.{MutRef}
use denote.Slice.{MutSlice, Room, slice_val}
use lib.ListN.{length, take, drop as drop_list, set, get_or, take-append-drop, length-drop, length-append}
use borrow.Table.Elements.{at, at_mul, cut_app, join_app, length-take-le}
use borrow.Rule.Slice.Handed.{takes_at}
use Rattle.std.proofs.Common.{append_assoc}
use Rattle.std.proofs.lemmas.List.{drop-drop}
use Rattle.tinyvec_array.specs.SliceParts.{with_part}
use Rattle.tinyvec_array.proofs.PartLemmas.{with_part-as_long}

-- where n elements have room, fewer have
pub fewer : (R : RattleType) {n : ℕ} (k : ℕ) → Room R n → k ≤ n → Room R k
fewer R {n} k room le =
    let most : n * (mem R).size < 2 ^ 63 = room.1 in
    let less : k * (mem R).size ≤ n * (mem R).size = mul-le-mul_right (mem R).size le in (omega arith, omega arith)

-- the code counts the bytes before the element at i by a size that is cut to a word
pub bytes_before : (R : RattleType) {n : ℕ} (i : ℕ) → Room R n → i ≤ n → i * capped (mem R).size ≡ i * (mem R).size
bytes_before R zero room le = zero-mul (capped (mem R).size) ∙ sym (zero-mul (mem R).size)
bytes_before R (suc i) room le =
    let one : 1 * (mem R).size < 2 ^ 63 = (fewer R 1 room (omega arith)).1 in
    ap (λ (size : ℕ). suc i * size) (capped_is (mem R).size (omega arith))

module _ {M : Type 1} {𝓤 : Ura M} (𝓛 : Logic 𝓤) (R : RattleType) (κ : Lft) (q : Share) (b o : ℕ) (γ : GName) (xs : List R.Denot) where
  open 𝓛 use {H, A}

  abbrev L : ℕ → SemTy
  L n = Arr (mem R) n

  -- what is had of the slice
  abbrev slice : List Val → Fml
  slice = (MutSlice (named 0) κ R).own_val (record { ref_ptr = (b, o); ghost_name = γ; now = xs })

  abbrev shows : List R.Denot → Item 𝓤
  shows l = ‵ (fobs γ ((coded_list R.coded).code l))

  -- the elements from i up to j are lent on
  module _ (i j : ℕ) (le : i ≤ j) (within : j ≤ length xs) where
    abbrev m : ℕ
    m = j - i

    abbrev p : ℕ
    p = i * (mem R).size + o

    abbrev front : List R.Denot
    front = take i xs

    abbrev run : List R.Denot
    run = take m (drop_list i xs)

    abbrev tail : List R.Denot
    tail = drop_list m (drop_list i xs)

    front_long : length front ≡ i
    front_long = length-take-le i xs (omega arith)

    run_long : length run ≡ m
    run_long = let cut = length-drop i xs in length-take-le m (drop_list i xs) (omega arith)

    begins : at o (mem R).size (length front) ≡ p
    begins = ap (at o (mem R).size) front_long ∙ at_mul o (mem R).size i

    abbrev filled : List R.Denot → List R.Denot
    filled = with_part xs i j

    -- what was lent, between the others, is the list with that part
    joins : (ws : List R.Denot) → length ws ≡ m → front ++ (ws ++ tail) ≡ filled ws
    joins ws e =
        let ends : i + m ≡ j = omega arith in
        sym (append_assoc front ws tail) ∙ ap (λ (l : List R.Denot). front ++ ws ++ l) (drop-drop m i xs ∙ ap (λ (k : ℕ). drop_list k xs) ends) ∙ with_part-as_long xs ws i j e

    module _ (room : Room R (length xs)) where
      abbrev Rest : Fml
      Rest = fsep (cells (mem R) front b o) (cells (mem R) tail b (at p (mem R).size (length run)))

      abbrev LentRun : GName → SProp 𝓤
      LentRun δ = sep 𝓤 (sem 𝓛 ((MutSlice (named 0) κ R).own_val (record { ref_ptr = (b, p); ghost_name = δ; now = run }) (slice_val (b, p) m ∷ []))) (sep 𝓤 (A.lft κ q) (sem 𝓛 (follows (Array R 0) (Array R 0) γ δ filled)))

      put_run : (ws : List R.Denot) → ent 𝓤 (sep 𝓤 (sem 𝓛 ((L (length run)).own_at ws b p)) (sem 𝓛 Rest)) (sem 𝓛 ((L (length xs)).own_at (filled ws) b o))
      put_run ws =
          qed 𝓛 (‵ ((L (length run)).own_at ws b p) ∷ ‵ Rest ∷ []) ∵ fsplit ! $ feq_l ! (λ e.
          let same : front ++ (ws ++ tail) ≡ filled ws = joins ws (e ∙ run_long) in
          let one = front_long in
          let two = length-append front (ws ++ tail) in
          let three = length-append ws tail in
          let four = length-drop m (drop_list i xs) in
          let five = length-drop i xs in
          let six = run_long in
          let all = ap length same in
          -- [ws; the rest]
          move ! (1 ∷ []) $ fsplit ! $
          -- [front; tail; ws]
          rewrite ! 1 (λ (k : ℕ). ‵ (cells (mem R) tail b (at p (mem R).size k))) (sym e) refl $ move ! (2 ∷ 1 ∷ []) $
          use2 𝓛 (‵ (cells (mem R) (ws ++ tail) b p)) (join_app 𝓛 (mem R) ws tail b p) $
          rewrite ! 0 (λ (k : ℕ). ‵ (cells (mem R) (ws ++ tail) b k)) (sym begins) refl $ move ! (1 ∷ 0 ∷ []) $
          use2 𝓛 (‵ (cells (mem R) (front ++ (ws ++ tail)) b o)) (join_app 𝓛 (mem R) front (ws ++ tail) b o) $
          rewrite ! 0 (λ (l : List R.Denot). ‵ (cells (mem R) l b o)) same refl $
          feq_i ! ℕ (length (filled ws)) (length xs) (omega arith) $ fjoin ! $ done !)

      pub lends_run : (vs : List Val) → ent 𝓤 (sep 𝓤 (sem 𝓛 (slice vs)) (A.lft κ q)) (H.⇛ (ex 𝓤 LentRun))
      lends_run vs =
          qed 𝓛 (‵ (slice vs) ∷ ‵ (flft κ q) ∷ []) ∵ updating ! $ fsplit3 ! $ drop ! $
          rewrite ! 0 shows (heres_id R xs) refl $ open_ref ! tt (L (length xs)) {b = b} {o = o} $ fsplit ! $ drop ! $
          rewrite ! 0 (λ (l : List R.Denot). ‵ (cells (mem R) l b o)) (sym (take-append-drop i xs)) refl $
          use1 𝓛 (‵ (cells (mem R) front b o) ⊛ ‵ (cells (mem R) (drop_list i xs) b (at o (mem R).size (length front)))) (cut_app 𝓛 (mem R) front (drop_list i xs) b o) $
          split ! $ move ! (1 ∷ []) $
          rewrite ! 0 (λ (k : ℕ). ‵ (cells (mem R) (drop_list i xs) b k)) begins refl $
          rewrite ! 0 (λ (l : List R.Denot). ‵ (cells (mem R) l b p)) (sym (take-append-drop m (drop_list i xs))) refl $
          use1 𝓛 (‵ (cells (mem R) run b p) ⊛ ‵ (cells (mem R) tail b (at p (mem R).size (length run)))) (cut_app 𝓛 (mem R) run tail b p) $
          -- [the run; the tail; the front; the open borrow; obs; auth]
          split ! $ move ! (2 ∷ 1 ∷ []) $ fjoin ! $ move ! (1 ∷ []) $
          feq_i ! ℕ (length run) (length run) refl $ fjoin ! $ move ! (2 ∷ 3 ∷ 4 ∷ 0 ∷ 1 ∷ []) $ group ! 5 $
          use1 𝓛 (later (some (λ (δ : GName). ‵ (fobs δ ((coded_list R.coded).code run)) ⊛ ‵ (fbor κ (Body (L (length run)) b p δ)) ⊛ ‵ (flft κ q) ⊛ ‵ (follows (Array R 0) (Array R 0) γ δ filled))))
          (takes_part 𝓛 (L (length xs)) (L (length run)) filled κ q b o b p γ (sem 𝓛 Rest) put_run ((coded_list R.coded).code xs) ((coded_list R.coded).code xs) run) $ await ! tt $ pick ! (λ δ. split3 ! $
          use2 𝓛 (‵ ((MutSlice (named 0) κ R).own_val (record { ref_ptr = (b, p); ghost_name = δ; now = run }) (slice_val (b, p) (length run) ∷ []))) (slice_of 𝓛 R (named 0) κ b p δ run (fewer R (length run) room (omega (arith, run_long)))) $
          rewrite ! 0 (λ (k : ℕ). ‵ ((MutSlice (named 0) κ R).own_val (record { ref_ptr = (b, p); ghost_name = δ; now = run }) (slice_val (b, p) k ∷ []))) run_long refl $ now ! $ show ! LentRun δ $ done !)

  -- the element at i is lent on
  module _ (i : ℕ) (lt : i < length xs) (d : R.Denot) where
    abbrev place : ℕ
    place = i * (mem R).size + o

    abbrev x : R.Denot
    x = get_or xs i d

    abbrev LentElement : GName → SProp 𝓤
    LentElement δ = sep 𝓤 (sem 𝓛 ((MutRef (named 0) κ R).own_val (record { ref_ptr = (b, place); ghost_name = δ; now = x }) (vptr b place ∷ []))) (sep 𝓤 (A.lft κ q) (sem 𝓛 (follows (Array R 0) R γ δ (set xs i))))

    abbrev Then : GName → Item 𝓤
    Then δ = ‵ (fobs δ (R.coded.code x)) ⊛ ‵ (fbor κ (Body (mem R) b place δ)) ⊛ ‵ (flft κ q) ⊛ ‵ (follows (Array R 0) R γ δ (set xs i))

    pub lends_element : (vs : List Val) → ent 𝓤 (sep 𝓤 (sem 𝓛 (slice vs)) (A.lft κ q)) (H.⇛ (ex 𝓤 LentElement))
    lends_element vs =
        qed 𝓛 (‵ (slice vs) ∷ ‵ (flft κ q) ∷ []) ∵ updating ! $ fsplit3 ! $ drop ! $
        rewrite ! 0 shows (heres_id R xs) refl $
        use3 𝓛 (later (some Then)) (takes_at 𝓛 (mem R) κ (length xs) b o q γ xs i place d x (at_mul o (mem R).size i) lt refl) $ await ! tt $ pick ! (λ δ. split3 ! $
        feq_i ! (List Val) (vptr b place ∷ []) (vptr b place ∷ []) refl $ fjoin3 ! $ now ! $ show ! LentElement δ $ done !)
