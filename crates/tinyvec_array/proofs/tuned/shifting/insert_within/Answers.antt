use Rattle.std.proofs.Common.{◌≡◌, ℕ, ◌+◌, ◌-◌, ◌<◌, ◌≤◌, List, [], ◌∷◌, ◌++◌, length, take, drop, set, insert, refl, sym, ap, ◌∙◌, arith, append_assoc, length-append, length-take, take_at, drop_at, drop-set-lt}
use Rattle.std.proofs.lemmas.List.{drop-append-le, drop-drop, take-set-le, take-take, take_more_set}
use Rattle.std.proofs.lemmas.Slice.{between_is}
use Rattle.tinyvec_array.proofs.tuned.shifting.insert_within.Goals as goal

-- x was written at n, and then the items from i up to it were turned by one place
turned : {X : Type 0} (xs part : List X) (i n : ℕ) (x : X) → i ≤ n → n < length xs → part ≡ take (n + 1 - i) (drop i (set xs n x))
    → take i (set xs n x) ++ ((drop (length part - 1) part ++ take (length part - 1) part) ++ drop (n + 1 - i) (drop i (set xs n x))) ≡ insert (take n xs) i x ++ drop (n + 1) xs
turned xs part i n x le lt is =
    let moved = drop i (take n xs) in
    let whole : part ≡ moved ++ x ∷ [] = is ∙ between_is (set xs n x) i (n + 1) ∙ ap (drop i) (take_more_set xs n x lt) ∙ drop-append-le i (take n xs) (x ∷ []) (omega (arith, length-take n xs)) in
    let less : length moved ≡ length part - 1 = omega (arith, ap length whole, length-append moved (x ∷ [])) in
    let last : drop (length part - 1) part ≡ x ∷ [] = ap (drop (length part - 1)) whole ∙ drop_at moved (x ∷ []) (length part - 1) less in
    let others : take (length part - 1) part ≡ moved = ap (take (length part - 1)) whole ∙ take_at moved (x ∷ []) (length part - 1) less in
    let all : i + (n + 1 - i) ≡ n + 1 = omega arith in
    rw (last, others, drop-drop (n + 1 - i) i (set xs n x), all, drop-set-lt (n + 1) xs n x (omega arith), take-set-le i xs n x le, ← take-take i n xs le)
    (sym (append_assoc (take i (take n xs)) (x ∷ moved) (drop (n + 1) xs)))

pub returns : goal.returns
returns g c =
    rw c.rotate_right.ensures.after (turned c.args.slots.now _ c.args.index c.args.len c.args.x c.requires.in_list c.requires.room refl)
