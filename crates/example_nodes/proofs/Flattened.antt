-- Lists that give way to their nodes.
use Rattle.std.proofs.Common.{◌≡◌, ◌∙◌, ℕ, suc, ◌+◌, ◌<◌, ◌≤◌, List, [], ◌∷◌, ◌++◌, take, drop, length, reverse, slice_index_or, slice_set, All, refl, sym, ap, subst, arith, append_assoc, append-nil}
use Rattle.std.proofs.lemmas.List.{drop_all, length-append, reverse-append, take_all, take_more, take-set}
use Rattle.std.proofs.lemmas.List.Elements.{All-cons}
use Rattle.example_nodes.specs.Words.{Word, opening, closing, number, beginnings, leaves}
use Rattle.example_nodes.specs.Tree.{list, tree_words, words_of}
use Rattle.example_nodes.specs.Nodes.{view, views, IsNumber}
use Rattle.example_nodes.specs.declared.node.Node.{Node}
use Rattle.example_nodes.specs.declared.node.Node.TheVariants.{Number}
use Rattle.example_nodes.proofs.Views.{view_number}
use Rattle.example_nodes.proofs.States.{words_both, words_push}

abbrev pub words_in : List Node → List Word
words_in ns = words_of (views ns)

leaves_both : (ws vs : List Word) → leaves (ws ++ vs) ≡ leaves ws ++ leaves vs
leaves_both [] vs = refl
leaves_both (opening ∷ ws) vs = leaves_both ws vs
leaves_both (closing ∷ ws) vs = leaves_both ws vs
leaves_both (number n ∷ ws) vs = ap (λ us. number n ∷ us) (leaves_both ws vs)

pub few_leaves : (ws : List Word) → beginnings (leaves ws) ≤ beginnings ws
few_leaves [] = omega arith
few_leaves (opening ∷ ws) = omega (arith, few_leaves ws)
few_leaves (closing ∷ ws) = few_leaves ws
few_leaves (number n ∷ ws) = omega (arith, few_leaves ws)

-- a turn takes the nodes that are left from `old` to `new`, and the numbers that were pushed from fs to `now`
abbrev pub Turns : (old fs new now : List Node) → Type 0
Turns old fs new now =
    (leaves (words_in new) ++ words_in (reverse now) ≡ leaves (words_in old) ++ words_in (reverse fs))
    × (All IsNumber (reverse fs) → All IsNumber (reverse now)) × (length (words_in new) < length (words_in old))

-- x, the last of some nodes, is taken, and y left in its place
module _ (xs ys fs new : List Node) (last : ℕ) (x y : Node) (len : suc last ≡ length xs) (shown : x ≡ slice_index_or xs last x) (is : ys ≡ slice_set xs last y) where
  abbrev front : List Node
  front = take last xs

  same : take last ys ≡ front
  same = ap (take last) is ∙ take-set xs last y

  words_are : words_in xs ≡ words_in front ++ tree_words (view x)
  words_are =
      let whole = take_all (last + 1) xs (omega (arith, len)) in
      ap words_in (sym whole ∙ take_more xs last x (omega (arith, len)) ∙ ap (λ n. front ++ n ∷ []) (sym shown)) ∙ words_push front x

  -- a list: its nodes are put there
  pub way_given : (items it : List Node) → view x ≡ list (views items) → it ≡ items → new ≡ take last ys ++ it ++ drop (length ys) ys → Turns xs fs new fs
  way_given items it holds all put =
      let ws = words_in front in
      let inner = words_in items in
      let old = words_are ∙ ap (λ t. ws ++ tree_words t) holds in
      let now = ap words_in (put ∙ (λ i. same i ++ all i ++ drop_all (length ys) ys (omega arith) i) ∙ append-nil (front ++ items)) ∙ words_both front items in
      let left = ap leaves now ∙ leaves_both ws inner in
      let was = ap leaves old ∙ leaves_both ws (opening ∷ (inner ++ closing ∷ [])) ∙ ap (λ vs. leaves ws ++ vs) (leaves_both inner (closing ∷ []) ∙ append-nil (leaves inner)) in (
        ap (λ vs. vs ++ words_in (reverse fs)) (left ∙ sym was),
        λ numbers. numbers,
        omega (arith, ap length old, ap length now, length-append ws inner, length-append ws (opening ∷ (inner ++ closing ∷ [])), length-append inner (closing ∷ [])),
      )

  -- a number: it is pushed
  pub number_pushed : (k : ℕ) (now : List Node) → x ≡ Number k → new ≡ take last ys → now ≡ fs ++ Number k ∷ [] → Turns xs fs new now
  number_pushed k now holds cut pushed =
      let ws = words_in front in
      let behind = words_in (reverse fs) in
      let first = ap reverse pushed ∙ reverse-append fs (Number k ∷ []) in
      let old = words_are ∙ ap (λ n. ws ++ tree_words (view n)) holds ∙ ap (λ t. ws ++ tree_words t) (view_number k) in
      let left = ap words_in (cut ∙ same) in
      let was = ap leaves old ∙ leaves_both ws (number k ∷ []) in (
        (λ i. leaves (left i) ++ words_in (first i)) ∙ ap (λ t. leaves ws ++ (tree_words t ++ behind)) (view_number k)
            ∙ sym (ap (λ vs. vs ++ behind) was ∙ append_assoc (leaves ws) (number k ∷ []) behind),
        λ numbers. subst (All IsNumber) (sym first) (All-cons IsNumber (Number k) (reverse fs) (k, view_number k) numbers),
        omega (arith, ap length old, ap length left, length-append ws (number k ∷ [])),
      )
