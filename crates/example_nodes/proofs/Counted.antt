-- How many nodes some trees have.
use Rattle.std.proofs.Common.{◌≡◌, ◌∙◌, ℕ, zero, suc, false, ◌+◌, ◌<◌, ◌≤◌, List, [], ◌∷◌, ◌++◌, drop, get_or, length, ap, refl, arith, append_assoc}
use Rattle.std.proofs.lemmas.List.{drop_more, append-nil}
use Rattle.std.proofs.lemmas.Bool.{and_right}
use Rattle.example_nodes.specs.Words.{Word, closing, beginnings}
use Rattle.example_nodes.specs.Tree.{Tree, leaf, list, Trees, none, more, trees_of, nodes, all_nodes, same, all_same, tree_words, words_of}
use Rattle.example_nodes.specs.Nodes.{view, views}
use Rattle.example_nodes.specs.declared.node.Node.{Node}

-- the trees from one on
pub from : (ns : List Node) (at : ℕ) (n : Node) → at < length ns → views (drop at ns) ≡ more (view (get_or ns at n)) (views (drop (at + 1) ns))
from ns at n inside = ap views (drop_more ns at n inside)

-- none has more nodes than all
pub one_of : (ns : List Node) (at : ℕ) (n : Node) → at < length ns → nodes (view (get_or ns at n)) ≤ all_nodes (views ns)
one_of [] at n inside = absurd (omega (arith, inside))
one_of (m ∷ ns) zero n inside = omega arith
one_of (m ∷ ns) (suc at) n inside = omega (arith, one_of ns at n (omega (arith, inside)))

mutual
  begun : (t : Tree) (ws : List Word) → beginnings (tree_words t ++ ws) ≡ nodes t + beginnings ws
  begun (leaf n) ws = refl
  begun (list ts) ws = omega (arith, ap beginnings (append_assoc (words_of ts) (closing ∷ []) ws), all_begun ts (closing ∷ ws))

  all_begun : (ts : Trees) (ws : List Word) → beginnings (words_of ts ++ ws) ≡ all_nodes ts + beginnings ws
  all_begun none ws = omega arith
  all_begun (more t ts) ws =
      let one = ap beginnings (append_assoc (tree_words t) (words_of ts) ws) ∙ begun t (words_of ts ++ ws) in
      omega (arith, one, all_begun ts ws)

-- each node begins with one word
pub beginnings_of : (ts : Trees) → beginnings (words_of ts) ≡ all_nodes ts
beginnings_of ts = omega (arith, ap beginnings (append-nil (words_of ts)), all_begun ts [])

-- lists of two lengths are not the same
pub unlike : (ts us : List Tree) → (length ts ≡ length us → ⊥) → all_same (trees_of ts) (trees_of us) ≡ false
unlike [] [] differ = absurd (differ refl)
unlike [] (u ∷ us) differ = refl
unlike (t ∷ ts) [] differ = refl
unlike (t ∷ ts) (u ∷ us) differ = and_right (same t u) (all_same (trees_of ts) (trees_of us)) (unlike ts us (λ e. differ (ap suc e)))
