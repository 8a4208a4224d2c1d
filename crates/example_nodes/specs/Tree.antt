-- A tree of numbers, and what is said of one.
use Rattle.std.specs.Prelude.{ℕ, ◌+◌, ◌==◌, ◌&&◌, List, [], ◌∷◌, ◌++◌, Bool, true, false}
use Rattle.example_nodes.specs.Words.{Word, opening, closing, number}

mutual
  pub data Tree : Type 0 where
    leaf : ℕ → Tree
    list : Trees → Tree

  pub data Trees : Type 0 where
    none : Trees
    more : Tree → Trees → Trees

abbrev pub trees_of : List Tree → Trees
trees_of [] = none
trees_of (t ∷ ts) = more t (trees_of ts)

-- a list is in brackets
abbrev mutual
  pub tree_words : Tree → List Word
  tree_words (leaf n) = number n ∷ []
  tree_words (list ts) = opening ∷ (words_of ts ++ closing ∷ [])

  pub words_of : Trees → List Word
  words_of none = []
  words_of (more t ts) = tree_words t ++ words_of ts

-- how many nodes a tree has: itself, and those in its list
abbrev mutual
  pub nodes : Tree → ℕ
  nodes (leaf n) = 1
  nodes (list ts) = 1 + all_nodes ts

  pub all_nodes : Trees → ℕ
  all_nodes none = 0
  all_nodes (more t ts) = nodes t + all_nodes ts

-- whether two trees are the same
abbrev mutual
  pub same : Tree → Tree → Bool
  same (leaf m) (leaf n) = m == n
  same (leaf m) (list us) = false
  same (list ts) (leaf n) = false
  same (list ts) (list us) = all_same ts us

  pub all_same : Trees → Trees → Bool
  all_same none none = true
  all_same none (more u us) = false
  all_same (more t ts) none = false
  all_same (more t ts) (more u us) = same t u && all_same ts us
