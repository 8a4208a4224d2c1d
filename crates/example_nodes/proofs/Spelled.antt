-- The text of trees, one after another.
use Rattle.std.proofs.Common.{◌≡◌, ◌∙◌, ℕ, List, [], ◌∷◌, ◌++◌, Bool, true, false, sym, ap, refl, append_assoc}
use Rattle.std.specs.Fmt.{decimal}
use Rattle.example_nodes.specs.Words.{Word, closing, blank_if, words_text_after}
use Rattle.example_nodes.specs.Tree.{Tree, leaf, list, Trees, none, more, tree_words, words_of}

mutual
  -- words after a tree
  pub after_tree : (blank : Bool) (t : Tree) (ws : List Word) → words_text_after blank (tree_words t ++ ws) ≡ words_text_after blank (tree_words t) ++ words_text_after true ws
  after_tree blank (leaf n) ws =
      let rest = words_text_after true ws in
      sym (append_assoc (blank_if blank) (decimal n ++ []) rest ∙ ap (λ text. blank_if blank ++ text) (append_assoc (decimal n) [] rest))
  after_tree blank (list ts) ws =
      let inner = words_text_after false (words_of ts) in
      let rest = words_text_after true ws in
      ap (λ vs. blank_if blank ++ 40 ∷ words_text_after false vs) (append_assoc (words_of ts) (closing ∷ []) ws)
      ∙ ap (λ text. blank_if blank ++ 40 ∷ text) (closed_after false ts ws)
      ∙ sym (append_assoc (blank_if blank) (40 ∷ (inner ++ 41 ∷ [])) rest ∙ ap (λ text. blank_if blank ++ 40 ∷ text) (append_assoc inner (41 ∷ []) rest))
      ∙ ap (λ text. (blank_if blank ++ 40 ∷ text) ++ rest) (sym (closed_after false ts []))

  -- a closing bracket after trees
  pub closed_after : (blank : Bool) (ts : Trees) (ws : List Word) → words_text_after blank (words_of ts ++ closing ∷ ws) ≡ words_text_after blank (words_of ts) ++ 41 ∷ words_text_after true ws
  closed_after blank none ws = refl
  closed_after blank (more t ts) ws =
      ap (words_text_after blank) (append_assoc (tree_words t) (words_of ts) (closing ∷ ws))
      ∙ after_tree blank t (words_of ts ++ closing ∷ ws)
      ∙ ap (λ text. words_text_after blank (tree_words t) ++ text) (closed_after true ts ws)
      ∙ sym (append_assoc (words_text_after blank (tree_words t)) (words_text_after true (words_of ts)) (41 ∷ words_text_after true ws))
      ∙ ap (λ text. text ++ 41 ∷ words_text_after true ws) (sym (after_tree blank t (words_of ts)))

-- a blank before a tree
pub blank_before : (blank : Bool) (t : Tree) → words_text_after blank (tree_words t) ≡ blank_if blank ++ words_text_after false (tree_words t)
blank_before blank (leaf n) = refl
blank_before blank (list ts) = refl

-- a list is in brackets
pub bracketed : (ts : Trees) → words_text_after false (tree_words (list ts)) ≡ 40 ∷ (words_text_after false (words_of ts) ++ 41 ∷ [])
bracketed ts = ap (λ text. 40 ∷ text) (closed_after false ts [])

-- a tree, and those after it
pub one_more : (blank : Bool) (t : Tree) (ts : Trees)
    → words_text_after blank (words_of (more t ts)) ≡ (blank_if blank ++ words_text_after false (tree_words t)) ++ words_text_after true (words_of ts)
one_more blank t ts = after_tree blank t (words_of ts) ∙ ap (λ text. text ++ words_text_after true (words_of ts)) (blank_before blank t)

-- one tree more was written
pub written : (start old mid new : List ℕ) (blank next : Bool) (t : Tree) (ts all : Trees) → mid ≡ old ++ blank_if blank → new ≡ mid ++ words_text_after false (tree_words t)
    → all ≡ more t ts → next ≡ true → old ++ words_text_after blank (words_of all) ≡ start → new ++ words_text_after next (words_of ts) ≡ start
written start old mid new blank next t ts all blanked treed here follows is =
    let tree = words_text_after false (tree_words t) in
    let rest = words_text_after true (words_of ts) in
    ap (λ b. new ++ words_text_after b (words_of ts)) follows
    ∙ ap (λ text. text ++ rest) (treed ∙ ap (λ text. text ++ tree) blanked ∙ append_assoc old (blank_if blank) tree)
    ∙ append_assoc old (blank_if blank ++ tree) rest
    ∙ ap (λ text. old ++ text) (sym (ap (λ us. words_text_after blank (words_of us)) here ∙ one_more blank t ts))
    ∙ is

-- a list was written
pub listed : (start opened full : List ℕ) (t : Tree) (ts : Trees) → t ≡ list ts → opened ≡ start ++ 40 ∷ [] → full ≡ opened ++ words_text_after false (words_of ts)
    → full ++ 41 ∷ [] ≡ start ++ words_text_after false (tree_words t)
listed start opened full t ts is begins inside =
    let inner = words_text_after false (words_of ts) in
    ap (λ text. text ++ 41 ∷ []) (inside ∙ ap (λ text. text ++ inner) begins)
    ∙ append_assoc (start ++ 40 ∷ []) inner (41 ∷ [])
    ∙ append_assoc start (40 ∷ []) (inner ++ 41 ∷ [])
    ∙ ap (λ text. start ++ text) (sym (ap (λ u. words_text_after false (tree_words u)) is ∙ bracketed ts))
