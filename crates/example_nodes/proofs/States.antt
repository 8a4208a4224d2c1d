-- What a step of the parser does to its state.
use Rattle.std.proofs.Common.{◌≡◌, ◌∙◌, ℕ, zero, suc, ◌+◌, ◌-◌, ◌<◌, ◌==◌, List, [], ◌∷◌, ◌++◌, map, length, vec_len, if◌then◌else◌, None, Some, refl, sym, ap, arith, append_assoc}
use Rattle.std.proofs.lemmas.List.{append-nil}
use Rattle.std.proofs.Math.Dec.{eqb-suc-zero}
use Rattle.tinyvec.specs.TinyVec.{tiny_items}
use Rattle.tinyvec.specs.declared.tiny_vec.TinyVec.{TinyVec}
use Rattle.tinyvec_array.specs.declared.bound.UpTo.{UpTo}
use Rattle.example_nodes.specs.Words.{Word, opening, closing, number}
use Rattle.example_nodes.specs.Tree.{Tree, tree_words, words_of}
use Rattle.example_nodes.specs.Nodes.{view, views}
use Rattle.example_nodes.specs.Machine.{followed_by}
use Rattle.example_nodes.specs.Outcome.{State, ended, opened, closed}
use Rattle.example_nodes.specs.Parsers.{nodes_words, state_of}
use Rattle.example_nodes.specs.declared.node.Node.{Node}
use Rattle.example_nodes.specs.declared.node.Node.TheVariants.{Number}
use Rattle.example_nodes.specs.declared.parse.Parser.{Parser}
use Rattle.example_nodes.specs.declared.parse_error.Fault.TheVariants.{NotOpen}
use Rattle.example_nodes.proofs.Views.{view_number}
use Rattle.example_nodes.proofs.Rejoined.{outer_push, rejoined, none_open}

abbrev pub Nodes : Type 0
Nodes = TinyVec (List Node) Node (UpTo 2)

abbrev outer_words : List Nodes → List Word
outer_words vs = followed_by opening (map nodes_words vs)

pub words_both : (ms ns : List Node) → words_of (views (ms ++ ns)) ≡ words_of (views ms) ++ words_of (views ns)
words_both [] ns = refl
words_both (m ∷ ms) ns = ap (λ ws. tree_words (view m) ++ ws) (words_both ms ns) ∙ sym (append_assoc (tree_words (view m)) (words_of (views ms)) (words_of (views ns)))

pub words_push : (ns : List Node) (n : Node) → words_of (views (ns ++ n ∷ [])) ≡ words_of (views ns) ++ tree_words (view n)
words_push ns n = words_both ns (n ∷ []) ∙ ap (λ ws. words_of (views ns) ++ ws) (append-nil (tree_words (view n)))

-- one node more
pub nodes_push : (old new : Nodes) (n : Node) (t : Tree) → tiny_items new ≡ tiny_items old ++ n ∷ [] → view n ≡ t → nodes_words new ≡ nodes_words old ++ tree_words t
nodes_push old new n t items is = ap (λ ns. words_of (views ns)) items ∙ words_push (tiny_items old) n ∙ ap (λ u. nodes_words old ++ tree_words u) is

-- a number ends
pub number_ends : (p q : Parser) (n : ℕ) → q.outer ≡ p.outer → tiny_items q.nodes ≡ tiny_items p.nodes ++ Number n ∷ [] → state_of q None ≡ ended (state_of p (Some n))
number_ends p q n outer items =
    let words = outer_words p.outer.items in
    let all = ap (λ o. outer_words o.items ++ nodes_words q.nodes) outer
    ∙ ap (λ ws. words ++ ws) (nodes_push p.nodes q.nodes (Number n) _ items (view_number n))
    ∙ sym (append_assoc words (nodes_words p.nodes) (number n ∷ [])) in
    λ i. record { words = all i; depth = vec_len (outer i); last = None }

-- a bracket opens
pub bracket_opens : (p q : Parser) (v : Nodes) → q.outer.items ≡ p.outer.items ++ v ∷ [] → vec_len q.outer ≡ vec_len p.outer + 1 → v ≡ p.nodes → tiny_items q.nodes ≡ []
    → state_of q None ≡ opened (state_of p None)
bracket_opens p q v items len before none =
    let all = ap (λ ns. outer_words q.outer.items ++ words_of (views ns)) none
    ∙ append-nil (outer_words q.outer.items)
    ∙ ap outer_words items
    ∙ outer_push opening nodes_words p.outer.items v
    ∙ ap (λ u. (outer_words p.outer.items ++ nodes_words u) ++ opening ∷ []) before in
    λ i. record { words = all i; depth = len i; last = None }

-- a bracket closes
pub bracket_closes : (p q : Parser) (v : Nodes) → p.outer.items ≡ q.outer.items ++ v ∷ [] → vec_len q.outer ≡ vec_len p.outer - 1
    → nodes_words q.nodes ≡ nodes_words v ++ opening ∷ (nodes_words p.nodes ++ closing ∷ []) → state_of q None ≡ closed (state_of p None)
bracket_closes p q v items len words =
    let outer = outer_words q.outer.items in
    let inner = nodes_words p.nodes in
    let all = ap (λ ws. outer ++ ws) words
    ∙ sym (rejoined opening closing outer (nodes_words v) inner)
    ∙ ap (λ ws. (ws ++ inner) ++ closing ∷ []) (sym (ap outer_words items ∙ outer_push opening nodes_words q.outer.items v)) in
    λ i. record { words = all i; depth = len i; last = None }

-- some bracket is open
pub is_open : (n : ℕ) → 0 < n → (if n == 0 then Some NotOpen else None) ≡ None
is_open zero some = absurd (omega (arith, some))
is_open (suc n) some = ap (λ none. if none then Some NotOpen else None) (eqb-suc-zero n)

-- with no bracket open the words are those of the nodes
pub all_closed : (p : Parser) (s : State) → state_of p None ≡ s → length p.outer.items ≡ 0 → nodes_words p.nodes ≡ s.words
all_closed p s is none = sym (ap (λ ws. ws ++ nodes_words p.nodes) (none_open opening nodes_words p.outer.items none)) ∙ ap (λ t. t.words) is
