-- The equations of `view`.
use Rattle.std.proofs.Common.{Box, ◌≡◌, ◌∙◌, ℕ, ◌+◌, List, sym, ap, refl}
use Rattle.std.proofs.lemmas.List.{take-map}
use Rattle.std.specs.Global.{Global}
use Rattle.tinyvec.specs.TinyVec.{tiny_items}
use Rattle.tinyvec.specs.declared.tiny_vec.TinyVec.{TinyVec}
use Rattle.tinyvec.specs.declared.tiny_vec.TinyVec.TheVariants.{Inline, Heap}
use Rattle.tinyvec_array.specs.declared.bound.UpTo.{UpTo}
use Rattle.example_nodes.specs.Tree.{Tree, leaf, list, trees_of, nodes, all_nodes}
use Rattle.example_nodes.specs.Nodes.{view, views, view_step}
use Rattle.example_nodes.specs.declared.node.Node.{Node}
use Rattle.example_nodes.specs.declared.node.Node.TheVariants.{Number, List as Listed, rolls-Number, rolls-List}
use Rattle.example_nodes.specs.declared.node.Node.TheOpen.{Node-F}
use Rattle.example_nodes.specs.declared.node.Node.TheFolds.{map-Node}
use Rattle.example_nodes.specs.declared.node.Node.{fold-roll-Node}

pub view_number : (n : ℕ) → view (Number n) ≡ leaf n
view_number n = ap view (sym (rolls-Number n)) ∙ fold-roll-Node Tree view_step (Node-F.Number n)

abbrev Held : Type 0
Held = Box (TinyVec (List Node) Node (UpTo 2)) Global

mapped : (b : Held) (v : TinyVec (List Node) Node (UpTo 2))
    → view_step (map-Node Node Tree view (Node-F.List record { ptr = b.ptr; alloc = b.alloc; value = v })) ≡ list (views (tiny_items v))
mapped b (Inline v alloc) = ap (λ ts. list (trees_of ts)) (take-map view v.len.len v.slots)
mapped b (Heap v) = refl

pub view_list : (b : Held) → view (Listed b) ≡ list (views (tiny_items b.value))
view_list b = ap view (sym (rolls-List b)) ∙ fold-roll-Node Tree view_step (Node-F.List b) ∙ mapped b b.value

-- a list has one node more than its items have
module _ (n : Node) (b : Held) (items : List Node) (is : n ≡ Listed b) (all : items ≡ tiny_items b.value) where
  pub view_items : view n ≡ list (views items)
  view_items = ap view is ∙ view_list b ∙ ap (λ ns. list (views ns)) (sym all)

  pub nodes_items : nodes (view n) ≡ 1 + all_nodes (views items)
  nodes_items = ap nodes view_items
