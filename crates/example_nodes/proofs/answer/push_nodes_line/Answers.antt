use Rattle.std.proofs.Common.{rules, ◌∙◌, ◌++◌, ap, sym, string_bytes}
use Rattle.tinyvec.specs.TinyVec.{tiny_items}
use Rattle.example_nodes.specs.Nodes.{views}
use Rattle.example_nodes.specs.Tree.{all_nodes, words_of}
use Rattle.example_nodes.specs.Words.{words_text}
use Rattle.example_nodes.specs.Answer.{said_of, nodes_said}
use Rattle.example_nodes.proofs.Counted.{beginnings_of}
use Rattle.example_nodes.proofs.Answered.{answered, counted}
use Rattle.example_nodes.proofs.answer.push_nodes_line.Goals as goal

pub returns-clause-right : goal.returns-clause-right
returns-clause-right c =
    let start = string_bytes c.args.text.now in
    let first = string_bytes c.write.new.self in
    let trees = views (tiny_items c.in_ok-trees.trees) in
    let body = words_text (words_of trees) in
    let count = c.count-count.ensures ∙ ap (λ ns. all_nodes (views ns)) c.as_slice.ensures ∙ sym (beginnings_of trees) in
    let text = answered start c.count-count.result body first (string_bytes c.push_trees.new.text) (string_bytes c.push.new.self) (search rules)
    (c.in_ok-push_trees.ensures ∙ ap (λ ns. first ++ words_text (words_of (views ns))) c.as_slice-2.ensures) (search rules) in
    (_, ap (said_of nodes_said) c.in_ok-trees.ensures.right, text ∙ ap (λ n. start ++ counted n body) count)
