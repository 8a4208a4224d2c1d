use Rattle.std.proofs.Common.{◌≡◌, ◌∙◌, ◌-◌, ◌≤◌, ◌++◌, ◌∷◌, [], false, true, ap, arith, length, le_refl, refl, rules, subst, sym}
use Rattle.std.proofs.Math.Nat.{lt_of_not-le}
use Rattle.std.proofs.lemmas.List.{nil_from_length}
use Rattle.tinyvec_slots.proofs.CloneLemmas.{on_err}
use Rattle.tinyvec.specs.TinyVec.{tiny_items, tiny_len, tiny_capacity}
use Rattle.example_tidy.specs.Tidy.{Advances, Refuses, normal_line}
use Rattle.example_tidy.proofs.Feeding.{advances_end, advances_none}
use Rattle.example_tidy.proofs.Refusals.{refuses_feed, refuses_piece, refuses_then}
use Rattle.example_tidy.proofs.text.feed_end.Goals as goal

pub returns-then-is_empty-clause-ok : goal.returns-then-is_empty-clause-ok
returns-then-is_empty-clause-ok c =
    let end = c.args.end.now in
    let none : length (tiny_items c.args.line.now) ≡ 0 = search rules in
    let said = normal_line end ++ 10 ∷ [] in
    (said, c.in_ok-end_line.ensures.ok, subst (λ line. Advances line (end ++ 10 ∷ []) said line) (sym (nil_from_length _ none)) (advances_end [] end said [] c.requires refl refl))

pub returns-in_err-end_line-clause-refused : goal.returns-in_err-end_line-clause-refused
returns-in_err-end_line-clause-refused c =
    let end = c.args.end.now in
    let output = c.args.output.now in
    let room = tiny_capacity output - tiny_len output in
    let none : length (tiny_items c.args.line.now) ≡ 0 = search rules in
    let refused = c.in_err-end_line.ensures in
    on_err c.from_residual.result (
      end,
      refused.refused,
      subst (λ line. Refuses line (end ++ 10 ∷ []) [] end (tiny_capacity c.args.line.now) room) (sym (nil_from_length _ none)) (refuses_feed [] end _ room c.requires
          (λ short fits. let never : false ≡ true = refused.succeeds short (omega (arith, fits)) in absurd cc)),
    )

-- the end of the line has no room behind its beginning
pub returns-in_err-extend_from_slice_copy-clause-refused : goal.returns-in_err-extend_from_slice_copy-clause-refused
returns-in_err-extend_from_slice_copy-clause-refused c =
    let line = tiny_items c.args.line.now in
    let end = c.args.end.now in
    let output = c.args.output.now in
    let place = tiny_capacity c.args.line.now in
    let room = tiny_capacity output - tiny_len output in
    let held : length line ≤ place = omega (arith, c.len-len.ensures.value, c.len-len.ensures.fits) in
    let full = lt_of_not-le (λ fits. let never : false ≡ true = c.in_err-extend_from_slice_copy.ensures.succeeds fits in absurd cc) in
    on_err c.from_residual-in_err-extend_from_slice_copy.result (
      _,
      refl,
      refuses_then line [] line (end ++ 10 ∷ []) end (10 ∷ []) [] [] _ place place room room refl (advances_none line)
          (refuses_piece line end place place room c.requires held full (le_refl _)) (le_refl _) (omega arith),
    )

pub returns-in_err-end_line-2-clause-refused : goal.returns-in_err-end_line-2-clause-refused
returns-in_err-end_line-2-clause-refused c =
    let line = tiny_items c.args.line.now in
    let end = c.args.end.now in
    let text : c.as_slice.result.now ≡ line ++ end = c.as_slice.ensures ∙ c.in_ok-extend_from_slice_copy.ensures.ok.items in
    let refused = rw text at c.in_err-end_line-2.ensures in
    on_err c.from_residual-in_err-end_line-2.result (
      line ++ end,
      refused.refused,
      refuses_feed line end _ _ c.requires (λ short fits. let never : false ≡ true = refused.succeeds short (omega (arith, fits)) in absurd cc),
    )

pub returns-clause-ok : goal.returns-clause-ok
returns-clause-ok c =
    let text = c.as_slice.ensures ∙ c.in_ok-extend_from_slice_copy.ensures.ok.items in
    let said = normal_line c.as_slice.result.now ++ 10 ∷ [] in
    (said, c.in_ok-end_line-2.ensures.ok, advances_end _ _ said _ c.requires (ap (λ line. normal_line line ++ 10 ∷ []) text) c.clear.ensures.items)
