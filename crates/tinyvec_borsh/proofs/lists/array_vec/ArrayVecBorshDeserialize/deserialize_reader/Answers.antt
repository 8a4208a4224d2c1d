use Rattle.std.proofs.Common.{◌≡◌, ◌∙◌, ◌≤◌, ap, take, inl, arith, rules, min, ◌+◌, ◌-◌, ◌∷◌, ◌++◌, [], map, length, length-append, subst}
use Rattle.std.proofs.lemmas.List.{length-map}
use Rattle.std.proofs.lemmas.Result.{err_from_is_err_and}
use Rattle.tinyvec_slots.specs.Slots.{items_in}
use Rattle.tinyvec_array.specs.View.{view}
use Rattle.tinyvec_borsh.specs.FrontsLaws.{counted-fronts}
use Rattle.tinyvec_borsh.specs.Items.{IsCount, SpellsItems}
use Rattle.tinyvec_borsh.specs.TwoParts.{HasParts}
use Rattle.tinyvec_borsh.specs.declared.borsh_error.BorshError.TheVariants.{Ended}
use Rattle.tinyvec_borsh.proofs.ItemByItem.{fails-block, fails-count, fails-item, maybe-so, none-failed, read-all, read-block, read-first, read-more, rest-block, rest-item, rest-many, too-many}
use Rattle.tinyvec_borsh.proofs.AtFaults.{length_is_other, some-all}
use Rattle.tinyvec_borsh.proofs.lists.array_vec.ArrayVecBorshDeserialize.deserialize_reader.Goals as goal

pub returns-in_err-count-clause-fails : goal.returns-in_err-count-clause-fails
returns-in_err-count-clause-fails g c =
    let p = err_from_is_err_and c.from_residual.result c.from_residual.ensures.1 in
    rw (p.1, p.2) (fails-count g.A.Item.BorshForm.Spells g.A.Item.BorshForm.Fits g.A.Item.BorshDeserialize.Reason (λ _. ⊥) g.A.Array.CAPACITY c.in_err-count.ensures.fails)

pub returns-in_err-read_items-clause-fails : goal.returns-in_err-read_items-clause-fails
returns-in_err-read_items-clause-fails g c =
    let p = err_from_is_err_and c.from_residual-in_err-read_items.result c.from_residual-in_err-read_items.ensures.1 in
    let below : c.min-len.result ≤ c.in_ok-count.count = search rules in
    let fits : c.min-len.result ≤ g.A.Array.CAPACITY = search rules in
    rw (p.1, p.2) (fails-block g.A.Item.BorshForm.Spells g.A.Item.BorshForm.Fits g.A.Item.BorshDeserialize.Reason (λ _. ⊥) g.A.Array.CAPACITY g.met.A.Item.BorshDeserialize.apart.front_is_cut
    c.in_ok-count.count [] (read-first g.A.Item.BorshForm.Spells g.A.Item.BorshForm.Fits _ _ _ c.in_ok-count.ensures.ok) (c.min-len.result - 0)
    (omega (arith, below)) (omega (arith, fits)) c.in_ok-count.ensures.fails.grows c.in_ok-count.ensures.fails.failed.exact c.in_err-read_items.ensures.fails)

pub returns-in_err-deserialize_reader-clause-fails : goal.returns-in_err-deserialize_reader-clause-fails
returns-in_err-deserialize_reader-clause-fails g c =
    let p = err_from_is_err_and c.from_residual-in_err-deserialize_reader.result c.from_residual-in_err-deserialize_reader.ensures.1 in
    let t = c.in_ok-read_items.ensures.ok in
    let long = length-map t.0 g.A.Item.BorshForm.content_of in
    let full : length t.0 ≡ min c.in_ok-count.count g.A.Array.CAPACITY = search rules in
    let above : min c.in_ok-count.count g.A.Array.CAPACITY + 1 ≤ c.in_ok-count.count = search rules in
    rw (p.1, p.2) (fails-item g.A.Item.BorshForm.Spells g.A.Item.BorshForm.Fits g.A.Item.BorshDeserialize.Reason (λ _. ⊥) g.A.Array.CAPACITY g.met.A.Item.BorshDeserialize.apart.front_is_cut
    _ _ (read-block g.A.Item.BorshForm.Spells g.A.Item.BorshForm.Fits _ [] _ _ _ _ (read-first g.A.Item.BorshForm.Spells g.A.Item.BorshForm.Fits _ _ _ c.in_ok-count.ensures.ok) t.4 t.3)
    (omega (arith, long, full, above)) (omega (arith, long, full, above)) (search rules)
    (c.in_ok-read_items.ensures.fails.failed.exact ∙ c.in_ok-count.ensures.fails.failed.exact) c.in_err-deserialize_reader.ensures.fails)

pub returns-then-len-count-clause-fails : goal.returns-then-len-count-clause-fails
returns-then-len-count-clause-fails g c =
    let count = c.in_ok-count.ensures.ok in
    let t = c.in_ok-read_items.ensures.ok in
    let last = c.in_ok-deserialize_reader.ensures in
    let long = length-map t.0 g.A.Item.BorshForm.content_of in
    let full : length t.0 ≡ min c.in_ok-count.count g.A.Array.CAPACITY = search rules in
    let above : min c.in_ok-count.count g.A.Array.CAPACITY + 1 ≤ c.in_ok-count.count = search rules in
    let one_more = length-append (map g.A.Item.BorshForm.content_of t.0) (g.A.Item.BorshForm.content_of c.in_ok-deserialize_reader.field-0 ∷ []) in
    let cs = map g.A.Item.BorshForm.content_of t.0 ++ g.A.Item.BorshForm.content_of c.in_ok-deserialize_reader.field-0 ∷ [] in
    let was = read-more g.A.Item.BorshForm.Spells g.A.Item.BorshForm.Fits c.in_ok-count.count _ _ _ _ _ (read-block g.A.Item.BorshForm.Spells g.A.Item.BorshForm.Fits _ [] _ _ _ _ (read-first g.A.Item.BorshForm.Spells g.A.Item.BorshForm.Fits _ _ _ count) t.4 t.3)
    last.ok last.valid in
    record {
      err = maybe-so _ _ _ (λ input many. inl many) (too-many g.A.Item.BorshForm.Spells g.A.Item.BorshForm.Fits g.A.Array.CAPACITY _ _ _ _
          was (omega (arith, one_more, long, full, above)) (omega (arith, above)));
      taken = some-all _ _ was.taken.0 was.taken.2 (λ front back some is. counted-fronts g.A.Item.BorshForm.Spells g.A.Item.BorshForm.Fits (g.A.Item.BorshDeserialize.Reason Ended) g.met.A.Item.BorshDeserialize.apart.front_is_cut
          g.A.Array.CAPACITY c.in_ok-count.count cs (omega (arith, one_more, long, full, above)) (omega (arith, one_more, long, full)) was.fit front back some
          (subst (HasParts (IsCount c.in_ok-count.count) (SpellsItems g.A.Item.BorshForm.Spells cs)) is was.taken.1)) _ length_is_other;
      grows = omega arith;
      failed = none-failed (last.fails.failed.exact ∙ c.in_ok-read_items.ensures.fails.failed.exact ∙ c.in_ok-count.ensures.fails.failed.exact);
    }

pub returns-in_err-read_items-clause-rest : goal.returns-in_err-read_items-clause-rest
returns-in_err-read_items-clause-rest g c =
    let p = err_from_is_err_and c.from_residual-in_err-read_items.result c.from_residual-in_err-read_items.ensures.1 in
    let below : c.min-len.result ≤ c.in_ok-count.count = search rules in
    let fits : c.min-len.result ≤ g.A.Array.CAPACITY = search rules in
    rw (p.1, p.2) (rest-block g.A.Item.BorshForm.Spells g.A.Item.BorshForm.Fits g.A.Array.CAPACITY c.in_ok-count.count [] _ g.A.Item.BorshDeserialize.Reason _ _ _ _
    (read-first g.A.Item.BorshForm.Spells g.A.Item.BorshForm.Fits _ _ _ c.in_ok-count.ensures.ok) _ (c.min-len.result - 0) (omega (arith, below)) (omega (arith, fits))
    c.in_err-read_items.ensures.fails.err)

pub returns-in_err-deserialize_reader-clause-rest : goal.returns-in_err-deserialize_reader-clause-rest
returns-in_err-deserialize_reader-clause-rest g c =
    let p = err_from_is_err_and c.from_residual-in_err-deserialize_reader.result c.from_residual-in_err-deserialize_reader.ensures.1 in
    let t = c.in_ok-read_items.ensures.ok in
    let long = length-map t.0 g.A.Item.BorshForm.content_of in
    let full : length t.0 ≡ min c.in_ok-count.count g.A.Array.CAPACITY = search rules in
    let above : min c.in_ok-count.count g.A.Array.CAPACITY + 1 ≤ c.in_ok-count.count = search rules in
    rw (p.1, p.2) (rest-item g.A.Item.BorshForm.Spells g.A.Item.BorshForm.Fits g.A.Array.CAPACITY c.in_ok-count.count _ _ g.A.Item.BorshDeserialize.Reason _ _ _ _
    (read-block g.A.Item.BorshForm.Spells g.A.Item.BorshForm.Fits _ [] _ _ _ _ (read-first g.A.Item.BorshForm.Spells g.A.Item.BorshForm.Fits _ _ _ c.in_ok-count.ensures.ok) t.4 t.3)
    _ (omega (arith, long, full, above)) (omega (arith, long, full, above)) c.in_err-deserialize_reader.ensures.fails.err)

pub returns-then-len-count-clause-rest : goal.returns-then-len-count-clause-rest
returns-then-len-count-clause-rest g c =
    let t = c.in_ok-read_items.ensures.ok in
    let long = length-map t.0 g.A.Item.BorshForm.content_of in
    let full : length t.0 ≡ min c.in_ok-count.count g.A.Array.CAPACITY = search rules in
    let above : min c.in_ok-count.count g.A.Array.CAPACITY + 1 ≤ c.in_ok-count.count = search rules in
    let one_more = length-append (map g.A.Item.BorshForm.content_of t.0) (g.A.Item.BorshForm.content_of c.in_ok-deserialize_reader.field-0 ∷ []) in
    rest-many g.A.Item.BorshForm.Spells g.A.Item.BorshForm.Fits g.A.Array.CAPACITY _ _ _ _ _
    (read-more g.A.Item.BorshForm.Spells g.A.Item.BorshForm.Fits _ _ _ _ _ _ (read-block g.A.Item.BorshForm.Spells g.A.Item.BorshForm.Fits _ [] _ _ _ _ (read-first g.A.Item.BorshForm.Spells g.A.Item.BorshForm.Fits _ _ _ c.in_ok-count.ensures.ok) t.4 t.3)
    c.in_ok-deserialize_reader.ensures.ok c.in_ok-deserialize_reader.ensures.valid)
    (omega (arith, one_more, long, full, above)) (omega (arith, above))

pub returns-clause-ok : goal.returns-clause-ok
returns-clause-ok g c =
    let t = c.in_ok-read_items.ensures.ok in
    let same : (view g.A.Slots c.from_array_len.result).items ≡ t.0 = ap items_in c.from_array_len.ensures.value ∙ ap (take c.min-len.result) (g.A.Slots.slots_written _ _) ∙ t.1 in
    let long = length-map t.0 g.A.Item.BorshForm.content_of in
    let full : length t.0 ≡ c.min-len.result = search rules in
    let all : c.in_ok-count.count ≡ c.min-len.result = search rules in
    rw same (read-all g.A.Item.BorshForm.Spells g.A.Item.BorshForm.Fits c.in_ok-count.count _ _ _ (omega (arith, long, full, all))
    (read-block g.A.Item.BorshForm.Spells g.A.Item.BorshForm.Fits _ [] _ _ _ _ (read-first g.A.Item.BorshForm.Spells g.A.Item.BorshForm.Fits _ _ _ c.in_ok-count.ensures.ok) t.4 t.3))

pub returns-clause-valid : goal.returns-clause-valid
returns-clause-valid g c =
    let t = c.in_ok-read_items.ensures.ok in
    let same : (view g.A.Slots c.from_array_len.result).items ≡ t.0 = ap items_in c.from_array_len.ensures.value ∙ ap (take c.min-len.result) (g.A.Slots.slots_written _ _) ∙ t.1 in
    let long = length-map t.0 g.A.Item.BorshForm.content_of in
    let full : length t.0 ≡ min c.in_ok-count.count g.A.Array.CAPACITY = search rules in
    rw same (record { few = omega (arith, long, full); counted = omega (arith, long, full, c.in_ok-count.ensures.valid); items = t.3 })
