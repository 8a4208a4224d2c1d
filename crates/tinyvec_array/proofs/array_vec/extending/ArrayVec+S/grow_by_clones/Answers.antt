use Rattle.std.proofs.Common.{◌≡◌, ◌+◌, ◌-◌, ◌++◌, length, take, take_all, replicate, Result, refl, ap, subst, ◌∙◌, arith, length-append}
use Rattle.std.specs.Prelude.{OnOk, OnErr}
use Rattle.std.specs.List.{AllZip}
use Rattle.std.proofs.lemmas.List.Elements.{same_from_all_zip}
use Rattle.std.proofs.lemmas.Result.{on_ok_weaker, on_err_weaker}
use Rattle.tinyvec_array.specs.View.{view, NothingVacated}
use Rattle.tinyvec_array.specs.ViewLaws.{used_by}
use Rattle.tinyvec_array.proofs.array_vec.extending.ArrayVec+S.grow_by_clones.Goals as goal

ok_so : {X E P Q : Type 0} (r : Result X E) → OnOk r P → (P → Q) → OnOk r Q
ok_so r h f = on_ok_weaker r f h

err_so : {X E P Q : Type 0} (r : Result X E) → OnErr r P → (P → Q) → OnErr r Q
err_so r h f = on_err_weaker r f h

pub returns-clause-grown : goal.returns-clause-grown
returns-clause-grown g c =
    let C = g.S.Item.Clone.is_clone in
    let x = c.args.x.now in
    let n = c.args.n in
    let list = (view g.S.Slots c.args.self.now).items in
    let r = c.put_clones_of.result in
    let put = c.put_clones_of.ensures in
    let all : take n list ≡ list = take_all n list c.requires.longer in
    record {
      items = ok_so r put.ok (λ h. let more : length h.0 ≡ n - length list = omega (arith, h.2) in (h.0, rw all h.3.items, subst (λ k. AllZip C (replicate k x) h.0) more h.1));
      len = ok_so r put.ok (λ h. ap length h.3.items ∙ length-append list h.0 ∙ h.2);
      if_clones_equal = ok_so r put.ok (λ h rule.
          let more : length h.0 ≡ n - length list = omega (arith, h.2) in
          rw all (h.3.items ∙ ap (λ l. list ++ l) (same_from_all_zip C (replicate (length h.0) x) h.0 h.1 rule ∙ ap (λ k. replicate k x) more)));
      spare = ok_so r put.ok (λ h le.
          let more : length h.0 ≡ n - length list = omega (arith, h.2) in
          used_by NothingVacated _ _ _ _ (n - length list) (ap length h.3.items ∙ length-append list h.0 ∙ ap (λ k. length list + k) more) h.3.slot_rule);
      kept = err_so r put.refused (λ h. h.4.items);
      refused = err_so r put.refused (λ h. (length h.0, omega (arith, h.2), h.3, record { made = h.0; clones = h.1; count = refl; written = h.4.spare }));
      succeeds = put.succeeds;
    }
