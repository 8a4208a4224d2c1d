use Rattle.std.proofs.Common.{◌≡◌, ◌^◌, ◌<◌, ℕ, List, Option, ap, arith, length, length-append, refl, rules, subst, sym, []}
use Rattle.std.proofs.KnownBytes.{Consumes-nil}
use Rattle.std.proofs.lemmas.List.{map-id}
use Rattle.std.specs.List.{AllByRecursion}
use Rattle.std.specs.Int.{w8}
use Rattle.std.specs.Io.KnownBytes.{IsAtEnd}
use Rattle.tinyvec_borsh.specs.Items.{AfterItems, SpellsItems}
use Rattle.tinyvec_borsh.specs.Number.{SpellsNumber, TooFewBytes}
use Rattle.tinyvec_borsh.specs.Reading.{TakesSome}
use Rattle.tinyvec_borsh.specs.TwoParts.{joined}
use Rattle.tinyvec_borsh.specs.declared.borsh_error.BorshError.{BorshError}
use Rattle.tinyvec_borsh.specs.declared.borsh_error.BorshError.TheVariants.{Ended}
use Rattle.tinyvec_borsh.proofs.AtFaults.{small-first}
use Rattle.tinyvec_borsh.specs.NumberLaws.{unsigned}
use Rattle.tinyvec_borsh.proofs.ItemByItem.{fails-like}
use Rattle.tinyvec_borsh.proofs.NumberBlocks.{few-bytes, small_bytes, spells-bytes}
use Rattle.tinyvec_borsh.proofs.Outcomes.{err-both, on-both}
use Rattle.tinyvec_borsh.proofs.numbers.widths.U8Number.read_all.Goals as goal

pub returns-clause-ok : goal.returns-clause-ok
returns-clause-ok g c = on-both c.read_bytes.result (λ small taken. (c.read_bytes.new.buf, spells-bytes c.read_bytes.new.buf small, taken)) c.read_bytes.ensures.small c.read_bytes.ensures.ok

pub returns-clause-valid : goal.returns-clause-valid
returns-clause-valid g c = c.read_bytes.ensures.small

pub returns-clause-fails : goal.returns-clause-fails
returns-clause-fails g c =
    let many = length c.args.slots.now in
    fails-like c.read_bytes.result (few-bytes (SpellsNumber 1) (λ n. n < 2 ^ 8) 1 _ (unsigned w8).read many many (omega arith)) c.read_bytes.ensures.fails

none-taken : {new : Option (List ℕ)} {e : BorshError} → (e ≡ Ended → IsAtEnd new) → TakesSome (AfterItems (SpellsNumber 1) (λ n. n < 2 ^ 8) (TooFewBytes 1) 1 Ended) new new e
none-taken end = record {
  bytes = [];
  taken = Consumes-nil _;
  end = end;
  needed = λ front back some is. absurd (omega (arith, some, ap length is, length-append front back));
  short = λ _. record { items = []; fewer = omega arith; fit = tt; parts = joined [] [] refl (refl, omega arith) };
}

pub returns-clause-left : goal.returns-clause-left
returns-clause-left g c =
    let same : length c.read_bytes.new.buf ≡ length c.args.slots.now = search rules in
    err-both c.read_bytes.result (λ e front told.
    let whole = subst (AllByRecursion (λ byte. byte < 256)) front.2 (small_bytes c.read_bytes.new.buf (λ i. omega (arith, c.type_inv.slots i))) in
    let small = small-first front.0 front.1 whole in
    record {
      read = front.0;
      rest = front.1;
      slots = front.2;
      same_len = same;
      some_left = omega (arith, same, ap length front.2, length-append front.0 front.1, front.3);
      kept = λ is. cc;
      fit = subst (AllByRecursion (λ n. n < 2 ^ 8)) (sym (map-id front.0)) small;
      taken = (_, (front.0, subst (λ xs. SpellsItems (SpellsNumber 1) xs front.0) (sym (map-id front.0)) (spells-bytes front.0 small), front.4), none-taken told.end);
    }) c.read_bytes.ensures.front c.read_bytes.ensures.fails.taken
