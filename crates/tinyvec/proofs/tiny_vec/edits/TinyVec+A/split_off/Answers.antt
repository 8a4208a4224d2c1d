use Rattle.std.proofs.Common.{◌-◌, length, refl, sym, ap, subst, ◌∙◌, arith, length-drop}
use Rattle.std.proofs.lemmas.Bool.{false≢true}
use Rattle.tinyvec_slots.specs.Slots.{AreDefaults}
use Rattle.tinyvec_array.specs.View.{view}
use Rattle.tinyvec_array.proofs.ViewLemmas.{parts_of}
use Rattle.tinyvec.proofs.FrameLemmas.{inline_becomes}
use Rattle.tinyvec.proofs.TinyLemmas.{tiny_fits}
use Rattle.tinyvec.specs.declared.tiny_vec.TinyVec.TheVariants.{Inline}
use Rattle.tinyvec.proofs.tiny_vec.edits.TinyVec+A.split_off.Goals as goal

pub returns-in-Inline-clause-becomes : goal.returns-in-Inline-clause-becomes
returns-in-Inline-clause-becomes g c =
    rw c.in-Inline.is (inline_becomes g.A.Slots g.A.Item.Default.is_default _ _ _ _ _ c.split_off.ensures.becomes)

pub returns-in-Inline-clause-tail : goal.returns-in-Inline-clause-tail
returns-in-Inline-clause-tail g c =
    let made = c.split_off.ensures in
    let long = ap length made.tail ∙ length-drop c.args.at (view g.A.Slots c.in-Inline.v).items in record {
      items = rw c.in-Inline.is made.tail;
      place = rw c.in-Inline.is refl;
      spare = λ _. subst (λ n. AreDefaults g.A.Item.Default.is_default (g.A.Array.CAPACITY - n) (view g.A.Slots c.split_off.result).spare) (sym long) made.tail_spare;
      capacity = λ no. absurd (false≢true (sym no));
      inline_capacity = rw c.in-Inline.is (λ _ whole. omega (arith, parts_of g.A.Slots c.split_off.result, parts_of g.A.Slots c.in-Inline.v, made.tail_spare.0, long, whole));
      fits = tiny_fits g.A.Slots (Inline c.split_off.result c.in-Inline.alloc);
    }
