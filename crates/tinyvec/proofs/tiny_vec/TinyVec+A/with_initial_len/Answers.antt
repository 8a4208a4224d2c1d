use Rattle.std.proofs.Common.{◌≡◌, ◌≤◌, ℕ, List, All, ap, sym, subst, take, drop, length, length-take, length-take-le, length-drop, ◌∙◌, arith}
use Rattle.std.proofs.lemmas.List.Elements.{All-take, All-drop}
use Rattle.tinyvec_slots.specs.Slots.{AreDefaults}
use Rattle.tinyvec.specs.View.{TinyView, HoldsInline}
use Rattle.tinyvec.specs.Room.{MadeFor}
use Rattle.tinyvec.proofs.tiny_vec.TinyVec+A.with_initial_len.Goals as goal

-- the first n of an array of defaults
module _ {T : Type 0} (D : T → Type 0) (slots n : ℕ) (xs : List T) (v : TinyView T) (all : All D xs) (whole : length xs ≡ slots) (le : n ≤ slots) (h : HoldsInline (take n xs) (drop n xs) v) where
  listed : AreDefaults D n v.items
  listed = (ap length h.items ∙ length-take-le n xs (omega (arith, whole, le)), subst (All D) (sym h.items) (All-take D n xs all))

  made : MadeFor D slots n n v
  made =
      let room : v.place.capacity ≡ slots = omega (arith, ap (λ p. p.capacity) h.place, length-take n xs, length-drop n xs, whole, le) in record {
        spare = λ _. (omega (arith, ap length h.spare, length-drop n xs, whole), subst (All D) (sym h.spare) (All-drop D n xs all));
        place = (λ _. le, λ _. ap (λ p. p.inline) h.place);
        enough = omega (arith, room, le);
        exact = omega (arith, room, le);
      }

pub returns-then-len-CAPACITY-clause-items : goal.returns-then-len-CAPACITY-clause-items
returns-then-len-CAPACITY-clause-items g c =
    let array = c.default.ensures in
    listed g.A.Item.Default.is_default _ _ _ _ array.defaults array.len (omega (arith, c.if-len-CAPACITY.true, c.CAPACITY.ensures)) c.from_array_len.ensures

pub returns-then-len-CAPACITY-clause-made : goal.returns-then-len-CAPACITY-clause-made
returns-then-len-CAPACITY-clause-made g c =
    let array = c.default.ensures in
    made g.A.Item.Default.is_default _ _ _ _ array.defaults array.len (omega (arith, c.if-len-CAPACITY.true, c.CAPACITY.ensures)) c.from_array_len.ensures
