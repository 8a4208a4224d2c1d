-- What was written or read where a call fails.
use Rattle.std.proofs.Common.{◌≡◌, ◌≢◌, ◌∙◌, ap, sym, subst, ℕ, suc, ◌*◌, ◌<◌, ◌≤◌, arith, List, [], ◌∷◌, ◌++◌, length, length-append, map, take, drop, get_or, append_assoc, refl, Option, Result, Ok, Err}
use Rattle.std.proofs.lemmas.List.{map-append, take-append-drop}
use Rattle.std.proofs.Math.Seq.{drop-cons}
use Rattle.std.specs.Io.KnownBytes.{Consumes}
use Rattle.std.specs.List.{AllByRecursion}
use Rattle.std.proofs.KnownBytes.{Appends-trans}
use Rattle.tinyvec_io.specs.Counted.{AppendsFront, CountedView, Reported}
use Rattle.tinyvec_io.proofs.Pieces.{AppendsFront-then, AppendsFront-longer}
use Rattle.tinyvec_borsh.specs.declared.borsh_error.BorshError.{BorshError}
use Rattle.tinyvec_borsh.specs.declared.borsh_error.BorshError.TheVariants.{Ended, InvalidLength, InvalidUtf8, Io}
use Rattle.tinyvec_borsh.specs.Apart.{IsOfInput}
use Rattle.tinyvec_borsh.specs.Code.{IsCode}
use Rattle.tinyvec_borsh.specs.Items.{SpellsItems}
use Rattle.tinyvec_borsh.specs.ItemsLaws.{one-items}
use Rattle.tinyvec_borsh.specs.TwoParts.{HasParts, joined}
use Rattle.tinyvec_borsh.specs.Reading.{FewBytes, TakesSome}
use Rattle.tinyvec_borsh.specs.Writing.{WritesSpelling, WritesValue, AddsFront}
use Rattle.tinyvec_borsh.proofs.ItemByItem.{WroteItems, failed-since}

-- a fault that was reported since a later state was reported since an earlier one
pub fault-since : {f g h : ℕ} {e : BorshError} → f ≤ g → (e ≡ Io) × Reported g h → (e ≡ Io) × Reported f h
fault-since le (is, fault) = (is, grind arith)

-- a front of a first part is one of the whole
pub front-first : {P Q : List ℕ → Type 0} (old new : Option (List ℕ)) → AddsFront P old new → AddsFront (HasParts P Q) old new
front-first old new front bytes p = subst (AppendsFront old new) (sym p.whole) (AppendsFront-longer old new p.first p.rest (front p.first p.is_first))

-- the first part was written, which is spelled in one way, and then a front of the rest
pub front-second : {P Q : List ℕ → Type 0} (old mid new : Option (List ℕ)) → ((a b : List ℕ) → P a → P b → a ≡ b) → WritesSpelling P old mid → AddsFront Q mid new → AddsFront (HasParts P Q) old new
front-second old mid new one wrote front bytes p =
    let same : wrote.0 ≡ p.first = one wrote.0 p.first wrote.1 p.is_first in
    subst (AppendsFront old new) (ap (λ l. l ++ p.rest) same ∙ sym p.whole) (AppendsFront-then old mid new wrote.0 p.rest wrote.2 (front p.rest p.is_rest))

-- a list in three parts: the first i, one, and the others
pub parts_at : {T C : Type 0} (content : T → C) (xs : List T) (i : ℕ) (x : T) → i < length xs → x ≡ get_or xs i x → map content xs ≡ map content (take i xs) ++ (content x ∷ map content (drop (suc i) xs))
parts_at content xs i x within is =
    ap (map content) (sym (take-append-drop i xs) ∙ ap (λ l. take i xs ++ l) (drop-cons xs i x within ∙ ap (λ y. y ∷ drop (suc i) xs) (sym is))) ∙ map-append content (take i xs) (x ∷ drop (suc i) xs)

module _ {W S T : Type 0} {contents : W → Option (List ℕ)} {P Q : List ℕ → Type 0} where
  -- the first part was not written
  pub writes-first : {old new : CountedView W} {e : BorshError} → WritesValue {T = S} contents P old new (Err e) → WritesValue {T = T} contents (HasParts P Q) old new (Err e)
  writes-first failed = record { ok = tt; err = failed.err; front = front-first _ _ failed.front; grows = failed.grows; failed = failed.failed }

  -- it was, and then the rest, or a front of it
  pub writes-both : {old mid new : CountedView W} (r : Result T BorshError) {x : S} → ((a b : List ℕ) → P a → P b → a ≡ b) → WritesValue contents P old mid (Ok x) → WritesValue contents Q mid new r
      → WritesValue contents (HasParts P Q) old new r
  writes-both (Ok y) one p q = record {
    ok = (p.ok.0 ++ q.ok.0, joined p.ok.0 q.ok.0 p.ok.1 q.ok.1, Appends-trans _ _ _ p.ok.0 q.ok.0 p.ok.2 q.ok.2);
    err = tt;
    front = tt;
    grows = omega (arith, p.grows, q.grows);
    failed = failed-since p.failed.exact q.failed;
  }
  writes-both (Err e) one p q = record {
    ok = tt;
    err = fault-since p.grows q.err;
    front = front-second _ _ _ one p.ok q.front;
    grows = omega (arith, p.grows, q.grows);
    failed = failed-since p.failed.exact q.failed;
  }

module _ {C : Type 0} (Spells : C → List ℕ → Type 0) (code : IsCode Spells) where
  items-part : (cs ds : List C) (bytes : List ℕ) → SpellsItems Spells (cs ++ ds) bytes → HasParts (SpellsItems Spells cs) (SpellsItems Spells ds) bytes
  items-part [] ds bytes p = joined [] bytes refl p
  items-part (c ∷ cs) ds bytes p =
      let rest = items-part cs ds p.rest p.is_rest in
      record {
        first = p.first ++ rest.first;
        rest = rest.rest;
        is_first = joined p.first rest.first p.is_first rest.is_first;
        is_rest = rest.is_rest;
        whole = p.whole ∙ ap (λ l. p.first ++ l) rest.whole ∙ sym (append_assoc p.first rest.first rest.rest);
      }

  -- items were written, and then a front of those behind them
  pub front-items : (cs ds all : List C) (old mid new : Option (List ℕ)) → all ≡ cs ++ ds → WroteItems Spells cs old mid → AddsFront (SpellsItems Spells ds) mid new
      → AddsFront (SpellsItems Spells all) old new
  front-items cs ds all old mid new whole w front bytes p =
      front-second old mid new (one-items Spells code cs) (w.bytes, w.spelled, w.appended) front bytes (items-part cs ds bytes (subst (λ l. SpellsItems Spells l bytes) whole p))

  -- a front of a block that begins the items
  pub front-block : (cs ds : List C) (old new : Option (List ℕ)) (block : List ℕ) → SpellsItems Spells cs block → AppendsFront old new block → AddsFront (SpellsItems Spells (cs ++ ds)) old new
  front-block cs ds old new block spelled front bytes p =
      let parts = items-part cs ds bytes p in
      let same : block ≡ parts.first = one-items Spells code cs block parts.first spelled parts.is_first in
      subst (AppendsFront old new) (ap (λ l. l ++ parts.rest) same ∙ sym parts.whole) (AppendsFront-longer old new block parts.rest front)

  -- items were written, and then a front of a block behind them
  pub front-next-block : (width n : ℕ) (xs ys more all : List C) (bytes room : List ℕ) (old mid new : Option (List ℕ)) → all ≡ xs ++ (ys ++ more) → bytes ≡ take (n * width) room → n ≡ length ys
      → WroteItems Spells xs old mid → SpellsItems Spells ys (take (length ys * width) room) → AppendsFront mid new bytes → AddsFront (SpellsItems Spells all) old new
  front-next-block width n xs ys more all bytes room old mid new whole is many w spelled front =
      front-items xs (ys ++ more) all old mid new whole w
      (front-block ys more mid new bytes (subst (SpellsItems Spells ys) (sym (is ∙ ap (λ m. take (m * width) room) many)) spelled) front)

-- it is an error of what was read
abbrev pub IsOfContent : BorshError → Type 0
IsOfContent e = (e ≢ Ended) × IsOfInput e

module _ {IsCut : List ℕ → Type 0} (old new : Option (List ℕ)) (bytes : List ℕ) (taken : Consumes old new bytes) (needed : (front back : List ℕ) → 0 < length back → bytes ≡ front ++ back → IsCut front) where
  -- these were taken, and the call fails for what they are
  pub some-all : (e : BorshError) → IsOfContent e → TakesSome IsCut old new e
  some-all e other = record { bytes = bytes; taken = taken; end = λ is. absurd (other.0 is); needed = needed; short = λ no. absurd (no other.1) }

pub length_is_other : IsOfContent InvalidLength
length_is_other = (λ e. cc, tt)

pub utf8_is_other : IsOfContent InvalidUtf8
utf8_is_other = (λ e. cc, tt)

-- the bytes at the front of a buffer
pub small-first : (front rest : List ℕ) → AllByRecursion (λ byte. byte < 256) (front ++ rest) → AllByRecursion (λ byte. byte < 256) front
small-first [] rest small = tt
small-first (x ∷ front) rest small = (small.0, small-first front rest small.1)

-- a front of too few bytes has too few
pub few-front : {n : ℕ} {bytes : List ℕ} → AllByRecursion (λ byte. byte < 256) bytes → length bytes < n → (front back : List ℕ) → 0 < length back → bytes ≡ front ++ back → FewBytes n Ended front
few-front small few front back some is = (refl, small-first front back (subst (AllByRecursion (λ byte. byte < 256)) is small), omega (arith, few, some, ap length is, length-append front back))
