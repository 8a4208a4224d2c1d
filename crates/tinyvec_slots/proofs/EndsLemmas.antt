-- Calls of `next` and `next_back` take from the two ends, by whatever word they follow.
use Rattle.std.proofs.Common.{◌≡◌, ℕ, zero, suc, ◌+◌, ◌-◌, ◌≤◌, min, List, [], ◌∷◌, ◌++◌, length, get_or, take, drop, slice_range, Option, Some, None, map, replicate, refl, sym, ap, subst, ◌∙◌, arith, rules, add-one, length-append, length-drop, length-take, take_all}
use Rattle.std.specs.Prelude.{reverse}
use Rattle.std.specs.Iterator.{YieldsFirst, YieldsLast}
use Rattle.std.specs.Option.{option_to_list}
use Rattle.std.proofs.lemmas.List.{take_more, reverse-append, take-append-le, drop-append-le, drop_all}
use Rattle.tinyvec_slots.specs.Ends.{End, front, back, fronts, backs, from_front, from_back, GivenByWord, TakesFromEnds, RunsWord, given_items, answered_by, taken_items}

-- each letter is one or the other
pub fronts-backs : (word : List End) → fronts word + backs word ≡ length word
fronts-backs [] = refl
fronts-backs (front ∷ word) = let rest = fronts-backs word in omega arith
fronts-backs (back ∷ word) = let rest = fronts-backs word in omega arith

module _ {T : Type 0} where
  -- the letters that were given an item are no more than the items
  given_within : (xs : List T) (word : List End) (n : ℕ) → n ≡ min (length word) (length xs)
      → fronts (take n word) + backs (take n word) ≤ length xs
  given_within xs word n count =
      let cut = length-take n word in
      let all = fronts-backs (take n word) in
      omega arith

  none_given : (given : List T) → length given ≡ 0 → given ≡ []
  none_given [] none = refl
  none_given (x ∷ given) none = absurd (omega arith)

  -- no letter takes nothing
  TakesFromEnds-nil : (xs : List T) → TakesFromEnds xs [] [] xs
  TakesFromEnds-nil xs = record {
    given = [];
    by_word = record {
      count = omega arith;
      first = refl;
      last = sym (ap reverse (drop_all (length xs - 0) xs (omega arith)));
    };
    answered = refl;
    middle = sym (take_all (length xs - 0 - 0) xs (omega arith));
  }

  -- where nothing is left, a letter is answered with `None`
  TakesFromEnds-none : (word : List End) (e : End) (answers : List (Option T)) (left : List T)
      → TakesFromEnds [] word answers left → TakesFromEnds [] (e ∷ word) (None ∷ answers) left
  TakesFromEnds-none word e answers left h =
      let none : h.given ≡ [] = none_given h.given (omega (arith, h.by_word.count)) in
      let gone : slice_range [] (fronts (take (length h.given) word)) (0 - backs (take (length h.given) word)) ≡ [] = search rules in
      let one : length word - 0 + 1 ≡ length (e ∷ word) - 0 = omega arith in
      let all : answers ≡ replicate (length word - 0) None = h.answered ∙ ap (λ given. map Some given ++ replicate (length word - length given) None) none in
      record {
        given = [];
        by_word = record {
          count = omega arith;
          first = refl;
          last = refl;
        };
        answered = ap (λ l. None ∷ l) all ∙ ap (λ n. replicate n None) (sym (add-one (length word - 0)) ∙ one);
        middle = h.middle ∙ gone;
      }

  -- `front` takes the first item
  TakesFromEnds-front : (x : T) (xs : List T) (word : List End) (answers : List (Option T)) (left : List T)
      → TakesFromEnds xs word answers left → TakesFromEnds (x ∷ xs) (front ∷ word) (Some x ∷ answers) left
  TakesFromEnds-front x xs word answers left h =
      let m = length h.given in
      let p = fronts (take m word) in
      let q = backs (take m word) in
      let within : p + q ≤ length xs = given_within xs word m h.by_word.count in
      let last_is : suc (length xs) - q ≡ suc (length xs - q) = omega arith in
      let still : suc (length word) - suc m ≡ length word - m = omega arith in
      let between : length xs - q - p ≡ suc (length xs) - q - (p + 1) = omega arith in
      record {
        given = x ∷ h.given;
        by_word = record {
          count = omega (arith, h.by_word.count);
          first = ap (λ l. x ∷ l) h.by_word.first ∙ ap (λ n. take n (x ∷ xs)) (sym (add-one p));
          last = h.by_word.last ∙ ap (λ n. reverse (drop n (x ∷ xs))) (sym last_is);
        };
        answered = ap (λ l. Some x ∷ l) h.answered ∙ ap (λ n. Some x ∷ (map Some h.given ++ replicate n None)) (sym still);
        middle = h.middle ∙ ap (λ n. take n (drop p xs)) between ∙ ap (λ n. take (suc (length xs) - q - (p + 1)) (drop n (x ∷ xs))) (sym (add-one p));
      }

  -- `back` takes the last
  TakesFromEnds-back : (x : T) (xs : List T) (word : List End) (answers : List (Option T)) (left : List T)
      → TakesFromEnds xs word answers left → TakesFromEnds (xs ++ x ∷ []) (back ∷ word) (Some x ∷ answers) left
  TakesFromEnds-back x xs word answers left h =
      let m = length h.given in
      let p = fronts (take m word) in
      let q = backs (take m word) in
      let all = xs ++ x ∷ [] in
      let long = length-append xs (x ∷ []) in
      let within : p + q ≤ length xs = given_within xs word m h.by_word.count in
      let last_is : length all - (q + 1) ≡ length xs - q = omega arith in
      let still : suc (length word) - suc m ≡ length word - m = omega arith in
      let behind = length-drop p xs in
      record {
        given = x ∷ h.given;
        by_word = record {
          count = omega (arith, h.by_word.count);
          first = h.by_word.first ∙ sym (take-append-le p xs (x ∷ []) (omega arith));
          last = ap (λ l. x ∷ l) h.by_word.last ∙ sym (reverse-append (drop (length xs - q) xs) (x ∷ []))
              ∙ ap reverse (sym (drop-append-le (length xs - q) xs (x ∷ []) (omega arith))) ∙ ap (λ n. reverse (drop n all)) (sym last_is);
        };
        answered = ap (λ l. Some x ∷ l) h.answered ∙ ap (λ n. Some x ∷ (map Some h.given ++ replicate n None)) (sym still);
        middle = h.middle ∙ sym (take-append-le (length xs - q - p) (drop p xs) (x ∷ []) (omega arith))
            ∙ ap (take (length xs - q - p)) (sym (drop-append-le p xs (x ∷ []) (omega arith))) ∙ ap (λ n. take (n - p) (drop p all)) (sym last_is);
      }

module _ {S T : Type 0} (gives gives_back : S → Option T → S → Type 0) (rest : S → List T)
    (first : (s : S) (r : Option T) (t : S) → gives s r t → YieldsFirst rest s r t)
    (last : (s : S) (r : Option T) (t : S) → gives_back s r t → YieldsLast rest s r t) where
  one_front : (s : S) (r : Option T) (t : S) (word : List End) (answers : List (Option T)) (left : List T)
      → YieldsFirst rest s r t → TakesFromEnds (rest t) word answers left → TakesFromEnds (rest s) (front ∷ word) (r ∷ answers) left
  one_front s None t word answers left y h = rw y.0 (TakesFromEnds-none word front answers left (rw y.1 at h))
  one_front s (Some x) t word answers left y h = rw y (TakesFromEnds-front x (rest t) word answers left h)

  one_back : (s : S) (r : Option T) (t : S) (word : List End) (answers : List (Option T)) (left : List T)
      → YieldsLast rest s r t → TakesFromEnds (rest t) word answers left → TakesFromEnds (rest s) (back ∷ word) (r ∷ answers) left
  one_back s None t word answers left y h = rw y.0 (TakesFromEnds-none word back answers left (rw y.1 at h))
  one_back s (Some x) t word answers left y h = rw y (TakesFromEnds-back x (rest t) word answers left h)

  pub RunsWord-takes : (from : S) (word : List End) (answers : List (Option T)) (to : S)
      → RunsWord gives gives_back from word answers to → TakesFromEnds (rest from) word answers (rest to)
  RunsWord-takes from [] [] to same = subst (λ t. TakesFromEnds (rest from) [] [] (rest t)) (sym same) (TakesFromEnds-nil (rest from))
  RunsWord-takes from [] (r ∷ answers) to asks = absurd asks
  RunsWord-takes from (e ∷ word) [] to asks = absurd asks
  RunsWord-takes from (front ∷ word) (r ∷ answers) to asks =
      one_front from r asks.0 word answers (rest to) (first from r asks.0 asks.1) (RunsWord-takes asks.0 word answers to asks.2)
  RunsWord-takes from (back ∷ word) (r ∷ answers) to asks =
      one_back from r asks.0 word answers (rest to) (last from r asks.0 asks.1) (RunsWord-takes asks.0 word answers to asks.2)

-- the items among the answers to a word are those that it is given
pub items_given : {T : Type 0} (xs : List T) (word : List End) (answers : List (Option T)) (left : List T) → TakesFromEnds xs word answers left
    → GivenByWord xs word (given_items answers)
items_given {T} xs word answers left h =
    subst (GivenByWord xs word) (sym (ap given_items h.answered ∙ among h.given (length word - length h.given))) h.by_word
  where
    none : (n : ℕ) → given_items {T = T} (replicate n None) ≡ []
    none zero = refl
    none (suc n) = none n

    among : (given : List T) (n : ℕ) → given_items (map Some given ++ replicate n None) ≡ given
    among [] n = none n
    among (x ∷ given) n = ap (λ l. x ∷ l) (among given n)

-- what a word takes is one list, and what it leaves is another
module _ {T : Type 0} where
  given_once : (word : List End) (given other : List T) → length given ≡ length other → length given ≤ length word
      → from_front word given ≡ from_front word other → from_back word given ≡ from_back word other → given ≡ other
  given_once word [] [] same within first last = refl
  given_once word [] (y ∷ other) same within first last = absurd (omega arith)
  given_once word (x ∷ given) [] same within first last = absurd (omega arith)
  given_once [] (x ∷ given) (y ∷ other) same within first last = absurd (omega arith)
  given_once (front ∷ word) (x ∷ given) (y ∷ other) same within first last =
      let rest = given_once word given other (omega (arith, same)) (omega (arith, within)) (cc) last in
      cc
  given_once (back ∷ word) (x ∷ given) (y ∷ other) same within first last =
      let rest = given_once word given other (omega (arith, same)) (omega (arith, within)) first (cc) in
      cc

  one_given : (xs : List T) (word : List End) (given other : List T) → GivenByWord xs word given → GivenByWord xs word other → given ≡ other
  one_given xs word given other h k =
      let same : length given ≡ length other = h.count ∙ sym k.count in
      given_once word given other same (omega (arith, h.count))
      (h.first ∙ ap (λ n. take (fronts (take n word)) xs) same ∙ sym k.first)
      (h.last ∙ ap (λ n. reverse (drop (length xs - backs (take n word)) xs)) same ∙ sym k.last)

  -- the list behind its last item, and that item
  init_last : (x : T) (xs : List T) → take (length xs) (x ∷ xs) ++ get_or (x ∷ xs) (length xs) x ∷ [] ≡ x ∷ xs
  init_last x xs = sym (take_more (x ∷ xs) (length xs) x (omega arith)) ∙ take_all (length xs + 1) (x ∷ xs) (omega arith)

  -- what the letters of a word leave
  abbrev pub left_items : List End → List T → List T
  left_items [] xs = xs
  left_items (e ∷ word) [] = left_items word []
  left_items (front ∷ word) (x ∷ xs) = left_items word xs
  left_items (back ∷ word) (x ∷ xs) = left_items word (take (length xs) (x ∷ xs))

  -- as does this one
  pub takes_by : (word : List End) (xs : List T) → TakesFromEnds xs word (answered_by word xs) (left_items word xs)
  takes_by [] xs = TakesFromEnds-nil xs
  takes_by (front ∷ word) [] = TakesFromEnds-none word front (answered_by word []) (left_items word []) (takes_by word [])
  takes_by (back ∷ word) [] = TakesFromEnds-none word back (answered_by word []) (left_items word []) (takes_by word [])
  takes_by (front ∷ word) (x ∷ xs) = TakesFromEnds-front x xs word (answered_by word xs) (left_items word xs) (takes_by word xs)
  takes_by (back ∷ word) (x ∷ xs) =
      let init = take (length xs) (x ∷ xs) in
      let last = get_or (x ∷ xs) (length xs) x in
      subst (λ l. TakesFromEnds l (back ∷ word) (Some last ∷ answered_by word init) (left_items word init)) (init_last x xs)
      (TakesFromEnds-back last init word (answered_by word init) (left_items word init) (takes_by word init))

  -- What a word takes and leaves, computed: this law ties `TakesFromEnds` to the recursion.
  pub TakesFromEnds-computes : (xs : List T) (word : List End) (answers : List (Option T)) (left : List T)
      → TakesFromEnds xs word answers left → (answers ≡ answered_by word xs) × (left ≡ left_items word xs)
  TakesFromEnds-computes xs word answers left h =
      let by = takes_by word xs in
      let same : h.given ≡ by.given = one_given xs word h.given by.given h.by_word by.by_word in (
        h.answered ∙ ap (λ given. map Some given ++ replicate (length word - length given) None) same ∙ sym by.answered,
        h.middle ∙ ap (λ given. slice_range xs (fronts (take (length given) word)) (length xs - backs (take (length given) word))) same ∙ sym by.middle,
      )

  -- what a word takes, computed
  pub given_is_taken : (xs : List T) (word : List End) (given : List T) → GivenByWord xs word given → given ≡ taken_items word xs
  given_is_taken xs word given h =
      one_given xs word given (taken_items word xs) h (items_given xs word (answered_by word xs) (left_items word xs) (takes_by word xs))

-- a word that is asked after another
module _ {S T : Type 0} (gives gives_back : S → Option T → S → Type 0) where
  pub RunsWord-then : (from : S) (word : List End) (answers : List (Option T)) (mid : S) (more : List End) (others : List (Option T)) (to : S)
      → RunsWord gives gives_back from word answers mid → RunsWord gives gives_back mid more others to
      → RunsWord gives gives_back from (word ++ more) (answers ++ others) to
  RunsWord-then from [] [] mid more others to same asks = subst (λ s. RunsWord gives gives_back s more others to) same asks
  RunsWord-then from [] (r ∷ answers) mid more others to asked asks = absurd asked
  RunsWord-then from (e ∷ word) [] mid more others to asked asks = absurd asked
  RunsWord-then from (front ∷ word) (r ∷ answers) mid more others to asked asks =
      (asked.0, asked.1, RunsWord-then asked.0 word answers mid more others to asked.2 asks)
  RunsWord-then from (back ∷ word) (r ∷ answers) mid more others to asked asks =
      (asked.0, asked.1, RunsWord-then asked.0 word answers mid more others to asked.2 asks)

-- calls of `next_back`, of which less is said
module _ {S T : Type 0} (gives gives_back says_back : S → Option T → S → Type 0) (weaker : (s : S) (r : Option T) (t : S) → gives_back s r t → says_back s r t) where
  pub RunsWord-weaker : (from : S) (word : List End) (answers : List (Option T)) (to : S)
      → RunsWord gives gives_back from word answers to → RunsWord gives says_back from word answers to
  RunsWord-weaker from [] [] to asks = asks
  RunsWord-weaker from [] (r ∷ answers) to asks = absurd asks
  RunsWord-weaker from (e ∷ word) [] to asks = absurd asks
  RunsWord-weaker from (front ∷ word) (r ∷ answers) to asks = (asks.0, asks.1, RunsWord-weaker asks.0 word answers to asks.2)
  RunsWord-weaker from (back ∷ word) (r ∷ answers) to asks = (asks.0, weaker from r asks.0 asks.1, RunsWord-weaker asks.0 word answers to asks.2)

-- one answer more
pub given_items-more : {T : Type 0} (answers : List (Option T)) (r : Option T) → given_items (answers ++ r ∷ []) ≡ given_items answers ++ option_to_list r
given_items-more [] None = refl
given_items-more [] (Some x) = refl
given_items-more (None ∷ answers) r = given_items-more answers r
given_items-more (Some x ∷ answers) r = ap (λ l. x ∷ l) (given_items-more answers r)
