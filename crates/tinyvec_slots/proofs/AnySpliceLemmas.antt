-- A splice along a word of ends: what was placed, and what the list is once it is finished.
use Rattle.std.proofs.Common.{◌≡◌, ℕ, suc, ◌+◌, ◌-◌, min, List, [], ◌∷◌, ◌++◌, length, take, drop, slice_range, Option, Some, None, refl, sym, ap, subst, ◌∙◌, append-nil, append_assoc, arith, rules, length-append, take_at}
use Rattle.std.proofs.lemmas.List.{drop_at, length_push}
use Rattle.std.specs.Option.{option_to_list}
use Rattle.std.specs.Iterator.{YieldsFirst, YieldsLast}
use Rattle.tinyvec_slots.specs.Ends.{End, front, back, fronts, backs, TakesFromEnds, RunsWord}
use Rattle.tinyvec_slots.proofs.EndsLemmas.{RunsWord-takes}
use Rattle.tinyvec_slots.specs.Fused.{HasTwoEnds}
use Rattle.tinyvec_slots.specs.AnySplice.{SpliceView, Splices, SplicesBack}
use Rattle.tinyvec_slots.specs.SplicedByWord.{placed_front, placed_back, IsSpliceRefused, SplicedByWord}

-- the letters that place an item, where n are to be taken and m to be placed
abbrev placing : List End → ℕ → ℕ → List End
placing word n m = take (min n m) word

placing-none : (word : List End) (n m : ℕ) → min n m ≡ 0 → placing word n m ≡ []
placing-none word n m none = ap (λ k. take k word) none

placing-more : (e : End) (word : List End) (n m k l : ℕ) → n ≡ suc k → m ≡ suc l → placing (e ∷ word) n m ≡ e ∷ placing word k l
placing-more e word n m k l one other = let count : min n m ≡ suc (min k l) = omega arith in ap (λ i. take i (e ∷ word)) count

module _ {S I T : Type 0} (view : S → SpliceView I T) (keeps : S → S → Type 0) (rest : I → List T)
    (same : (s : S) → keeps s s) (then : (s t u : S) → keeps s t → keeps t u → keeps s u) where
  abbrev left_count : S → ℕ
  left_count s = length (view s).left

  abbrev rest_count : S → ℕ
  rest_count s = length (rest (view s).replacement)

  -- no letter places nothing
  spliced_nil : (s : S) → SplicedByWord view keeps rest s [] s
  spliced_nil s =
      let none : placing [] (left_count s) (rest_count s) ≡ [] = search rules in record {
        in_front = [];
        at_back = [];
        front = sym (append-nil (view s).front);
        back = refl;
        replacement = sym (append-nil (rest (view s).replacement));
        front_count = sym (ap fronts none);
        back_count = sym (ap backs none);
        touches = omega arith;
        kept = same s;
      }

  -- nor does a letter after which the borders are where they were, as nothing is left to take or to place
  spliced_same : (e : End) (s mid t : S) (word : List End) → min (left_count s) (rest_count s) ≡ 0 → min (left_count mid) (rest_count mid) ≡ 0
      → (view mid).front ≡ (view s).front → (view mid).back ≡ (view s).back → rest (view s).replacement ≡ rest (view mid).replacement
      → (view mid).touches + left_count mid ≡ (view s).touches + left_count s → keeps s mid
      → SplicedByWord view keeps rest mid word t → SplicedByWord view keeps rest s (e ∷ word) t
  spliced_same e s mid t word none none_mid ahead behind unplaced touches kept h =
      let counts : placing word (left_count mid) (rest_count mid) ≡ placing (e ∷ word) (left_count s) (rest_count s) =
      placing-none word _ _ none_mid ∙ sym (placing-none (e ∷ word) _ _ none) in record {
        in_front = h.in_front;
        at_back = h.at_back;
        front = h.front ∙ ap (λ l. l ++ h.in_front) ahead;
        back = h.back ∙ ap (λ l. h.at_back ++ l) behind;
        replacement = unplaced ∙ h.replacement;
        front_count = h.front_count ∙ ap fronts counts;
        back_count = h.back_count ∙ ap backs counts;
        touches = h.touches ∙ ap (λ n. n + (length h.in_front + length h.at_back)) touches;
        kept = then s mid t kept h.kept;
      }

  -- a letter where nothing is left
  spliced_none : (e : End) (s : S) (word : List End) (t : S) → (view s).left ≡ [] → SplicedByWord view keeps rest s word t → SplicedByWord view keeps rest s (e ∷ word) t
  spliced_none e s word t none h =
      let gone : min (left_count s) (rest_count s) ≡ 0 = let zero = ap length none in omega arith in
      spliced_same e s s t word gone gone refl refl refl refl (same s) h

  -- the letter `front`, for which the replacement gave o
  spliced_front : (s mid t : S) (word : List End) (x : T) (o : Option T) → (view s).left ≡ x ∷ (view mid).left
      → YieldsFirst rest (view s).replacement o (view mid).replacement → (view mid).front ≡ (view s).front ++ option_to_list o
      → (view mid).back ≡ (view s).back → (view mid).touches ≡ (view s).touches + 1 + length (option_to_list o) → keeps s mid
      → SplicedByWord view keeps rest mid word t → SplicedByWord view keeps rest s (front ∷ word) t
  spliced_front s mid t word x None left gave ahead behind touches kept h =
      let none : rest_count s ≡ 0 = ap length gave.0 in
      let none_mid : rest_count mid ≡ 0 = ap length gave.1 in
      let fewer = ap length left in
      spliced_same front s mid t word (omega arith) (omega arith) (ahead ∙ append-nil (view s).front) behind (gave.0 ∙ sym gave.1) (omega (arith, touches)) kept h
  spliced_front s mid t word x (Some y) left gave ahead behind touches kept h =
      let fewer = ap length left in
      let less = ap length gave in
      let counts = placing-more front word (left_count s) (rest_count s) (left_count mid) (rest_count mid) fewer less in
      let more = ap fronts counts in
      let as_many = ap backs counts in record {
        in_front = y ∷ h.in_front;
        at_back = h.at_back;
        front = h.front ∙ ap (λ l. l ++ h.in_front) ahead ∙ append_assoc (view s).front (y ∷ []) h.in_front;
        back = h.back ∙ ap (λ l. h.at_back ++ l) behind;
        replacement = gave ∙ ap (λ l. y ∷ l) h.replacement;
        front_count = omega (arith, h.front_count, more);
        back_count = h.back_count ∙ sym as_many;
        touches = omega (arith, h.touches, touches, fewer);
        kept = then s mid t kept h.kept;
      }

  -- and the letter `back`
  spliced_back : (s mid t : S) (word : List End) (x : T) (o : Option T) → (view s).left ≡ (view mid).left ++ x ∷ []
      → YieldsLast rest (view s).replacement o (view mid).replacement → (view mid).front ≡ (view s).front
      → (view mid).back ≡ option_to_list o ++ (view s).back → (view mid).touches ≡ (view s).touches + 1 + length (option_to_list o) → keeps s mid
      → SplicedByWord view keeps rest mid word t → SplicedByWord view keeps rest s (back ∷ word) t
  spliced_back s mid t word x None left gave ahead behind touches kept h =
      let none : rest_count s ≡ 0 = ap length gave.0 in
      let none_mid : rest_count mid ≡ 0 = ap length gave.1 in
      let fewer = ap length left ∙ length_push (view mid).left x in
      spliced_same back s mid t word (omega arith) (omega arith) ahead behind (gave.0 ∙ sym gave.1) (omega (arith, touches)) kept h
  spliced_back s mid t word x (Some y) left gave ahead behind touches kept h =
      let fewer : left_count s ≡ suc (left_count mid) = ap length left ∙ length_push (view mid).left x ∙ omega arith in
      let less : rest_count s ≡ suc (rest_count mid) = ap length gave ∙ length_push (rest (view mid).replacement) y ∙ omega arith in
      let counts = placing-more back word (left_count s) (rest_count s) (left_count mid) (rest_count mid) fewer less in
      let as_many = ap fronts counts in
      let more = ap backs counts in
      let long = length_push h.at_back y in record {
        in_front = h.in_front;
        at_back = h.at_back ++ y ∷ [];
        front = h.front ∙ ap (λ l. l ++ h.in_front) ahead;
        back = h.back ∙ ap (λ l. h.at_back ++ l) behind ∙ sym (append_assoc h.at_back (y ∷ []) (view s).back);
        replacement = gave ∙ rw h.replacement (simp append_assoc);
        front_count = h.front_count ∙ sym as_many;
        back_count = long ∙ omega (arith, h.back_count, more);
        touches = omega (arith, h.touches, touches, fewer, long);
        kept = then s mid t kept h.kept;
      }

  module _ (gives gives_back : I → Option T → I → Type 0) (ends : HasTwoEnds gives gives_back rest) where
    pub RunsWord-splices : (s : S) (word : List End) (answers : List (Option T)) (t : S)
        → RunsWord (Splices view keeps gives) (SplicesBack view keeps gives_back) s word answers t → SplicedByWord view keeps rest s word t
    RunsWord-splices s [] [] t same = subst (SplicedByWord view keeps rest s []) (sym same) (spliced_nil s)
    RunsWord-splices s [] (r ∷ answers) t asks = absurd asks
    RunsWord-splices s (e ∷ word) [] t asks = absurd asks
    RunsWord-splices s (front ∷ word) (None ∷ answers) t asks =
        spliced_none front s word t asks.1.0 (subst (λ m. SplicedByWord view keeps rest m word t) asks.1.1 (RunsWord-splices asks.0 word answers t asks.2))
    RunsWord-splices s (back ∷ word) (None ∷ answers) t asks =
        spliced_none back s word t asks.1.0 (subst (λ m. SplicedByWord view keeps rest m word t) asks.1.1 (RunsWord-splices asks.0 word answers t asks.2))
    RunsWord-splices s (front ∷ word) (Some x ∷ answers) t asks =
        let step = asks.1.0 in
        spliced_front s asks.0 t word x step.placed step.left (ends.first _ _ _ step.asked) step.front step.back step.touches asks.1.1
        (RunsWord-splices asks.0 word answers t asks.2)
    RunsWord-splices s (back ∷ word) (Some x ∷ answers) t asks =
        let step = asks.1.0 in
        spliced_back s asks.0 t word x step.placed step.left (ends.last _ _ _ step.asked) step.front step.back step.touches asks.1.1
        (RunsWord-splices asks.0 word answers t asks.2)

-- the removed items are taken from both ends
module _ {S I T : Type 0} (view : S → SpliceView I T) (keeps : S → S → Type 0) (gives gives_back : I → Option T → I → Type 0) where
  abbrev left_of : S → List T
  left_of s = (view s).left

  first_left : (s : S) (r : Option T) (t : S) → Splices view keeps gives s r t → YieldsFirst {S = S} {A = T} left_of s r t
  first_left s None t h = (h.0, ap left_of h.1 ∙ h.0)
  first_left s (Some x) t h = h.0.left

  last_left : (s : S) (r : Option T) (t : S) → SplicesBack view keeps gives_back s r t → YieldsLast {S = S} {A = T} left_of s r t
  last_left s None t h = (h.0, ap left_of h.1 ∙ h.0)
  last_left s (Some x) t h = h.0.left

  pub RunsWord-takes_removed : (s : S) (word : List End) (answers : List (Option T)) (t : S)
      → RunsWord (Splices view keeps gives) (SplicesBack view keeps gives_back) s word answers t → TakesFromEnds (view s).left word answers (view t).left
  RunsWord-takes_removed = RunsWord-takes (Splices view keeps gives) (SplicesBack view keeps gives_back) left_of first_left last_left

-- a list of three parts
record CutOf {T : Type 0} (left middle right whole : List T) : Type 0 where
  long : length whole ≡ length left + (length middle + length right)
  first : take (length left) whole ≡ left
  between : slice_range whole (length left) (length whole - length right) ≡ middle
  last : drop (length whole - length right) whole ≡ right

cut_of : {T : Type 0} (left middle right whole : List T) → whole ≡ left ++ (middle ++ right) → CutOf left middle right whole
cut_of left middle right whole is =
    let long : length whole ≡ length left + (length middle + length right) = rw (is, length-append, length-append) in
    let count : length middle ≡ length whole - length right - length left = omega arith in
    let here : length (left ++ middle) ≡ length whole - length right = length-append left middle ∙ omega arith in record {
      long = long;
      first = ap (take (length left)) is ∙ take_at left _ _ refl;
      between = ap (λ l. take (length whole - length right - length left) (drop (length left) l)) is ∙ rw (drop_at left _ _ refl) (take_at middle right _ count);
      last = ap (drop (length whole - length right)) (is ∙ sym (append_assoc left middle right)) ∙ drop_at (left ++ middle) right _ here;
    }

-- what a splice, along a word and then finished, made of the list
module _ {S I T : Type 0} (view : S → SpliceView I T) (keeps : S → S → Type 0) (rest : I → List T) (s t : S) (word : List End) (list : List T)
    (before removed after replacement : List T) (h : SplicedByWord view keeps rest s word t)
    (ahead : (view s).front ≡ before) (left : (view s).left ≡ removed) (behind : (view s).back ≡ after) (whole : rest (view s).replacement ≡ replacement) where
  parts : replacement ≡ h.in_front ++ (rest (view t).replacement ++ h.at_back)
  parts = sym whole ∙ h.replacement

  abbrev still : List T
  still = rest (view t).replacement

  front_is : (view t).front ≡ before ++ h.in_front
  front_is = h.front ∙ ap (λ l. l ++ h.in_front) ahead

  back_is : (view t).back ≡ h.at_back ++ after
  back_is = h.back ∙ ap (λ l. h.at_back ++ l) behind

  pub spliced_len : length (view t).front + length still + length (view t).back ≡ length before + length replacement + length after
  spliced_len =
      rw (front_is, back_is, parts, length-append, length-append, length-append, length-append) (omega arith)

  pub spliced_all : list ≡ (view t).front ++ still ++ (view t).back → list ≡ before ++ replacement ++ after
  spliced_all is = is ∙ rw (front_is, back_is, parts) (simp append_assoc)

  pub spliced_refused : (placed : List T) (x : T) (others : List T) → still ≡ placed ++ x ∷ others → list ≡ (view t).front ++ placed ++ (view t).back
      → IsSpliceRefused word (length removed) before after replacement list (x ∷ others)
  spliced_refused placed x others split is =
      let all : replacement ≡ (h.in_front ++ placed) ++ ((x ∷ others) ++ h.at_back) = parts ∙ rw split (simp append_assoc) in
      let cut = cut_of (h.in_front ++ placed) (x ∷ others) h.at_back replacement all in
      let fronts_are : length h.in_front ≡ placed_front word (length removed) (length replacement) = rw (← left, ← whole) h.front_count in
      let backs_are : length h.at_back ≡ placed_back word (length removed) (length replacement) = rw (← left, ← whole) h.back_count in
      let j : length replacement - placed_back word (length removed) (length replacement) ≡ length replacement - length h.at_back = ap (λ n. length replacement - n) (sym backs_are) in
      let size = length-append h.in_front placed in record {
        at = length (h.in_front ++ placed);
        from = omega (arith, size, fronts_are);
        below = rw j (omega (arith, cut.long));
        list_is = rw (j, cut.first, cut.last) (is ∙ rw (front_is, back_is) (simp append_assoc));
        rest_is = rw j (sym cut.between);
      }
