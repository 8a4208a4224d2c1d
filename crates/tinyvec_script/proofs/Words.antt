-- A text cut at its first blank, and at the first byte of any value.
use Rattle.std.proofs.Common.{◌≡◌, ◌≢◌, ℕ, List, [], ◌∷◌, ◌++◌, refl, sym, ◌∙◌}
use Rattle.std.specs.List.{All, AllByRecursion}
use Rattle.tinyvec_script.specs.Words.{StartsBlank}
use Rattle.std.proofs.lemmas.List.Elements.{recursion_from_All}

module _ (mark : ℕ) where
  -- the mark stands nowhere in it
  abbrev pub Lacks : List ℕ → Type 0
  Lacks = AllByRecursion (λ byte. byte ≢ mark)

  pub no_mark_in : (xs ys : List ℕ) → Lacks (xs ++ mark ∷ ys) → ⊥
  no_mark_in [] ys h = h.0 refl
  no_mark_in (x ∷ xs) ys h = no_mark_in xs ys h.1

  pub cut_once : (a b c d : List ℕ) → Lacks a → Lacks c → a ++ mark ∷ b ≡ c ++ mark ∷ d → (a ≡ c) × (b ≡ d)
  cut_once [] b [] d p q e = (refl, cc)
  cut_once [] b (y ∷ c) d p q e = absurd (q.0 (cc))
  cut_once (x ∷ a) b [] d p q e = absurd (p.0 (cc))
  cut_once (x ∷ a) b (y ∷ c) d p q e = let rest = cut_once a b c d p.1 q.1 (cc) in (cc, rest.1)

pub has_blank : (text xs ys : List ℕ) → All (λ byte. byte ≢ 32) text → text ≡ xs ++ 32 ∷ ys → ⊥
has_blank text xs ys h e = no_mark_in 32 xs ys (recursion_from_All _ _ (rw e at h))

-- a text is cut at its first blank in one way
pub one_cut : (text a b c d : List ℕ) → text ≡ a ++ 32 ∷ b → All (λ byte. byte ≢ 32) a → text ≡ c ++ 32 ∷ d → All (λ byte. byte ≢ 32) c → (a ≡ c) × (b ≡ d)
one_cut text a b c d e p f q = cut_once 32 a b c d (recursion_from_All _ _ p) (recursion_from_All _ _ q) (sym e ∙ f)

split_once : (a b c d : List ℕ) → Lacks 32 a → Lacks 32 c → StartsBlank b → StartsBlank d → a ++ b ≡ c ++ d → (a ≡ c) × (b ≡ d)
split_once [] b [] d p q s t e = (refl, e)
split_once [] [] (y ∷ c) d p q s t e = absurd (let no : [] ≡ y ∷ (c ++ d) = e in cc)
split_once [] (z ∷ b) (y ∷ c) d p q s t e = absurd (q.0 (let same : z ≡ y = cc in sym same ∙ s))
split_once (x ∷ a) b [] [] p q s t e = absurd (let no : x ∷ (a ++ b) ≡ [] = e in cc)
split_once (x ∷ a) b [] (z ∷ d) p q s t e = absurd (p.0 (let same : x ≡ z = cc in same ∙ t))
split_once (x ∷ a) b (y ∷ c) d p q s t e = let rest = split_once a b c d p.1 q.1 s t (cc) in (cc, rest.1)

-- a text is parted where its first blank is, or at its end, in one way
pub one_split : (text a b c d : List ℕ) → text ≡ a ++ b → All (λ byte. byte ≢ 32) a → StartsBlank b → text ≡ c ++ d → All (λ byte. byte ≢ 32) c → StartsBlank d → (a ≡ c) × (b ≡ d)
one_split text a b c d e p s f q t = split_once a b c d (recursion_from_All _ _ p) (recursion_from_All _ _ q) s t (sym e ∙ f)
