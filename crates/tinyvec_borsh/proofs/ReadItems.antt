-- Items that are read one after another, until no further one is.
use Rattle.std.proofs.Common.{◌≡◌, ◌∙◌, ap, sym, subst, ℕ, List, [], ◌∷◌, ◌++◌, Option, map, append_assoc}
use Rattle.std.proofs.lemmas.List.{map-append}
use Rattle.std.specs.List.{AllByRecursion}
use Rattle.tinyvec_borsh.specs.Items.{BeginsWithItems, SpellsItems}
use Rattle.tinyvec_borsh.specs.Reading.{MayBe, ReadsSpelling}
use Rattle.tinyvec_borsh.proofs.ItemByItem.{fit-more, maybe-behind, one-item, takes-items, takes-so}

module _ {T C : Type 0} (content : T → C) (Spells : C → List ℕ → Type 0) (Fits : C → Type 0) where
  -- Behind the items from before these stand now, and just their spellings were taken.
  pub record ReadItems (before now : List T) (old new : Option (List ℕ)) : Type 0 where
    pub more : List T
    pub grown : now ≡ before ++ more
    pub fit : AllByRecursion Fits (map content more)
    pub taken : ReadsSpelling (SpellsItems Spells (map content more)) old new

  pub read-next : (before now next : List T) (x : T) (old mid new : Option (List ℕ)) → ReadItems before now old mid → ReadsSpelling (Spells (content x)) mid new → Fits (content x) → next ≡ now ++ x ∷ [] → ReadItems before next old new
  read-next before now next x old mid new r t fits pushed =
      let all_more : map content (r.more ++ x ∷ []) ≡ map content r.more ++ content x ∷ [] = map-append content r.more (x ∷ []) in
      record {
        more = r.more ++ x ∷ [];
        grown = pushed ∙ ap (λ l. l ++ x ∷ []) r.grown ∙ append_assoc before r.more (x ∷ []);
        fit = subst (AllByRecursion Fits) (sym all_more) (fit-more Fits (map content r.more) (content x) r.fit fits);
        taken = subst (λ cs. ReadsSpelling (SpellsItems Spells cs) old new) (sym all_more) (takes-items Spells (map content r.more) (content x ∷ []) old mid new r.taken (takes-so mid new (one-item Spells (content x)) t));
      }

  -- and behind them the input is so
  pub read-then : (before now : List T) (P : List ℕ → Type 0) (old new : Option (List ℕ)) → ReadItems before now old new → MayBe new P
      → (more : List T) × (now ≡ before ++ more) × AllByRecursion Fits (map content more) × MayBe old (BeginsWithItems Spells (map content more) P)
  read-then before now P old new r may =
      (r.more, r.grown, r.fit, maybe-behind old new P (BeginsWithItems Spells (map content r.more) P) r.taken (λ input p. p) may)
