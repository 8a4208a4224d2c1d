-- Two trees are the same, whichever comes first, and so are two that are the same as a third.
use Rattle.std.specs.Prelude.{◌≡◌, ◌&&◌, true, refl}
use Rattle.std.specs.Cmp.{IsPartialEquivalence, first_so, second_so, nat_eq_equiv, partial_equiv_from_equiv}
use Rattle.std.proofs.lemmas.Bool.{false≢true}
use Rattle.example_nodes.specs.Tree.{Tree, leaf, list, Trees, none, more, same, all_same}

mutual
  symm : (t u : Tree) → same t u ≡ same u t
  symm (leaf m) (leaf n) = nat_eq_equiv.symm m n
  symm (leaf m) (list us) = refl
  symm (list ts) (leaf n) = refl
  symm (list ts) (list us) = all_symm ts us

  all_symm : (ts us : Trees) → all_same ts us ≡ all_same us ts
  all_symm none none = refl
  all_symm none (more u us) = refl
  all_symm (more t ts) none = refl
  all_symm (more t ts) (more u us) = λ i. symm t u i && all_symm ts us i

mutual
  trans : (t u v : Tree) → same t u ≡ true → same u v ≡ true → same t v ≡ true
  trans (leaf l) (leaf m) (leaf n) h g = (partial_equiv_from_equiv nat_eq_equiv).trans l m n h g
  trans (leaf l) (leaf m) (list vs) h g = g
  trans (leaf l) (list us) v h g = absurd (false≢true h)
  trans (list ts) (leaf m) v h g = absurd (false≢true h)
  trans (list ts) (list us) (leaf n) h g = g
  trans (list ts) (list us) (list vs) h g = all_trans ts us vs h g

  all_trans : (ts us vs : Trees) → all_same ts us ≡ true → all_same us vs ≡ true → all_same ts vs ≡ true
  all_trans none none vs h g = g
  all_trans none (more u us) vs h g = absurd (false≢true h)
  all_trans (more t ts) none vs h g = absurd (false≢true h)
  all_trans (more t ts) (more u us) none h g = g
  all_trans (more t ts) (more u us) (more v vs) h g =
      let a = trans t u v (first_so (same t u) (all_same ts us) h) (first_so (same u v) (all_same us vs) g) in
      let b = all_trans ts us vs (second_so (same t u) (all_same ts us) h) (second_so (same u v) (all_same us vs) g) in
      λ i. a i && b i

pub same_laws : IsPartialEquivalence same
same_laws = record { symm = symm; trans = trans }
