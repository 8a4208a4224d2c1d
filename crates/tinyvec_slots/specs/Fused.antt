-- A fused iterator that shows what is left of it.
use Rattle.std.specs.Prelude.{◌≡◌, false, List, [], if◌then◌else◌, Option}
use Rattle.std.specs.declared.iter.Fuse.{Fuse}
use Rattle.std.specs.Iterator.{Count, IsFinite, count_unless, YieldsFirst, YieldsLast}
use Rattle.std.specs.Iterator.Adapters.{fuse_done, fuse_source}

-- `next` of a fused iterator may be called: it has yielded `None`, or `next` of its source may be called
abbrev pub FusedCan : {S : Type 0} → (S → Type 0) → Fuse S → Type 0
FusedCan can s = fuse_done s ≡ false → can (fuse_source s)

-- a fused iterator has yielded `None`, or its source yields finitely many items
abbrev pub FusedFinite : {S : Type 0} → (S → Count) → Fuse S → Type 0
FusedFinite left s = IsFinite (count_unless (fuse_done s) (left (fuse_source s)))

-- what a fused iterator still yields, if `rest` is what its source still yields
abbrev pub fused_rest : {S A : Type 0} → (S → List A) → Fuse S → List A
fused_rest rest s = if fuse_done s then [] else rest (fuse_source s)

-- an iterator yields the first item of a list by `next` and the last by `next_back`, and `rest` shows the list
pub record HasTwoEnds {S A : Type 0} (gives gives_back : S → Option A → S → Type 0) (rest : S → List A) : Type 0 where
  pub first : (s : S) (r : Option A) (t : S) → gives s r t → YieldsFirst rest s r t
  pub last : (s : S) (r : Option A) (t : S) → gives_back s r t → YieldsLast rest s r t
