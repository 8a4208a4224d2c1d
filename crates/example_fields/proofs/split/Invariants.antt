use Rattle.std.proofs.Common.{◌≡◌, ◌≢◌, ℕ, ◌<◌, ◌≤◌, ◌++◌, map, All, drop, get_or}
use Rattle.tinyvec_array.specs.ArrayVec.{items}
use Rattle.example_fields.specs.Fields.{bytes_of, parts, IsIn}
use Rattle.example_fields.proofs.split.Given as goal

abbrev pub invariant-loop-index : goal.invariant-loop-index
invariant-loop-index l = record {
  so_far : map (bytes_of l.line) (items l.fields) ++ parts l.separator (drop l.start l.line) ≡ parts l.separator l.line;
  none_since : (k : ℕ) → k < l.index → l.start ≤ k → get_or l.line k 0 ≢ l.separator;
  order : l.start ≤ l.index;
  in_line : All (IsIn l.line) (items l.fields);
}
