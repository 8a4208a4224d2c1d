-- What a script sees of its vectors.
use Rattle.std.specs.Prelude.{ℤ}
use Rattle.tinyvec_array.specs.ArrayVec.{array_view, view_of}
use Rattle.tinyvec_array.specs.declared.slots.Slots as Storage
use Rattle.tinyvec.specs.TinyVec.{tiny_view}
use Rattle.tinyvec_script.specs.Script.{State}
use Rattle.tinyvec_script.specs.declared.vectors.Vectors.{Vectors}

-- what is seen of vectors over lent slots
abbrev pub state_of : {B L : Type 0} → Storage.Ghosts B ℤ L → Vectors B L → State
state_of g vectors = record { a = array_view vectors.a; s = view_of g vectors.s; t = tiny_view vectors.t; x = vectors.x }
