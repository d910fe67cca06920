-- What a write leaves, as the code has it. Definitions only.
use Rattle.std.specs.Prelude.{List, [], ◌∷◌, ◌++◌, ℕ, ◌+◌, length, take, drop, Float}
use Rattle.spline.specs.declared.RowSums.{RowSums}

-- l from place at on; before and behind it what stood there
abbrev pub placed : ℕ → List Float → List Float → List Float
placed at l out = take at out ++ l ++ drop (at + length l) out

abbrev pub list_of : RowSums → List Float
list_of w = w.w0 ∷ w.w1 ∷ w.w2 ∷ w.w3 ∷ []
