-- The list of evaluations. Definitions only.
use Rattle.std.specs.Prelude.{List, ◌∷◌, ℕ, Float}

-- which segment, and at which local place; the latest stands first, and a repeat stands again
abbrev pub Evaluations : Type 0
Evaluations = List (ℕ × Float)

-- a value, and the evaluations made until now, its own among them
pub record Sight : Type 0 where
  pub value : Float
  pub made : Evaluations

-- segment s, which is f, is evaluated at x. Nothing else here applies a segment to a place
abbrev pub see : (Float → Float) → ℕ → Float → Evaluations → Sight
see f s x ev = record { value = f x; made = (s, x) ∷ ev }
