-- Two curves that have the same value at every evaluation of a list; g s is segment s of the curve g. Definitions only.
use Rattle.std.specs.Prelude.{◌≡◌, [], ◌∷◌, ℕ, Float}
use Rattle.inverse_segment.specs.Evaluations.{Evaluations}

abbrev pub Agreed : (ℕ → Float → Float) → (ℕ → Float → Float) → Evaluations → Type 0
Agreed g h [] = Unit
Agreed g h (e ∷ ev) = (g e.0 e.1 ≡ h e.0 e.1) × Agreed g h ev
