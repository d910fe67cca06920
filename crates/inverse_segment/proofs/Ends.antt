-- The two evaluations of a segment's ends. Assumes nothing.
use mathlib.Core.List.{◌∷◌}
use Prim.Native.Nat.{ℕ}
use Rattle.doubles.specs.Numbers.{nought, one}
use Rattle.inverse_segment.specs.Evaluations.{Evaluations}

abbrev pub both : ℕ → Evaluations → Evaluations
both s ev = (s, one) ∷ ((s, nought) ∷ ev)
