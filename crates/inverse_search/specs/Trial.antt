-- How a segment of a curve is tried: g s is segment s of the curve g. Definitions only.
use Rattle.std.specs.Prelude.{ℕ, Float}
use Rattle.inverse_segment.specs.Evaluations.{Evaluations}
use Rattle.inverse_segment.specs.Round.{Rule}
use Rattle.inverse_segment.specs.Segment.{Entry, enter}

abbrev pub trial : Rule → (ℕ → Float → Float) → Float → Float → ℕ → ℕ → Evaluations → Entry
trial R g y ε limit s ev = enter R (g s) s y ε limit ev
