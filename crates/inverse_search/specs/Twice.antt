-- The trial of a segment as the crate makes it: both ends are evaluated, and once more where it is entered. No call makes it; it stands
-- here to say what `trial` leaves out. Definitions only.
use Rattle.std.specs.Prelude.{cond, ℕ, Float}
use Rattle.doubles.specs.Numbers.{nought, one}
use Rattle.inverse_segment.specs.Evaluations.{Evaluations, see}
use Rattle.inverse_segment.specs.Round.{Rule}
use Rattle.inverse_segment.specs.Segment.{encloses, Entry, outside, enter}

unfoldable pub trial_twice : Rule → (ℕ → Float → Float) → Float → Float → ℕ → ℕ → Evaluations → Entry
trial_twice R g y ε limit s ev =
    let a = see (g s) s nought ev in
    let b = see (g s) s one a.made in
    let again = enter R (g s) s y ε limit b.made in
    cond (encloses a.value b.value y) again (outside a.value b.made)
