-- The inversion of a curve that no row refuses: g s is its segment s, of k; e is what the end rule goes by,
-- and ev the evaluations made for that, none where it goes by knots. Definitions only.
use Rattle.inverse_segment.specs.Inversion.{Inversion}
use Rattle.std.specs.Prelude.{cond, ℕ, ◌-◌, Float}
use Rattle.std.specs.Float.{binary64}
use Rattle.std.specs.Float.Ieee.{add, mul, div}
use Rattle.doubles.specs.Numbers.{nought, one}
use Rattle.doubles.specs.Whole.{double}
use Rattle.inverse_segment.specs.declared.Ground.{Ground}
use Rattle.inverse_segment.specs.declared.Ground.TheVariants.{End}
use Rattle.inverse_segment.specs.Evaluations.{Evaluations}
use Rattle.inverse_segment.specs.Segment.{placed, evaluations_of}
use Rattle.inverse_segment.specs.Answer.{answered, alone}
use Rattle.inverse_segment.specs.Round.{Rule}
use Rattle.inverse_search.specs.Search.{find}
use Rattle.inverse_search.specs.Trial.{trial}
use Rattle.inverse.specs.declared.Ends.{Ends}
use Rattle.inverse.specs.EndRule.{at_low, at_high}

-- (s + local) × (1/k), as rounded
unfoldable pub parameter_of : ℕ → ℕ → Float → Float
parameter_of k s x = mul binary64 (add binary64 (double s) x) (div binary64 one (double k))

-- by the end rule: both bracket ends equal the local place, which is the parameter too
abbrev pub ended : Evaluations → ℕ → Float → Inversion
ended ev s x =
    let ground : Ground = End in
    answered alone (placed (record { ground = ground; segment = s; local = x; lower = x; upper = x; made = ev }))

-- low first, then high, then the search
unfoldable pub located : Rule → Ends → Evaluations → (ℕ → Float → Float) → ℕ → Float → Float → ℕ → Inversion
located R e ev g k y ε limit =
    let searched = answered (parameter_of k) (find (trial R g y ε limit) y e.rising k ev) in
    cond (at_low e y) (ended ev 0 nought) (cond (at_high e y) (ended ev (k - 1) one) searched)

-- every evaluation that it makes, the latest first
unfoldable pub evaluations : Rule → Ends → Evaluations → (ℕ → Float → Float) → ℕ → Float → Float → ℕ → Evaluations
evaluations R e ev g k y ε limit =
    let searched = evaluations_of (find (trial R g y ε limit) y e.rising k ev) in
    cond (at_low e y) ev (cond (at_high e y) ev searched)
