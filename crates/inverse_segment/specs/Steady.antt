-- The steady rule for the next place. Definitions only.
use Rattle.std.specs.Prelude.{true, false, cond, ◌&&◌, ℕ, zero, suc, pos, Float}
use Rattle.std.specs.Float.{fin, binary64}
use Rattle.std.specs.Float.Ieee.{sub, mul, div, lt}
use Rattle.doubles.specs.Numbers.{half}
use Rattle.doubles.specs.Lerp.{lerp_of}
use Rattle.inverse_segment.specs.declared.Bracket.{Bracket}
use Rattle.inverse_segment.specs.Round.{toward, midpoint, weighed, Rule}

-- the width allowed in round i: 16, and half as much in each round after
unfoldable pub allowed : ℕ → Float
allowed zero = fin false 1 (pos 4)
allowed (suc i) = mul binary64 (allowed i) half

-- strictly inside the bracket; the midpoint stands for any other place, and for NaN
unfoldable pub inner : Bracket → Float → Float
inner b x = cond (lt b.lower x && lt x b.upper) x (midpoint b)

-- where the chord of the weighed values meets the target
unfoldable pub secant : Rule
secant limit i y st =
    let b = weighed toward y true st in
    let t = div binary64 (sub binary64 y b.v0) (sub binary64 b.v1 b.v0) in
    record { bracket = b; place = inner b (lerp_of b.lower b.upper t) }

-- a rule kept to the pace: where the bracket is wider than allowed, its midpoint
unfoldable pub paced : Rule → Rule
paced R limit i y st =
    cond (lt (allowed i) (sub binary64 st.bracket.upper st.bracket.lower))
    (record { bracket = st.bracket; place = midpoint st.bracket })
    (R limit i y st)

abbrev pub steady : Rule
steady = paced secant
