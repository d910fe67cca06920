-- The inversion of one segment. Definitions only.
use Rattle.std.specs.Prelude.{Bool, cond, ◌&&◌, ℕ, None, Float}
use Rattle.std.specs.Float.{binary64}
use Rattle.std.specs.Float.Ieee.{sub, mul, lt, le}
use Rattle.doubles.specs.Numbers.{nought, one, two, magnitude_of}
use Rattle.inverse_segment.specs.declared.Ground.TheVariants.{Edge}
use Rattle.inverse_segment.specs.declared.Bracket.{Bracket}
use Rattle.inverse_segment.specs.declared.State.{State}
use Rattle.inverse_segment.specs.Evaluations.{Evaluations, see}
use Rattle.inverse_segment.specs.Round.{Rule, on}
use Rattle.inverse_segment.specs.Rounds.{Arrival, stopped, rounds}

-- the target is in the closed range of the two end values
abbrev pub encloses : Float → Float → Float → Bool
encloses v0 v1 y = cond (lt v0 v1) (le v0 y && le y v1) (le v1 y && le y v0)

-- |y − v| < 2·precision
abbrev pub near : Float → Float → Float → Bool
near y v ε = lt (magnitude_of (sub binary64 y v)) (mul binary64 two ε)

-- the bracket at first
abbrev pub opening : Float → Float → Bracket
opening v0 v1 = record { lower = nought; upper = one; v0 = v0; v1 = v1 }

-- no side has moved, and none was repeated
abbrev pub start : Bracket → State
start b = record { bracket = b; side = None; repeats = 0 }

-- a segment whose end values v0 and v1 enclose y: local 0, or else local 1, or else the rounds. Rising means v0 < v1
unfoldable pub entered : Rule → (Float → Float) → ℕ → Float → Float → ℕ → Float → Float → Evaluations → Arrival
entered R f s y ε limit v0 v1 ev =
    let r = rounds R f s y ε (lt v0 v1) limit limit 0 (on (start (opening v0 v1)) ev) in
    cond (near y v0 ε) (stopped s Edge nought (opening v0 v1) ev) (cond (near y v1 ε) (stopped s Edge one (opening v0 v1) ev) r)

-- what trying a segment comes to: its ends do not enclose y, and the value of its start; or a place in it
pub data Entry : Type 0 where
  outside : Float → Evaluations → Entry
  inside : Arrival → Entry

-- both ends are evaluated, 0 and then 1, and only once; the segment is entered where they enclose y
unfoldable pub enter : Rule → (Float → Float) → ℕ → Float → Float → ℕ → Evaluations → Entry
enter R f s y ε limit ev =
    let a = see f s nought ev in
    let b = see f s one a.made in
    let r = inside (entered R f s y ε limit a.value b.value b.made) in
    cond (encloses a.value b.value y) r (outside a.value b.made)

-- what an inversion comes to: not on the segment or the curve, or a place
pub data Outcome : Type 0 where
  off : Evaluations → Outcome
  placed : Arrival → Outcome

abbrev pub evaluations_of : Outcome → Evaluations
evaluations_of (off ev) = ev
evaluations_of (placed p) = p.made

-- where a segment is not entered, what follows goes by the value of its start and the evaluations made
abbrev pub or_else : Entry → (Float → Evaluations → Outcome) → Outcome
or_else (outside v ev) f = f v ev
or_else (inside p) f = placed p

-- one segment: nothing follows
abbrev pub outcome_of : Entry → Outcome
outcome_of e = or_else e (λ v ev. off ev)
