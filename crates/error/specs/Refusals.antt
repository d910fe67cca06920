-- Numbered replies: the table's rows, their numbers and their order. Definitions only.
use Rattle.std.specs.Prelude.{Bool, false, cond, List, [], ◌∷◌, ℕ, ◌+◌, ◌*◌, eqb, Result, Ok, Err}
use Rattle.error.specs.declared.Refusal.{Refusal}
use Rattle.error.specs.declared.Refusal.TheVariants.{
  TooFew,
  BadPattern,
  TooMany,
  BadSpan,
  NotANumber,
  BadPrecision,
  NoRounds,
  LinearOutput,
  BadAllowance,
  ShortBuffer,
  BadStep,
  NoSegment,
  BadKnot,
  TurnsBack,
  UnequalSegments,
  OffCurve,
  BadLine,
  BadSheet,
  NoComparison,
  LostSeam,
}
use Rattle.error.specs.declared.Where.{Where}
use Rattle.error.specs.declared.Where.TheVariants.{Nowhere, Knot, Segment}

-- the number of each refusal
abbrev pub number_of : Refusal → ℕ
number_of TooFew = 1
number_of BadPattern = 2
number_of TooMany = 3
number_of BadSpan = 14
number_of NotANumber = 5
number_of BadPrecision = 6
number_of NoRounds = 7
number_of LinearOutput = 8
number_of BadAllowance = 17
number_of ShortBuffer = 9
number_of BadStep = 16
number_of NoSegment = 19
number_of (BadKnot i) = 4
number_of (TurnsBack i) = 10
number_of UnequalSegments = 18
number_of OffCurve = 11
number_of BadLine = 12
number_of BadSheet = 13
number_of NoComparison = 20
number_of (LostSeam i) = 15

-- the place that it tells besides: a knot or a segment, by its number from 0; most tell none
abbrev pub where_of : Refusal → Where
where_of TooFew = Nowhere
where_of BadPattern = Nowhere
where_of TooMany = Nowhere
where_of BadSpan = Nowhere
where_of NotANumber = Nowhere
where_of BadPrecision = Nowhere
where_of NoRounds = Nowhere
where_of LinearOutput = Nowhere
where_of BadAllowance = Nowhere
where_of ShortBuffer = Nowhere
where_of BadStep = Nowhere
where_of NoSegment = Nowhere
where_of (BadKnot i) = Knot i
where_of (TurnsBack i) = Knot i
where_of UnequalSegments = Nowhere
where_of OffCurve = Nowhere
where_of BadLine = Nowhere
where_of BadSheet = Nowhere
where_of NoComparison = Nowhere
where_of (LostSeam i) = Segment i

-- that number alone
abbrev pub places_in : Where → List ℕ
places_in Nowhere = []
places_in (Knot i) = i ∷ []
places_in (Segment i) = i ∷ []

abbrev pub places_of : Refusal → List ℕ
places_of r = places_in (where_of r)

-- 0 where none is
abbrev pub place_in : List ℕ → ℕ
place_in [] = 0
place_in (i ∷ is) = i

abbrev pub place_of : Refusal → ℕ
place_of r = place_in (places_of r)

-- both in one number: the place in 256s
abbrev pub reply_of : Refusal → ℕ
reply_of r = number_of r + 256 * place_of r

-- the rows of the table by their numbers, in its order
abbrev pub rows : List ℕ
rows = 1 ∷ 2 ∷ 3 ∷ 14 ∷ 5 ∷ 6 ∷ 7 ∷ 8 ∷ 17 ∷ 9 ∷ 16 ∷ 19 ∷ 4 ∷ 10 ∷ 18 ∷ 11 ∷ 12 ∷ 13 ∷ 20 ∷ 15 ∷ []

-- the refusals that a call has use for, in any order, each with whether its row applies
abbrev pub Uses : Type 0
Uses = List (Refusal × Bool)

-- whether the row with a number applies; one that the call has no use for never does
abbrev pub applies : ℕ → Uses → Bool
applies n [] = false
applies n (u ∷ us) = cond (eqb n (number_of u.0)) u.1 (applies n us)

-- the refusal by that row
abbrev pub refusal_by : ℕ → Uses → Refusal
refusal_by n [] = BadLine
refusal_by n (u ∷ us) = cond (eqb n (number_of u.0)) u.0 (refusal_by n us)

-- what the tests of a call come to: nothing is refused, or a refusal
abbrev pub Verdict : Type 0
Verdict = Result Unit Refusal

-- by the first of the rows that applies
abbrev pub first_of : List ℕ → Uses → Verdict
first_of [] us = Ok tt
first_of (n ∷ ns) us = cond (applies n us) (Err (refusal_by n us)) (first_of ns us)

abbrev pub first : Uses → Verdict
first us = first_of rows us
