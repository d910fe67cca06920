-- The search for the segment of a curve to enter. Definitions only.
use Rattle.std.specs.Prelude.{Bool, cond, ℕ, zero, suc, ◌+◌, ◌-◌, ◌/◌, min, leb, Float}
use Rattle.inverse_segment.specs.Evaluations.{Evaluations}
use Rattle.inverse_segment.specs.Segment.{Entry, Outcome, off, or_else}
use Rattle.inverse_order.specs.Order.{before}
use Rattle.inverse_search.specs.Bound.{bits_of}

-- how a segment is tried, after the evaluations made until then
abbrev pub Trial : Type 0
Trial = ℕ → Evaluations → Entry

-- a curve, by the trial of each of its segments
module _ (E : Trial) where
  -- the n segments from s on, in order: the first whose ends enclose y is entered
  unfoldable pub tries : ℕ → ℕ → Evaluations → Outcome
  tries zero s ev = off ev
  tries (suc n) s ev = or_else (E s ev) (λ v t. tries n (suc s) t)

  -- nothing is open: left is l, and right is l − 1, or 0 after going left at segment 0. The last tries go from left − 1, at least 0, up to
  -- but not including the lesser of right + 2 and k
  unfoldable pub last : ℕ → ℕ → Evaluations → Outcome
  last k l ev = tries (min (l - 1 + 2) k - (l - 1)) (l - 1) ev

  -- c segments are open, from l on: the middle one, rounded down, is entered if it encloses y; else the search goes left where y lies
  -- before its start, and right otherwise. n halvings at most
  unfoldable pub halve : Float → Bool → ℕ → ℕ → ℕ → ℕ → Evaluations → Outcome
  halve y rising k zero l c ev = last k l ev
  halve y rising k (suc n) l zero ev = last k l ev
  halve y rising k (suc n) l (suc c) ev =
      let m = l + c / 2 in
      or_else (E m ev) (λ v t. cond (before rising y v) (halve y rising k n l (c / 2) t) (halve y rising k n (suc m) (c - c / 2) t))

  -- k segments: up to 12 in order, above by halving. As many halvings as k has bits are enough
  unfoldable pub find : Float → Bool → ℕ → Evaluations → Outcome
  find y rising k ev =
      let few = tries k 0 ev in
      let many = halve y rising k (bits_of k) 0 k ev in
      cond (leb k 12) few many
