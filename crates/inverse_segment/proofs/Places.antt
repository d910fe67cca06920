-- The inversion of one segment: what its answer owes, for any lawful rule and any function of the local place
-- that is a number on 0 to 1. Assumes nothing.
use mathlib.Core.Path.{◌≡◌, refl}
use mathlib.Core.Logic.{inl, inr}
use mathlib.Core.Bool.{Bool, true, false, not, cond, ◌&&◌}
use Prim.Native.Nat.{ℕ, zero, suc, ◌+◌}
use native.Mathlib.Omega.{arith}
use lib.Dec.{T}
use lib.ListN.{length}
use lib.Ieee.{Float, lt, le, fits, is_nan}
use lib.Ieee.Fits.{and_l, and_r, and_i}
use Rattle.doubles.specs.Numbers.{nought, one}
use Rattle.doubles.proofs.Tests.{branch}
use Rattle.doubles.proofs.Order.{lt→le, not-lt→le, le_trans_float}
use Rattle.doubles.proofs.Units.{nought_in, one_in}
use Rattle.doubles.proofs.Interpolation.{Inside}
use Rattle.inverse_segment.specs.Evaluations.{Evaluations}
use Rattle.inverse_segment.specs.Round.{Rule, Round, found, on, round_of}
use Rattle.inverse_segment.specs.Rounds.{Arrival, rounds}
use Rattle.inverse_segment.specs.Segment.{encloses, near, opening, start, entered, Entry, outside, inside, enter}
use Rattle.inverse_segment.proofs.Ends.{both}
use Rattle.inverse_segment.proofs.Stops.{rounds_segment}
use Rattle.inverse_segment.proofs.Rules.{Lawful}
use Rattle.inverse_segment.proofs.Enclosing.{Numbers, Bracketed, Sound, Fine, midpoint_inside, round_fine}

-- ---- the rounds
abbrev pub SoundAt : (Float → Float) → Float → Float → Bool → ℕ → ℕ → Arrival → Type 0
SoundAt f y ε rising limit base p = Sound f y ε rising limit base p.ground p.local p.lower p.upper (length p.made)

module _ (R : Rule) (lawful : Lawful R) (f : Float → Float) (s : ℕ) (y ε : Float) (rising : Bool) (limit : ℕ) (numbers : Numbers f y) (base : ℕ) where
  rounds_sound : (n i : ℕ) (t : Round) → i + n ≡ limit → Fine R lawful f s y ε rising limit numbers base i t
      → SoundAt f y ε rising limit base (rounds R f s y ε rising limit n i t)
  unfolding rounds
  rounds_sound zero i (found g x b ev) e h = h
  rounds_sound zero i (on st ev) e h =
      record {
        bracketed = h.0;
        inside = midpoint_inside R lawful f s y ε rising limit numbers base st.bracket h.0;
        says = omega arith;
        count = omega arith;
      }
  rounds_sound (suc n) i (found g x b ev) e h = h
  rounds_sound (suc n) i (on st ev) e h =
      rounds_sound n (suc i) (round_of R f s y ε rising limit i st ev) (omega arith)
      (round_fine R lawful f s y ε rising limit numbers base i st ev (omega arith) h.0 h.1)

-- ---- the ends
split_encloses : (p : Bool) (a b c d : Bool) → T (cond p (a && b) (c && d)) → T (cond p a d) × T (cond p b c)
split_encloses true a b c d h = (and_l a b h, and_r a b h)
split_encloses false a b c d h = (and_r c d h, and_l c d h)

opening_bracketed : (f : Float → Float) (y : Float) → T (encloses (f nought) (f one) y) → Bracketed f y (lt (f nought) (f one)) nought one
unfolding le lt
opening_bracketed f y h =
    let r = split_encloses (lt (f nought) (f one)) (le (f nought) y) (le y (f one)) (le (f one) y) (le y (f nought)) h in
    record { lower_in = nought_in; upper_in = one_in; order = tt; at_lower = r.0; at_upper = r.1 }

nought_inside : Inside nought one nought
unfolding le lt fits
nought_inside = record { sign = tt; held = tt; above = tt; below = tt }

one_inside : Inside nought one one
unfolding le lt fits
one_inside = record { sign = tt; held = tt; above = tt; below = tt }

-- a value not past the target and one not before it enclose it, as the test of a segment's ends has it
pub encloses_of : (rising : Bool) (v0 v1 y : Float) → T (not (is_nan v0)) → T (not (is_nan v1)) → T (cond rising (le v0 y) (le y v0))
    → T (cond rising (le y v1) (le v1 y)) → T (encloses v0 v1 y)
encloses_of true v0 v1 y m n a b =
    branch (λ (t : Bool). T t) (lt v0 v1) (λ _. and_i (le v0 y) (le y v1) a b)
    (λ k. let o = not-lt→le v0 v1 m n k in and_i (le v1 y) (le y v0) (le_trans_float v1 v0 y o a) (le_trans_float y v1 v0 b o))
encloses_of false v0 v1 y m n a b =
    branch (λ (t : Bool). T t) (lt v0 v1)
    (λ k. let o = lt→le v0 v1 k in and_i (le v0 y) (le y v1) (le_trans_float v0 v1 y o b) (le_trans_float y v0 v1 a o))
    (λ _. and_i (le v1 y) (le y v0) b a)

pub bracket_encloses : (f : Float → Float) (y : Float) (rising : Bool) {lower upper : Float} → Numbers f y → Bracketed f y rising lower upper
    → T (encloses (f lower) (f upper) y)
bracket_encloses f y rising {lower} {upper} n h =
    encloses_of rising (f lower) (f upper) y (n.values lower h.lower_in) (n.values upper h.upper_in) h.at_lower h.at_upper

-- ---- the segment
-- what the trial of segment s tells, ev being the evaluations before it
pub data Tells (f : Float → Float) (s : ℕ) (y ε : Float) (limit : ℕ) (ev : Evaluations) : Entry → Type 0 where
  missed : T (not (encloses (f nought) (f one) y)) → Tells f s y ε limit ev (outside (f nought) (both s ev))
  hit : {p : Arrival} → T (encloses (f nought) (f one) y) → SoundAt f y ε (lt (f nought) (f one)) limit (length ev + 2) p → p.segment ≡ s
      → Tells f s y ε limit ev (inside p)

module _ (R : Rule) (lawful : Lawful R) (f : Float → Float) (s : ℕ) (y ε : Float) (limit : ℕ) (ev : Evaluations) (numbers : Numbers f y) where
  entered_sound : T (encloses (f nought) (f one) y) → let p = entered R f s y ε limit (f nought) (f one) (both s ev)
      in SoundAt f y ε (lt (f nought) (f one)) limit (length ev + 2) p × (p.segment ≡ s)
  unfolding entered
  entered_sound h =
      let rising = lt (f nought) (f one) in
      let w = opening_bracketed f y h in
      let t = on (start (opening (f nought) (f one))) (both s ev) in
      let P : Arrival → Type 0 = λ p. SoundAt f y ε rising limit (length ev + 2) p × (p.segment ≡ s) in
      branch P (near y (f nought) ε) (λ k. (record { bracketed = w; inside = nought_inside; says = inl (refl, k); count = omega arith }, refl))
      (λ far. branch P (near y (f one) ε) (λ k. (record { bracketed = w; inside = one_inside; says = inr (refl, far, k); count = omega arith }, refl))
      (λ _. (
        rounds_sound R lawful f s y ε rising limit numbers (length ev + 2) limit 0 t (omega arith) (w, omega arith),
        rounds_segment R f s y ε rising limit limit 0 t,
      )))

  pub enter_tells : Tells f s y ε limit ev (enter R f s y ε limit ev)
  unfolding enter
  enter_tells =
      branch (Tells f s y ε limit ev) (encloses (f nought) (f one) y)
      (λ h. let r = entered_sound h in hit h r.0 r.1)
      (λ k. missed k)
