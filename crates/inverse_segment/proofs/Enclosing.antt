-- One round: the bracket stays in 0 to 1 and keeps the target between its values. For any lawful rule,
-- and any function of the local place that is a number on 0 to 1. Assumes nothing.
use mathlib.Core.Path.{◌≡◌, sym, subst₂}
use mathlib.Core.Logic.{◌⊎◌}
use mathlib.Core.Bool.{Bool, true, false, not, cond, beq}
use Prim.Native.Nat.{ℕ, suc, ◌+◌, ◌≤◌}
use native.Mathlib.Omega.{arith}
use lib.Dec.{T}
use lib.ListN.{length}
use lib.Ieee.{Float, binary64, sub, mul, lt, le, is_nan}
use lib.Ieee.Fits.{sub-fits}
use Rattle.doubles.specs.Numbers.{nought, one, trillionth, magnitude_of}
use Rattle.doubles.proofs.Tests.{branch}
use Rattle.doubles.proofs.Order.{lt→le, not-lt→le, le_trans_float, lt_le_absurd}
use Rattle.doubles.proofs.Units.{clear, InUnit, le_refl_clear, magnitude_clear, sub_clear, trillionth_le}
use Rattle.doubles.proofs.Interpolation.{Inside}
use Rattle.inverse_segment.specs.declared.Ground.{Ground}
use Rattle.inverse_segment.specs.declared.Ground.TheVariants.{End, Edge, Value, Width, Spent}
use Rattle.inverse_segment.specs.declared.Bracket.{Bracket}
use Rattle.inverse_segment.specs.declared.State.{State}
use Rattle.inverse_segment.specs.Evaluations.{Evaluations}
use Rattle.inverse_segment.specs.Round.{greater, narrow, midpoint, Rule, moved, Round, found, on, settled, probed, round_of}
use Rattle.inverse_segment.specs.Segment.{near}
use Rattle.inverse_segment.proofs.Rules.{Placing, Lawful, half_inside}

-- the target is a number, and so is each value on 0 to 1
pub record Numbers (f : Float → Float) (y : Float) : Type 0 where
  pub target : T (not (is_nan y))
  pub values : (x : Float) → InUnit x → T (not (is_nan (f x)))

-- both places lie in 0 to 1, the lower not above the upper; the value at the lower is not past y, the value at the upper not before it
pub record Bracketed (f : Float → Float) (y : Float) (rising : Bool) (lower upper : Float) : Type 0 where
  pub lower_in : InUnit lower
  pub upper_in : InUnit upper
  pub order : T (le lower upper)
  pub at_lower : T (cond rising (le (f lower) y) (le y (f lower)))
  pub at_upper : T (cond rising (le y (f upper)) (le (f upper) y))

inside_in : {lower upper x : Float} → Inside lower upper x → InUnit upper → InUnit x
inside_in {lower} {upper} {x} i u = record { sign = i.sign; held = i.held; top = le_trans_float x upper one i.below u.top }

-- ---- the width
under_greater : (w t ε : Float) → T (le t w) → T (lt w (greater ε t)) → T (lt w ε)
under_greater w t ε h = branch (λ (z : Float). T (lt w z) → T (lt w ε)) (lt t ε) (λ _ k. k) (λ _ k. absurd (lt_le_absurd w t k h))

narrow_width : (ε : Float) (b : Bracket) → InUnit b.lower → InUnit b.upper → T (le b.lower b.upper) → T (narrow ε b)
    → T (lt (sub binary64 b.upper b.lower) ε)
unfolding narrow
narrow_width ε b l u o n =
    let w = sub binary64 b.upper b.lower in
    let c : T (clear w) = sub_clear b.lower b.upper l.held u.held l.sign u.sign o in
    under_greater w (mul binary64 w trillionth) ε (trillionth_le w (sub-fits binary64 b.upper b.lower) c) (rw (magnitude_clear w c) at n)

-- ---- the side of the target
beq_true : (b : Bool) → T (beq b true) → T b
beq_true true h = tt
beq_true false h = h

beq_false : (b : Bool) → T (beq b false) → T (not b)
beq_false true h = h
beq_false false h = tt

nbeq_true : (b : Bool) → T (not (beq b true)) → T (not b)
nbeq_true true h = h
nbeq_true false h = tt

nbeq_false : (b : Bool) → T (not (beq b false)) → T b
nbeq_false true h = tt
nbeq_false false h = h

lower_says : (rising : Bool) (v y : Float) → T (not (is_nan v)) → T (not (is_nan y)) → T (beq (lt v y) rising) → T (cond rising (le v y) (le y v))
lower_says true v y n m h = lt→le v y (beq_true (lt v y) h)
lower_says false v y n m h = not-lt→le v y n m (beq_false (lt v y) h)

upper_says : (rising : Bool) (v y : Float) → T (not (is_nan v)) → T (not (is_nan y)) → T (not (beq (lt v y) rising)) → T (cond rising (le y v) (le v y))
upper_says true v y n m h = not-lt→le v y n m (nbeq_true (lt v y) h)
upper_says false v y n m h = lt→le v y (nbeq_false (lt v y) h)

-- ---- what an answer tells: `base` evaluations were made before the rounds
module _ (f : Float → Float) (y ε : Float) (rising : Bool) (limit base : ℕ) where
  -- what each ground says of the local place, the bracket and the count
  abbrev pub Says : Ground → Float → Float → Float → ℕ → Type 0
  Says End x lower upper n = ⊥
  Says Edge x lower upper n = ((x ≡ nought) × T (near y (f nought) ε)) ⊎ ((x ≡ one) × T (not (near y (f nought) ε)) × T (near y (f one) ε))
  Says Value x lower upper n = T (lt (magnitude_of (sub binary64 (f x) y)) ε)
  Says Width x lower upper n = T (lt (sub binary64 upper lower) ε)
  Says Spent x lower upper n = n ≡ base + limit

  pub record Sound (g : Ground) (x lower upper : Float) (n : ℕ) : Type 0 where
    pub bracketed : Bracketed f y rising lower upper
    pub inside : Inside lower upper x
    pub says : Says g x lower upper n
    pub count : n ≤ base + limit

-- ---- the round
module _ (R : Rule) (lawful : Lawful R) (f : Float → Float) (s : ℕ) (y ε : Float) (rising : Bool) (limit : ℕ) (numbers : Numbers f y) (base : ℕ) where
  -- i rounds are done
  abbrev pub Fine : ℕ → Round → Type 0
  Fine i (found g x b ev) = Sound f y ε rising limit base g x b.lower b.upper (length ev)
  Fine i (on st ev) = Bracketed f y rising st.bracket.lower st.bracket.upper × (length ev ≡ base + i)

  -- the bracket after a move, and the place that it moved to
  moved_bracketed : (p : Bool) (b : Bracket) (st : State) (x : Float) → Bracketed f y rising b.lower b.upper → Inside b.lower b.upper x
      → (T p → T (cond rising (le (f x) y) (le y (f x)))) → (T (not p) → T (cond rising (le y (f x)) (le (f x) y)))
      → Bracketed f y rising (moved p b st x (f x)).bracket.lower (moved p b st x (f x)).bracket.upper
      × Inside (moved p b st x (f x)).bracket.lower (moved p b st x (f x)).bracket.upper x
  unfolding moved
  moved_bracketed true b st x h i l u = (
    record { lower_in = inside_in i h.upper_in; upper_in = h.upper_in; order = i.below; at_lower = l tt; at_upper = h.at_upper },
    record { sign = i.sign; held = i.held; above = le_refl_clear x i.held i.sign; below = i.below },
  )
  moved_bracketed false b st x h i l u = (
    record { lower_in = h.lower_in; upper_in = inside_in i h.upper_in; order = i.above; at_lower = h.at_lower; at_upper = u tt },
    record { sign = i.sign; held = i.held; above = i.above; below = le_refl_clear x i.held i.sign },
  )

  settled_fine : (i : ℕ) (b : Bracket) (st : State) (x : Float) (ev : Evaluations) → suc i ≤ limit → Bracketed f y rising b.lower b.upper
      → Inside b.lower b.upper x → length ev ≡ base + suc i
      → Fine (suc i) (settled y ε rising b st x (f x) ev)
  unfolding settled
  settled_fine i b st x ev I h n c =
      let v : T (not (is_nan (f x))) = numbers.values x (inside_in n h.upper_in) in
      let m =
      moved_bracketed (beq (lt (f x) y) rising) b st x h n (lower_says rising (f x) y v numbers.target)
      (upper_says rising (f x) y v numbers.target) in
      branch (Fine (suc i)) (lt (magnitude_of (sub binary64 (f x) y)) ε) (λ k. record { bracketed = m.0; inside = m.1; says = k; count = omega arith })
      (λ _. (m.0, c))

  placing : (b : Bracket) → Bracketed f y rising b.lower b.upper → Placing b
  placing b h = record { lower_in = h.lower_in; upper_in = h.upper_in; order = h.order }

  pub midpoint_inside : (b : Bracket) → Bracketed f y rising b.lower b.upper → Inside b.lower b.upper (midpoint b)
  midpoint_inside b h = half_inside b (placing b h)

  pub round_fine : (i : ℕ) (st : State) (ev : Evaluations) → suc i ≤ limit → Bracketed f y rising st.bracket.lower st.bracket.upper
      → length ev ≡ base + i
      → Fine (suc i) (round_of R f s y ε rising limit i st ev)
  unfolding round_of probed
  round_fine i st ev I h c =
      branch (Fine (suc i)) (narrow ε st.bracket)
      (λ k. record {
        bracketed = h;
        inside = midpoint_inside st.bracket h;
        says = narrow_width ε st.bracket h.lower_in h.upper_in h.order k;
        count = omega arith;
      })
      (λ _.
      let r = R limit i y st in
      let e = lawful.same_lower limit i y st in
      let d = lawful.same_upper limit i y st in
      settled_fine i r.bracket st r.place _ I (subst₂ (λ (l u : Float). Bracketed f y rising l u) (sym e) (sym d) h)
      (subst₂ (λ (l u : Float). Inside l u r.place) (sym e) (sym d) (lawful.between limit i y st (placing st.bracket h))) (omega arith))
