-- The secant's rule is lawful, and a lawful rule kept to the pace is lawful: so is the steady rule, and all that is proved of a lawful rule holds of it.
-- Assumes nothing.
use mathlib.Core.Path.{◌≡◌, refl, subst₂}
use mathlib.Core.Bool.{true, false, ◌&&◌}
use Prim.Native.Nat.{ℕ}
use lib.Dec.{T}
use lib.Ieee.{Float, nan, inf, fin, binary64, sub, mul, div, lt, fits}
use lib.Ieee.Fits.{and_l, and_r, add-fits}
use Rattle.doubles.specs.Lerp.{lerp_of}
use Rattle.doubles.proofs.Tests.{branch}
use Rattle.doubles.proofs.Order.{lt→le}
use Rattle.doubles.proofs.Units.{clear}
use Rattle.doubles.proofs.Interpolation.{Inside}
use Rattle.inverse_segment.specs.declared.Bracket.{Bracket}
use Rattle.inverse_segment.specs.declared.State.{State}
use Rattle.inverse_segment.specs.Round.{toward, weighed, Choice, Rule}
use Rattle.inverse_segment.proofs.Weighting.{toward_keeps}
use Rattle.inverse_segment.proofs.Rules.{chord_lawful, as_crate_lawful, Placing, Lawful, half_inside, weighed_lower, weighed_upper}
use Rattle.inverse_segment.specs.declared.Method.{Method}
use Rattle.inverse_segment.specs.declared.Method.TheVariants.{AsCrate, Taught, Steady}
use Rattle.inverse_segment.specs.Method.{rule_of}
use Rattle.inverse_segment.specs.Steady.{allowed, inner, secant, paced, steady}

-- a number above one that is not negative has the sign clear; below one, it is finite
clear_above : (a x b : Float) → T (clear a) → T (clear b) → T (lt a x) → T (lt x b) → T (clear x)
unfolding lt
clear_above nan x b c d h k = absurd c
clear_above (inf s) x b c d h k = absurd c
clear_above (fin true m e) x b c d h k = absurd c
clear_above (fin false m e) nan b c d h k = h
clear_above (fin false m e) (inf true) b c d h k = h
clear_above (fin false m e) (inf false) nan c d h k = d
clear_above (fin false m e) (inf false) (inf s) c d h k = d
clear_above (fin false m e) (inf false) (fin s n r) c d h k = k
clear_above (fin false m e) (fin true n r) b c d h k = h
clear_above (fin false m e) (fin false n r) b c d h k = tt

inner_inside : (b : Bracket) (x : Float) → T (fits binary64 x) → Placing b → Inside b.lower b.upper (inner b x)
unfolding inner
inner_inside b x f p =
    let l = lt b.lower x in
    let u = lt x b.upper in
    branch (λ (z : Float). Inside b.lower b.upper z) (l && u)
    (λ h. record {
      sign = clear_above b.lower x b.upper p.lower_in.sign p.upper_in.sign (and_l l u h) (and_r l u h);
      held = f;
      above = lt→le b.lower x (and_l l u h);
      below = lt→le x b.upper (and_r l u h);
    })
    (λ _. half_inside b p)

lerp_fits : (lower upper t : Float) → T (fits binary64 (lerp_of lower upper t))
unfolding lerp_of
lerp_fits lower upper t = add-fits binary64 lower (mul binary64 (sub binary64 upper lower) t)

-- ---- the secant's rule
module _ (limit i : ℕ) (y : Float) (st : State) where
  weighed_placing : Placing st.bracket → Placing (weighed toward y true st)
  weighed_placing p = record {
    lower_in = rw (weighed_lower toward toward_keeps y true st) p.lower_in;
    upper_in = rw (weighed_upper toward toward_keeps y true st) p.upper_in;
    order = rw (weighed_lower toward toward_keeps y true st, weighed_upper toward toward_keeps y true st) p.order;
  }

  secant_between : Placing st.bracket → Inside st.bracket.lower st.bracket.upper (secant limit i y st).place
  unfolding secant
  secant_between p =
      let b = weighed toward y true st in
      let t = div binary64 (sub binary64 y b.v0) (sub binary64 b.v1 b.v0) in
      subst₂ (λ (l u : Float). Inside l u (inner b (lerp_of b.lower b.upper t))) (weighed_lower toward toward_keeps y true st)
      (weighed_upper toward toward_keeps y true st)
      (inner_inside b (lerp_of b.lower b.upper t) (lerp_fits b.lower b.upper t) (weighed_placing p))

pub secant_lawful : Lawful secant
unfolding secant
secant_lawful =
    record {
      same_lower = λ limit i y st. weighed_lower toward toward_keeps y true st;
      same_upper = λ limit i y st. weighed_upper toward toward_keeps y true st;
      between = secant_between;
    }

-- ---- a rule kept to the pace
module _ (R : Rule) (lawful : Lawful R) where
  pub paced_lawful : Lawful (paced R)
  unfolding paced
  paced_lawful = record {
    same_lower =
        λ limit i y st. branch (λ (c : Choice). c.bracket.lower ≡ st.bracket.lower)
        (lt (allowed i) (sub binary64 st.bracket.upper st.bracket.lower)) (λ _. refl) (λ _. lawful.same_lower limit i y st);
    same_upper =
        λ limit i y st. branch (λ (c : Choice). c.bracket.upper ≡ st.bracket.upper)
        (lt (allowed i) (sub binary64 st.bracket.upper st.bracket.lower)) (λ _. refl) (λ _. lawful.same_upper limit i y st);
    between =
        λ limit i y st p. branch (λ (c : Choice). Inside st.bracket.lower st.bracket.upper c.place)
        (lt (allowed i) (sub binary64 st.bracket.upper st.bracket.lower)) (λ _. half_inside st.bracket p)
        (λ _. lawful.between limit i y st p);
  }

pub steady_lawful : Lawful steady
steady_lawful = paced_lawful secant secant_lawful

-- ---- each method's rule
pub lawful_of : (how : Method) → Lawful (rule_of how)
lawful_of AsCrate = as_crate_lawful
lawful_of Taught = chord_lawful toward toward_keeps
lawful_of Steady = steady_lawful
