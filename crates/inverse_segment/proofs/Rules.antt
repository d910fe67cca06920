-- The law of a rule: the weighed bracket has the state's places, and the place chosen lies between them. The crate's rule keeps it, with any weighting
-- that keeps the places. Assumes nothing.
use mathlib.Core.Path.{◌≡◌, refl, sym, subst₂}
use mathlib.Core.Bool.{Bool, true, false, ◌&&◌}
use Prim.Native.Nat.{ℕ}
use lib.Dec.{T, ltb, eqb}
use lib.Ieee.{Float, nan, inf, fin, lt, le}
use lib.Ieee.Fits.{and_l, and_r}
use Rattle.doubles.specs.Numbers.{half, hundredth, ninety_nine_hundredths}
use Rattle.doubles.specs.Lerp.{lerp_of}
use Rattle.doubles.proofs.Tests.{branch}
use Rattle.doubles.proofs.Units.{clear, InUnit}
use Rattle.doubles.proofs.Interpolation.{Inside, lerp_inside}
use Rattle.inverse_segment.specs.declared.Bracket.{Bracket}
use Rattle.inverse_segment.specs.declared.State.{State}
use Rattle.inverse_segment.specs.declared.Side.TheVariants.{Lower}
use Rattle.inverse_segment.specs.Round.{
  is_last,
  Weighting,
  halving,
  midpoint,
  uses_regula_falsi,
  weighed,
  kept,
  fraction,
  Rule,
  chord,
  as_crate,
}
use Rattle.inverse_segment.proofs.Weighting.{Keeps, halving_keeps}

-- two places in 0 to 1, the lower not above the upper
pub record Placing (b : Bracket) : Type 0 where
  pub lower_in : InUnit b.lower
  pub upper_in : InUnit b.upper
  pub order : T (le b.lower b.upper)

pub record Lawful (R : Rule) : Type 0 where
  pub same_lower : (limit i : ℕ) (y : Float) (st : State) → (R limit i y st).bracket.lower ≡ st.bracket.lower
  pub same_upper : (limit i : ℕ) (y : Float) (st : State) → (R limit i y st).bracket.upper ≡ st.bracket.upper
  pub between : (limit i : ℕ) (y : Float) (st : State) → Placing st.bracket → Inside st.bracket.lower st.bracket.upper (R limit i y st).place

-- ---- the fraction
pub half_inside : (b : Bracket) → Placing b → Inside b.lower b.upper (midpoint b)
unfolding lt
half_inside b p = lerp_inside b.lower b.upper half p.lower_in.held p.upper_in.held p.lower_in.sign p.upper_in.sign tt p.order tt

clear_between : (t : Float) → T (lt hundredth t) → T (lt t ninety_nine_hundredths) → T (clear t)
unfolding lt
clear_between nan h k = h
clear_between (inf true) h k = h
clear_between (inf false) h k = k
clear_between (fin true m e) h k = h
clear_between (fin false m e) h k = tt

-- ---- weighing
module _ (W : Weighting) (keeps : Keeps W) (y : Float) (regula_falsi : Bool) (st : State) where
  pub weighed_lower : (weighed W y regula_falsi st).lower ≡ st.bracket.lower
  unfolding weighed
  weighed_lower =
      branch (λ (b : Bracket). b.lower ≡ st.bracket.lower) (regula_falsi && ltb 0 st.repeats) (λ _. keeps.keeps_lower y (is_last Lower st.side) st.bracket)
      (λ _. refl)

  pub weighed_upper : (weighed W y regula_falsi st).upper ≡ st.bracket.upper
  unfolding weighed
  weighed_upper =
      branch (λ (b : Bracket). b.upper ≡ st.bracket.upper) (regula_falsi && ltb 0 st.repeats) (λ _. keeps.keeps_upper y (is_last Lower st.side) st.bracket)
      (λ _. refl)

-- ---- the crate's rule
record Part (t : Float) : Type 0 where
  sign : T (clear t)
  under : T (lt t ninety_nine_hundredths)

half_part : Part half
unfolding lt
half_part = record { sign = tt; under = tt }

kept_part : (t : Float) → Part (kept t)
unfolding kept
kept_part t =
    let a = lt hundredth t in
    let b = lt t ninety_nine_hundredths in
    branch Part (a && b) (λ h. record { sign = clear_between t (and_l a b h) (and_r a b h); under = and_r a b h }) (λ _. half_part)

fraction_part : (y : Float) (regula_falsi : Bool) (b : Bracket) → Part (fraction y regula_falsi b)
unfolding fraction
fraction_part y regula_falsi b = branch Part regula_falsi (λ _. kept_part _) (λ _. half_part)

part_inside : (lower upper t : Float) → InUnit lower → InUnit upper → T (le lower upper) → Part t → Inside lower upper (lerp_of lower upper t)
part_inside lower upper t l u o p = lerp_inside lower upper t l.held u.held l.sign u.sign p.sign o p.under

chord_between : (W : Weighting) → Keeps W → (limit i : ℕ) (y : Float) (st : State) → Placing st.bracket
    → Inside st.bracket.lower st.bracket.upper (chord W limit i y st).place
unfolding chord
chord_between W keeps limit i y st p =
    let regula_falsi = uses_regula_falsi limit i st in
    let b = weighed W y regula_falsi st in
    subst₂ (λ (l u : Float). Inside st.bracket.lower st.bracket.upper (lerp_of l u (fraction y regula_falsi b)))
    (sym (weighed_lower W keeps y regula_falsi st))
    (sym (weighed_upper W keeps y regula_falsi st))
    (part_inside st.bracket.lower st.bracket.upper (fraction y regula_falsi b) p.lower_in p.upper_in p.order (fraction_part y regula_falsi b))

pub chord_lawful : (W : Weighting) → Keeps W → Lawful (chord W)
unfolding chord
chord_lawful W keeps =
    record {
      same_lower = λ limit i y st. weighed_lower W keeps y (uses_regula_falsi limit i st) st;
      same_upper = λ limit i y st. weighed_upper W keeps y (uses_regula_falsi limit i st) st;
      between = chord_between W keeps;
    }

pub as_crate_lawful : Lawful as_crate
as_crate_lawful = chord_lawful halving halving_keeps
