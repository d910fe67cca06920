-- The next place of each method by what the code's calls give: the chord's, the one at the pace. Assumes nothing.
use mathlib.Core.Path.{◌≡◌, refl, ap, subst}
use mathlib.Core.Bool.{Bool, true, false}
use Prim.Native.Nat.{ℕ, ◌+◌}
use native.Mathlib.Numerals.{add-one}
use lib.IntN.{pos}
use lib.Ieee.{Float, fin, binary64, sub, mul, div, lt}
use Rattle.doubles.specs.Numbers.{half}
use Rattle.doubles.specs.Lerp.{lerp_of}
use Rattle.inverse_segment.specs.declared.Bracket.{Bracket}
use Rattle.inverse_segment.specs.declared.State.{State}
use Rattle.inverse_segment.specs.declared.Method.{Method}
use Rattle.inverse_segment.specs.declared.Method.TheVariants.{AsCrate, Taught, Steady}
use Rattle.inverse_segment.specs.declared.NextPlace.{NextPlace}
use Rattle.inverse_segment.specs.Round.{Weighting, toward, midpoint, uses_regula_falsi, weighed, fraction, Rule, chord}
use Rattle.inverse_segment.specs.Steady.{allowed, inner, secant, paced, steady}
use Rattle.inverse_segment.specs.Method.{rule_of}
use Rattle.inverse_segment.specs.Contract.{weighting_of, Chooses, ChordIs, PacedIs, ChoiceIs}

-- ---- the chord
pub chord_is : (W : Weighting) (limit i : ℕ) (y : Float) (regula_falsi : Bool) (st : State) → regula_falsi ≡ uses_regula_falsi limit i st
    → {a : Bracket} {t x : Float} → a ≡ weighed W y regula_falsi st → t ≡ fraction y regula_falsi a → x ≡ lerp_of a.lower a.upper t
    → (a ≡ (chord W limit i y st).bracket) × (x ≡ (chord W limit i y st).place)
unfolding chord
chord_is W limit i y regula_falsi st e e_a e-t e-x = (simp (← e) e_a, simp (← e) (cc))

-- ---- at the pace
module _ (limit i : ℕ) (y width : Float) (st : State) (e : width ≡ allowed i) where
  pub paced_middle : (x : Float) → lt width (sub binary64 st.bracket.upper st.bracket.lower) ≡ true → x ≡ midpoint st.bracket
      → (st.bracket ≡ (steady limit i y st).bracket) × (x ≡ (steady limit i y st).place)
  unfolding paced secant
  paced_middle x h m = (simp (← e, h), simp (← e, h, m))

  pub paced_chord : (a : Bracket) (t p x : Float) → lt width (sub binary64 st.bracket.upper st.bracket.lower) ≡ false → a ≡ weighed toward y true st
      → t ≡ div binary64 (sub binary64 y a.v0) (sub binary64 a.v1 a.v0) → p ≡ lerp_of a.lower a.upper t → x ≡ inner a p
      → (a ≡ (steady limit i y st).bracket) × (x ≡ (steady limit i y st).place)
  unfolding paced secant
  paced_chord a t p x h e_a e-t e-p e-x = (simp (← e, h) e_a, simp (← e, h) (cc))

-- the width allowed at first, and in the next round
pub first_width : fin false 1 (pos 4) ≡ allowed 0
unfolding allowed
first_width = refl

pub next_width : (i : ℕ) {width : Float} → width ≡ allowed i → mul binary64 width half ≡ allowed (i + 1)
unfolding allowed
next_width i e = rw (add-one) (ap (λ (z : Float). mul binary64 z half) e)

-- ---- by a method
-- the first two go by the chord
pub first_two : (how : Method) → (how ≡ Steady → ⊥) → chord (weighting_of how) ≡ rule_of how
first_two AsCrate h = refl
first_two Taught h = refl
first_two Steady h = absurd (h refl)

module _ (how : Method) (y : Float) (regula_falsi : Bool) (width : Float) (st : State) {r : NextPlace} where
  pub by_chord : chord (weighting_of how) ≡ rule_of how → ChordIs how y regula_falsi st r → ChoiceIs how y regula_falsi width st r
  by_chord e h limit i p q = subst (λ (R : Rule). Chooses R limit i y st r) e (h limit i p)

  pub by_pace : steady ≡ rule_of how → PacedIs y width st r → ChoiceIs how y regula_falsi width st r
  by_pace e h limit i p q = subst (λ (R : Rule). Chooses R limit i y st r) e (h limit i q)
