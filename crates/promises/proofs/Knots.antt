-- Which knot is told: 4 tells the first knot out of range, and 10 the first whose step to the next goes against the direction; of the calls. Assumes nothing.
use Rattle.inverse_segment.specs.declared.Miss.TheVariants.{Refused}
use Rattle.std.specs.Prelude.{Err}
use mathlib.Core.Path.{◌≡◌, refl, sym, subst, ◌∙◌}
use mathlib.Core.Bool.{Bool, true, false, not, cond, ◌&&◌, true≢false}
use mathlib.Core.List.{List, [], ◌∷◌}
use Prim.Native.Nat.{ℕ, zero, suc, ◌<◌, ◌≤◌}
use native.Mathlib.Omega.{arith}
use borrow.Author.Tests.{not-true}
use lib.Dec.{T}
use lib.ListN.{length, get_or}
use lib.Ieee.{Float, nan}
use Rattle.error.specs.declared.Refusal.TheVariants.{BadKnot, TurnsBack}
use Rattle.error.specs.Refusals.{Uses, rows, applies, refusal_by}
use Rattle.error.proofs.First.{First, first_applies}
use Rattle.checks.specs.Checks.{in_range, all_in_range, first_bad}
use Rattle.spline.specs.Evaluation.{spline_uses, spline_segment_uses}
use Rattle.inverse_segment.specs.Answer.{inverse_segment_uses, default_limit, default_precision}
use Rattle.inverse_segment.specs.declared.Method.TheVariants.{AsCrate}
use Rattle.inverse_order.specs.declared.EndsBy.TheVariants.{Knots}
use Rattle.inverse.specs.Inverse.{inverse_uses}
use Rattle.inverse_order.proofs.TurnsBack.{AgainstAt}
use Rattle.inverse.proofs.Refusing.{inverse_turns_back}
use Rattle.convert.specs.Conversion.{convert_segment_uses, convert_uses}
use Rattle.spline.proofs.spline.Reads as spline
use Rattle.spline.proofs.spline_segment.Reads as spline_segment
use Rattle.inverse_segment.proofs.spline_inverse_segment_with.Reads as spline_inverse_segment_with
use Rattle.inverse_segment.proofs.spline_inverse_segment.Reads as spline_inverse_segment
use Rattle.inverse_segment.proofs.spline_inverse_segment_by.Reads as spline_inverse_segment_by
use Rattle.inverse.proofs.spline_inverse_by.Reads as spline_inverse_by
use Rattle.inverse.proofs.spline_inverse_with.Reads as spline_inverse_with
use Rattle.inverse.proofs.spline_inverse.Reads as spline_inverse
use Rattle.convert.proofs.convert_segment.Reads as convert_segment
use Rattle.convert.proofs.convert_spline.Reads as convert_spline
use Rattle.promises.proofs.Refusing.{
  spline_refuses,
  spline_segment_refuses,
  spline_inverse_segment_with_refuses,
  spline_inverse_segment_refuses,
  spline_inverse_segment_by_refuses,
  spline_inverse_by_refuses,
  spline_inverse_with_refuses,
  spline_inverse_refuses,
  convert_segment_refuses,
  convert_spline_refuses,
}
use Rattle.calls.specs.Calls.{Keeps}

-- ---- 4
-- knot i is out of range, and none before it
pub record FirstBad (ks : List Float) (i : ℕ) : Type 0 where
  pub below : i < length ks
  pub bad : in_range (get_or ks i nan) ≡ false
  pub before : (j : ℕ) → j < i → in_range (get_or ks j nan) ≡ true

after : (x : Float) (xs : List Float) (i : ℕ) → in_range x ≡ true → FirstBad xs i → FirstBad (x ∷ xs) (suc i)
after x xs i e r = record { below = omega (arith, r.below); bad = r.bad; before = go }
  where
    go : (j : ℕ) → j < suc i → in_range (get_or (x ∷ xs) j nan) ≡ true
    go zero l = e
    go (suc j) l = r.before j (omega (arith, l))

pub first_bad_first : (ks : List Float) → all_in_range ks ≡ false → FirstBad ks (first_bad ks)
unfolding all_in_range first_bad
first_bad_first [] h = absurd (true≢false h)
first_bad_first (x ∷ xs) h = go (in_range x) refl h (first_bad_first xs)
  where
    go : (t : Bool) → in_range x ≡ t → (t && all_in_range xs) ≡ false → (all_in_range xs ≡ false → FirstBad xs (first_bad xs))
        → FirstBad (x ∷ xs) (cond t (suc (first_bad xs)) 0)
    go true e k r = after x xs (first_bad xs) e (r k)
    go false e k r = record { below = omega arith; bad = e; before = λ j l. absurd (omega (arith, l)) }

pub knot_first : (us : Uses) (ks : List Float) (i : ℕ) → applies 4 us ≡ not (all_in_range ks) → refusal_by 4 us ≡ BadKnot (first_bad ks)
    → First us rows (BadKnot i) → FirstBad ks i
knot_first us ks i a b f =
    let p = first_applies us rows (BadKnot i) f in
    let h : all_in_range ks ≡ false = not-true (all_in_range ks) (sym a ∙ p.0) in
    let w : BadKnot (first_bad ks) ≡ BadKnot i = sym b ∙ p.1 in
    let q : first_bad ks ≡ i = cc in
    subst (FirstBad ks) q (first_bad_first ks h)

pub spline_first_bad : Keeps spline.Learnt (λ κs a z e. (i : ℕ) → z ≡ Err (BadKnot i) → FirstBad a.1.1.0.now i)
spline_first_bad κs a z e p i h =
    knot_first (spline_uses a.0 a.1.0 a.1.1.0.now) a.1.1.0.now i refl refl ((spline_refuses κs a z e p (BadKnot i)).0 h)

pub spline_segment_first_bad : Keeps spline_segment.Learnt (λ κs a z e. (i : ℕ) → z ≡ Err (BadKnot i) → FirstBad a.1.1.0.now i)
spline_segment_first_bad κs a z e p i h =
    knot_first (spline_segment_uses a.1.0 a.1.1.0.now) a.1.1.0.now i refl refl ((spline_segment_refuses κs a z e p (BadKnot i)).0 h)

pub spline_inverse_segment_with_first_bad : Keeps spline_inverse_segment_with.Learnt
    (λ κs a z e. (i : ℕ) → z ≡ Err (Refused (BadKnot i)) → FirstBad a.1.1.0.now i)
spline_inverse_segment_with_first_bad κs a z e p i h =
    knot_first (inverse_segment_uses a.1.0 a.1.1.0.now a.1.1.1.0 a.1.1.1.1.0) a.1.1.0.now i refl refl
    ((spline_inverse_segment_with_refuses κs a z e p (BadKnot i)).0 h)

pub spline_inverse_segment_first_bad : Keeps spline_inverse_segment.Learnt (λ κs a z e. (i : ℕ) → z ≡ Err (Refused (BadKnot i)) → FirstBad a.1.1.0.now i)
spline_inverse_segment_first_bad κs a z e p i h =
    knot_first (inverse_segment_uses a.1.0 a.1.1.0.now default_limit default_precision) a.1.1.0.now i refl refl
    ((spline_inverse_segment_refuses κs a z e p (BadKnot i)).0 h)

pub spline_inverse_segment_by_first_bad : Keeps spline_inverse_segment_by.Learnt
    (λ κs a z e. (i : ℕ) → z ≡ Err (Refused (BadKnot i)) → FirstBad a.1.1.0.now i)
spline_inverse_segment_by_first_bad κs a z e p i h =
    knot_first (inverse_segment_uses a.1.0 a.1.1.0.now a.1.1.1.0 a.1.1.1.1.0) a.1.1.0.now i refl refl
    ((spline_inverse_segment_by_refuses κs a z e p (BadKnot i)).0 h)

pub spline_inverse_by_first_bad : Keeps spline_inverse_by.Learnt (λ κs a z e. (i : ℕ) → z ≡ Err (Refused (BadKnot i)) → FirstBad a.1.1.1.0.now i)
spline_inverse_by_first_bad κs a z e p i h =
    knot_first (inverse_uses a.1.0 a.1.1.0 a.1.1.1.0.now a.0.check a.0.limit a.0.precision) a.1.1.1.0.now i refl refl
    ((spline_inverse_by_refuses κs a z e p (BadKnot i)).0 h)

pub spline_inverse_with_first_bad : Keeps spline_inverse_with.Learnt (λ κs a z e. (i : ℕ) → z ≡ Err (Refused (BadKnot i)) → FirstBad a.1.1.0.now i)
spline_inverse_with_first_bad κs a z e p i h =
    knot_first (inverse_uses a.0 a.1.0 a.1.1.0.now a.1.1.1.0 a.1.1.1.1.0 a.1.1.1.1.1.0) a.1.1.0.now i refl refl
    ((spline_inverse_with_refuses κs a z e p (BadKnot i)).0 h)

pub spline_inverse_first_bad : Keeps spline_inverse.Learnt (λ κs a z e. (i : ℕ) → z ≡ Err (Refused (BadKnot i)) → FirstBad a.1.1.0.now i)
spline_inverse_first_bad κs a z e p i h =
    knot_first (inverse_uses a.0 a.1.0 a.1.1.0.now a.1.1.1.0 default_limit default_precision) a.1.1.0.now i refl refl
    ((spline_inverse_refuses κs a z e p (BadKnot i)).0 h)

pub convert_segment_first_bad : Keeps convert_segment.Learnt (λ κs a z e. (i : ℕ) → z ≡ Err (BadKnot i) → FirstBad a.1.1.0.now i)
convert_segment_first_bad κs a z e p i h =
    knot_first (convert_segment_uses a.1.0 a.1.1.0.now (length a.1.1.1.0.now)) a.1.1.0.now i refl refl
    ((convert_segment_refuses κs a z e p (BadKnot i)).0 h)

pub convert_spline_first_bad : Keeps convert_spline.Learnt (λ κs a z e. (i : ℕ) → z ≡ Err (BadKnot i) → FirstBad a.1.1.0.now i)
convert_spline_first_bad κs a z e p i h =
    knot_first (convert_uses a.0 a.1.0 a.1.1.0.now (length a.1.1.1.0.now)) a.1.1.0.now i refl refl
    ((convert_spline_refuses κs a z e p (BadKnot i)).0 h)

-- ---- 10: only where the order check is wanted
pub spline_inverse_by_first_turn : Keeps spline_inverse_by.Learnt
    (λ κs a z e. (i : ℕ) → z ≡ Err (Refused (TurnsBack i))
    → T a.0.check × AgainstAt a.1.1.1.0.now i × ((j : ℕ) → AgainstAt a.1.1.1.0.now j → i ≤ j))
spline_inverse_by_first_turn κs a z e p i h =
    inverse_turns_back a.0.ends a.0.method a.1.0 a.1.1.0 a.1.1.1.0.now a.0.check a.0.limit a.0.precision i (sym p ∙ h)

pub spline_inverse_with_first_turn : Keeps spline_inverse_with.Learnt
    (λ κs a z e. (i : ℕ) → z ≡ Err (Refused (TurnsBack i))
    → T a.1.1.1.0 × AgainstAt a.1.1.0.now i × ((j : ℕ) → AgainstAt a.1.1.0.now j → i ≤ j))
spline_inverse_with_first_turn κs a z e p i h =
    inverse_turns_back Knots AsCrate a.0 a.1.0 a.1.1.0.now a.1.1.1.0 a.1.1.1.1.0 a.1.1.1.1.1.0 i (sym p ∙ h)

pub spline_inverse_first_turn : Keeps spline_inverse.Learnt
    (λ κs a z e. (i : ℕ) → z ≡ Err (Refused (TurnsBack i))
    → T a.1.1.1.0 × AgainstAt a.1.1.0.now i × ((j : ℕ) → AgainstAt a.1.1.0.now j → i ≤ j))
spline_inverse_first_turn κs a z e p i h =
    inverse_turns_back Knots AsCrate a.0 a.1.0 a.1.1.0.now a.1.1.1.0 default_limit default_precision i (sym p ∙ h)
