-- What a pattern's text tells of its double: the nearest multiple of 10^-d, no sign on zero, a word for what is no number or too large. Assumes nothing.
use mathlib.Core.Path.{◌≡◌, refl, sym, ap, ◌∙◌, subst}
use mathlib.Core.Bool.{Bool, true, false}
use mathlib.Core.List.{◌++◌}
use Prim.Native.Nat.{ℕ, suc, ◌+◌, ◌*◌, ◌-◌, ◌/◌, ◌%◌, ◌≤◌, ◌<◌, ◌^◌}
use native.Mathlib.Nat.{mul_assoc, mul-one, mul_right_comm, eq_of_mul-eq-mul_right, div-eq_of_lt, mod-eq_of_lt}
use native.Mathlib.Omega.{arith}
use borrow.Author.Tests.{le-ltb, ltb-true, ltb-false, le-leb, lt-leb, eq-eqb, ne_eqb}
use lib.Dec.{T, ltb}
use lib.Pow.{pow-add, pow_pos, mod-mod-pow}
use lib.Ieee.{Float, nan, inf, fin, binary64, up, down, odd, of_fields, of_bits, is_nan}
use lib.Ieee.Exact.{HasValue, odd_sign}
use lib.Ieee.Bits.{nan_bits_is, nan_bits_above, is_true}
use Rattle.text.specs.Text.{bytes, dec_text, double_of}
use Rattle.text_rounded.specs.Rounded.{
  minus_in,
  size_in,
  infinite,
  largest,
  significand_of,
  shift_of,
  units_of,
  fixed_text,
  sign_text,
  units_text,
  rounded_text,
}
use Rattle.text_rounded.proofs.Closest.{NearestTo, closest_nearest}
use Rattle.text_rounded.proofs.Parts.{small_significand, large_significand, small_shift, large_shift}

-- ---- the units are nearest to the magnitude, significand / 2^shift, in units of 10^-d: one law for every d
pub units_nearest : (d a : ℕ) → NearestTo (significand_of a * 10 ^ d) (2 ^ shift_of a) (units_of d a)
unfolding units_of
units_nearest d a = closest_nearest (significand_of a * 10 ^ d) (2 ^ shift_of a) (pow_pos (shift_of a))

-- ---- significand / 2^shift is the double's magnitude
rescaled : (x : Float) (s : Bool) (m k l : ℕ) → HasValue x s (m * 2 ^ k) (2 ^ (l + k)) → HasValue x s m (2 ^ l)
rescaled nan s m k l v = v
rescaled (inf t) s m k l v = v
rescaled (fin t n e) s m k l v = (
  v.0,
  eq_of_mul-eq-mul_right (2 ^ k) (pow_pos k) _ _
      (mul_assoc (n * up e) (2 ^ l) (2 ^ k) ∙ ap (λ (x : ℕ). n * up e * x) (sym (pow-add 2 l k)) ∙ v.1 ∙ mul_right_comm m (2 ^ k) (down e)),
)

below_hidden : (s : Bool) (a : ℕ) → a < 2 ^ 52 → HasValue (of_fields binary64 s (a / 2 ^ 52) (a % 2 ^ 52)) s (significand_of a) (2 ^ shift_of a)
unfolding of_fields
below_hidden s a h =
    rw (div-eq_of_lt h, mod-eq_of_lt h, ← small_significand a h, ← small_shift a h)
    (subst (λ (x : ℕ). HasValue (odd 53 s a 0 1074) s x (2 ^ 1074)) (mul-one a) (odd_sign 53 s a 0 1074))

with_hidden : (s : Bool) (a x : ℕ) → 2 ^ 52 ≤ a → a / 2 ^ 52 ≡ suc x → x < 1074
    → HasValue (of_fields binary64 s (a / 2 ^ 52) (a % 2 ^ 52)) s (significand_of a) (2 ^ shift_of a)
unfolding of_fields
with_hidden s a x h e l =
    let k : 1075 - a / 2 ^ 52 ≡ 1074 - x = omega arith in
    let b : 1074 - x + x ≡ 1074 = omega arith in
    let v : HasValue (odd 53 s (2 ^ 52 + a % 2 ^ 52) x 1074) s ((2 ^ 52 + a % 2 ^ 52) * 2 ^ x) (2 ^ (1074 - x + x)) =
    rw b (odd_sign 53 s (2 ^ 52 + a % 2 ^ 52) x 1074) in
    rw (← large_significand a h, ← large_shift a h, k, e, ne_eqb (suc x) 2047 (λ (z : suc x ≡ 2047). omega arith))
    (rescaled (odd 53 s (2 ^ 52 + a % 2 ^ 52) x 1074) s (2 ^ 52 + a % 2 ^ 52) x (1074 - x) v)

fields_value : (s : Bool) (a : ℕ) → a ≤ largest → HasValue (of_fields binary64 s (a / 2 ^ 52) (a % 2 ^ 52)) s (significand_of a) (2 ^ shift_of a)
fields_value s a h = go (ltb a (2 ^ 52)) refl
  where
    go : (t : Bool) → ltb a (2 ^ 52) ≡ t → HasValue (of_fields binary64 s (a / 2 ^ 52) (a % 2 ^ 52)) s (significand_of a) (2 ^ shift_of a)
    go true e = below_hidden s a (ltb-true a (2 ^ 52) e)
    go false e = with_hidden s a (a / 2 ^ 52 - 1) (omega (arith, ltb-false a (2 ^ 52) e)) (omega (arith, ltb-false a (2 ^ 52) e)) (omega arith)

pub pattern_value : (n : ℕ) → size_in n ≤ largest → HasValue (double_of n) (minus_in n) (significand_of (size_in n)) (2 ^ shift_of (size_in n))
unfolding double_of of_bits
pattern_value n h =
    subst (λ (t : ℕ). HasValue (of_fields binary64 (minus_in n) (size_in n / 2 ^ 52) t) (minus_in n) (significand_of (size_in n)) (2 ^ shift_of (size_in n)))
    (mod-mod-pow n 11 52)
    (fields_value (minus_in n) (size_in n) h)

-- ---- the texts, by the pattern
pub number_text_lem : (d n : ℕ) → size_in n ≤ largest → rounded_text d n ≡ units_text d (minus_in n) (units_of d (size_in n))
unfolding rounded_text
number_text_lem d n h = simp (le-ltb infinite (size_in n) (omega arith), le-leb (size_in n) largest h)

-- zero, and all that rounds to it, has no sign
pub zero_text : (d n : ℕ) → size_in n ≤ largest → units_of d (size_in n) ≡ 0 → rounded_text d n ≡ fixed_text d 0
zero_text d n h e = number_text_lem d n h ∙ ap (units_text d (minus_in n)) e ∙ go (minus_in n)
  where
    go : (b : Bool) → units_text d b 0 ≡ fixed_text d 0
    go true = refl
    go false = refl

pub minus_zero_text : rounded_text 3 (2 ^ 63) ≡ bytes "0.000"
unfolding rounded_text units_of significand_of shift_of fixed_text dec_text
minus_zero_text = refl

pub nan_text : (d n : ℕ) → T (is_nan (double_of n)) → rounded_text d n ≡ bytes "nan"
unfolding rounded_text double_of
nan_text d n h =
    let e : ltb infinite (size_in n) ≡ true = sym (nan_bits_above binary64 n) ∙ nan_bits_is binary64 n ∙ is_true (is_nan (of_bits binary64 n)) h in
    simp e

pub infinite_text : (d n : ℕ) → size_in n ≡ infinite → rounded_text d n ≡ sign_text (minus_in n) ++ bytes "inf"
unfolding rounded_text
infinite_text d n e = rw (le-ltb infinite (size_in n) (omega arith), lt-leb (size_in n) largest (omega arith), eq-eqb (size_in n) infinite e) refl

pub large_text : (d n : ℕ) → largest < size_in n → size_in n < infinite → rounded_text d n ≡ sign_text (minus_in n) ++ bytes "large"
unfolding rounded_text
large_text d n l h =
    rw (le-ltb infinite (size_in n) (omega arith), lt-leb (size_in n) largest l, ne_eqb (size_in n) infinite (λ (z : size_in n ≡ infinite). omega arith)) refl
