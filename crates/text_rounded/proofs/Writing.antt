-- The texts of a rounded number, put together. Assumes nothing.
use mathlib.Core.Path.{◌≡◌, refl}
use mathlib.Core.Bool.{Bool, true, false, ◌&&◌}
use mathlib.Core.List.{List, [], ◌∷◌}
use Prim.Native.Nat.{ℕ, suc, ◌+◌, ◌-◌, ◌/◌, ◌%◌, ◌≤◌, ◌<◌, ◌^◌}
use native.Mathlib.Nat.{pow-suc, div-lt_iff_lt-mul}
use native.Mathlib.Omega.{arith}
use borrow.Author.Tests.{lt-ltb, le-ltb, le-leb, lt-leb, eq-eqb, ne_eqb}
use lib.Dec.{ltb}
use Rattle.text.specs.Text.{bytes, dec_text}
use Rattle.std.proofs.Common.{sub-one, zero, ◌++◌}
use Rattle.text_rounded.specs.Rounded.{minus_in, size_in, infinite, largest, units_of, fixed_text, sign_text, units_text, rounded_text}

-- ---- the digits behind the point
pub fixed_none : (d n : ℕ) → d ≡ 0 → fixed_text d n ≡ dec_text 12 n ++ (46 ∷ [])
unfolding fixed_text
fixed_none d n e = rw e refl

pub fixed_more : (d n : ℕ) → (d ≡ 0 → ⊥) → fixed_text d n ≡ fixed_text (d - 1) (n / 10) ++ ((48 + n % 10) ∷ [])
unfolding fixed_text
fixed_more zero n h = absurd (h refl)
fixed_more (suc d) n h = rw sub-one refl

pub fixed_less : (n d : ℕ) → n < 10 ^ (d + 13) → (d ≡ 0 → ⊥) → n / 10 < 10 ^ (d - 1 + 13)
fixed_less n d h t =
    let p : d + 13 ≡ suc (d - 1 + 13) = omega arith in
    (div-lt_iff_lt-mul {k = 10} {x = n} {y = 10 ^ (d - 1 + 13)} (omega arith)).1 (rw (p, pow-suc) at h)

pub whole_short : (n d : ℕ) → n < 10 ^ (d + 13) → d ≡ 0 → n < 10 ^ 13
whole_short n d h e = rw e at h

pub ruleset by_digits = (fixed_none, fixed_more, fixed_less, whole_short)

-- ---- the cases of a pattern
module _ (d n : ℕ) where
  pub is_nan_lem : infinite < size_in n → rounded_text d n ≡ bytes "nan"
  unfolding rounded_text
  is_nan_lem h = simp (lt-ltb infinite (size_in n) h)

  pub is_infinite : largest < size_in n → size_in n ≡ infinite → rounded_text d n ≡ sign_text (minus_in n) ++ bytes "inf"
  unfolding rounded_text
  is_infinite l e = simp (le-ltb infinite (size_in n) (omega arith), lt-leb (size_in n) largest l, eq-eqb (size_in n) infinite e)

  pub is_large : largest < size_in n → size_in n < infinite → rounded_text d n ≡ sign_text (minus_in n) ++ bytes "large"
  unfolding rounded_text
  is_large l e = simp (le-ltb infinite (size_in n) (omega arith), lt-leb (size_in n) largest l, ne_eqb (size_in n) infinite (λ f. omega arith))

  pub is_number : size_in n ≤ largest → rounded_text d n ≡ units_text d (minus_in n) (units_of d (size_in n))
  unfolding rounded_text
  is_number l = simp (le-ltb infinite (size_in n) (omega arith), le-leb (size_in n) largest l)

pub ruleset the_cases = (is_nan_lem, is_infinite, is_large, is_number)
