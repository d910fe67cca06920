-- A whole knot as a double, and all of them. Assumes nothing.
use mathlib.Core.Path.{◌≡◌, refl, sym, ap, ◌∙◌}
use mathlib.Core.Logic.{inl, inr}
use mathlib.Core.Bool.{Bool, true, false}
use mathlib.Core.List.{List, [], ◌∷◌, ◌++◌, map}
use Prim.Native.Nat.{ℕ, ◌+◌, ◌-◌, ◌≤◌, ◌<◌}
use native.Mathlib.Omega.{arith}
use native.Mathlib.Numerals.{add-one}
use lib.IntN.{ℤ, pos, negsuc, nat_abs}
use lib.Ieee.{Float, fin, binary64, div, neg, of_int, round}
use lib.ListN.{length, take, get_or, set, length-map, get_or-map}
use lib.Seq.{take-suc, take-suc-set, take_all}
use lib.Signed.{le_z}
use borrow.Author.Tests.{leb-false}
use Rattle.doubles.specs.Numbers.{nought}
use Rattle.doubles.proofs.Rounding.{le_or_lt}
use Rattle.sheet_depth.specs.Depth.{greatest, depth_of}
use Rattle.sheet_depth.proofs.Decimal.{zero_depth, plus_depth, minus_depth}
use Rattle.whole.specs.Held.{held, held_all}
use Rattle.whole.proofs.Held.{back, long, knot}
use Rattle.ask_verdict.specs.Curve.{double_of}

-- one number more than a sheet's depths have
pub plus_knot : (n : ℕ) → n ≤ 1000000000000 → (n ≡ 0 → ⊥) → div binary64 (of_int binary64 (pos n)) (fin false 125 (pos 3)) ≡ depth_of false n
unfolding depth_of div of_int round
plus_knot n h ne = elim (le_or_lt n greatest) [
  | inl g ↦ plus_depth n g ne
  | inr g ↦ let e : n ≡ 1000000000000 = omega arith in rw e last
]
  where
    last : div binary64 (of_int binary64 (pos 1000000000000)) (fin false 125 (pos 3)) ≡ depth_of false 1000000000000
    last = refl

pub minus_knot : (n : ℕ) → n ≤ 1000000000000 → (n ≡ 0 → ⊥) → div binary64 (neg (of_int binary64 (pos n))) (fin false 125 (pos 3)) ≡ depth_of true n
unfolding depth_of div of_int neg round
minus_knot n h ne = elim (le_or_lt n greatest) [
  | inl g ↦ minus_depth n g ne
  | inr g ↦ let e : n ≡ 1000000000000 = omega arith in rw e last
]
  where
    last : div binary64 (neg (of_int binary64 (pos 1000000000000))) (fin false 125 (pos 3)) ≡ depth_of true 1000000000000
    last = refl

pub size_is : (z : ℤ) {n : ℕ} → nat_abs z ≤ 1000000000000 → n ≡ nat_abs (held z) → n ≡ nat_abs z
size_is z small e = e ∙ ap nat_abs (back z 1000000000000 small (omega arith))

module _ (z : ℤ) (n : ℕ) (size : n ≡ nat_abs z) where
  pub zero_knot : n ≡ 0 → nought ≡ double_of z
  zero_knot e = go z (sym size ∙ e)
    where
      go : (y : ℤ) → nat_abs y ≡ 0 → nought ≡ double_of y
      go (pos m) e = zero_depth false m e
      go (negsuc m) e = absurd (omega arith)

  module _ (small : nat_abs z ≤ 1000000000000) where
    itself : held z ≡ z
    itself = back z 1000000000000 small (omega arith)

    pub up_knot : le_z (pos 0) (held z) ≡ true → depth_of false n ≡ double_of z
    up_knot t = go z size (rw itself at t)
      where
        go : (y : ℤ) → n ≡ nat_abs y → le_z (pos 0) y ≡ true → depth_of false n ≡ double_of y
        go (pos m) e t = ap (depth_of false) e
        go (negsuc m) e t = absurd (let w : ◌≡◌ {A = Bool} false true = t in let q : ◌≡◌ {A = ℕ} 0 1 = cc in omega arith)

    pub down_knot : le_z (pos 0) (held z) ≡ false → depth_of true n ≡ double_of z
    down_knot t = go z size (rw itself at t)
      where
        go : (y : ℤ) → n ≡ nat_abs y → le_z (pos 0) y ≡ false → depth_of true n ≡ double_of y
        go (pos m) e t = absurd (omega (arith, leb-false 0 m t))
        go (negsuc m) e t = ap (depth_of true) e

-- ---- all of them
module _ (whole : List ℤ) where
  abbrev doubles : List Float
  doubles = map double_of (held_all whole)

  long_doubles : length doubles ≡ length whole
  long_doubles = length-map (held_all whole) double_of ∙ long whole

  double_at : (i : ℕ) → i < length whole → get_or doubles i (double_of (pos 0)) ≡ double_of (held (get_or whole i (pos 0)))
  double_at i h = get_or-map double_of (held_all whole) i (pos 0) ∙ ap double_of (knot whole i)

  pub fill_on : (knots : List Float) (i : ℕ) {x : Float} → i < length whole → i < length knots → take i knots ≡ take i doubles
      → x ≡ double_of (held (get_or whole i (pos 0))) → take (i + 1) (set knots i x) ≡ take (i + 1) doubles
  fill_on knots i {x} h g e f =
      rw (add-one i, take-suc-set knots i x g, e, f)
      (sym (take-suc doubles i (double_of (pos 0)) (rw long_doubles h) ∙ ap (λ (y : Float). take i doubles ++ (y ∷ [])) (double_at i h)))

  pub filled : (knots : List Float) → take (length whole) knots ≡ take (length whole) doubles → take (length whole) knots ≡ doubles
  filled knots e = e ∙ take_all (length whole) doubles (omega (arith, long_doubles))

  pub cut_doubles : (knots : List Float) → take (length whole) knots ≡ doubles → take (length whole - 0) knots ≡ doubles
  cut_doubles knots e = let d : length whole - 0 ≡ length whole = omega arith in rw d e

  pub cut_long : (knots : List Float) → take (length whole) knots ≡ doubles → length (take (length whole - 0) knots) ≡ length whole
  cut_long knots e = ap length (cut_doubles knots e) ∙ long_doubles
