-- A double above 0 is at most twice itself, as rounded; and less than a lesser bound is less than a greater. Assumes nothing.
use mathlib.Core.Path.{◌≡◌, refl, sym}
use mathlib.Core.Bool.{Bool, true, false, not}
use Prim.Native.Nat.{ℕ, ◌*◌, ◌^◌, ◌≤◌, ◌<◌}
use native.Mathlib.Nat.{le_of_eq, lt_of_le_of_lt, mul-le-mul_right, mul-pos, one-mul}
use native.Mathlib.Omega.{arith}
use lib.IntN.{ℤ}
use lib.Dec.{T, lit<}
use lib.Pow.{pow_pos}
use lib.Ieee.{Float, nan, inf, fin, binary64, low, up, down, mul, round, lt, le, eq, is_nan, fits}
use lib.Ieee.Fits.{down_pos, and_l}
use lib.Ieee.Order.{round_mono, le_of_values}
use lib.Ieee.Scale.{grid, round_val}
use Rattle.doubles.specs.Numbers.{two}
use Rattle.doubles.proofs.Rounding.{grid_short_le, grid_short_ge}
use Rattle.doubles.proofs.Order.{le_trans_float, not-lt→le, lt_le_absurd}
use Rattle.doubles.proofs.Units.{units_of}
use Rattle.checks.specs.Checks.{precise}

-- a value of the format is at most what it rounds to
le_rounded : (m : ℕ) (e : ℤ) → T (fits binary64 (fin false m e)) → T (le (fin false m e) (round binary64 false (m * up e) (down e)))
le_rounded m e h =
    let f = binary64 in
    let U = units_of f (fin false m e) h tt in
    let C : 0 < down e = down_pos e in
    let g : grid f (m * up e) (down e) ≤ U.h = grid_short_le f (m * up e) (down e) U.h C U.digits (le_of_eq U.is.1) in
    let k : U.h ≤ grid f (m * up e) (down e) = grid_short_ge f (m * up e) (down e) U.h C U.digits (le_of_eq (sym U.is.1)) in
    let L : 0 < 2 ^ low f = pow_pos (low f) in
    le_of_values (fin false m e) (round f false (m * up e) (down e)) U.h (2 ^ low f) (grid f (m * up e) (down e)) (2 ^ low f) L L U.is
    (round_val f (m * up e) (down e) (lt_of_le_of_lt g U.fine)) (mul-le-mul_right (2 ^ low f) k)

double_le : (x d : ℕ) → x * (1 * d) ≤ 1 * 2 * x * d
double_le x d = let e : 1 * d ≡ d = one-mul d in rw e (mul-le-mul_right d (omega arith))

pub twice_le : (ε : Float) → T (fits binary64 ε) → T (precise ε) → T (le ε (mul binary64 two ε))
unfolding precise lt mul
twice_le nan h p = absurd p
twice_le (inf true) h p = absurd p
twice_le (inf false) h p = absurd p
twice_le (fin true m e) h p = absurd (and_l false (lt (fin true m e) (inf false)) p)
twice_le (fin false m e) h p =
    le_trans_float (fin false m e) (round binary64 false (m * up e) (down e)) (round binary64 false (1 * 2 * (m * up e)) (1 * down e)) (le_rounded m e h)
    (round_mono binary64 (m * up e) (down e) (1 * 2 * (m * up e)) (1 * down e) (down_pos e) (mul-pos (lit< tt) (down_pos e)) (double_le (m * up e) (down e)))

number_below : (x y : Float) → T (lt x y) → T (not (is_nan x))
unfolding lt is_nan
number_below nan y h = h
number_below (inf s) y h = tt
number_below (fin s m e) y h = tt

number_above : (x y : Float) → T (le x y) → T (not (is_nan y))
unfolding le lt eq is_nan
number_above nan nan h = h
number_above (inf s) nan h = h
number_above (fin s m e) nan h = h
number_above x (inf t) h = tt
number_above x (fin t n d) h = tt

pub lt_le_trans : (w x y : Float) → T (lt w x) → T (le x y) → T (lt w y)
lt_le_trans w x y h k = go (lt w y) refl
  where
    go : (t : Bool) → lt w y ≡ t → T t
    go true e = tt
    go false e = absurd (lt_le_absurd w x h (le_trans_float x y w k (not-lt→le w y (number_below w x h) (number_above x y k) (rw e tt))))
