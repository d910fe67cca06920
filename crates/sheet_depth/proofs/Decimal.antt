-- A depth is the double nearest to its decimal: every other double lies further off. Assumes nothing.
use mathlib.Core.Path.{◌≡◌, refl, sym, ap, ◌∙◌, subst}
use mathlib.Core.Logic.{inl, inr}
use mathlib.Core.Bool.{Bool, true, false, not, ◌&&◌, ◌||◌, beq}
use borrow.Author.Tests.{ne_eqb}
use Prim.Native.Nat.{ℕ, zero, suc, ◌+◌, ◌-◌, ◌*◌, ◌/◌, ◌%◌, ◌^◌, ◌≤◌, ◌<◌}
use native.Mathlib.Nat.{
  add-mul,
  one-mul,
  le_trans,
  le_of_eq,
  lt_of_le_of_lt,
  mul_comm,
  mul_assoc,
  mul_right_comm,
  zero-mul,
  mul-pos,
  mul-le-mul_right,
  le_of_mul-le-mul_right,
  eq_of_mul-eq-mul_right,
  div-add-mod',
}
use native.Mathlib.Omega.{arith}
use lib.IntN.{pos}
use lib.Dec.{T, T_not, eqb, lit<, lit≤}
use lib.Pow.{pow-add, pow_pos, pow_mono}
use lib.Ieee.{Float, nan, inf, fin, binary64, low, up, down, round, div, neg, eq, of_int, fits}
use lib.Ieee.Digits.{back}
use lib.Ieee.Fits.{down_pos, and_i, eq→eqb}
use lib.Ieee.Exact.{HasValue}
use lib.Ieee.Back.{round_whole}
use lib.Ieee.Order.{drop}
use lib.Ieee.Scale.{grid, overflow, round_same}
use Rattle.doubles.specs.Numbers.{nought}
use Rattle.doubles.proofs.Rounding.{le_or_lt, grid_le}
use Rattle.sheet_depth.specs.Nearest.{apart, Nearer}
use Rattle.sheet_depth.specs.Depth.{greatest, depth_of}
use Rattle.sheet_depth.proofs.Nearest.{NoTie, all_digits, round_nearest}

-- ---- no tie: an odd number of 125ths of a power of two is too long a number
odd_even : (w t : ℕ) → (2 * w + 1) * 125 ≡ 2 * t → ⊥
odd_even w t e = omega arith

clash : (N l w k : ℕ) → N ≤ greatest → (l ≤ k + 2 → 2 ^ 52 ≤ w) → N * 2 ^ l ≡ (2 * w + 1) * 125 * 2 ^ (k + 2) → ⊥
clash N l w k few W e =
    elim (le_or_lt l (k + 2)) [
      | inl h ↦
          let b : (2 * w + 1) * 125 * 2 ^ l ≤ N * 2 ^ l = le_trans (more ((2 * w + 1) * 125) h) (le_of_eq (sym e)) in
          let d : (2 * w + 1) * 125 ≤ N = le_of_mul-le-mul_right b (pow_pos l) in
          let g : 2 ^ 52 ≤ w = W h in
          omega arith
      | inr h ↦
          let j = l - (k + 2) in
          let p : N * 2 ^ j * 2 ^ (k + 2) ≡ N * 2 ^ l =
          mul_assoc N (2 ^ j) (2 ^ (k + 2)) ∙ ap (λ (x : ℕ). N * x) (sym (pow-add 2 j (k + 2)) ∙ ap (λ (x : ℕ). 2 ^ x) (back l (k + 2) (omega arith)))
          in
          let q : N * 2 ^ j ≡ (2 * w + 1) * 125 = eq_of_mul-eq-mul_right (2 ^ (k + 2)) (pow_pos (k + 2)) (N * 2 ^ j) ((2 * w + 1) * 125) (p ∙ e) in
          let i = j - 1 in
          let s : N * 2 ^ j ≡ 2 * (N * 2 ^ i) =
          ap (λ (x : ℕ). N * x) (ap (λ (x : ℕ). 2 ^ x) (sym (back j 1 (omega arith))) ∙ pow-add 2 i 1)
          ∙ (sym (mul_assoc N (2 ^ i) 2) ∙ mul_comm (N * 2 ^ i) 2) in
          odd_even w (N * 2 ^ i) (sym q ∙ s)
    ]
  where
    more : (x : ℕ) {a b : ℕ} → a ≤ b → x * 2 ^ a ≤ x * 2 ^ b
    more x {a} {b} h = le_trans (le_of_eq (mul_comm x (2 ^ a))) (le_trans (mul-le-mul_right x (pow_mono h)) (le_of_eq (mul_comm (2 ^ b) x)))

-- twice the rest is the unit
halves : (n w u r : ℕ) → w * u + r ≡ n → r * 2 ≡ u → n * 2 ≡ (2 * w + 1) * u
halves n w u r e h =
    let a : (2 * w + 1) * u ≡ w * u * 2 + u = expand w u in
    omega arith
  where
    expand : (w u : ℕ) → (2 * w + 1) * u ≡ w * u * 2 + u
    expand w u = add-mul (2 * w) 1 u ∙ cc (mul_assoc 2 w u, mul_comm 2 (w * u), one-mul u)

no_tie : (N : ℕ) → N ≤ greatest → NoTie binary64 N 1000
no_tie N few h =
    let l = low binary64 in
    let n = N * 2 ^ l in
    let k = drop 53 n 1000 in
    let u = 1000 * 2 ^ k in
    let w = n / u in
    let a : n * 2 ≡ (2 * w + 1) * u = halves n w u (n % u) (div-add-mod' n u) h in
    let b : n ≡ (2 * w + 1) * 125 * 2 ^ (k + 2) = unscale n (2 * w + 1) (2 ^ k) (2 ^ (k + 2)) (pow-add 2 k 2) a in
    clash N l w k few (λ (g : l ≤ k + 2). all_digits binary64 n 1000 (omega arith)) b
  where
    unscale : (n o p q : ℕ) → q ≡ p * 2 ^ 2 → n * 2 ≡ o * (1000 * p) → n ≡ o * 125 * q
    unscale n o p q e f =
        let a : o * (1000 * p) ≡ o * p * 1000 = ap (λ (x : ℕ). o * x) (mul_comm 1000 p) ∙ sym (mul_assoc o p 1000) in
        let b : o * 125 * q ≡ o * p * 500 =
        ap (λ (x : ℕ). o * 125 * x) e ∙ (mul_right_comm o 125 (p * 4) ∙ (ap (λ (x : ℕ). x * 125) (sym (mul_assoc o p 4)) ∙ mul_assoc (o * p) 4 125)) in
        omega arith

fine : (N : ℕ) → N ≤ greatest → grid binary64 N 1000 < overflow binary64
fine N few =
    let b : N * 2 ^ 1074 ≤ 1 * 2 ^ 1114 * 1000 = le_trans (mul-le-mul_right (2 ^ 1074) few) (lit≤ {m = greatest * 2 ^ 1074} {n = 1 * 2 ^ 1114 * 1000} tt) in
    lt_of_le_of_lt (grid_le binary64 N 1000 1 1114 (lit< tt) (lit< tt) b) (lit< tt)

-- ---- zero
nearer_nought : (s : Bool) (y : Float) → T (not (eq nought y)) → Nearer nought y s 0 1000
unfolding eq
nearer_nought s nan ne = tt
nearer_nought s (inf u) ne = tt
nearer_nought s (fin u k d) ne =
    let z : 0 * 1 * down d ≡ 0 = zero-mul (down d) in
    let zd : 0 * down d ≡ 0 = zero-mul (down d) in
    elim (le_or_lt (k * up d) 0) [
      | inl l ↦
          let e : k * up d * 1 ≡ 0 = omega arith in
          absurd (T_not (eqb (0 * 1 * down d) (k * up d * 1) && (beq false u || eqb (0 * 1 * down d) 0)) ne
          (and_i (eqb (0 * 1 * down d) (k * up d * 1)) (beq false u || eqb (0 * 1 * down d) 0) (eq→eqb (z ∙ sym e))
          (or_right (beq false u) (eqb (0 * 1 * down d) 0) (eq→eqb z))))
      | inr l ↦ go s u l zd
    ]
  where
    or_right : (p q : Bool) → T q → T (p || q)
    or_right true q h = tt
    or_right false q h = h

    go : (s u : Bool) → 0 < k * up d → 0 * down d ≡ 0 → apart false (0 * 1 * 1000) s (0 * 1) * down d < apart u (k * up d * 1000) s (0 * down d) * 1
    go true true p e = omega arith
    go true false p e = omega arith
    go false true p e = omega arith
    go false false p e = omega arith

-- ---- the depth
some : (minus : Bool) (n : ℕ) → (n ≡ 0 → ⊥) → round binary64 minus n 1000 ≡ depth_of minus n
unfolding depth_of
some minus n ne = rw (ne_eqb n 0 ne) refl

-- every other double lies further from the decimal
pub depth_nearest : (minus : Bool) (n : ℕ) → n ≤ greatest → (y : Float) → T (fits binary64 y) → T (not (eq (depth_of minus n) y))
    → Nearer (depth_of minus n) y minus n 1000
unfolding depth_of
depth_nearest minus zero h y f ne = nearer_nought minus y ne
depth_nearest minus (suc n) h y f ne =
    subst (λ (x : Float). T (not (eq x y)) → Nearer x y minus (suc n) 1000) (some minus (suc n) (λ (e : suc n ≡ 0). omega arith))
    (round_nearest binary64 minus (suc n) 1000 (lit< tt) (fine (suc n) h) (no_tie (suc n) h) y f) ne

-- ---- one division of doubles is that rounding
div_thousand : (x : Float) (s : Bool) (n : ℕ) → HasValue x s n 1 → div binary64 x (fin false 125 (pos 3)) ≡ round binary64 s n 1000
unfolding div
div_thousand nan s n v = absurd v
div_thousand (inf t) s n v = absurd v
div_thousand (fin t m e) s n v =
    ap (λ (b : Bool). round binary64 b (m * up e * 1) (125 * 8 * down e)) (go t ∙ v.0)
    ∙ round_same binary64 s (m * up e * 1) (125 * 8 * down e) n 1000 (mul-pos (lit< tt) (down_pos e)) (lit< tt)
    (ap (λ (z : ℕ). z * 1000) v.1 ∙ (mul_right_comm n (down e) 1000 ∙ mul_assoc n 1000 (down e)))
  where
    go : (b : Bool) → not (beq b false) ≡ b
    go true = refl
    go false = refl

neg_value : (x : Float) (n : ℕ) → HasValue x false n 1 → HasValue (neg x) true n 1
unfolding neg
neg_value nan n v = v
neg_value (inf t) n v = v
neg_value (fin t m e) n v = (ap not v.0, v.1)

whole_value : (n : ℕ) → n ≤ greatest → HasValue (of_int binary64 (pos n)) false n 1
unfolding of_int
whole_value n h = round_whole binary64 false n (le_trans h (lit≤ tt))

pub zero_depth : (minus : Bool) (n : ℕ) → n ≡ 0 → nought ≡ depth_of minus n
unfolding depth_of
zero_depth minus n e = rw e refl

pub plus_depth : (n : ℕ) → n ≤ greatest → (n ≡ 0 → ⊥) → div binary64 (of_int binary64 (pos n)) (fin false 125 (pos 3)) ≡ depth_of false n
plus_depth n h ne = div_thousand (of_int binary64 (pos n)) false n (whole_value n h) ∙ some false n ne

pub minus_depth : (n : ℕ) → n ≤ greatest → (n ≡ 0 → ⊥) → div binary64 (neg (of_int binary64 (pos n))) (fin false 125 (pos 3)) ≡ depth_of true n
minus_depth n h ne = div_thousand (neg (of_int binary64 (pos n))) true n (neg_value (of_int binary64 (pos n)) n (whole_value n h)) ∙ some true n ne
