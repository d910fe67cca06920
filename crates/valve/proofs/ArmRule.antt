-- The arms are held to the rule of the flat table: each by a test of its four weights, which antt computes, and the last one, which has no key,
-- is step 256's, since no other is left. Assumes nothing.
use mathlib.Core.Path.{◌≡◌, sym, ap, ◌∙◌}
use mathlib.Core.Bool.{Bool, ◌&&◌}
use mathlib.Core.Logic.{inl, inr}
use Prim.Native.Nat.{ℕ, zero, suc, ◌≤◌}
use native.Mathlib.Nat.{eq-or-lt_of_le}
use native.Mathlib.Omega.{arith}
use lib.Dec.{T, eqb, leb, eqb→eq, leb→le}
use lib.Ieee.Fits.{and_l, and_r}
use Rattle.valve.specs.Mix.{weight_of}
use Rattle.valve.specs.Contract.{FourOf}

-- knot i's weight at step j, and at most 4 × 256³
abbrev right_one : ℕ → ℕ → ℕ → Bool
right_one j i x = eqb x (weight_of j i) && leb x 67108864

abbrev right_row : ℕ → ℕ → ℕ → ℕ → ℕ → Bool
right_row j w0 w1 w2 w3 = (right_one j 0 w0 && right_one j 1 w1) && (right_one j 2 w2 && right_one j 3 w3)

module _ (j i x : ℕ) (t : T (right_one j i x)) where
  one_is : x ≡ weight_of j i
  one_is = eqb→eq x (weight_of j i) (and_l (eqb x (weight_of j i)) (leb x 67108864) t)

  one_few : x ≤ 67108864
  one_few = leb→le x 67108864 (and_r (eqb x (weight_of j i)) (leb x 67108864) t)

pub arm : {x j w0 w1 w2 w3 : ℕ} → T (right_row j w0 w1 w2 w3) → x ≡ j → FourOf x w0 w1 w2 w3
arm {x} {j} {w0} {w1} {w2} {w3} t e =
    let low = and_l (right_one j 0 w0 && right_one j 1 w1) (right_one j 2 w2 && right_one j 3 w3) t in
    let high = and_r (right_one j 0 w0 && right_one j 1 w1) (right_one j 2 w2 && right_one j 3 w3) t in
    let t0 = and_l (right_one j 0 w0) (right_one j 1 w1) low in
    let t1 = and_r (right_one j 0 w0) (right_one j 1 w1) low in
    let t2 = and_l (right_one j 2 w2) (right_one j 3 w3) high in
    let t3 = and_r (right_one j 2 w2) (right_one j 3 w3) high in
    record {
      is0 = one_is j 0 w0 t0 ∙ ap (λ (s : ℕ). weight_of s 0) (sym e);
      is1 = one_is j 1 w1 t1 ∙ ap (λ (s : ℕ). weight_of s 1) (sym e);
      is2 = one_is j 2 w2 t2 ∙ ap (λ (s : ℕ). weight_of s 2) (sym e);
      is3 = one_is j 3 w3 t3 ∙ ap (λ (s : ℕ). weight_of s 3) (sym e);
      few = record { few0 = one_few j 0 w0 t0; few1 = one_few j 1 w1 t1; few2 = one_few j 2 w2 t2; few3 = one_few j 3 w3 t3 };
    }

-- x is none of the keys 0 to k − 1, in the form in which a match says so
abbrev Beyond : ℕ → ℕ → Type 0
Beyond zero x = Unit {0}
Beyond (suc k) x = Beyond k x × (x ≡ k → ⊥)

least : (k x : ℕ) → Beyond k x → k ≤ x
least zero x n = omega arith
least (suc k) x n = elim (eq-or-lt_of_le (least k x n.0)) [ inl e ↦ absurd (n.1 (sym e)) | inr l ↦ l ]

pub last : {x w0 w1 w2 w3 : ℕ} → T (right_row 256 w0 w1 w2 w3) → x ≤ 256 → Beyond 256 x → FourOf x w0 w1 w2 w3
last {x} t h n =
    let l = least 256 x n in
    let e : x ≡ 256 = omega arith in
    arm t e
