-- The midpoint halves a bracket in 0 to 1, but for three roundings, each of which 2^-53 bounds: G units. Assumes nothing.
use mathlib.Core.Path.{◌≡◌, refl, sym, ap, ◌∙◌}
use mathlib.Core.Logic.{inl, inr}
use mathlib.Core.Bool.{false}
use Prim.Native.Nat.{ℕ, suc, ◌+◌, ◌-◌, ◌*◌, ◌/◌, ◌^◌, ◌≤◌, ◌<◌}
use native.Mathlib.Nat.{le_trans, le_of_eq, lt_of_le_of_lt, one-mul, mul_comm, mul_assoc, mul-le-mul_right, mul-pos, div-mul-le_self, div-lt_iff_lt-mul}
use native.Mathlib.Omega.{arith}
use lib.IntN.{negsuc}
use lib.Dec.{lit<, lit≤}
use lib.Pow.{pow_pos}
use lib.Ieee.{Float, binary64, prec, low, sub, mul}
use lib.Ieee.Exact.{HasValue}
use lib.Ieee.Scale.{grid, overflow, round_val}
use Rattle.doubles.specs.Numbers.{half}
use Rattle.doubles.specs.Lerp.{lerp_of}
use Rattle.doubles.proofs.Rounding.{le_or_lt, Short, grid_le, grid_short_ge}
use Rattle.doubles.proofs.Units.{add_at, sub_at, mul_at}
use Rattle.doubles.proofs.Interpolation.{part}

-- one, and 2^-53, in units
abbrev pub I : ℕ
I = 2 ^ low binary64

abbrev pub G : ℕ
G = 2 ^ 1021

I-is : I ≡ 2 ^ prec binary64 * G
I-is = refl

I-fine : I < overflow binary64
I-fine = lit< tt

-- ---- a fraction of at most m units rounds to at most m + G, and one of at least m to at least m - G, for m up to one
over : (j m : ℕ) → m < suc (m / 2 ^ j) * 2 ^ j
over j m = (div-lt_iff_lt-mul (pow_pos j)).0 (omega arith)

next : (m q g : ℕ) → q * g ≤ m → suc q * g ≤ m + g
next m q g h = omega arith

many : (p q g m : ℕ) → p ≤ q → q * g ≤ m → p * g ≤ m
many p q g m h k = le_trans (mul-le-mul_right g h) k

rounds_up_to : (a c m : ℕ) → 0 < c → m ≤ I → a * I ≤ m * c → grid binary64 a c ≤ m + G
rounds_up_to a c m C M h =
    let q = m / G in
    let n : suc q * G ≤ m + G = next m q G (div-mul-le_self m G) in
    elim (le_or_lt (2 ^ prec binary64) (suc q)) [
      | inl l ↦ le_trans (grid_le binary64 a c 1 (low binary64) C (lit< tt) (le_trans h (mul-le-mul_right c (le_trans M (le_of_eq (sym (one-mul I)))))))
          (le_trans (le_of_eq (one-mul I ∙ I-is)) (many (2 ^ prec binary64) (suc q) G (m + G) l n))
      | inr l ↦ le_trans (grid_le binary64 a c (suc q) 1021 C l (le_trans h (mul-le-mul_right c (below m (suc q * G) (over 1021 m))))) n
    ]
  where
    below : (a b : ℕ) → a < b → a ≤ b
    below a b h = omega arith

rounds_down_to : (a c m : ℕ) → 0 < c → m ≤ I → m * c ≤ a * I → m ≤ grid binary64 a c + G
rounds_down_to a c m C M h =
    let q = m / G in
    elim (le_or_lt (2 ^ prec binary64) q) [
      | inl l ↦
          let full : I ≤ m = le_trans (le_of_eq I-is) (many (2 ^ prec binary64) q G m l (div-mul-le_self m G)) in
          let s : Short binary64 I = record { q = 1; j = low binary64; short = lit< tt; whole = sym (one-mul I) } in
          let g : I ≤ grid binary64 a c = grid_short_ge binary64 a c I C s (le_trans (mul-le-mul_right c full) h) in
          most m I (grid binary64 a c) G M g
      | inr l ↦
          let s : Short binary64 (q * 2 ^ 1021) = record { q = q; j = 1021; short = l; whole = refl } in
          let g : q * 2 ^ 1021 ≤ grid binary64 a c = grid_short_ge binary64 a c (q * 2 ^ 1021) C s (le_trans (mul-le-mul_right c (div-mul-le_self m G)) h) in
          under m q (grid binary64 a c) G (over 1021 m) g
    ]
  where
    most : (m i r g : ℕ) → m ≤ i → i ≤ r → m ≤ r + g
    most m i r g a b = omega arith

    under : (m q r g : ℕ) → m < suc q * g → q * g ≤ r → m ≤ r + g
    under m q r g a b = omega arith

-- ---- half of D units
up_half : (D c : ℕ) → D * (1 * 1) * c ≤ suc D / 2 * (c * 2 ^ 1)
up_half D c =
    let h : D * (1 * 1) ≤ suc D / 2 * 2 = omega arith in
    le_trans (mul-le-mul_right c h) (le_of_eq (mul_assoc (suc D / 2) 2 c ∙ ap (λ (z : ℕ). suc D / 2 * z) (mul_comm 2 c)))

down_half : (D c : ℕ) → D / 2 * (c * 2 ^ 1) ≤ D * (1 * 1) * c
down_half D c =
    let h : D / 2 * 2 ≤ D * (1 * 1) = omega arith in
    le_trans (le_of_eq (ap (λ (z : ℕ). D / 2 * z) (mul_comm c 2) ∙ sym (mul_assoc (D / 2) 2 c))) (mul-le-mul_right c h)

-- ---- sums over plain numbers
twice_up : (L H D P R g : ℕ) → L ≤ H → D ≤ H - L + g → P ≤ suc D / 2 + g → R ≤ L + P + g → 0 < g → 2 * R ≤ L + H + 6 * g
twice_up L H D P R g o d p r s = omega arith

twice_down : (L H D P R g : ℕ) → L ≤ H → H - L ≤ D + g → D / 2 ≤ P + g → L + P ≤ R + g → 0 < g → L + H ≤ 2 * R + 6 * g
twice_down L H D P R g o d p r s = omega arith

module _ (i L H : ℕ) (o : L ≤ H) (top : H ≤ i) where
  gap_in : H - L ≤ i
  gap_in = omega arith

  half_in : (D : ℕ) → D ≤ i → D / 2 ≤ i
  half_in D d = omega arith

  more_in : (D : ℕ) → D ≤ i → 0 < i → suc D / 2 ≤ i
  more_in D d s = omega arith

  sum_in : (P : ℕ) → P ≤ H - L → L + P ≤ i
  sum_in P p = omega arith

-- ---- the bracket from L to H
module _ (lower upper : Float) (L H : ℕ) (o : L ≤ H) (top : H ≤ I) (lv : HasValue lower false L I) (hv : HasValue upper false H I) where
  C : 0 < I
  C = pow_pos (low binary64)

  -- a fraction up to one rounds to one at most
  capped : (a c : ℕ) → 0 < c → a * I ≤ I * c → grid binary64 a c ≤ I
  capped a c C h =
      le_trans (grid_le binary64 a c 1 (low binary64) C (lit< tt) (le_trans h (mul-le-mul_right c (le_of_eq (sym (one-mul I)))))) (le_of_eq (one-mul I))

  abbrev D : ℕ
  D = grid binary64 (H - L) I

  D-in : D ≤ I
  D-in = capped (H - L) I C (mul-le-mul_right I (gap_in I L H o top))

  D-up : D ≤ H - L + G
  D-up = rounds_up_to (H - L) I (H - L) C (gap_in I L H o top) (le_of_eq refl)

  D-down : H - L ≤ D + G
  D-down = rounds_down_to (H - L) I (H - L) C (gap_in I L H o top) (le_of_eq refl)

  D-is : HasValue (sub binary64 upper lower) false D I
  D-is = rw (sub_at binary64 upper lower H L o hv lv) (round_val binary64 (H - L) I (lt_of_le_of_lt D-in I-fine))

  -- upper - lower, as computed
  pub apart : (D : ℕ) × HasValue (sub binary64 upper lower) false D I × (D ≤ H - L + G) × (H - L ≤ D + G)
  apart = (D, D-is, D-up, D-down)

  abbrev P : ℕ
  P = grid binary64 (D * (1 * 1)) (I * 2 ^ 1)

  C2 : 0 < I * 2 ^ 1
  C2 = mul-pos C (pow_pos 1)

  P-in : P ≤ H - L
  P-in = part binary64 (H - L) (1 * 1) (2 ^ 1) (pow_pos 1) (lit≤ tt)

  P-is : HasValue (mul binary64 (sub binary64 upper lower) half) false P I
  P-is =
      rw (mul_at binary64 (sub binary64 upper lower) 1 (negsuc 0) D D-is)
      (round_val binary64 (D * (1 * 1)) (I * 2 ^ 1) (lt_of_le_of_lt (le_trans P-in (gap_in I L H o top)) I-fine))

  abbrev R : ℕ
  R = grid binary64 (L + P) I

  R-is : HasValue (lerp_of lower upper half) false R I
  unfolding lerp_of
  R-is =
      rw (add_at binary64 lower (mul binary64 (sub binary64 upper lower) half) L P lv P-is)
      (round_val binary64 (L + P) I (lt_of_le_of_lt (capped (L + P) I C (mul-le-mul_right I (sum_in I L H o top P P-in))) I-fine))

  -- the midpoint: twice it is L + H, but for 6G
  pub middle : (R : ℕ) × HasValue (lerp_of lower upper half) false R I × (2 * R ≤ L + H + 6 * G) × (L + H ≤ 2 * R + 6 * G)
  middle =
      let p1 : P ≤ suc D / 2 + G = rounds_up_to (D * (1 * 1)) (I * 2 ^ 1) (suc D / 2) C2 (more_in I L H o top D D-in C) (up_half D I) in
      let p2 : D / 2 ≤ P + G = rounds_down_to (D * (1 * 1)) (I * 2 ^ 1) (D / 2) C2 (half_in I L H o top D D-in) (down_half D I) in
      let s : L + P ≤ I = sum_in I L H o top P P-in in
      let r1 : R ≤ L + P + G = rounds_up_to (L + P) I (L + P) C s (le_of_eq refl) in
      let r2 : L + P ≤ R + G = rounds_down_to (L + P) I (L + P) C s (le_of_eq refl) in
      (R, R-is, twice_up L H D P R G o D-up p1 r1 (pow_pos 1021), twice_down L H D P R G o D-down p2 r2 (pow_pos 1021))
