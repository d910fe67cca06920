-- Rounding between values of the format: a fraction that is at most such a value rounds to at most it, and likewise from below. Assumes nothing.
use Rattle.std.proofs.Common.{
  ◌≡◌,
  ℕ,
  ◌+◌,
  ◌-◌,
  ◌*◌,
  ◌/◌,
  ◌%◌,
  ◌^◌,
  ◌<◌,
  ◌≤◌,
  Bool,
  true,
  false,
  not,
  T,
  leb,
  ◌⊎◌,
  sym,
  ap,
  ◌∙◌,
  subst,
  inl,
  inr,
  le_trans,
  le_of_eq,
  lt_of_lt_of_le,
  lt_of_le_of_lt,
  le_of_lt,
  mul-le-mul_right,
  mul_assoc,
  mul_comm,
  div-lt_iff_lt-mul,
  mul-lt-mul_of_pos_right,
  mul-pos,
  le-div_iff_mul-le,
  mul-one,
  div-one,
  arith,
  lit<,
  leb→le,
  pow_pos,
  pow_mono,
  pow-add,
  shl_lt,
}
use Prim.Native.Nat.{compare}
use native.Mathlib.Nat.{div-div-eq-div-mul, mod-one}
use lib.Dec.{nleb→lt}
use lib.Ieee.{Format, prec, low, size}
use lib.Ieee.Digits.{size-le, size_reaches, back}
use lib.Ieee.Fits.{two}
use lib.Ieee.Nearest.{closest, closest_mono, nearest-ge}
use lib.Ieee.Order.{drop}
use lib.Ieee.Scale.{grid}

pub le_or_lt : (a b : ℕ) → (a ≤ b) ⊎ (b < a)
le_or_lt a b = go (leb a b) (leb→le a b) (nleb→lt a b)
  where
    go : (t : Bool) → (T t → a ≤ b) → (T (not t) → b < a) → (a ≤ b) ⊎ (b < a)
    go true h k = inl (h tt)
    go false h k = inr (k tt)

-- a whole number rounds to itself
closest_whole : (n : ℕ) → closest n 1 ≡ n
closest_whole n = rw (mod-one, div-one)

spare : (z p j : ℕ) → z ≤ p + j → z - p ≤ j
spare z p j h = omega arith

-- a fraction up to q * 2 ^ j units, with q of no more digits than the format keeps, rounds to no more
pub grid_le : (f : Format) (a c q j : ℕ) → 0 < c → q < 2 ^ prec f → a * 2 ^ low f ≤ q * 2 ^ j * c → grid f a c ≤ q * 2 ^ j
grid_le f a c q j C Q h =
    let n = a * 2 ^ low f in
    let k = drop (prec f) n c in
    let k_le : k ≤ j =
    spare (size (n / c)) (prec f) j
    (size-le (n / c) (prec f + j) ((div-lt_iff_lt-mul C).1 (lt_of_le_of_lt h (mul-lt-mul_of_pos_right (shl_lt (prec f) j Q) C)))) in
    let r = q * 2 ^ (j - k) in
    let split : r * 2 ^ k ≡ q * 2 ^ j =
    mul_assoc q (2 ^ (j - k)) (2 ^ k) ∙ ap (λ (x : ℕ). q * x) (sym (pow-add 2 (j - k) k) ∙ ap (λ (x : ℕ). 2 ^ x) (back j k k_le)) in
    let u = c * 2 ^ k in
    let e : q * 2 ^ j * c ≡ r * u = ap (λ (x : ℕ). x * c) (sym split) ∙ mul_assoc r (2 ^ k) c ∙ ap (λ (x : ℕ). r * x) (mul_comm (2 ^ k) c) in
    let b : closest n u ≤ r =
    le_trans (closest_mono n u r 1 (mul-pos C (pow_pos k)) (lit< tt) (le_trans (le_of_eq (mul-one n)) (le_trans h (le_of_eq e))))
    (le_of_eq (closest_whole r)) in
    le_trans (mul-le-mul_right (2 ^ k) b) (le_of_eq split)

-- where digits are dropped, the whole part in 2 ^ drop has all its digits
pub full : (p w : ℕ) → 0 < p → 0 < size w - p → 2 ^ (p - 1) ≤ w / 2 ^ (size w - p)
full p w P K =
    (le-div_iff_mul-le (pow_pos (size w - p))).1
    (le_trans (le_of_eq (sym (pow-add 2 (p - 1) (size w - p)))) (size_reaches w (p - 1 + (size w - p)) (omega arith)))

-- the same from below
grid_ge : (f : Format) (a c q j : ℕ) → 0 < c → q < 2 ^ prec f → q * 2 ^ j * c ≤ a * 2 ^ low f → q * 2 ^ j ≤ grid f a c
grid_ge f a c q j C Q h =
    let n = a * 2 ^ low f in
    let k = drop (prec f) n c in
    let u = c * 2 ^ k in
    elim (le_or_lt k j) [
      | inl k_le ↦
          let r = q * 2 ^ (j - k) in
          let split : r * 2 ^ k ≡ q * 2 ^ j =
          mul_assoc q (2 ^ (j - k)) (2 ^ k) ∙ ap (λ (x : ℕ). q * x) (sym (pow-add 2 (j - k) k) ∙ ap (λ (x : ℕ). 2 ^ x) (back j k k_le)) in
          let e : r * u ≡ q * 2 ^ j * c = sym (ap (λ (x : ℕ). x * c) (sym split) ∙ mul_assoc r (2 ^ k) c ∙ ap (λ (x : ℕ). r * x) (mul_comm (2 ^ k) c)) in
          let b : r ≤ closest n u =
          le_trans (le_of_eq (sym (closest_whole r)))
          (closest_mono r 1 n u (lit< tt) (mul-pos C (pow_pos k)) (le_trans (le_of_eq e) (le_trans h (le_of_eq (sym (mul-one n)))))) in
          le_trans (le_of_eq (sym split)) (mul-le-mul_right (2 ^ k) b)
      | inr k-gt ↦
          let P : 0 < prec f = lt_of_lt_of_le (lit< tt) (two f) in
          let b : 2 ^ (prec f - 1) ≤ closest n u =
          le_trans (subst (λ (x : ℕ). 2 ^ (prec f - 1) ≤ x) (div-div-eq-div-mul n c (2 ^ k)) (full (prec f) (n / c) P (omega arith)))
          (nearest-ge (n / u) (compare (n % u * 2) u)) in
          le_trans (le_of_lt (shl_lt (prec f) j Q))
          (le_trans (pow_mono (omega arith)) (le_trans (le_of_eq (pow-add 2 (prec f - 1) k)) (mul-le-mul_right (2 ^ k) b)))
    ]

-- h is q * 2 ^ j with a q of no more digits than the format keeps
pub record Short (f : Format) (h : ℕ) : Type 0 where
  pub q : ℕ
  pub j : ℕ
  pub short : q < 2 ^ prec f
  pub whole : h ≡ q * 2 ^ j

pub grid_short_le : (f : Format) (a c h : ℕ) → 0 < c → Short f h → a * 2 ^ low f ≤ h * c → grid f a c ≤ h
grid_short_le f a c h C s l =
    le_trans (grid_le f a c s.q s.j C s.short (le_trans l (le_of_eq (ap (λ (x : ℕ). x * c) s.whole)))) (le_of_eq (sym s.whole))

pub grid_short_ge : (f : Format) (a c h : ℕ) → 0 < c → Short f h → h * c ≤ a * 2 ^ low f → h ≤ grid f a c
grid_short_ge f a c h C s l =
    le_trans (le_of_eq s.whole) (grid_ge f a c s.q s.j C s.short (le_trans (le_of_eq (ap (λ (x : ℕ). x * c) (sym s.whole))) l))
