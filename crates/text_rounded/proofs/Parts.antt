-- Significand and shift of a magnitude's pattern, and the units that they make. Assumes nothing.
use mathlib.Core.Path.{◌≡◌, refl, sym, ap, ◌∙◌}
use Prim.Native.Nat.{ℕ, ◌+◌, ◌*◌, ◌-◌, ◌/◌, ◌%◌, ◌≤◌, ◌<◌, ◌^◌}
use native.Mathlib.Nat.{add-mul, mul_comm, mul_right_comm, pow-le-pow_right, mul-le-mul_right, div-add-mod'}
use native.Mathlib.Omega.{arith}
use borrow.Author.Tests.{lt-ltb, le-ltb}
use lib.Ieee.Nearest.{closest}
use lib.Pow.{pow-add, pow_pos, pow_mono}
use Rattle.text_rounded.specs.Rounded.{significand_of, shift_of, units_of}
use Rattle.text_rounded.proofs.Closest.{closest_below, closest_bound}

-- ---- the code's two cases
pub small_significand : (a : ℕ) → a < 2 ^ 52 → a ≡ significand_of a
unfolding significand_of
small_significand a h = rw (lt-ltb a (2 ^ 52) h) refl

pub large_significand : (a : ℕ) → 2 ^ 52 ≤ a → 2 ^ 52 + a % 2 ^ 52 ≡ significand_of a
unfolding significand_of
large_significand a h = rw (le-ltb a (2 ^ 52) h) refl

pub small_shift : (a : ℕ) → a < 2 ^ 52 → 1074 ≡ shift_of a
unfolding shift_of
small_shift a h = rw (lt-ltb a (2 ^ 52) h) refl

pub large_shift : (a : ℕ) → 2 ^ 52 ≤ a → 1075 - a / 2 ^ 52 ≡ shift_of a
unfolding shift_of
large_shift a h = rw (le-ltb a (2 ^ 52) h) refl

-- ---- powers
times_le : (a b c d : ℕ) → a ≤ b → c ≤ d → a * c ≤ b * d
times_le a b c d h k =
    let p : a * c ≤ b * c = mul-le-mul_right c h in
    let q : c * b ≤ d * b = mul-le-mul_right b k in
    let e : c * b ≡ b * c = mul_comm c b in
    let f : d * b ≡ b * d = mul_comm d b in
    omega arith

pub ten_power : (d : ℕ) → d ≤ 6 → 10 ^ d ≤ 10 ^ 6
ten_power d h = pow-le-pow_right {n = 10} (omega arith) {i = d} {j = 6} h

pub two_power : (s : ℕ) → 12 ≤ s → 2 ^ (s - 12) * 4096 ≡ 2 ^ s
two_power s h = let e : s ≡ s - 12 + 12 = omega arith in sym (ap (λ (x : ℕ). 2 ^ x) e ∙ pow-add 2 (s - 12) 12)

-- ---- the product of significand and 10^d, in two parts
pub product_parts : (m t : ℕ) → (m / 2048 * t + m % 2048 * t / 2048) * 2048 + m % 2048 * t % 2048 ≡ m * t
product_parts m t =
    let e : m / 2048 * 2048 + m % 2048 ≡ m = div-add-mod' m 2048 in
    let f : m % 2048 * t / 2048 * 2048 + m % 2048 * t % 2048 ≡ m % 2048 * t = div-add-mod' (m % 2048 * t) 2048 in
    let g : m / 2048 * 2048 * t + m % 2048 * t ≡ m * t = sym (add-mul (m / 2048 * 2048) (m % 2048) t) ∙ ap (λ (x : ℕ). x * t) e in
    let h : m / 2048 * 2048 * t ≡ m / 2048 * t * 2048 = mul_right_comm (m / 2048) 2048 t in
    omega arith

-- ---- room for the two parts
pub low_room : (m t : ℕ) → t ≤ 10 ^ 6 → m % 2048 * t ≤ 2048 * 10 ^ 6
low_room m t h = times_le (m % 2048) 2048 t (10 ^ 6) (omega arith) h

pub high_room : (m t : ℕ) → m < 2 ^ 53 → t ≤ 10 ^ 6 → m / 2048 * t ≤ 2 ^ 42 * 10 ^ 6
high_room m t l h = times_le (m / 2048) (2 ^ 42) t (10 ^ 6) (omega arith) h

pub half_room : (s : ℕ) → s ≤ 74 → 2 ^ (s - 12) ≤ 2 ^ 62
half_room s h = pow_mono {i = s - 12} {j = 62} (omega arith)

-- ---- few units
pub no_units : (d a : ℕ) → d ≤ 6 → significand_of a < 2 ^ 53 → 74 < shift_of a → 0 ≡ units_of d a
unfolding units_of
no_units d a h m s =
    let t : 10 ^ d ≤ 10 ^ 6 = ten_power d h in
    let p : significand_of a * 10 ^ d ≤ 2 ^ 53 * 10 ^ 6 = times_le (significand_of a) (2 ^ 53) (10 ^ d) (10 ^ 6) (omega arith) t in
    let l : 2 ^ 75 ≤ 2 ^ shift_of a = pow_mono {i = 75} {j = shift_of a} s in
    sym (closest_below (significand_of a * 10 ^ d) (2 ^ shift_of a) 0 (significand_of a * 10 ^ d) (omega arith) (omega arith) (omega arith))

pub units_bound : (d a : ℕ) → significand_of a < 2 ^ 53 → 12 ≤ shift_of a → units_of d a ≤ 2 ^ 41 * 10 ^ d
unfolding units_of
units_bound d a m s =
    let l : 2 ^ 12 ≤ 2 ^ shift_of a = pow_mono {i = 12} {j = shift_of a} s in
    let p : significand_of a * 10 ^ d ≤ 2 ^ 41 * 2 ^ shift_of a * 10 ^ d = mul-le-mul_right (10 ^ d) (omega arith) in
    let e : 2 ^ 41 * 2 ^ shift_of a * 10 ^ d ≡ 2 ^ 41 * 10 ^ d * 2 ^ shift_of a = mul_right_comm (2 ^ 41) (2 ^ shift_of a) (10 ^ d) in
    closest_bound (significand_of a * 10 ^ d) (2 ^ shift_of a) (2 ^ 41 * 10 ^ d) (pow_pos (shift_of a)) (omega arith)

units_same : (d a m s t h r : ℕ) → m ≡ significand_of a → s ≡ shift_of a → 12 ≤ s → t ≡ 10 ^ d → h ≡ 2 ^ (s - 12)
    → r ≡ closest ((m / 2048 * t + m % 2048 * t / 2048) * 2048 + m % 2048 * t % 2048) (h * 4096) → r ≡ units_of d a
unfolding units_of
units_same d a m s t h r em es l et eh e =
    e
    ∙ ap (λ (x : ℕ). closest x (h * 4096)) (product_parts m t ∙ ap (λ (x : ℕ). x * t) em ∙ ap (λ (x : ℕ). significand_of a * x) et)
    ∙ ap (λ (x : ℕ). closest (significand_of a * 10 ^ d) x) (ap (λ (x : ℕ). x * 4096) eh ∙ two_power s l ∙ ap (λ (x : ℕ). 2 ^ x) es)

pub units_are : (d a m s t h r : ℕ) → m ≡ significand_of a → m < 2 ^ 53 → s ≡ shift_of a → 12 ≤ s → t ≡ 10 ^ d → h ≡ 2 ^ (s - 12)
    → r ≡ closest ((m / 2048 * t + m % 2048 * t / 2048) * 2048 + m % 2048 * t % 2048) (h * 4096) → (r ≡ units_of d a) × (r ≤ 2 ^ 41 * 10 ^ d)
units_are d a m s t h r em few es l et eh e =
    let u : r ≡ units_of d a = units_same d a m s t h r em es l et eh e in
    let b : units_of d a ≤ 2 ^ 41 * 10 ^ d = units_bound d a (omega arith) (omega arith) in
    (u, omega arith)

pub units_short : (d u : ℕ) → u ≤ 2 ^ 41 * 10 ^ d → u < 10 ^ (d + 13)
units_short d u h =
    let e : 10 ^ (d + 13) ≡ 10 ^ d * 10 ^ 13 = pow-add 10 d 13 in
    let f : 2 ^ 41 * 10 ^ d ≡ 10 ^ d * 2 ^ 41 = mul_comm (2 ^ 41) (10 ^ d) in
    let p : 0 < 10 ^ d = pow-le-pow_right {n = 10} (omega arith) {i = 0} {j = d} (omega arith) in
    omega arith
