-- A product of two numbers below 2^47, by halves of 24 bits. Assumes nothing.
use mathlib.Core.Path.{◌≡◌, sym, ap, ◌∙◌}
use Prim.Native.Nat.{ℕ, ◌+◌, ◌*◌, ◌/◌, ◌%◌, ◌≤◌, ◌<◌}
use native.Mathlib.Nat.{mul-le-mul}
use native.Mathlib.Omega.{arith}
use Rattle.turns_back.specs.Product.{Wide}

-- ---- the four products of the halves
pub record Halves (x y : ℕ) : Type 0 where
  pub low : x % 16777216 * (y % 16777216) ≤ 281474943156225
  pub left : x / 16777216 * (y % 16777216) ≤ 140737463189505
  pub right : x % 16777216 * (y / 16777216) ≤ 140737463189505
  pub high : x / 16777216 * (y / 16777216) ≤ 70368727400449

pub halves : (x y : ℕ) → x < 140737488355328 → y < 140737488355328 → Halves x y
halves x y h k =
    let xh : x / 16777216 ≤ 8388607 = omega arith in
    let xl : x % 16777216 ≤ 16777215 = omega arith in
    let yh : y / 16777216 ≤ 8388607 = omega arith in
    let yl : y % 16777216 ≤ 16777215 = omega arith in
    record { low = mul-le-mul xl yl; left = mul-le-mul xh yl; right = mul-le-mul xl yh; high = mul-le-mul xh yh }

multiplied : (a b c d : ℕ) → (a * 16777216 + b) * (c * 16777216 + d) ≡ a * c * 281474976710656 + (a * d + b * c) * 16777216 + b * d
multiplied a b c d = omega arith

joined : (hh hl lh ll : ℕ)
    → (hh + (hl + lh + ll / 16777216) / 16777216) * 281474976710656 + ((hl + lh + ll / 16777216) % 16777216 * 16777216 + ll % 16777216)
    ≡ hh * 281474976710656 + (hl + lh) * 16777216 + ll
joined hh hl lh ll = omega arith

small_rest : (m l : ℕ) → m % 16777216 * 16777216 + l % 16777216 < 281474976710656
small_rest m l = omega arith

pub wide : (x y : ℕ)
    → let xh = x / 16777216 in let xl = x % 16777216 in let yh = y / 16777216 in let yl = y % 16777216 in
    let mid = xh * yl + xl * yh + xl * yl / 16777216 in
    Wide x y (xh * yh + mid / 16777216) (mid % 16777216 * 16777216 + xl * yl % 16777216)
wide x y =
    let xh = x / 16777216 in
    let xl = x % 16777216 in
    let yh = y / 16777216 in
    let yl = y % 16777216 in
    let ex : xh * 16777216 + xl ≡ x = omega arith in
    let ey : yh * 16777216 + yl ≡ y = omega arith in
    record {
      is =
          joined (xh * yh) (xh * yl) (xl * yh) (xl * yl)
          ∙ sym (multiplied xh xl yh yl)
          ∙ ap (λ (v : ℕ). v * (yh * 16777216 + yl)) ex
          ∙ ap (λ (v : ℕ). x * v) ey;
      low = small_rest (xh * yl + xl * yh + xl * yl / 16777216) (xl * yl);
    }
