-- Numbers as text: the steps of the functions that write them. Assumes nothing.
use mathlib.Core.Path.{◌≡◌, refl}
use mathlib.Core.List.{List, [], ◌∷◌}
use Prim.Native.Nat.{ℕ, zero, suc, ◌+◌, ◌-◌, ◌/◌, ◌%◌, ◌≤◌, ◌<◌, ◌^◌}
use Rattle.std.proofs.Common.{sub-one, add-one, ap, ◌∙◌, length, length-append, ◌++◌}
use native.Mathlib.Nat.{pow-suc, div-lt_iff_lt-mul}
use native.Mathlib.Omega.{arith}
use borrow.Author.Tests.{lt-ltb, le-ltb}
use Rattle.text.specs.Text.{glyph_of, hex_text, dec_text}

pub dec_one : (k n : ℕ) → n < 10 → dec_text k n ≡ (48 + n) ∷ []
unfolding dec_text
dec_one zero n h = refl
dec_one (suc k) n h = simp (lt-ltb n 10 h)

pub dec_room : (n k : ℕ) → n < 10 ^ (k + 1) → 10 ≤ n → 0 < k
dec_room n zero h t = omega arith
dec_room n (suc k) h t = omega arith

pub dec_less : (n k : ℕ) → n < 10 ^ (k + 1) → 0 < k → n / 10 < 10 ^ (k - 1 + 1)
dec_less n k h t =
    let p : k + 1 ≡ suc (k - 1 + 1) = omega arith in
    (div-lt_iff_lt-mul {k = 10} {x = n} {y = 10 ^ (k - 1 + 1)} (omega arith)).1 (rw (p, pow-suc) at h)

pub hex_zero : (k n : ℕ) → k ≤ 0 → hex_text k n ≡ []
unfolding hex_text
hex_zero zero n h = refl
hex_zero (suc k) n h = absurd (omega arith)

pub hex_step : (k n : ℕ) → 0 < k → hex_text k n ≡ hex_text (k - 1) (n / 16) ++ (glyph_of (n % 16) ∷ [])
unfolding hex_text
hex_step zero n h = absurd (omega arith)
hex_step (suc k) n h = rw sub-one refl

-- the digits are as many as were asked for
pub hex_long : (k n : ℕ) → length (hex_text k n) ≡ k
unfolding hex_text
hex_long zero n = refl
hex_long (suc k) n =
    length-append (hex_text k (n / 16)) (glyph_of (n % 16) ∷ []) ∙ ap (λ m. m + 1) (hex_long k (n / 16)) ∙ add-one k

pub dec_step : (k n : ℕ) → 10 ≤ n → 0 < k → dec_text k n ≡ dec_text (k - 1) (n / 10) ++ ((48 + n % 10) ∷ [])
unfolding dec_text
dec_step zero n h z = absurd (omega arith)
dec_step (suc k) n h z = rw (le-ltb n 10 h, sub-one) refl

pub ruleset dec_steps = (dec_one, dec_step, dec_room, dec_less)
