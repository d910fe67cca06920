-- A double's bit pattern as a decimal: the nearest multiple of 10^-d, ties to even. Whole numbers alone: nothing here is a float.
-- Definitions only.
use Rattle.std.specs.Prelude.{Bool, cond, ◌&&◌, List, [], ◌∷◌, ◌++◌, ℕ, zero, suc, ◌+◌, ◌*◌, ◌-◌, ◌/◌, ◌%◌, ◌^◌, leb, ltb, eqb}
use Rattle.std.specs.Float.Ieee.Nearest.{closest}
use Rattle.text.specs.Text.{bytes, dec_text}

-- ---- a pattern of 64 bits: its sign, and the rest, which grows with the magnitude
abbrev pub minus_in : ℕ → Bool
minus_in n = leb (2 ^ 63) n

abbrev pub size_in : ℕ → ℕ
size_in n = n % 2 ^ 63

-- the infinities, above which NaN's patterns lie, and 2^40, the largest magnitude that is printed in digits
abbrev pub infinite : ℕ
infinite = 2047 * 2 ^ 52

abbrev pub largest : ℕ
largest = 1063 * 2 ^ 52

-- ---- the magnitude: significand / 2^shift
unfoldable pub significand_of : ℕ → ℕ
significand_of a = cond (ltb a (2 ^ 52)) a (2 ^ 52 + a % 2 ^ 52)

unfoldable pub shift_of : ℕ → ℕ
shift_of a = cond (ltb a (2 ^ 52)) 1074 (1075 - a / 2 ^ 52)

-- how many units of 10^-d: the nearest number of them, and of two that are as near the even one
unfoldable pub units_of : ℕ → ℕ → ℕ
units_of d a = closest (significand_of a * 10 ^ d) (2 ^ shift_of a)

-- ---- text
-- n units of 10^-d: whole units, the point, and d digits
unfoldable pub fixed_text : ℕ → ℕ → List ℕ
fixed_text zero n = dec_text 12 n ++ bytes "."
fixed_text (suc d) n = fixed_text d (n / 10) ++ ((48 + n % 10) ∷ [])

abbrev pub sign_text : Bool → List ℕ
sign_text minus = cond minus (bytes "-") []

-- nothing that rounds to zero has a sign
abbrev pub units_text : ℕ → Bool → ℕ → List ℕ
units_text d minus u = sign_text (minus && ltb 0 u) ++ fixed_text d u

-- what is no number, or too large, is a word
unfoldable pub rounded_text : ℕ → ℕ → List ℕ
rounded_text d n =
    let a = size_in n in
    cond (ltb infinite a) (bytes "nan")
    (cond (leb a largest) (units_text d (minus_in n) (units_of d a))
    (sign_text (minus_in n) ++ cond (eqb a infinite) (bytes "inf") (bytes "large")))
