-- Texts as lists of bytes: words, fields, hexadecimal digits, decimals, and doubles as bit patterns. Definitions only.
use Rattle.std.specs.Prelude.{Bool, true, false, cond, ◌&&◌, List, [], ◌∷◌, ◌++◌, ℕ, zero, suc, ◌+◌, ◌*◌, ◌-◌, ◌/◌, ◌%◌, leb, ltb, eqb, length, Float, Some, None, Option}
use Prim.Native.Char.{code}
use Prim.Native.String.{String, [] as []ˢ, ◌∷◌ as ◌∷ˢ◌}
use Rattle.std.specs.Float.Ieee.{of_bits, to_bits}
use Rattle.std.specs.Float.{binary64}

-- ---- words

-- the bytes of a quoted text, whose characters are all ASCII
abbrev pub bytes : String → List ℕ
bytes []ˢ = []
bytes (c ∷ˢ s) = code c ∷ bytes s

abbrev pub TAB : ℕ
TAB = 9

abbrev pub LF : ℕ
LF = 10

-- whether two texts are the same
unfoldable pub same : List ℕ → List ℕ → Bool
same [] [] = true
same [] (b ∷ w) = false
same (a ∷ s) [] = false
same (a ∷ s) (b ∷ w) = eqb a b && same s w

-- ---- fields

-- b before the first of some texts
unfoldable pub onto : ℕ → List (List ℕ) → List (List ℕ)
onto b [] = (b ∷ []) ∷ []
onto b (t ∷ ts) = (b ∷ t) ∷ ts

-- the fields of a line, parted by tabs
unfoldable pub fields_of : List ℕ → List (List ℕ)
fields_of [] = [] ∷ []
fields_of (b ∷ s) = cond (eqb b TAB) ([] ∷ fields_of s) (onto b (fields_of s))

-- the place of the first b; the length where there is none
unfoldable pub place_of : ℕ → List ℕ → ℕ
place_of b [] = 0
place_of b (a ∷ s) = cond (eqb a b) 0 (suc (place_of b s))

-- the place of the first tab
abbrev pub tab_of : List ℕ → ℕ
tab_of s = place_of TAB s

-- ---- hexadecimal digits

-- the value of an uppercase digit; 16 for any other byte
abbrev pub digit_of : ℕ → ℕ
digit_of b = cond (leb 48 b && leb b 57) (b - 48) (cond (leb 65 b && leb b 70) (b - 55) 16)

-- n, with the digits s after it
unfoldable pub value_of : ℕ → List ℕ → Option ℕ
value_of n [] = Some n
value_of n (b ∷ s) = cond (eqb (digit_of b) 16) None (value_of (n * 16 + digit_of b) s)

-- what 16 digits say
unfoldable pub hex_of : List ℕ → Option ℕ
hex_of s = cond (eqb (length s) 16) (value_of 0 s) None

-- the digit of a number below 16
abbrev pub glyph_of : ℕ → ℕ
glyph_of d = cond (ltb d 10) (48 + d) (55 + d)

-- the k lowest digits of n, the highest of them first
unfoldable pub hex_text : ℕ → ℕ → List ℕ
hex_text zero n = []
hex_text (suc k) n = hex_text k (n / 16) ++ (glyph_of (n % 16) ∷ [])

-- ---- decimals

-- n in decimals, without a leading zero, where it has at most k + 1 of them
unfoldable pub dec_text : ℕ → ℕ → List ℕ
dec_text zero n = (48 + n) ∷ []
dec_text (suc k) n = cond (ltb n 10) ((48 + n) ∷ []) (dec_text k (n / 10) ++ ((48 + n % 10) ∷ []))

-- ---- doubles

-- the double of a bit pattern: one nan for all of NaN's patterns
unfoldable pub double_of : ℕ → Float
double_of n = of_bits binary64 n

-- a double's bit pattern, as 16 digits
abbrev pub double_text : Float → List ℕ
double_text x = hex_text 16 (to_bits binary64 x)
