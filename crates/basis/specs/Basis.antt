-- The six bases: STEP, the length rule, and the matrices, each entry the double nearest to a fraction of whole numbers. Definitions only.
use Rattle.std.specs.Prelude.{List, [], ◌∷◌, Bool, true, false, ◌&&◌, ℕ, suc, ◌-◌, ◌+◌, ◌/◌, ◌%◌, leb, eqb, ℤ, pos, negsuc, Float}
use Rattle.std.specs.Float.{binary64}
use Rattle.std.specs.Float.Ieee.{round}
use Rattle.basis.specs.declared.Basis.{Basis}
use Rattle.basis.specs.declared.Terms.{Terms}
use Rattle.basis.specs.declared.Basis.TheVariants.{Bspline, Bezier, CatmullRom, Hermite, Linear, Power}

-- the most knots that a call takes
abbrev pub most_knots : ℕ
most_knots = 4096

abbrev pub step_of : Basis → ℕ
step_of Bspline = 1
step_of Bezier = 3
step_of CatmullRom = 1
step_of Hermite = 2
step_of Linear = 1
step_of Power = 4

-- (knots − 4) is a multiple of STEP
abbrev pub regular : Basis → ℕ → Bool
regular b n = eqb ((n - 4) % step_of b) 0

-- at least 4 knots, and regular
abbrev pub length_ok : Basis → ℕ → Bool
length_ok b n = leb 4 n && regular b n

-- n knots give (n − 4)/STEP + 1 segments
abbrev pub segments_of : Basis → ℕ → ℕ
segments_of b n = (n - 4) / step_of b + 1

-- whole numbers, signed
abbrev -6 : ℤ
-6 = negsuc 5

abbrev -5 : ℤ
-5 = negsuc 4

abbrev -3 : ℤ
-3 = negsuc 2

abbrev -2 : ℤ
-2 = negsuc 1

abbrev -1 : ℤ
-1 = negsuc 0

abbrev +0 : ℤ
+0 = pos 0

abbrev +1 : ℤ
+1 = pos 1

abbrev +2 : ℤ
+2 = pos 2

abbrev +3 : ℤ
+3 = pos 3

abbrev +4 : ℤ
+4 = pos 4

-- the whole numbers that a matrix is made of, four rows of four
abbrev pub whole_of : Basis → List (List ℤ)
whole_of Bspline =
    (-1 ∷ +3 ∷ -3 ∷ +1 ∷ []) ∷
    (+3 ∷ -6 ∷ +3 ∷ +0 ∷ []) ∷
    (-3 ∷ +0 ∷ +3 ∷ +0 ∷ []) ∷
    (+1 ∷ +4 ∷ +1 ∷ +0 ∷ []) ∷
    []
whole_of Bezier =
    (-1 ∷ +3 ∷ -3 ∷ +1 ∷ []) ∷
    (+3 ∷ -6 ∷ +3 ∷ +0 ∷ []) ∷
    (-3 ∷ +3 ∷ +0 ∷ +0 ∷ []) ∷
    (+1 ∷ +0 ∷ +0 ∷ +0 ∷ []) ∷
    []
whole_of CatmullRom =
    (-1 ∷ +3 ∷ -3 ∷ +1 ∷ []) ∷
    (+2 ∷ -5 ∷ +4 ∷ -1 ∷ []) ∷
    (-1 ∷ +0 ∷ +1 ∷ +0 ∷ []) ∷
    (+0 ∷ +2 ∷ +0 ∷ +0 ∷ []) ∷
    []
whole_of Hermite =
    (+2 ∷ +1 ∷ -2 ∷ +1 ∷ []) ∷
    (-3 ∷ -2 ∷ +3 ∷ -1 ∷ []) ∷
    (+0 ∷ +1 ∷ +0 ∷ +0 ∷ []) ∷
    (+1 ∷ +0 ∷ +0 ∷ +0 ∷ []) ∷
    []
whole_of Linear =
    (+0 ∷ +0 ∷ +0 ∷ +0 ∷ []) ∷
    (+0 ∷ +0 ∷ +0 ∷ +0 ∷ []) ∷
    (+0 ∷ -1 ∷ +1 ∷ +0 ∷ []) ∷
    (+0 ∷ +1 ∷ +0 ∷ +0 ∷ []) ∷
    []
whole_of Power =
    (+1 ∷ +0 ∷ +0 ∷ +0 ∷ []) ∷
    (+0 ∷ +1 ∷ +0 ∷ +0 ∷ []) ∷
    (+0 ∷ +0 ∷ +1 ∷ +0 ∷ []) ∷
    (+0 ∷ +0 ∷ +0 ∷ +1 ∷ []) ∷
    []

-- and the one that divides them
abbrev pub divisor_of : Basis → ℕ
divisor_of Bspline = 6
divisor_of Bezier = 1
divisor_of CatmullRom = 2
divisor_of Hermite = 1
divisor_of Linear = 1
divisor_of Power = 1

-- the double nearest to z / d
unfoldable pub frac : ℕ → ℤ → Float
unfolding round
frac d (pos n) = round binary64 false n d
frac d (negsuc n) = round binary64 true (suc n) d

unfoldable pub row : ℕ → List ℤ → List Float
unfolding frac
row d [] = []
row d (z ∷ zs) = frac d z ∷ row d zs

unfoldable pub rows : ℕ → List (List ℤ) → List (List Float)
unfolding row
rows d [] = []
rows d (r ∷ rs) = row d r ∷ rows d rs

-- four rows of four doubles
unfoldable pub matrix_of : Basis → List (List Float)
unfolding rows
matrix_of b = rows (divisor_of b) (whole_of b)

-- both, as the code has them
abbrev pub terms_of : Basis → Terms
terms_of b = record { step = step_of b; matrix = matrix_of b }

-- the one basis whose matrix has no inverse
abbrev pub is_linear : Basis → Bool
is_linear Bspline = false
is_linear Bezier = false
is_linear CatmullRom = false
is_linear Hermite = false
is_linear Linear = true
is_linear Power = false
