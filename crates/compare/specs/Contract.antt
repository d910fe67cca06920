-- What only the contracts of inner functions cite: the room that a comparison takes, and the difference at one place. Definitions only.
use Rattle.std.specs.Prelude.{Bool, cond, List, [], ◌∷◌, ◌++◌, ℕ, ltb, eqb, length, get_or}
use Rattle.basis.specs.Basis.{most_knots}
use Rattle.text.specs.Text.{bytes, LF, dec_text}
use Rattle.compare.specs.Differences.{Difference, knot, only}

-- the most knots of a table
abbrev pub most : ℕ
most = most_knots

-- room for the longest comparison: 28 bytes for the bases, 27 for the spans, 44 for each of 4,096 places, 5 for the last line
abbrev pub longest : ℕ
longest = 180284

-- the difference at place i, which one table has at least
abbrev pub at_place : ℕ → List ℕ → List ℕ → List Difference
at_place i ks ls =
    cond (ltb i (length ks))
    (cond (ltb i (length ls)) (cond (eqb (get_or ks i 0) (get_or ls i 0)) [] (knot i (get_or ks i 0) (get_or ls i 0) ∷ []))
    (only i (get_or ks i 0) ∷ []))
    (only i (get_or ls i 0) ∷ [])

-- the last line, by whether nothing was written before it, and by how many places were told
abbrev pub last_line : Bool → ℕ → List ℕ
last_line none n = cond none (bytes "same\n") (dec_text 3 n ++ (LF ∷ []))
