-- The text of a comparison: a line for each difference, then `same` or how many places differ. Definitions only.
use Rattle.std.specs.Prelude.{List, [], ◌∷◌, ◌++◌, ℕ}
use Rattle.lines_record.specs.Record.{name_of}
use Rattle.table_span.specs.declared.Table.{Table}
use Rattle.text.specs.Text.{bytes, LF, TAB, dec_text, hex_text}
use Rattle.compare.specs.Differences.{Difference, basis, span, knot, only, differences_of, places_in}

-- a knot as 16 digits, its place in decimals; spans without leading zeros
abbrev pub difference_text : Difference → List ℕ
difference_text (basis b c) = bytes "basis\t" ++ name_of b ++ (TAB ∷ []) ++ name_of c ++ (LF ∷ [])
difference_text (span r s) = bytes "span\t" ++ dec_text 9 r ++ (TAB ∷ []) ++ dec_text 9 s ++ (LF ∷ [])
difference_text (knot i a b) = bytes "knot\t" ++ dec_text 3 i ++ (TAB ∷ []) ++ hex_text 16 a ++ (TAB ∷ []) ++ hex_text 16 b ++ (LF ∷ [])
difference_text (only i a) = bytes "only\t" ++ dec_text 3 i ++ (TAB ∷ []) ++ hex_text 16 a ++ (LF ∷ [])

unfoldable pub lines_text : List Difference → List ℕ
lines_text [] = []
lines_text (d ∷ ds) = difference_text d ++ lines_text ds

-- the last line: `same` where nothing differs, else the number of `knot` and `only` lines
unfoldable pub last_text : List Difference → List ℕ
last_text [] = bytes "same\n"
last_text (d ∷ ds) = dec_text 3 (places_in (d ∷ ds)) ++ (LF ∷ [])

unfoldable pub comparison_text : Table → List ℕ → Table → List ℕ → List ℕ
comparison_text t ks u ls = let ds = differences_of t ks u ls in lines_text ds ++ last_text ds
