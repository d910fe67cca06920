-- A printed comparison, read: what each of its lines says, from its bytes alone. Definitions only; proofs/ReadBack.antt and
-- proofs/Printed.antt show what it says of a comparison.
use Rattle.std.specs.Prelude.{cond, List, [], ◌∷◌, ℕ, Some, None, Option}
use Rattle.basis.specs.declared.Basis.{Basis}
use Rattle.table_span.specs.declared.Table.{Table}
use Rattle.text.specs.Text.{bytes, same, fields_of, hex_of}
use Rattle.text_decimals.specs.Decimals.{number_in}
use Rattle.lines_record.specs.Record.{named_of}
use Rattle.lines_machine.specs.Program.{lines_of}
use Rattle.compare.specs.Differences.{Difference, basis, span, knot, only, places_in, rebuilt}

-- a difference; that nothing differs; how many places do; or none of these
pub data Said : Type 0 where
  tells : Difference → Said
  nothing : Said
  count : ℕ → Said
  unread : Said

abbrev pub basis_said : Option Basis → Option Basis → Said
basis_said (Some b) (Some c) = tells (basis b c)
basis_said (Some b) None = unread
basis_said None c = unread

abbrev pub span_said : Option ℕ → Option ℕ → Said
span_said (Some r) (Some s) = tells (span r s)
span_said (Some r) None = unread
span_said None s = unread

abbrev pub only_said : Option ℕ → Option ℕ → Said
only_said (Some i) (Some a) = tells (only i a)
only_said (Some i) None = unread
only_said None a = unread

abbrev pub knot_said : Option ℕ → Option ℕ → Option ℕ → Said
knot_said (Some i) (Some a) (Some b) = tells (knot i a b)
knot_said (Some i) (Some a) None = unread
knot_said (Some i) None b = unread
knot_said None a b = unread

abbrev pub count_said : Option ℕ → Said → Said
count_said (Some n) r = count n
count_said None r = r

-- a place and a number of places have 1 to 4 digits, a span 1 to 10, a knot 16
unfoldable pub said_by : List (List ℕ) → Said
said_by [] = unread
said_by (w ∷ []) = count_said (number_in 4 w) (cond (same w (bytes "same")) nothing unread)
said_by (w ∷ x ∷ []) = unread
said_by (w ∷ x ∷ y ∷ []) =
    cond (same w (bytes "basis")) (basis_said (named_of x) (named_of y))
    (cond (same w (bytes "span")) (span_said (number_in 10 x) (number_in 10 y))
    (cond (same w (bytes "only")) (only_said (number_in 4 x) (hex_of y)) unread))
said_by (w ∷ x ∷ y ∷ z ∷ []) = cond (same w (bytes "knot")) (knot_said (number_in 4 x) (hex_of y) (hex_of z)) unread
said_by (w ∷ x ∷ y ∷ z ∷ v ∷ vs) = unread

-- what a line says, without its LF
unfoldable pub said_in : List ℕ → Said
said_in l = said_by (fields_of l)

unfoldable pub said_over : List (List ℕ) → List Said
said_over [] = []
said_over (l ∷ ls) = said_in l ∷ said_over ls

-- what some bytes say, line by line
abbrev pub read_of : List ℕ → List Said
read_of x = said_over (lines_of x)

-- the differences among it
unfoldable pub told_in : List Said → List Difference
told_in [] = []
told_in (tells d ∷ rs) = d ∷ told_in rs
told_in (nothing ∷ rs) = told_in rs
told_in (count n ∷ rs) = told_in rs
told_in (unread ∷ rs) = told_in rs

-- ---- what a comparison is to say: its differences in order, then how many places differ, or that nothing does
unfoldable pub tells_all : List Difference → List Said
tells_all [] = []
tells_all (d ∷ ds) = tells d ∷ tells_all ds

unfoldable pub last_said : List Difference → Said
last_said [] = nothing
last_said (d ∷ ds) = count (places_in (d ∷ ds))

-- ---- the way back: the second table from the first table's knots, its own basis, span and length, and the bytes that were printed
unfoldable pub rebuilt_table : List ℕ → Basis → ℕ → ℕ → List ℕ → Table × List ℕ
rebuilt_table ks b s n x = (record { basis = b; span = s }, rebuilt 0 n ks (told_in (read_of x)))
