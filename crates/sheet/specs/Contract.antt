-- How code holds a sheet. Definitions only.
use Rattle.std.specs.Prelude.{List, ℕ, take, Float}
use Rattle.sheet.specs.declared.SheetState.{SheetState}
use Rattle.sheet.specs.declared.SheetState.TheVariants.{Unbegun, On, Faulty}
use Rattle.sheet.specs.Sheet.{Sheet, unbegun, on, faulty}

-- the depths are the first doubles of the table
abbrev pub sheet_of : SheetState → List Float → Sheet
sheet_of Unbegun table = unbegun
sheet_of (On b n) table = on b (take n table)
sheet_of (Faulty r) table = faulty r

abbrev pub count_of : SheetState → ℕ
count_of Unbegun = 0
count_of (On b n) = n
count_of (Faulty r) = 0
