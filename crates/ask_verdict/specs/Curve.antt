-- The curve that a sheet draws: its basis, its whole knots, and which of the sheet's rows its segments begin at. Definitions only.
use Rattle.std.specs.Prelude.{Bool, true, false, cond, ◌&&◌, List, map, ℕ, suc, leb, eqb, ℤ, pos, negsuc, Float}
use Rattle.basis.specs.declared.Basis.{Basis}
use Rattle.basis.specs.declared.Basis.TheVariants.{Bspline, Bezier, CatmullRom, Hermite, Linear, Power}
use Rattle.basis.specs.Basis.{step_of, length_ok}
use Rattle.sheet_depth.specs.Depth.{depth_of}
use Rattle.monotone.specs.Table.{table_of}
use Rattle.ask_sheet.specs.declared.Kind.{Kind}
use Rattle.ask_sheet.specs.declared.Kind.TheVariants.{Drawn, Monotone}

abbrev pub basis_of : Kind → Basis
basis_of (Drawn b) = b
basis_of Monotone = Hermite

-- the depths, or depth and slope for each of them
abbrev pub knots_of : Kind → List ℤ → List ℤ
knots_of (Drawn b) z = z
knots_of Monotone z = table_of z

-- whether so many depths make a curve
abbrev pub suits : Kind → ℕ → Bool
suits (Drawn b) n = length_ok b n
suits Monotone n = leb 2 n && leb n 2048

-- the row at which the first segment begins, and how many rows on the next one does
abbrev pub first_row : Kind → ℕ
first_row (Drawn b) = cond (eqb (step_of b) 1) 1 0
first_row Monotone = 0

abbrev pub row_step : Kind → ℕ
row_step (Drawn b) = step_of b
row_step Monotone = 1

-- whether the curve passes through the rows
abbrev pub through_rows : Kind → Bool
through_rows (Drawn Bspline) = false
through_rows (Drawn Bezier) = false
through_rows (Drawn CatmullRom) = true
through_rows (Drawn Hermite) = false
through_rows (Drawn Linear) = true
through_rows (Drawn Power) = false
through_rows Monotone = true

-- the knots as doubles, each by the rule of a sheet's depth
abbrev pub double_of : ℤ → Float
double_of (pos n) = depth_of false n
double_of (negsuc n) = depth_of true (suc n)

abbrev pub doubles_of : Kind → List ℤ → List Float
doubles_of k z = map double_of (knots_of k z)
