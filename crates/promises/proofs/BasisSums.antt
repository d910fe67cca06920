-- The row sums of a segment go by the basis alone, by whatever name its matrix goes. Assumes nothing.
use mathlib.Core.Path.{◌≡◌, sym, ap, ◌∙◌}
use mathlib.Core.List.{List}
use lib.Ieee.{Float}
use Rattle.basis.specs.declared.Basis.{Basis}
use Rattle.basis.specs.Basis.{matrix_of}
use Rattle.spline.specs.Segment.{row_sums_of}
use Rattle.spline.specs.declared.RowSums.{RowSums}

pub by_basis_sums : (b c : Basis) (m : List (List Float)) (cv : List Float) {w : RowSums} → b ≡ c → m ≡ matrix_of c → w ≡ row_sums_of m cv
    → w ≡ row_sums_of (matrix_of b) cv
by_basis_sums b c m cv e k h = h ∙ (ap (λ (n : List (List Float)). row_sums_of n cv) k ∙ ap (λ (d : Basis). row_sums_of (matrix_of d) cv) (sym e))
