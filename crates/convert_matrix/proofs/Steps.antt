-- The conversion's matrix, row by row. Assumes nothing.
use mathlib.Core.Path.{◌≡◌, ap, ◌∙◌}
use mathlib.Core.List.{List, [], ◌∷◌}
use Prim.Native.Nat.{ℕ}
use lib.Ieee.{Float}
use Rattle.basis.specs.declared.Basis.{Basis}
use Rattle.basis.specs.Basis.{matrix_of}
use Rattle.convert_matrix.specs.Matrix.{Matrix, row, row_times, product}
use Rattle.convert_matrix.specs.Elimination.{inverse_of, conversion_of}

pub listed : {A : Type 0} {a b c d a' b' c' d' : A} → a ≡ a' → b ≡ b' → c ≡ c' → d ≡ d' → a ∷ b ∷ c ∷ d ∷ [] ≡ a' ∷ b' ∷ c' ∷ d' ∷ []
listed p q r s = cc

module _ (from to : Basis) {b : Matrix} (e : b ≡ matrix_of from) where
  -- a row of the inverse times the basis's matrix
  pub conversion_row : (i : ℕ) {r v : List Float} → r ≡ row (inverse_of to) i → v ≡ row_times r b → v ≡ row_times (row (inverse_of to) i) (matrix_of from)
  conversion_row i {r} p q = q ∙ ap (λ (x : List Float). row_times x b) p ∙ ap (row_times (row (inverse_of to) i)) e

pub conversion : (from to : Basis) {r0 r1 r2 r3 : List Float} → r0 ≡ row_times (row (inverse_of to) 0) (matrix_of from)
    → r1 ≡ row_times (row (inverse_of to) 1) (matrix_of from)
    → r2 ≡ row_times (row (inverse_of to) 2) (matrix_of from) → r3 ≡ row_times (row (inverse_of to) 3) (matrix_of from)
    → r0 ∷ r1 ∷ r2 ∷ r3 ∷ [] ≡ conversion_of from to
unfolding conversion_of product
conversion from to p q r s = listed p q r s
