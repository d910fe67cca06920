-- One segment by its own four knots. Definitions only.
use Rattle.std.specs.Prelude.{Bool, List, [], ◌≡◌, ℕ, ◌+◌, ◌≤◌, ℤ, pos, get_or}
use Rattle.std.proofs.Math.IntN.{sub_ℕ}
use Rattle.basis.specs.declared.Basis.{Basis}
use Rattle.basis.specs.Basis.{whole_of}
use Rattle.spline_exact.specs.Cubic.{whole_sum}
use Rattle.whole.specs.Held.{turned_all}
use Rattle.turns_back.specs.Call.{most}
use Rattle.turns_back.specs.Curve.{value_at, cubic_never_falls}

-- row r of the basis's matrix over the knots
abbrev pub row_of : Basis → List ℤ → ℕ → ℤ
row_of b z r = whole_sum z (get_or (whole_of b) r [])

unfoldable pub four_never_fall : Basis → List ℤ → Bool
unfolding whole_sum cubic_never_falls
four_never_fall b z = cubic_never_falls (row_of b z 0) (row_of b z 1) (row_of b z 2)

-- at j of n parts, multiplied by n³ and the basis's divisor
unfoldable pub four_at : Basis → List ℤ → ℕ → ℕ → ℤ
unfolding whole_sum value_at
four_at b z n j = value_at (row_of b z 0) (row_of b z 1) (row_of b z 2) (row_of b z 3) n j

-- ---- what inner functions hand on
-- the four knots from a place on, turned and each raised by `most`
pub record FourFrom (up : Bool) (z : List ℤ) (at k0 k1 k2 k3 : ℕ) : Type 0 where
  pub is0 : sub_ℕ k0 most ≡ get_or (turned_all up z) at (pos 0)
  pub is1 : sub_ℕ k1 most ≡ get_or (turned_all up z) (at + 1) (pos 0)
  pub is2 : sub_ℕ k2 most ≡ get_or (turned_all up z) (at + 2) (pos 0)
  pub is3 : sub_ℕ k3 most ≡ get_or (turned_all up z) (at + 3) (pos 0)
  pub few0 : k0 ≤ 2000000000000
  pub few1 : k1 ≤ 2000000000000
  pub few2 : k2 ≤ 2000000000000
  pub few3 : k3 ≤ 2000000000000
