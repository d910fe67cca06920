-- Whole numbers of a lent slice: as 64 bits hold them, with their signs changed, and the first that is too large. Definitions only.
use Rattle.std.specs.Prelude.{Bool, true, false, cond, List, [], ◌∷◌, map, ℕ, suc, ◌≤◌, ◌<◌, leb, ℤ, pos, neg_ℤ, nat_abs, length, get_or}
use Rattle.std.specs.Int.{w64}
use Rattle.std.proofs.Common.{to_z, of_z}

-- a number as 64 signed bits hold it: itself where it fits them, as every number of a lent slice does
abbrev pub held : ℤ → ℤ
held z = to_z w64 (of_z w64 z)

abbrev pub held_all : List ℤ → List ℤ
held_all ks = map held ks

-- as it is, or with its sign changed: a table that falls, rises then
abbrev pub turned : Bool → ℤ → ℤ
turned true z = z
turned false z = neg_ℤ z

abbrev pub turned_all : Bool → List ℤ → List ℤ
turned_all up z = map (turned up) z

-- at most so large in magnitude
unfoldable pub small : ℕ → ℤ → Bool
small most z = leb (nat_abs z) most

-- the number of the first that is larger, from 0; their count if none is
unfoldable pub first_large : ℕ → List ℤ → ℕ
unfolding small
first_large most [] = 0
first_large most (z ∷ zs) = cond (small most z) (suc (first_large most zs)) 0

-- what inner functions hand on: none is larger
pub record Small (most : ℕ) (z : List ℤ) : Type 0 where
  pub each : (i : ℕ) → i < length z → nat_abs (get_or z i (pos 0)) ≤ most
