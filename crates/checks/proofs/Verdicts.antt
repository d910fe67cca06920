-- What a passed verdict says of a length, and the groups in which an inversion tests its rows. Assumes nothing.
use Rattle.std.specs.Prelude.{Ok}
use mathlib.Core.Path.{◌≡◌}
use mathlib.Core.List.{List}
use Prim.Native.Nat.{ℕ, ◌≤◌}
use borrow.Author.Tests.{ltb-false}
use native.Mathlib.Nat.{le_trans}
use lib.Dec.{lit≤}
use Rattle.error.specs.Refusals.{first}
use Rattle.error.proofs.First.{through, after, other_rows, clear}
use Rattle.basis.specs.declared.Basis.{Basis}
use Rattle.checks.specs.Checks.{curve_length, segment_length}

-- ---- lengths
pub record Length (n : ℕ) : Type 0 where
  pub least : 4 ≤ n
  pub most : n ≤ 4096

pub length_passed : (b : Basis) (n : ℕ) → first (curve_length b n) ≡ Ok tt → Length n
length_passed b n e =
    let p = clear (curve_length b n) e in
    record { least = ltb-false n 4 (p 1); most = ltb-false 4096 n (p 3) }

pub segment_length_passed : (n : ℕ) → first (segment_length n) ≡ Ok tt → n ≤ 4096
segment_length_passed n e =
    let p = clear (segment_length n) e in
    le_trans (ltb-false 4 n (p 2)) (lit≤ tt)

-- ---- the rows of an inversion past the lengths: up to the limit's, and those after it
abbrev pub asked_rows : List ℕ
asked_rows = through 7 other_rows

abbrev pub last_rows : List ℕ
last_rows = after 7 other_rows
