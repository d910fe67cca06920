-- A number written behind the first n of a table is one more of them, whatever the numbers are. Assumes nothing.
use mathlib.Core.Path.{refl}
use mathlib.Core.Path.{◌≡◌}
use Rattle.std.specs.Prelude.{Some, None}
use mathlib.Core.List.{List}
use Prim.Native.Nat.{ℕ, ◌+◌, ◌≤◌, ◌<◌}
use native.Mathlib.Numerals.{add-one}
use native.Mathlib.Omega.{arith}
use borrow.Author.Tests.{lt-ltb, le-ltb}
use lib.ListN.{length, take, set}
use lib.Seq.{length-take-le, take-suc-set, drop-set-lt}
use Rattle.keeper.specs.Table.{places}
use Rattle.keeper.specs.Contract.{Keeps}

module _ {A : Type 0} (x : A) (n : ℕ) (table : List A) (full : length table ≡ places) where
  pub one_more : n < places → Keeps x n table (Some (n + 1)) (set table n x)
  one_more h =
      let l : length (take n table) ≡ n = length-take-le n table (omega arith) in
      record {
        numbers = rw (l, lt-ltb n places h, add-one n) (take-suc-set table n x (omega arith));
        others = drop-set-lt (n + 1) table n x (omega arith);
        taken = rw (l, lt-ltb n places h) refl;
        few = omega arith;
      }

  pub no_place : n ≤ places → places ≤ n → Keeps x n table None table
  no_place g h =
      let l : length (take n table) ≡ n = length-take-le n table (omega arith) in
      record { numbers = rw (l, le-ltb n places h) refl; others = refl; taken = rw (l, le-ltb n places h) refl; few = g }
