-- What it is to have written a text into a lent slice. Definitions only.
use Rattle.std.specs.Prelude.{◌≡◌, List, ◌++◌, ℕ, ◌+◌, length, take, drop}

-- o' is o with the bytes t from `at` up to r
pub record Wrote (o : List ℕ) (at : ℕ) (t o' : List ℕ) (r : ℕ) : Type 0 where
  pub next : r ≡ at + length t
  pub long : length o' ≡ length o
  pub front : take r o' ≡ take at o ++ t
  pub back : drop r o' ≡ drop r o
