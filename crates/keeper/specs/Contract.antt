-- How code keeps a table: the numbers are the first ones of what is lent. Definitions only.
use Rattle.std.specs.Prelude.{◌≡◌, List, ℕ, ◌≤◌, take, drop, Option, None, Some, is_some}
use Rattle.keeper.specs.Table.{places, has_room, kept}

-- how many stand in the table after a number came upon n: as many as is told, or n where it found no place
abbrev pub count_after : ℕ → Option ℕ → ℕ
count_after n None = n
count_after n (Some k) = k

-- x came upon the first n numbers of the table, which became table'; the places behind them stand as they did
pub record Keeps {A : Type 0} (x : A) (n : ℕ) (table : List A) (k : Option ℕ) (table' : List A) : Type 0 where
  pub numbers : take (count_after n k) table' ≡ kept (take n table) x
  pub others : drop (count_after n k) table' ≡ drop (count_after n k) table
  pub taken : is_some k ≡ has_room (take n table)
  pub few : count_after n k ≤ places
