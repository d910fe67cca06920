-- A place is left, or none.
use native.Mathlib.Omega.{arith}
use Rattle.keeper.proofs.Keeping.{one_more, no_place}
use Rattle.keeper.proofs.keep.Goals as goal

pub returns-then-n-lt-PLACES : goal.returns-then-n-lt-PLACES
returns-then-n-lt-PLACES g c = let a = c.args in one_more a.x a.n a.table.now (omega arith) (omega arith)

pub returns : goal.returns
returns g c = let a = c.args in no_place a.x a.n a.table.now (omega arith) (omega arith) (omega arith)
