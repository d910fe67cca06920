-- The second of a span of 8,600.
use mathlib.Core.Path.{ap}
use Rattle.picture_finds.specs.Finds.{place_column}
use Prim.Native.Nat.{◌+◌}
use Rattle.picture_finds.proofs.place_column.Goals as goal

pub returns : goal.returns
unfolding place_column
returns c = ap (λ x. 1000 + x) c.second.ensures.answer
