-- The size of what the code reads is the number's. Assumes nothing.
use mathlib.Core.Path.{ap, ◌∙◌}
use Prim.Native.Nat.{ℕ}
use lib.Dec.{leb}
use Rattle.whole.specs.Held.{small}
use Rattle.whole.proofs.Held.{size_same}
use Rattle.whole.proofs.is_small.Goals as goal

pub returns : goal.returns
unfolding small
returns c = ap (λ (n : ℕ). leb n c.args.most) (c.size.ensures ∙ size_same c.args.k c.ranges.k)
