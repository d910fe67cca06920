-- Raised by the bound of a knot, as the code reads it. Assumes nothing.
use mathlib.Core.Path.{ap, ◌∙◌, sym, subst}
use Prim.Native.Nat.{◌≤◌}
use lib.IntN.{ℤ, nat_abs}
use lib.Dec.{lit≤}
use mir.Facts.{to_z-of_z}
use Rattle.whole.specs.Held.{turned}
use Rattle.turns_back.specs.Call.{most}
use Rattle.turns_back.proofs.raised.Goals as goal

pub raised-requires : goal.raised-requires
raised-requires c = record { small = subst (λ (z : ℤ). nat_abs z ≤ most) (sym (to_z-of_z c.ranges.k)) c.requires; bound = lit≤ tt }

pub returns : goal.returns
returns c = record { is = c.raised.ensures.is ∙ ap (turned c.args.up) (to_z-of_z c.ranges.k); most = c.raised.ensures.most }
