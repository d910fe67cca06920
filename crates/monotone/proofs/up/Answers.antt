-- The size fits 63 bits, so it is the same number as a signed one. Assumes nothing.
use lib.Dec.{lit<}
use native.Mathlib.Nat.{lt_of_le_of_lt}
use mir.Syntax.{w64}
use mir.Facts.{to_z_pos}
use Rattle.monotone.proofs.up.Goals as goal

pub returns : goal.returns
returns c = to_z_pos w64 (lt_of_le_of_lt c.requires (lit< tt))
