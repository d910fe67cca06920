-- The first byte decides.
use native.Mathlib.Omega.{arith}
use Rattle.sheet.proofs.Lines.{no_minus}
use Rattle.sheet.proofs.is_minus.Goals as goal

pub returns : goal.returns
returns c = no_minus c.args.s.now (omega arith)
