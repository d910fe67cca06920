-- A case for patterns without a leading digit, and one for the others.
use native.Mathlib.Omega.{arith}
use Rattle.text_rounded.proofs.Parts.{small_shift, large_shift}
use Rattle.text_rounded.proofs.shift.Goals as goal

pub returns-then-a-lt4503599627370496 : goal.returns-then-a-lt4503599627370496
returns-then-a-lt4503599627370496 c = record { answer = small_shift _ (omega arith); least = omega arith }

pub returns : goal.returns
returns c = record { answer = large_shift _ (omega arith); least = omega arith }
