-- A case for patterns without a leading digit, and one for the others.
use native.Mathlib.Omega.{arith}
use Rattle.text_rounded.proofs.Parts.{small_significand, large_significand}
use Rattle.text_rounded.proofs.significand.Goals as goal

pub returns-then-a-lt4503599627370496 : goal.returns-then-a-lt4503599627370496
returns-then-a-lt4503599627370496 c = record { answer = small_significand _ (omega arith); short = omega arith }

pub returns : goal.returns
returns c = record { answer = large_significand _ (omega arith); short = omega arith }
