-- The invariant: both texts agree until i, so comparing what is left is comparing all.
use Prim.Native.Nat.{◌≤◌}
use mathlib.Core.Path.{◌≡◌}
use lib.ListN.{length, drop}
use Rattle.text.specs.Text.{same}
use Rattle.ask_verdict.proofs.is_same_text.Given as goal

abbrev pub invariant-loop-i : goal.invariant-loop-i
invariant-loop-i l = (length l.s ≡ length l.w) × (same (drop l.i l.s) (drop l.i l.w) ≡ same l.s l.w)
