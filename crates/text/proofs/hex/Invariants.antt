-- The invariant: n is what the digits so far say, below 16 to the power of how many, and the digits still to come make of it what all say.
use Rattle.std.proofs.Common.{◌≡◌, ◌<◌, ◌^◌, length, drop}
use Rattle.text.specs.Text.{value_of}
use Rattle.text.proofs.hex.Given as goal

abbrev pub invariant-loop-b : goal.invariant-loop-b
invariant-loop-b l = (length l.s ≡ 16) × (l.n < 16 ^ l.b-index) × (value_of l.n (drop l.b-index l.s) ≡ value_of 0 l.s)
