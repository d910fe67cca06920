-- The invariant: n is what the digits so far say, below 10 to the power of how many, and the digits still to come make of it what all say.
use Rattle.std.proofs.Common.{◌≡◌, ◌≤◌, ◌<◌, ◌^◌, length, drop}
use Rattle.text_decimals.specs.Decimals.{digits_of}
use Rattle.text_decimals.proofs.number_in.Given as goal

abbrev pub invariant-loop-b : goal.invariant-loop-b
invariant-loop-b l = (1 ≤ length l.s) × (length l.s ≤ l.most) × (l.most ≤ 9) × (l.n < 10 ^ l.b-index)
    × (digits_of l.n (drop l.b-index l.s) ≡ digits_of 0 l.s)
