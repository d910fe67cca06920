-- The bits of a number, and the bound on evaluations. Definitions only.
use Rattle.std.specs.Prelude.{cond, ℕ, ◌+◌, ◌-◌, ◌*◌, leb}
use Rattle.std.specs.Int.Count.{count_leading_zeros}

-- the binary digits up to the highest one, for a k below 2^64: 13 has 4
unfoldable pub bits_of : ℕ → ℕ
bits_of k = 64 - count_leading_zeros 64 k

-- at most so many evaluations for k segments: limit + 24 up to 12, limit + 2b + 4 above
abbrev pub bound_of : ℕ → ℕ → ℕ
bound_of k limit = cond (leb k 12) (limit + 24) (limit + 2 * bits_of k + 4)
