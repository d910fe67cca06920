-- k times the double nearest to 1/k is at most 1 + 2^-53, for every k from 1 to 4093: one computed test, and one law. Assumes nothing.
use Rattle.std.proofs.Common.{◌≡◌, ℕ, suc, ◌+◌, ◌-◌, ◌*◌, ◌^◌, ◌<◌, ◌≤◌, Bool, true, false, T, leb, pos, subst, arith}
use lib.Ieee.{Float, nan, inf, fin, binary64, up, down, div, of_int}
use Rattle.doubles.specs.Numbers.{one}
use Rattle.doubles.proofs.Tests.{each, each_at}

-- k · v is at most 1 + 2^-53, which rounds to 1
abbrev pub fair : ℕ → Float → Bool
fair k nan = false
fair k (inf s) = false
fair k (fin true n d) = false
fair k (fin false n d) = leb (k * (n * up d) * 2 ^ 53) ((2 ^ 53 + 1) * down d)

inverse_fair : ℕ → Bool
inverse_fair k = fair k (div binary64 one (of_int binary64 (pos k)))

all_fair : T (each (λ i. inverse_fair (suc i)) 4093)
unfolding each inverse_fair div of_int
all_fair = tt

pub is_fair : (k : ℕ) → 0 < k → k ≤ 4093 → T (fair k (div binary64 one (of_int binary64 (pos k))))
unfolding inverse_fair
is_fair k p l = let e : suc (k - 1) ≡ k = omega arith
    in subst (λ (i : ℕ). T (inverse_fair i)) e (each_at (λ i. inverse_fair (suc i)) 4093 (k - 1) all_fair (omega arith))
