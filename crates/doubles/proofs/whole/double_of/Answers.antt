-- At most 4097: so it fits the signed number, which is then the same number, and a double holds it.
use Rattle.std.proofs.Common.{◌≡◌, ℕ, ◌≤◌, T, ℤ, pos, sym, ap, subst, arith, le→leb, to_z-of_z, w64, SFits, to_z}
use lib.Ieee.{in_float, of_int, binary64}
use borrow.Author.Rules.{sfits_of}
use Rattle.doubles.proofs.whole.double_of.Goals as goal

small : (n : ℕ) → n ≤ 4097 → SFits w64 (pos n)
small n p = sfits_of (omega arith)

same : (n : ℕ) → n ≤ 4097 → to_z w64 n ≡ pos n
same n p = to_z-of_z {w = w64} {z = pos n} (small n p)

held : (n : ℕ) → n ≤ 4097 → T (in_float binary64 (pos n))
unfolding in_float
held n p = le→leb n 9007199254740992 (omega arith)

pub overflow_cast-signed : goal.overflow_cast-signed
overflow_cast-signed c = small _ (omega arith)

pub int_to_float-result : goal.int_to_float-result
int_to_float-result c = let n = c.args.n in subst (λ (z : ℤ). T (in_float binary64 z)) (sym (same n (omega arith))) (held n (omega arith))

pub returns : goal.returns
returns c = ap (of_int binary64) (same _ (omega arith))
