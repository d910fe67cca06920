-- A case for each number of values, 2 to 4: the places written are those of the definition's list, and the others stay.
use mathlib.Core.Path.{◌≡◌}
use Prim.Native.Nat.{ℕ, ◌≤◌, ◌<◌}
use native.Mathlib.Omega.{arith}
use lib.ListN.{length-set}
use Rattle.convert.proofs.Writing.{put_2, put_3, put_4}
use borrow.Author.Rules.{rules}
use Rattle.convert.proofs.output.put_last.Goals as goal

-- four is what is left
four : (stride : ℕ) → (stride ≡ 2 → Prim.⊥) → (stride ≡ 3 → Prim.⊥) → 1 < stride → stride ≤ 4 → stride ≡ 4
four stride q r some most = omega arith

pub bounds-out-at-then-stride-eq2 : goal.bounds-out-at-then-stride-eq2
bounds-out-at-then-stride-eq2 c = simp length-set (omega arith)

pub returns-then-stride-eq2 : goal.returns-then-stride-eq2
returns-then-stride-eq2 c = search (put_2, rules)

pub bounds-out-at-then-stride-eq3-2 : goal.bounds-out-at-then-stride-eq3-2
bounds-out-at-then-stride-eq3-2 c = simp length-set (omega arith)

pub bounds-out-at-then-stride-eq3-3 : goal.bounds-out-at-then-stride-eq3-3
bounds-out-at-then-stride-eq3-3 c = simp length-set (omega arith)

pub returns-then-stride-eq3 : goal.returns-then-stride-eq3
returns-then-stride-eq3 c = search (put_3, rules)

pub bounds-out-at-3 : goal.bounds-out-at-3
bounds-out-at-3 c = simp length-set (omega arith)

pub bounds-out-at-4 : goal.bounds-out-at-4
bounds-out-at-4 c = simp length-set (omega arith)

pub bounds-out-at-5 : goal.bounds-out-at-5
bounds-out-at-5 c = simp length-set (omega arith)

pub returns : goal.returns
returns c = search (put_4, four, rules)
