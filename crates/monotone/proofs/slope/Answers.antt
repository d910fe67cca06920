-- A case for each pair of directions. Assumes nothing.
use mathlib.Core.Path.{ap, ◌∙◌}
use Prim.Native.Nat.{ℕ}
use native.Mathlib.Omega.{arith}
use lib.IntN.{pos, neg_ℤ}
use Rattle.monotone.proofs.Negatives.{up_held, down_held}
use Rattle.monotone.proofs.Limits.{both_up, up_down, down_up, both_down}
use Rattle.monotone.proofs.slope.Goals as goal

pub returns-then-y-y1 : goal.returns-then-y-y1
returns-then-y-y1 c = let a = c.args in
    up_held c.limit.result c.limit.ensures.most c.up.result c.up.ensures ∙ ap pos c.limit.ensures.is ∙ both_up a.x a.x1 a.y a.y1
    (omega arith) (omega arith)

pub returns-then-x-x1 : goal.returns-then-x-x1
returns-then-x-x1 c = let a = c.args in up_down a.x a.x1 a.y a.y1 (omega arith) (omega arith)

pub returns-then-y1-y : goal.returns-then-y1-y
returns-then-y1-y c = let a = c.args in
    down_held c.limit-then-y1-y.result c.limit-then-y1-y.ensures.most c.down.result c.down.ensures
    ∙ ap (λ (n : ℕ). neg_ℤ (pos n)) c.limit-then-y1-y.ensures.is ∙ both_down a.x
    a.x1 a.y a.y1 (omega arith) (omega arith)

pub returns : goal.returns
returns c = let a = c.args in down_up a.x a.x1 a.y a.y1 (omega arith) (omega arith)
