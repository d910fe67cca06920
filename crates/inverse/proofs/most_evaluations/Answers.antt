-- The end rule's evaluations and the search's bound, each by its function's contract; their sum fits, since the bound is small (`bound_small`).
use mathlib.Core.Path.{◌∙◌, ap}
use Prim.Native.Nat.{ℕ}
use native.Mathlib.Omega.{arith}
use Rattle.inverse_search.specs.Bound.{bound_of}
use Rattle.inverse.proofs.Most.{bound_small}
use Rattle.inverse.proofs.most_evaluations.Goals as goal

pub overflow_add-result : goal.overflow_add-result
overflow_add-result c = let l = c.ranges.limit.fits in
    let k = c.segments.result in
    omega (arith, c.evaluations.ensures.most, c.most_evaluations.ensures, bound_small k c.args.limit, l)

pub returns : goal.returns
returns c = let a = c.args in
    let m = c.most_evaluations.ensures ∙ ap (λ (k : ℕ). bound_of k a.limit) c.segments.ensures in
    rw (c.evaluations.ensures.answer, m)
