-- The segment's four knots lie inside the slice; the part that starts at its place is what the definition drops the knots to.
use mathlib.Core.Path.{ap, ◌∙◌}
use Prim.Native.Nat.{ℕ, ◌*◌}
use lib.ListN.{drop}
use Rattle.spline.proofs.Parts.{rest}
use Rattle.inverse_segment.proofs.Trying.{on_curve}
use borrow.Author.Rules.{rules}
use Rattle.inverse_search.proofs.try_at.Goals as goal

pub overflow_mul-start : goal.overflow_mul-start
overflow_mul-start c = let e = ap (λ (x : ℕ). c.args.s * x) c.step.ensures.answer in search (rules, e)

pub offset_bounds-knots-start : goal.offset_bounds-knots-start
offset_bounds-knots-start c = let e = ap (λ (x : ℕ). c.args.s * x) c.step.ensures.answer in search (rules, e)

pub slice_bounds-enter-count : goal.slice_bounds-enter-count
slice_bounds-enter-count c = let e = ap (λ (x : ℕ). c.args.s * x) c.step.ensures.answer in search (rules, e)

pub slice_bounds-enter-start : goal.slice_bounds-enter-start
slice_bounds-enter-start c = let e = ap (λ (x : ℕ). c.args.s * x) c.step.ensures.answer in search (rules, e)

pub enter-requires : goal.enter-requires
enter-requires c = let e = ap (λ (x : ℕ). c.args.s * x) c.step.ensures.answer in record { enough = search (rules, e); count = search (rules, e) }

pub returns : goal.returns
returns c = let a = c.args in
    let part = rest _ a.knots.now ∙ ap (λ (x : ℕ). drop (a.s * x) a.knots.now) c.step.ensures.answer in
    λ ev l. on_curve a.how a.b a.knots.now _ a.y a.precision a.limit a.s a.n part c.enter.ensures a.s ev l
