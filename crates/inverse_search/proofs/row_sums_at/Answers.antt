-- The segment's four knots lie inside the slice; the part that starts at its place is what the definition drops the knots to.
use mathlib.Core.Path.{ap, ◌∙◌}
use Prim.Native.Nat.{ℕ, ◌*◌}
use lib.ListN.{drop}
use Rattle.basis.specs.Basis.{matrix_of}
use Rattle.spline.specs.Segment.{row_sums_of}
use Rattle.spline.proofs.Parts.{rest}
use borrow.Author.Rules.{rules}
use Rattle.inverse_search.proofs.row_sums_at.Goals as goal

pub overflow_mul-start : goal.overflow_mul-start
overflow_mul-start c = let e = ap (λ (x : ℕ). c.args.s * x) c.step.ensures.answer in search (rules, e)

pub offset_bounds-knots-start : goal.offset_bounds-knots-start
offset_bounds-knots-start c = let e = ap (λ (x : ℕ). c.args.s * x) c.step.ensures.answer in search (rules, e)

pub slice_bounds-row_sums-count : goal.slice_bounds-row_sums-count
slice_bounds-row_sums-count c = let e = ap (λ (x : ℕ). c.args.s * x) c.step.ensures.answer in search (rules, e)

pub slice_bounds-row_sums-start : goal.slice_bounds-row_sums-start
slice_bounds-row_sums-start c = let e = ap (λ (x : ℕ). c.args.s * x) c.step.ensures.answer in search (rules, e)

pub row_sums-requires : goal.row_sums-requires
row_sums-requires c = let e = ap (λ (x : ℕ). c.args.s * x) c.step.ensures.answer in search (rules, e)

pub returns : goal.returns
returns c = c.row_sums.ensures ∙ ap (row_sums_of (matrix_of c.args.b))
    (rest _ c.args.knots.now ∙ ap (λ (x : ℕ). drop (c.args.s * x) c.args.knots.now) c.step.ensures.answer)
