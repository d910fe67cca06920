-- The segment's four knots lie inside the slice; outside 0 to 1 nothing is evaluated.
use mathlib.Core.Path.{ap}
use lib.Ieee.{of_bits}
use Prim.Native.Nat.{ℕ, ◌*◌}
use Rattle.claim.proofs.Cases.{below_nought, above_one, in_unit}
use borrow.Author.Rules.{rules}
use Rattle.claim.proofs.is_accepted.Goals as goal

pub overflow_mul-start : goal.overflow_mul-start
overflow_mul-start c = let e = ap (λ (z : ℕ). c.args.s * z) c.step.ensures.answer in search (rules, e)

pub offset_bounds-knots-start : goal.offset_bounds-knots-start
offset_bounds-knots-start c = let e = ap (λ (z : ℕ). c.args.s * z) c.step.ensures.answer in search (rules, e)

pub slice_bounds-segment_value-count : goal.slice_bounds-segment_value-count
slice_bounds-segment_value-count c = let e = ap (λ (z : ℕ). c.args.s * z) c.step.ensures.answer in search (rules, e)

pub slice_bounds-segment_value-start : goal.slice_bounds-segment_value-start
slice_bounds-segment_value-start c = let e = ap (λ (z : ℕ). c.args.s * z) c.step.ensures.answer in search (rules, e)

pub segment_value-v-requires : goal.segment_value-v-requires
segment_value-v-requires c = let e = ap (λ (z : ℕ). c.args.s * z) c.step.ensures.answer in search (rules, e)

pub returns-then-x-2 : goal.returns-then-x-2
unfolding of_bits
returns-then-x-2 c = in_unit c.args.b c.args.y c.args.s c.args.x c.args.precision c.args.knots.now
    c.if-x.true c.if-x-2.true
    c.step.ensures.answer c.segment_value-v.ensures c.is_near.ensures

pub returns-then-x : goal.returns-then-x
unfolding of_bits
returns-then-x c = above_one c.args.b c.args.y c.args.s c.args.x c.args.precision c.args.knots.now
    c.if-x.true c.if-x-2.false

pub returns : goal.returns
unfolding of_bits
returns c = below_nought c.args.b c.args.y c.args.s c.args.x
    c.args.precision c.args.knots.now c.if-x.false
