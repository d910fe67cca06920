-- Segment s starts at s × STEP and its four knots lie inside the slice (`starts`). The parts of the definition are then put together.
use mathlib.Core.Path.{refl}
use native.Mathlib.Omega.{arith}
use lib.ListN.{length, length-drop}
use Rattle.basis.specs.Basis.{step_of}
use Rattle.spline.proofs.Parts.{rest, few, starts, put_together}
use Rattle.spline.proofs.curve.curve_value.Goals as goal

pub place-z-requires : goal.place-z-requires
place-z-requires c = let a = c.args in
    record {
      some = omega (arith, c.segments-k.ensures);
      segments = omega (
        arith,
        c.segments-k.ensures,
        few (length a.knots.now) (step_of a.b) c.requires.most,
      );
    }

pub overflow_mul-start : goal.overflow_mul-start
overflow_mul-start c = omega (
  arith,
  c.requires.most,
  starts c.args.b (length c.args.knots.now) c.requires.enough c.segments-k.ensures c.step.ensures.answer
      c.place-z.ensures,
)

pub offset_bounds-knots-start : goal.offset_bounds-knots-start
offset_bounds-knots-start c = omega (
  arith,
  c.requires.most,
  starts c.args.b (length c.args.knots.now) c.requires.enough c.segments-k.ensures c.step.ensures.answer
      c.place-z.ensures,
)

pub slice_bounds-segment_value-count : goal.slice_bounds-segment_value-count
slice_bounds-segment_value-count c = omega (
  arith,
  starts c.args.b (length c.args.knots.now) c.requires.enough c.segments-k.ensures c.step.ensures.answer
      c.place-z.ensures,
)

pub slice_bounds-segment_value-start : goal.slice_bounds-segment_value-start
slice_bounds-segment_value-start c = omega (
  arith,
  starts c.args.b (length c.args.knots.now) c.requires.enough c.segments-k.ensures c.step.ensures.answer
      c.place-z.ensures,
)

pub segment_value-requires : goal.segment_value-requires
segment_value-requires c = simp (rest, length-drop) (omega (
  arith,
  starts c.args.b (length c.args.knots.now) c.requires.enough c.segments-k.ensures c.step.ensures.answer
      c.place-z.ensures,
))

pub returns : goal.returns
returns c = put_together c.args.b c.args.x c.args.knots.now c.segments-k.ensures
    c.step.ensures.answer c.place-z.ensures refl c.segment_value.ensures
