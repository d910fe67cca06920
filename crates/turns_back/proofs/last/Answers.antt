-- A segment up to the last has four knots, so its place is inside. Assumes nothing.
use native.Mathlib.Omega.{arith}
use Rattle.turns_back.proofs.Ends.{inside_last, is_last}
use Rattle.turns_back.proofs.last.Goals as goal

pub overflow_mul-result : goal.overflow_mul-result
overflow_mul-result c = let h = inside_last c.args.b c.args.n c.segments.result c.step.result c.requires.enough c.segments.ensures
    c.step.ensures.answer in
    omega (arith, h, c.requires.few)

pub returns : goal.returns
returns c = record {
  is = is_last c.args.b c.args.n c.segments.result c.step.result c.segments.ensures c.step.ensures.answer;
  within = inside_last c.args.b c.args.n c.segments.result c.step.result c.requires.enough c.segments.ensures c.step.ensures.answer;
}
