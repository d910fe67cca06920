-- The least of both and the greatest of both.
use native.Mathlib.Omega.{arith}
use Rattle.picture_scale.proofs.widen.Goals as goal

pub returns : goal.returns
returns c = record {
  answer = simp (c.min.ensures, c.max.ensures);
  narrow_after = record {
    low = omega (arith, c.min.ensures);
    ordered = omega (arith, c.min.ensures, c.max.ensures);
    high = omega (arith, c.max.ensures);
  };
}
