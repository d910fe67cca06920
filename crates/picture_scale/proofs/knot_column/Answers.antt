-- A case for each basis.
use Rattle.picture_scale.specs.Scale.{knot_column}
use Rattle.picture_scale.proofs.knot_column.Goals as goal

pub returns-in-Bspline : goal.returns-in-Bspline
unfolding knot_column
returns-in-Bspline c = rw c.in-Bspline.is
    (record { answer = rw (c.saturating_sub.ensures, c.saturating_sub-in-Bspline.ensures) at c.column.ensures.answer; most = c.column.ensures.most })

pub returns-in-Bezier : goal.returns-in-Bezier
unfolding knot_column
returns-in-Bezier c = rw c.in-Bezier.is (record {
  answer = rw c.saturating_sub-in-Bezier.ensures at c.column-in-Bezier.ensures.answer;
  most = c.column-in-Bezier.ensures.most;
})

pub returns-in-CatmullRom : goal.returns-in-CatmullRom
unfolding knot_column
returns-in-CatmullRom c = rw c.in-CatmullRom.is
    (record {
      answer = rw (c.saturating_sub-in-CatmullRom.ensures, c.saturating_sub-in-CatmullRom-2.ensures) at c.column-in-CatmullRom.ensures.answer;
      most = c.column-in-CatmullRom.ensures.most;
    })

pub returns-in-Hermite : goal.returns-in-Hermite
unfolding knot_column
returns-in-Hermite c = rw c.in-Hermite.is (record {
  answer = rw c.saturating_sub-in-Hermite.ensures at c.column-in-Hermite.ensures.answer;
  most = c.column-in-Hermite.ensures.most;
})

pub returns-in-Linear : goal.returns-in-Linear
unfolding knot_column
returns-in-Linear c = rw c.in-Linear.is
    (record {
      answer = rw (c.saturating_sub-in-Linear.ensures, c.saturating_sub-in-Linear-2.ensures) at c.column-in-Linear.ensures.answer;
      most = c.column-in-Linear.ensures.most;
    })

pub returns-in-Power : goal.returns-in-Power
unfolding knot_column
returns-in-Power c = rw c.in-Power.is (record { answer = c.column-in-Power.ensures.answer; most = c.column-in-Power.ensures.most })
