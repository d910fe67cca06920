-- A case for each basis.
use mathlib.Core.Path.{refl}
use Rattle.picture_scale.specs.Scale.{shown}
use Rattle.picture_scale.proofs.is_shown.Goals as goal

pub returns-in-Bspline : goal.returns-in-Bspline
unfolding shown
returns-in-Bspline c = rw c.in-Bspline.is c.is_inner.ensures

pub returns-in-Bezier : goal.returns-in-Bezier
unfolding shown
returns-in-Bezier c = rw c.in-Bezier.is refl

pub returns-in-CatmullRom : goal.returns-in-CatmullRom
unfolding shown
returns-in-CatmullRom c = rw c.in-CatmullRom.is c.is_inner-in-CatmullRom.ensures

pub returns-in-Hermite : goal.returns-in-Hermite
unfolding shown
returns-in-Hermite c = rw c.in-Hermite.is refl

pub returns-in-Linear : goal.returns-in-Linear
unfolding shown
returns-in-Linear c = rw c.in-Linear.is c.is_inner-in-Linear.ensures

pub returns-in-Power : goal.returns-in-Power
unfolding shown
returns-in-Power c = rw c.in-Power.is refl
