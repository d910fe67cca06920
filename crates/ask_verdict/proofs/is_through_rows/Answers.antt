-- A case for each kind.
use mathlib.Core.Path.{refl}
use Rattle.ask_verdict.proofs.is_through_rows.Goals as goal

pub returns-in-Bspline : goal.returns-in-Bspline
returns-in-Bspline c = rw (c.in-Drawn.is, c.in-Bspline.is) refl

pub returns-in-Bezier : goal.returns-in-Bezier
returns-in-Bezier c = rw (c.in-Drawn.is, c.in-Bezier.is) refl

pub returns-in-CatmullRom : goal.returns-in-CatmullRom
returns-in-CatmullRom c = rw (c.in-Drawn.is, c.in-CatmullRom.is) refl

pub returns-in-Hermite : goal.returns-in-Hermite
returns-in-Hermite c = rw (c.in-Drawn.is, c.in-Hermite.is) refl

pub returns-in-Linear : goal.returns-in-Linear
returns-in-Linear c = rw (c.in-Drawn.is, c.in-Linear.is) refl

pub returns-in-Power : goal.returns-in-Power
returns-in-Power c = rw (c.in-Drawn.is, c.in-Power.is) refl

pub returns-in-Monotone : goal.returns-in-Monotone
returns-in-Monotone c = rw c.in-Monotone.is refl
