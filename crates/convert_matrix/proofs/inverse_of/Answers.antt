-- A case for each basis: the arm returns its constant, whose contract is the definition's own case.
use Rattle.convert_matrix.proofs.inverse_of.Goals as goal

pub returns-in-Bspline : goal.returns-in-Bspline
returns-in-Bspline c = cc

pub returns-in-Bezier : goal.returns-in-Bezier
returns-in-Bezier c = cc

pub returns-in-CatmullRom : goal.returns-in-CatmullRom
returns-in-CatmullRom c = cc

pub returns-in-Hermite : goal.returns-in-Hermite
returns-in-Hermite c = cc

pub returns-in-Linear : goal.returns-in-Linear
returns-in-Linear c = cc

pub returns-in-Power : goal.returns-in-Power
returns-in-Power c = cc
