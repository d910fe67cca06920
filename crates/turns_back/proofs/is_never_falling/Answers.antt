-- A case for each basis: the code's slopes are the cubic's. Assumes nothing.
use Rattle.basis.specs.declared.Basis.TheVariants.{Bspline, Bezier, CatmullRom, Hermite, Linear, Power}
use Rattle.turns_back.proofs.Slopes.{in_arm, of_bspline, of_bezier, of_catmull_rom, of_hermite, of_linear, of_power}
use Rattle.turns_back.proofs.is_never_falling.Goals as goal

pub returns-in-Bspline : goal.returns-in-Bspline
returns-in-Bspline c = let a = c.args in
    in_arm a.k0 a.k1 a.k2 a.k3 a.b Bspline c.in-Bspline.is c.is_never_negative.ensures
    (of_bspline a.k0 a.k1 a.k2 a.k3)

pub returns-in-Bezier : goal.returns-in-Bezier
returns-in-Bezier c = let a = c.args in
    in_arm a.k0 a.k1 a.k2 a.k3 a.b Bezier c.in-Bezier.is c.is_never_negative-in-Bezier.ensures
    (of_bezier a.k0 a.k1 a.k2 a.k3)

pub returns-in-CatmullRom : goal.returns-in-CatmullRom
returns-in-CatmullRom c = let a = c.args in
    in_arm a.k0 a.k1 a.k2 a.k3 a.b CatmullRom c.in-CatmullRom.is c.is_never_negative-in-CatmullRom.ensures
    (of_catmull_rom a.k0 a.k1 a.k2 a.k3)

pub returns-in-Hermite : goal.returns-in-Hermite
returns-in-Hermite c = let a = c.args in
    in_arm a.k0 a.k1 a.k2 a.k3 a.b Hermite c.in-Hermite.is c.is_never_negative-in-Hermite.ensures
    (of_hermite a.k0 a.k1 a.k2 a.k3)

pub returns-in-Linear : goal.returns-in-Linear
returns-in-Linear c = let a = c.args in
    in_arm a.k0 a.k1 a.k2 a.k3 a.b Linear c.in-Linear.is c.is_never_negative-in-Linear.ensures
    (of_linear a.k0 a.k1 a.k2 a.k3)

pub returns-in-Power : goal.returns-in-Power
returns-in-Power c = let a = c.args in
    in_arm a.k0 a.k1 a.k2 a.k3 a.b Power c.in-Power.is c.is_never_negative-in-Power.ensures
    (of_power a.k0 a.k1 a.k2 a.k3)
