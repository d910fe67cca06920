-- A case for each basis: what the matrix's rows come to at 0. Assumes nothing.
use Rattle.basis.specs.declared.Basis.TheVariants.{Bspline, Bezier, CatmullRom, Hermite, Linear, Power}
use Rattle.turns_back.proofs.Slopes.{in_arm_at, start_bspline, start_bezier, start_catmull_rom, start_hermite, start_linear, start_power}
use Rattle.turns_back.proofs.start.Goals as goal

pub returns-in-Bspline : goal.returns-in-Bspline
returns-in-Bspline c = let a = c.args in
    in_arm_at a.k0 a.k1 a.k2 a.k3 a.b Bspline 1 0 c.in-Bspline.is (start_bspline a.k0 a.k1 a.k2 a.k3)

pub returns-in-Bezier : goal.returns-in-Bezier
returns-in-Bezier c = let a = c.args in
    in_arm_at a.k0 a.k1 a.k2 a.k3 a.b Bezier 1 0 c.in-Bezier.is (start_bezier a.k0 a.k1 a.k2 a.k3)

pub returns-in-CatmullRom : goal.returns-in-CatmullRom
returns-in-CatmullRom c = let a = c.args in
    in_arm_at a.k0 a.k1 a.k2 a.k3 a.b CatmullRom 1 0 c.in-CatmullRom.is (start_catmull_rom a.k0 a.k1 a.k2 a.k3)

pub returns-in-Hermite : goal.returns-in-Hermite
returns-in-Hermite c = let a = c.args in
    in_arm_at a.k0 a.k1 a.k2 a.k3 a.b Hermite 1 0 c.in-Hermite.is (start_hermite a.k0 a.k1 a.k2 a.k3)

pub returns-in-Linear : goal.returns-in-Linear
returns-in-Linear c = let a = c.args in
    in_arm_at a.k0 a.k1 a.k2 a.k3 a.b Linear 1 0 c.in-Linear.is (start_linear a.k0 a.k1 a.k2 a.k3)

pub returns-in-Power : goal.returns-in-Power
returns-in-Power c = let a = c.args in
    in_arm_at a.k0 a.k1 a.k2 a.k3 a.b Power 1 0 c.in-Power.is (start_power a.k0 a.k1 a.k2 a.k3)
