-- The first segment that falls, if there is one. Assumes nothing.
use mathlib.Core.Path.{sym, ap}
use Prim.Native.Nat.{ℕ, ◌<◌}
use native.Mathlib.Omega.{arith}
use lib.ListN.{length}
use Rattle.basis.specs.Basis.{step_of, segments_of}
use Rattle.spline.proofs.Parts.{few}
use Rattle.whole.specs.Held.{held_all}
use Rattle.whole.proofs.Held.{long}
use Rattle.turns_back.proofs.Verdicts.{falls, climbs}
use Rattle.turns_back.proofs.in_direction.Goals as goal

pub overflow_cast-result : goal.overflow_cast-result
overflow_cast-result c = let l = few (length c.args.knots.now) (step_of c.args.b) c.requires.few in
    omega (arith, l, c.in-Some.ensures)

pub returns-in-Some : goal.returns-in-Some
returns-in-Some c = let a = c.args in
    let z = held_all a.knots.now in
    let k = ap (λ (n : ℕ). segments_of a.b n) (long a.knots.now) in
    let h : c.in-Some.s < segments_of a.b (length z) = omega (arith, c.in-Some.ensures, k) in
    falls a.b a.up z c.in-Some.s c.in-Some.ensures.0 h

pub returns-in-None : goal.returns-in-None
returns-in-None c = let a = c.args in
    let z = held_all a.knots.now in
    let k = ap (λ (n : ℕ). segments_of a.b n) (long a.knots.now) in
    climbs a.b a.up z _ (sym c.in-None.ensures) (omega (arith, k))
