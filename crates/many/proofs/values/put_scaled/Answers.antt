-- The invariant: the scaled parameters until i stand at the front, and behind them the output is as it was lent.
use Rattle.std.proofs.Common.{◌≡◌, ℕ, map, length, refl, ap, ◌∙◌, arith, length-set}
use Rattle.spline.specs.Curve.{scaled}
use Rattle.many.specs.Contract.{laid}
use Rattle.many.proofs.Laying.{lays_next, map_length}
use Rattle.many.proofs.Many.{scaled_at}
use Rattle.many.proofs.values.put_scaled.Goals as goal

pub double_of-wide-requires : goal.double_of-wide-requires
double_of-wide-requires c = omega arith

pub loop-i-init : goal.loop-i-init
unfolding laid
loop-i-init c = (omega arith, refl, refl)

pub bounds-out-i : goal.bounds-out-i
bounds-out-i c = omega (arith, c.loop-i.invariant.1, c.requires.room)

pub loop-i-preserved : goal.loop-i-preserved
loop-i-preserved c = let l = c.loop-i in
    let a = c.args in
    let h = c.loop-i-test.true in (
      omega arith,
      simp length-set l.invariant.1,
      lays_next (map (scaled a.k) a.xs.now) _ _ l.i _ (omega (arith, h, map_length (scaled a.k) a.xs.now))
          (omega (arith, h, c.requires.room)) l.invariant.2
          (scaled_at a.k a.xs.now l.i h c.clamped.ensures c.double_of-wide.ensures),
    )

pub shape_of-out : goal.shape_of-out
shape_of-out c = c.loop-i.invariant.1

pub returns : goal.returns
returns c = let a = c.args in
    let l = c.loop-i in
    let e : l.i ≡ length a.xs.now = omega (arith, l.invariant.0, c.loop-i-test.false) in
    l.invariant.2 ∙ ap (λ (n : ℕ). laid n (map (scaled a.k) a.xs.now) a.out.now) e
