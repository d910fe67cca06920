-- The invariant: the values until i stand at the front, and behind them what stood there: the scaled parameters.
use Rattle.std.proofs.Common.{◌≡◌, ℕ, ◌<◌, map, length, sym, refl, ap, ◌∙◌, subst, arith, length-drop, length-set}
use lib.Ieee.{Float}
use Rattle.basis.specs.Basis.{step_of}
use Rattle.basis.specs.declared.Terms.{Terms}
use Rattle.spline.proofs.Parts.{few, rest}
use Rattle.many.specs.Contract.{laid, InScale, value_at}
use Rattle.many.proofs.Laying.{lays_next, laid_at, map_length, map_at}
use Rattle.many.proofs.Places.{starts, put_together}
use Rattle.many.proofs.values.put_in_place.Goals as goal

pub loop-i-init : goal.loop-i-init
unfolding laid
loop-i-init g c = (omega arith, refl, refl)

pub bounds-out-i : goal.bounds-out-i
bounds-out-i g c = omega (arith, c.loop-i.invariant.1, c.requires.room)

pub spot-z-requires : goal.spot-z-requires
spot-z-requires g c = let a = c.args in
    let l = c.loop-i in
    let f = few (length a.knots.now) (step_of g.B.Known.basis) c.requires.most in
    record {
      some = omega (arith, c.requires.segments);
      segments = omega (arith, c.requires.segments, f);
      scale = subst (λ (x : Float). InScale a.k x) (sym (laid_at _ _ _ l.i l.invariant.2)) (c.requires.scale l.i c.loop-i-test.true);
    }

pub overflow_mul-start : goal.overflow_mul-start
overflow_mul-start g c = let a = c.args in
    omega (
      arith,
      c.requires.most,
      starts g.B.Known.basis (length a.knots.now) c.requires.enough c.requires.segments (ap (λ (z : Terms). z.step) c.terms-terms.ensures) c.spot-z.ensures,
    )

pub offset_bounds-knots-start : goal.offset_bounds-knots-start
offset_bounds-knots-start g c = let a = c.args in
    omega (
      arith,
      c.requires.most,
      starts g.B.Known.basis (length a.knots.now) c.requires.enough c.requires.segments (ap (λ (z : Terms). z.step) c.terms-terms.ensures)
          c.spot-z.ensures,
    )

pub slice_bounds-sums-count : goal.slice_bounds-sums-count
slice_bounds-sums-count g c = let a = c.args in
    omega (
      arith,
      starts g.B.Known.basis (length a.knots.now) c.requires.enough c.requires.segments (ap (λ (z : Terms). z.step) c.terms-terms.ensures)
          c.spot-z.ensures,
    )

pub slice_bounds-sums-start : goal.slice_bounds-sums-start
slice_bounds-sums-start g c = let a = c.args in
    omega (
      arith,
      starts g.B.Known.basis (length a.knots.now) c.requires.enough c.requires.segments (ap (λ (z : Terms). z.step) c.terms-terms.ensures)
          c.spot-z.ensures,
    )

pub sums-w-requires : goal.sums-w-requires
sums-w-requires g c = let a = c.args in
    simp (rest, length-drop) (omega (
      arith,
      starts g.B.Known.basis (length a.knots.now) c.requires.enough c.requires.segments
          (ap (λ (z : Terms). z.step) c.terms-terms.ensures) c.spot-z.ensures,
    ))

pub bounds-out-i-in-loop-i : goal.bounds-out-i-in-loop-i
bounds-out-i-in-loop-i g c = omega (
  arith,
  c.loop-i.invariant.1,
  c.requires.room,
)

pub loop-i-preserved : goal.loop-i-preserved
loop-i-preserved g c = let l = c.loop-i in
    let a = c.args in
    let h = c.loop-i-test.true in
    let f = value_at g.B.Known.basis a.knots.now in
    let r : l.i < length a.out.now = omega (arith, h, c.requires.room) in (
      omega arith,
      simp length-set l.invariant.1,
      lays_next (map f a.out.now) a.out.now _ l.i _ (omega (arith, r, map_length f a.out.now)) r l.invariant.2
          (put_together g.B.Known.basis _ a.knots.now _ c.requires.segments (ap (λ (z : Terms). z.step) c.terms-terms.ensures)
          c.spot-z.ensures (ap (λ (z : Terms). z.matrix) c.terms-terms.ensures) c.sums-w.ensures
          c.horner.ensures ∙ ap f (laid_at _ _ _ l.i l.invariant.2) ∙ sym (map_at f a.out.now l.i r)),
    )

pub shape_of-out : goal.shape_of-out
shape_of-out g c = c.loop-i.invariant.1

pub returns : goal.returns
returns g c = let a = c.args in
    let l = c.loop-i in
    let e : l.i ≡ a.m = omega (arith, l.invariant.0, c.loop-i-test.false) in
    l.invariant.2 ∙ ap (λ (n : ℕ). laid n (map (value_at g.B.Known.basis a.knots.now) a.out.now) a.out.now) e
