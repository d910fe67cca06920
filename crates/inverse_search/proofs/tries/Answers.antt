-- The invariant: the segments before s do not enclose the target, two evaluations were made for each, and the tries left are those from s
-- on.
use native.Mathlib.Omega.{arith}
use Rattle.inverse_search.proofs.Glue.{fits_at, tries_start, tries_hit, tries_miss, tries_end}
use Rattle.inverse_search.proofs.tries.Goals as goal

pub loop-s-init : goal.loop-s-init
loop-s-init c = let a = c.args in
    (omega arith, tries_start a.how a.b a.knots.now a.y a.precision a.limit _ _ _)

pub try_at-t-requires : goal.try_at-t-requires
try_at-t-requires c = record { inside = fits_at c.loop-s.s c.args.end _ _ (omega arith) c.requires.inside; most = c.requires.most; count = omega arith }

pub returns-in-Inside : goal.returns-in-Inside
returns-in-Inside c = let a = c.args in
    let l = c.loop-s in
    tries_hit a.how a.b a.knots.now a.y a.precision a.limit l.s c.try_at-t.ensures (omega arith) l.invariant.1
    c.in-Inside.is

pub loop-s-preserved : goal.loop-s-preserved
loop-s-preserved c = let a = c.args in
    let l = c.loop-s in (
      omega arith,
      tries_miss a.how a.b a.knots.now a.y a.precision a.limit l.s c.try_at-t.ensures (omega arith) l.invariant.1
          c.in_default.is,
    )

pub returns : goal.returns
returns c = let a = c.args in
    tries_end a.how a.b a.knots.now a.y a.precision a.limit (omega arith) c.loop-s.invariant.1
