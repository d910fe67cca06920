-- The invariant: the segments before s rise, so the first that falls from there on is the first of all. Assumes nothing.
use mathlib.Core.Path.{sym, ap, ◌∙◌}
use Prim.Native.Nat.{ℕ}
use native.Mathlib.Omega.{arith}
use lib.ListN.{length}
use Rattle.basis.specs.Basis.{segments_of}
use Rattle.whole.specs.Held.{held_all, turned_all}
use Rattle.whole.proofs.Held.{long, turned_long}
use Rattle.turns_back.proofs.Verdicts.{starts, rising_on, falls_here, none_falls, from_none}
use Rattle.turns_back.proofs.first_fall.Goals as goal

pub segments-n-requires : goal.segments-n-requires
segments-n-requires c = c.requires.enough

pub loop-s-init : goal.loop-s-init
loop-s-init c = let a = c.args in
    from_none a.b (turned_all a.up (held_all a.knots.now)) c.segments-n.result
    (c.segments-n.ensures ∙ ap (λ (n : ℕ). segments_of a.b n) (sym (turned_long a.up (held_all a.knots.now) ∙ long a.knots.now)))

pub is_segment_never_falling-requires : goal.is_segment_never_falling-requires
is_segment_never_falling-requires c = record {
  inside = starts c.args.b (length c.args.knots.now) c.loop-s.s c.requires.enough (omega (
    arith,
    c.segments-n.ensures,
  ));
  few = c.requires.few;
  small = c.requires.small;
}

pub returns-then-not-is_segment_never_falling : goal.returns-then-not-is_segment_never_falling
returns-then-not-is_segment_never_falling c = let l = c.loop-s in
    let a = c.args in (
      falls_here a.b (turned_all a.up (held_all a.knots.now)) c.segments-n.result l.s (omega arith) l.invariant
          (sym (c.if-not-is_segment_never_falling.true) ∙ c.is_segment_never_falling.ensures),
      omega (arith, c.segments-n.ensures),
    )

pub loop-s-preserved : goal.loop-s-preserved
loop-s-preserved c = let l = c.loop-s in
    let a = c.args in
    rising_on a.b (turned_all a.up (held_all a.knots.now)) c.segments-n.result l.s (omega arith) l.invariant
    (sym (c.if-not-is_segment_never_falling.false) ∙ c.is_segment_never_falling.ensures)

pub returns : goal.returns
returns c = let l = c.loop-s in
    let a = c.args in
    sym (none_falls a.b (turned_all a.up (held_all a.knots.now)) c.segments-n.result l.s (omega arith) (omega arith) l.invariant)
    ∙ omega (arith, c.segments-n.ensures)
