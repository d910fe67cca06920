-- The row begins a segment, or none.
use mathlib.Core.Path.{sym, ap, ◌∙◌}
use Rattle.ask_verdict.proofs.Texts.{as_told, still}
use Rattle.whole.specs.Held.{held_all}
use Rattle.whole.proofs.Held.{long}
use Rattle.basis.specs.declared.Basis.{Basis}
use Rattle.basis.specs.Basis.{segments_of}
use Rattle.ask_verdict.specs.Curve.{basis_of}
use Prim.Native.Nat.{ℕ}
use lib.ListN.{length}
use Rattle.ask_verdict.proofs.Bends.{before_first, between_rows, past_last, begins}
use native.Mathlib.Omega.{arith}
use Rattle.ask_verdict.proofs.put_bend.Goals as goal

pub returns-then-i-first : goal.returns-then-i-first
returns-then-i-first c = as_told (before_first c.args.k c.args.up (held_all c.args.rows.now) (held_all c.args.knots.now) c.args.i
    c.requires.curve.is c.first_row-first.ensures.answer c.if-i-first.true) (still 12 _)

pub returns-then-i-first-ne0 : goal.returns-then-i-first-ne0
returns-then-i-first-ne0 c = as_told (between_rows c.args.k c.args.up (held_all c.args.rows.now) (held_all c.args.knots.now) c.args.i
    c.requires.curve.is c.first_row-first.ensures.answer c.row_step-step.ensures.answer c.if-i-first.false
    c.if-i-first-ne0.true) (still 12 _)

pub segments-requires : goal.segments-requires
segments-requires c = omega (arith, c.requires.curve.enough, long c.args.knots.now)

pub put_bend_of-requires : goal.put_bend_of-requires
put_bend_of-requires c = record {
  inside = c.requires.inside;
  curve = c.requires.curve;
  segment = rw (← c.basis_of.ensures) (omega (arith, c.segments.ensures, c.if-s-segments.true));
  room = c.requires.room;
}

pub returns-then-s-segments : goal.returns-then-s-segments
returns-then-s-segments c = let e = c.segments.ensures ∙ ap (λ (b : Basis). segments_of b (length c.args.knots.now)) c.basis_of.ensures ∙ ap (λ
    (n : ℕ). segments_of (basis_of c.args.k) n) (sym (long c.args.knots.now)) in
    as_told (begins c.args.k c.args.up
    (held_all c.args.rows.now) (held_all c.args.knots.now) c.args.i c.requires.curve.is c.first_row-first.ensures.answer
    c.row_step-step.ensures.answer c.if-i-first.false c.if-i-first-ne0.false e c.if-s-segments.true) c.put_bend_of.ensures

pub returns-else-s-segments : goal.returns-else-s-segments
returns-else-s-segments c = let e = c.segments.ensures ∙ ap (λ (b : Basis). segments_of b (length c.args.knots.now)) c.basis_of.ensures
    ∙ ap (λ (n : ℕ). segments_of (basis_of c.args.k) n) (sym (long c.args.knots.now)) in
    as_told (past_last c.args.k c.args.up (held_all c.args.rows.now) (held_all c.args.knots.now) c.args.i
    c.requires.curve.is c.first_row-first.ensures.answer c.row_step-step.ensures.answer c.if-i-first.false c.if-i-first-ne0.false e
    c.if-s-segments.false) (still 12 _)
