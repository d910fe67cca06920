-- Rows that turn are told, else a segment that falls.
use Rattle.text.proofs.Pens.{within}
use Rattle.ask_verdict.proofs.Texts.{as_told, still}
use Rattle.whole.specs.Held.{held_all}
use Rattle.whole.proofs.Held.{long}
use Rattle.ask_verdict.proofs.Bends.{says_turns, says_falls, says_nothing}
use native.Mathlib.Omega.{arith}
use Rattle.ask_verdict.proofs.put_bend_of.Goals as goal

pub overflow_add-i : goal.overflow_add-i
overflow_add-i c = omega (arith, c.requires.inside, c.requires.curve.rows, long c.args.rows.now)

pub put_number-requires : goal.put_number-requires
put_number-requires c = record {
  word = omega arith;
  number = omega (arith, c.requires.inside, c.requires.curve.rows, long c.args.rows.now);
  room = omega arith;
}

pub returns-then-is_turning : goal.returns-then-is_turning
returns-then-is_turning c = as_told (says_turns c.args.k c.args.up (held_all c.args.rows.now) (held_all c.args.knots.now) c.args.i
    c.args.s c.requires.curve.is c.is_turning.ensures c.if-is_turning.true) (within 12 c.put_number.ensures (omega arith))

pub is_falling-requires : goal.is_falling-requires
is_falling-requires c = let e = long c.args.knots.now in
    record {
      enough = omega (arith, c.requires.curve.enough, e);
      few = omega (arith, c.requires.curve.few, e);
      small = c.requires.curve.small;
      segment = (rw c.basis_of.ensures c.requires.segment);
    }

pub overflow_add-i-then-is_falling : goal.overflow_add-i-then-is_falling
overflow_add-i-then-is_falling c = omega (arith, c.requires.inside, c.requires.curve.rows, long c.args.rows.now)

pub put_number-requires-then-is_falling : goal.put_number-requires-then-is_falling
put_number-requires-then-is_falling c = record {
  word = omega arith;
  number = omega (arith, c.requires.inside, c.requires.curve.rows, long c.args.rows.now);
  room = omega arith;
}

pub returns-then-is_falling : goal.returns-then-is_falling
returns-then-is_falling c = as_told (says_falls c.args.k c.args.up (held_all c.args.rows.now) (held_all c.args.knots.now) c.args.i
    c.args.s c.requires.curve.is c.is_turning.ensures c.basis_of.ensures c.is_falling.ensures
    c.if-is_turning.false c.if-is_falling.true) (within 12 c.put_number-then-is_falling.ensures (omega arith))

pub returns-else-is_falling : goal.returns-else-is_falling
returns-else-is_falling c = as_told (says_nothing c.args.k c.args.up (held_all c.args.rows.now) (held_all c.args.knots.now) c.args.i
    c.args.s c.requires.curve.is c.is_turning.ensures c.basis_of.ensures
    c.is_falling.ensures c.if-is_turning.false c.if-is_falling.false) (still 12 _)
