-- A case for each record; the reply and the curve after it are the definition's.
use native.Mathlib.Omega.{arith}
use mathlib.Core.Path.{refl}
use Rattle.lines_answer.specs.Answer.{after_of, reply_to}
use Rattle.lines_answer.proofs.first.Goals as goal

pub returns-in-Curve : goal.returns-in-Curve
unfolding after_of reply_to
returns-in-Curve c = record { held = rw c.in-Curve.is refl; told = rw c.in-Curve.is refl; few = omega arith; lent = omega arith }

pub returns-in-Span : goal.returns-in-Span
unfolding after_of reply_to
returns-in-Span c = record {
  held = rw (c.bad_line.ensures.session, c.in-Span.is) refl;
  told = rw (c.bad_line.ensures.reply, c.in-Span.is) refl;
  few = rw c.bad_line.ensures.session (omega arith);
  lent = rw c.bad_line.ensures.reply (omega arith);
}

pub returns-in-Knot : goal.returns-in-Knot
unfolding after_of reply_to
returns-in-Knot c = record {
  held = rw (c.bad_line-in-Knot.ensures.session, c.in-Knot.is) refl;
  told = rw (c.bad_line-in-Knot.ensures.reply, c.in-Knot.is) refl;
  few = rw c.bad_line-in-Knot.ensures.session (omega arith);
  lent = rw c.bad_line-in-Knot.ensures.reply (omega arith);
}

pub returns-in-Ends : goal.returns-in-Ends
unfolding after_of reply_to
returns-in-Ends c = record {
  held = rw (c.bad_line-in-Ends.ensures.session, c.in-Ends.is) refl;
  told = rw (c.bad_line-in-Ends.ensures.reply, c.in-Ends.is) refl;
  few = rw c.bad_line-in-Ends.ensures.session (omega arith);
  lent = rw c.bad_line-in-Ends.ensures.reply (omega arith);
}

pub returns-in-At : goal.returns-in-At
unfolding after_of reply_to
returns-in-At c = record {
  held = rw (c.bad_line-in-At.ensures.session, c.in-At.is) refl;
  told = rw (c.bad_line-in-At.ensures.reply, c.in-At.is) refl;
  few = rw c.bad_line-in-At.ensures.session (omega arith);
  lent = rw c.bad_line-in-At.ensures.reply (omega arith);
}

pub returns-in-Find : goal.returns-in-Find
unfolding after_of reply_to
returns-in-Find c = record {
  held = rw (c.bad_line-in-Find.ensures.session, c.in-Find.is) refl;
  told = rw (c.bad_line-in-Find.ensures.reply, c.in-Find.is) refl;
  few = rw c.bad_line-in-Find.ensures.session (omega arith);
  lent = rw c.bad_line-in-Find.ensures.reply (omega arith);
}

pub returns-in-Turn : goal.returns-in-Turn
unfolding after_of reply_to
returns-in-Turn c = record {
  held = rw (c.bad_line-in-Turn.ensures.session, c.in-Turn.is) refl;
  told = rw (c.bad_line-in-Turn.ensures.reply, c.in-Turn.is) refl;
  few = rw c.bad_line-in-Turn.ensures.session (omega arith);
  lent = rw c.bad_line-in-Turn.ensures.reply (omega arith);
}

pub returns-in-Bad : goal.returns-in-Bad
unfolding after_of reply_to
returns-in-Bad c = record {
  held = rw (c.bad_line-in-Bad.ensures.session, c.in-Bad.is) refl;
  told = rw (c.bad_line-in-Bad.ensures.reply, c.in-Bad.is) refl;
  few = rw c.bad_line-in-Bad.ensures.session (omega arith);
  lent = rw c.bad_line-in-Bad.ensures.reply (omega arith);
}
