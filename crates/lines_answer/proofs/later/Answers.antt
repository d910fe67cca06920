-- A case for each record; the reply and the curve after it are the definition's.
use native.Mathlib.Omega.{arith}
use mathlib.Core.Path.{◌≡◌, refl}
use Prim.Native.Nat.{◌-◌}
use Rattle.lines_answer.specs.Answer.{after_of, reply_to}
use Rattle.lines_answer.proofs.later.Goals as goal

pub returns-in-Curve : goal.returns-in-Curve
unfolding after_of reply_to
returns-in-Curve c = record { held = rw c.in-Curve.is refl; told = rw c.in-Curve.is refl; few = omega arith; lent = omega arith }

pub returns-in-Span : goal.returns-in-Span
returns-in-Span c = rw c.in-Span.is c.spanned.ensures

pub returns-in-Knot : goal.returns-in-Knot
returns-in-Knot c = rw c.in-Knot.is (c.add.ensures c.args.converted.now)

pub returns-in-Ends : goal.returns-in-Ends
unfolding after_of reply_to
returns-in-Ends c = record { held = rw c.in-Ends.is refl; told = rw c.in-Ends.is refl; few = omega arith; lent = omega arith }

pub returns-in-At : goal.returns-in-At
unfolding after_of reply_to
returns-in-At c = let z : c.args.n - 0 ≡ c.args.n = omega arith in
    record {
      held = rw c.in-At.is refl;
      told = rw c.in-At.is (rw z at (c.value_at.ensures.reply c.args.converted.now));
      few = omega arith;
      lent = omega (arith, c.value_at.ensures.lent);
    }

pub returns-in-Find : goal.returns-in-Find
unfolding after_of reply_to
returns-in-Find c = let z : c.args.n - 0 ≡ c.args.n = omega arith in
    record {
      held = rw c.in-Find.is refl;
      told = rw c.in-Find.is (rw z at (c.place_of.ensures.reply c.args.converted.now));
      few = omega arith;
      lent = omega (arith, c.place_of.ensures.lent);
    }

pub returns-in-Turn : goal.returns-in-Turn
unfolding after_of reply_to
returns-in-Turn c = let z : c.args.n - 0 ≡ c.args.n = omega arith in
    record {
      held = rw c.in-Turn.is refl;
      told = rw c.in-Turn.is (rw z at c.converted_to.ensures.reply);
      few = omega arith;
      lent = omega (arith, c.converted_to.ensures.lent);
    }

pub returns-in-Bad : goal.returns-in-Bad
unfolding after_of reply_to
returns-in-Bad c = record {
  held = rw (c.bad_line.ensures.session, c.in-Bad.is) refl;
  told = rw (c.bad_line.ensures.reply, c.in-Bad.is) refl;
  few = rw c.bad_line.ensures.session (omega arith);
  lent = rw c.bad_line.ensures.reply (omega arith);
}
