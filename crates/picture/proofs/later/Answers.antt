-- A case for each record. All but a find and a turn are answered as the line program answers them.
use native.Mathlib.Omega.{arith}
use mathlib.Core.Path.{◌≡◌, refl, ap}
use Prim.Native.Nat.{◌-◌}
use Rattle.lines_answer.specs.Answer.{after_of, reply_to}
use Rattle.picture.specs.Program.{fault_in}
use Rattle.picture.proofs.Steps.{answered}
use Rattle.picture.proofs.later.Goals as goal

pub returns-in-Curve : goal.returns-in-Curve
unfolding after_of reply_to
returns-in-Curve c = record { held = rw c.in-Curve.is refl; told = λ f. rw c.in-Curve.is refl; few = omega arith }

pub returns-in-Span : goal.returns-in-Span
returns-in-Span c = rw c.in-Span.is c.spanned.ensures

pub returns-in-Knot : goal.returns-in-Knot
returns-in-Knot c = rw c.in-Knot.is
    (answered (c.add.ensures c.add.new.table) refl)

pub returns-in-Ends : goal.returns-in-Ends
unfolding after_of reply_to
returns-in-Ends c = record { held = rw c.in-Ends.is refl; told = λ f. rw c.in-Ends.is refl; few = omega arith }

pub returns-in-At : goal.returns-in-At
unfolding after_of reply_to
returns-in-At c = let a = c.args in let z : a.n - 0 ≡ a.n = omega arith in
    record {
      held = rw c.in-At.is refl;
      told = λ f. rw c.in-At.is (ap (fault_in f) (rw z at (c.value_at.ensures.reply a.table.now)));
      few = omega arith;
    }

pub returns-in-Find : goal.returns-in-Find
unfolding after_of reply_to
returns-in-Find c = record { held = rw c.in-Find.is refl; told = λ f. rw c.in-Find.is refl; few = omega arith }

pub returns-in-Turn : goal.returns-in-Turn
unfolding after_of reply_to
returns-in-Turn c = let a = c.args in let z : a.n - 0 ≡ a.n = omega arith in
    record {
      held = rw c.in-Turn.is refl;
      told = λ f. rw c.in-Turn.is (rw z at (c.turned.ensures f a.t.span a.table.now));
      few = omega arith;
    }

pub returns-in-Bad : goal.returns-in-Bad
unfolding after_of reply_to
returns-in-Bad c = record { held = rw c.in-Bad.is refl; told = λ f. rw c.in-Bad.is refl; few = omega arith }
