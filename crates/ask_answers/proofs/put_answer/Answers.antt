-- A case for each question.
use mathlib.Core.Path.{◌≡◌}
use Prim.Native.Nat.{◌-◌}
use native.Mathlib.Omega.{arith}
use Rattle.text.proofs.Pens.{within}
use Rattle.ask_verdict.specs.Contract.{longest}
use lib.ListN.{take, length-take}
use Rattle.ask_answers.specs.Answers.{text_by}
use Rattle.ask_answers.proofs.put_answer.Goals as goal

pub returns-in-Table : goal.returns-in-Table
unfolding text_by
returns-in-Table c = rw c.in-Table.is
    (within longest (rw c.basis_of-b.ensures at c.put_reply.ensures) (omega arith))

pub returns-in-Row : goal.returns-in-Row
unfolding text_by
returns-in-Row c = rw c.in-Row.is (within longest (c.put_row.ensures (take c.args.n c.args.knots.now)
    (rw length-take (omega (arith, c.requires.few, c.requires.knots)))) (omega arith))

pub returns-in-Find : goal.returns-in-Find
unfolding text_by
returns-in-Find c = let z : c.args.n - 0 ≡ c.args.n = omega arith in
    rw c.in-Find.is (within longest (rw z at c.put_find.ensures) (omega arith))

pub returns-in-At : goal.returns-in-At
unfolding text_by
returns-in-At c = let z : c.args.n - 0 ≡ c.args.n = omega arith in
    rw c.in-At.is (within longest (rw (z, c.basis_of-b.ensures) at c.put_at.ensures) (omega arith))

pub returns-in-Every : goal.returns-in-Every
unfolding text_by
returns-in-Every c = let z : c.args.n - 0 ≡ c.args.n = omega arith in
    rw c.in-Every.is
    (within longest (rw (z, c.basis_of-b.ensures) at c.put_every.ensures) (omega arith))

pub returns-in-Nothing : goal.returns-in-Nothing
unfolding text_by
returns-in-Nothing c = rw c.in-Nothing.is (within longest (c.put_refused.ensures) (omega arith))
