-- The invariant: the lines of the multiples passed are written.
use Rattle.std.proofs.Common.{arith}
use Rattle.text.proofs.Pens.{within, chained}
use Rattle.ask_verdict.proofs.Texts.{as_told, still}
use Rattle.std.proofs.Common.{div-le_self, ◌≡◌, ◌-◌, ◌+◌, ◌*◌, ◌<◌}
use Rattle.ask_answers.specs.Answers.{multiples_below}
use Rattle.ask_answers.proofs.Answers.{no_multiples, multiple_more, multiple_below, multiples_few}
use Rattle.ask_answers.proofs.put_multiples.Goals as goal

pub overflow_add-m : goal.overflow_add-m
overflow_add-m c = omega (arith, div-le_self (c.args.span - 1) c.args.n)

pub loop-i-init : goal.loop-i-init
loop-i-init c = as_told (no_multiples c.args.b c.args.knots.now c.args.span c.args.n) (still 0 _)

pub overflow_mul-second : goal.overflow_mul-second
overflow_mul-second c = omega (arith, multiple_below c.args.span c.args.n c.loop-i.i (omega arith))

pub put_moment-requires : goal.put_moment-requires
put_moment-requires c = record {
  second = omega (arith, multiple_below c.args.span c.args.n c.loop-i.i (omega arith));
  room = omega (arith, multiples_few c.args.span c.args.n c.loop-i.i c.requires.span c.requires.step (omega arith));
}

pub loop-i-preserved : goal.loop-i-preserved
loop-i-preserved c = as_told (multiple_more c.args.b c.args.knots.now c.args.span c.args.n c.loop-i.i)
    (within (40 * (c.loop-i.i + 1)) (chained c.loop-i.invariant c.put_moment.ensures) (omega arith))

pub returns : goal.returns
returns c =
    let e : c.loop-i.i ≡ multiples_below c.args.span c.args.n = omega arith in
    within 57600 (rw e at c.loop-i.invariant)
    (omega (arith, e, multiples_few c.args.span c.args.n (c.loop-i.i - 1) c.requires.span c.requires.step (omega (arith, e))))
