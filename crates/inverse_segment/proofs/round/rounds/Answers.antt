-- The invariant says that the rounds still to come lead from the state at hand to where all rounds lead from the first (`Led`), and what stands for their
-- number: the width of the pace is 16 halved as often as rounds were made.
use mathlib.Core.Path.{refl, ◌∙◌}
use Prim.Native.Nat.{◌≤◌, ◌+◌}
use native.Mathlib.Omega.{arith}
use lib.Ieee.{of_bits}
use Rattle.spline.specs.Segment.{horner_of}
use Rattle.inverse_segment.specs.Segment.{start}
use Rattle.inverse_segment.specs.Method.{rule_of}
use Rattle.inverse_segment.specs.Contract.{count_after, repeats_after}
use Rattle.inverse_segment.proofs.OneRound.{regula_falsi_is, led_start, led_on, led_done, led_spent}
use Rattle.inverse_segment.proofs.Choosing.{first_width, next_width}
use Rattle.inverse_segment.proofs.round.rounds.Goals as goal

pub loop-i-init : goal.loop-i-init
unfolding of_bits
loop-i-init c = (
  refl,
  refl,
  omega arith,
  omega arith,
  omega arith,
  first_width,
  led_start (rule_of c.args.how) (horner_of c.args.w) c.args.y c.args.precision c.args.rising c.args.limit
      (start c.args.first) c.args.n,
)

pub round-t-requires : goal.round-t-requires
round-t-requires c = record { repeats = omega arith; count = omega arith }

pub returns-in-Done : goal.returns-in-Done
returns-in-Done c = let a = c.args in λ s ev k. c.stopped.ensures ∙ led_done
    (rule_of a.how) (horner_of a.w) a.y a.precision a.rising a.limit (start a.first) a.n c.loop-i.i c.loop-i.count c.loop-i.st
    (omega arith) c.loop-i.invariant.6 (c.round-t.ensures.answer a.limit c.loop-i.i (regula_falsi_is a.limit c.loop-i.i c.loop-i.st
    c.uses_regula_falsi-regula_falsi.ensures c.loop-i.invariant.1) c.loop-i.invariant.5) c.in-Done.is s ev k

pub overflow_add-i : goal.overflow_add-i
overflow_add-i c = omega arith

pub loop-i-smaller : goal.loop-i-smaller
loop-i-smaller c = omega arith

pub loop-i-preserved : goal.loop-i-preserved
unfolding of_bits
loop-i-preserved c = let a = c.args in let h : count_after c.round-t.result ≤
    c.loop-i.count + 1 = c.round-t.ensures.count_after in let g : repeats_after c.round-t.result ≤ c.loop-i.st.repeats + 1 =
    c.round-t.ensures.repeats_after in (
      omega arith,
      c.loop-i.invariant.1,
      omega arith,
      omega (arith, rw c.in-Next.is at g),
      omega (arith, rw c.in-Next.is at h),
      next_width c.loop-i.i c.loop-i.invariant.5,
      led_on (rule_of a.how) (horner_of a.w) a.y a.precision a.rising a.limit (start a.first)
          a.n c.loop-i.i c.loop-i.count c.loop-i.st (omega arith) c.loop-i.invariant.6 (c.round-t.ensures.answer a.limit c.loop-i.i (regula_falsi_is
          a.limit c.loop-i.i c.loop-i.st c.uses_regula_falsi-regula_falsi.ensures c.loop-i.invariant.1) c.loop-i.invariant.5) c.in-Next.is,
    )

pub returns : goal.returns
unfolding of_bits
returns c = let a = c.args in
    λ s ev k. c.stopped-2.ensures ∙ led_spent (rule_of a.how) (horner_of a.w) a.y a.precision a.rising a.limit (start a.first)
    a.n c.loop-i.i c.loop-i.count c.loop-i.st (omega arith) c.lerp-middle.ensures c.loop-i.invariant.6 s ev k
