-- Both tests, in the order of the definition. Assumes nothing.
use mathlib.Core.Path.{sym, ap, subst}
use Prim.Native.Nat.{ℕ, ◌+◌, ◌*◌, ◌≤◌}
use native.Mathlib.Omega.{arith}
use lib.ListN.{length}
use Rattle.whole.specs.Held.{held_all, turned_all}
use Rattle.turns_back.proofs.Verdicts.{starts_below, segment_is}
use Rattle.turns_back.proofs.is_segment_never_falling.Goals as goal

pub returns-then-not-is_start_no_lower : goal.returns-then-not-is_start_no_lower
returns-then-not-is_start_no_lower c = let a = c.args in
    starts_below a.b (turned_all a.up (held_all a.knots.now)) a.s c.is_start_no_lower.ensures (c.if-not-is_start_no_lower.true)

pub overflow_mul-s : goal.overflow_mul-s
overflow_mul-s c = let h = subst (λ (t : ℕ). c.args.s * t + 4 ≤ length c.args.knots.now) (sym c.step.ensures.answer) c.requires.inside in
    omega (arith, h, c.requires.few)

pub is_never_falling_at-requires : goal.is_never_falling_at-requires
is_never_falling_at-requires c =
    record {
      inside = subst (λ (t : ℕ). c.args.s * t + 4 ≤ length c.args.knots.now) (sym c.step.ensures.answer) c.requires.inside;
      few = c.requires.few;
      small = c.requires.small;
    }

pub returns : goal.returns
returns c = segment_is c.args.b (turned_all c.args.up (held_all c.args.knots.now)) c.args.s _ c.is_start_no_lower.ensures
    (c.if-not-is_start_no_lower.false) (ap (λ (t : ℕ). c.args.s * t) c.step.ensures.answer) c.is_never_falling_at.ensures
