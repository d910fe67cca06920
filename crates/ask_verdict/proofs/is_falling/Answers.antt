-- The segment, then the seam behind it.
use mathlib.Core.Path.{sym, ap, ◌∙◌, subst}
use Prim.Native.Nat.{ℕ, ◌*◌, ◌+◌, ◌≤◌}
use lib.ListN.{length, drop}
use Rattle.turns_back.specs.Four.{four_never_fall}
use Rattle.turns_back.proofs.Verdicts.{starts}
use Rattle.whole.specs.Held.{held_all, turned_all}
use Rattle.whole.proofs.Held.{long, turned_long}
use Rattle.ask_verdict.proofs.Bends.{here, at_the_seam, nowhere}
use native.Mathlib.Omega.{arith}
use Rattle.ask_verdict.proofs.is_falling.Goals as goal

pub overflow_mul-s : goal.overflow_mul-s
overflow_mul-s c = let h = subst (λ (t : ℕ). c.args.s * t + 4 ≤ length c.args.knots.now) (sym c.step.ensures.answer) (starts c.args.b
    (length c.args.knots.now) c.args.s c.requires.enough c.requires.segment) in omega (arith, h, c.requires.few)

pub is_never_falling_at-requires : goal.is_never_falling_at-requires
is_never_falling_at-requires c = let h = starts c.args.b (length c.args.knots.now) c.args.s c.requires.enough c.requires.segment in
    record { inside = (rw c.step.ensures.answer h); few = c.requires.few; small = c.requires.small }

pub returns-then-not-is_never_falling_at : goal.returns-then-not-is_never_falling_at
returns-then-not-is_never_falling_at c = here c.args.b (turned_all c.args.up (held_all c.args.knots.now)) c.args.s (c.is_never_falling_at.ensures
    ∙ ap (λ (t : ℕ). four_never_fall c.args.b (drop (c.args.s * t) (turned_all c.args.up (held_all c.args.knots.now))))
    c.step.ensures.answer) (c.if-not-is_never_falling_at.true)

pub is_start_no_lower-requires : goal.is_start_no_lower-requires
is_start_no_lower-requires c = record {
  inside = starts c.args.b (length c.args.knots.now) (c.args.s + 1) c.requires.enough
      (omega (arith, c.segments-last.ensures, c.if-s-last.true));
  few = c.requires.few;
  small = c.requires.small;
}

pub returns-then-s-last : goal.returns-then-s-last
returns-then-s-last c = let z = turned_all c.args.up (held_all c.args.knots.now) in
    let e = turned_long c.args.up (held_all c.args.knots.now) ∙ long c.args.knots.now in
    at_the_seam c.args.b z c.args.s (c.is_never_falling_at.ensures ∙ ap
    (λ (t : ℕ). four_never_fall c.args.b (drop (c.args.s * t) z)) c.step.ensures.answer) (c.if-not-is_never_falling_at.false)
    (rw e (omega (arith, c.segments-last.ensures, c.if-s-last.true))) c.is_start_no_lower.ensures

pub returns : goal.returns
returns c = let z = turned_all c.args.up (held_all c.args.knots.now) in
    let e = turned_long c.args.up (held_all c.args.knots.now) ∙ long c.args.knots.now in
    nowhere c.args.b z c.args.s (c.is_never_falling_at.ensures ∙ ap
    (λ (t : ℕ). four_never_fall c.args.b (drop (c.args.s * t) z)) c.step.ensures.answer)
    (c.if-not-is_never_falling_at.false) (rw e (omega (arith, c.segments-last.ensures, c.if-s-last.false)))
