-- By recursion on the open segments, which fall at each step. A step that goes on has made two evaluations and does what the definition
-- does with one halving less.
use mathlib.Core.Path.{refl, sym, ◌∙◌}
use Prim.Native.Nat.{◌+◌, ◌-◌, ◌/◌}
use native.Mathlib.Omega.{arith}
use Rattle.inverse_search.proofs.Glue.{fits_le, fits_at, number_some, halve_over, halve_spent, halve_hit, halve_left, halve_right}
use Rattle.inverse_search.proofs.+halve.Goals as goal

pub returns-then-wide-eq0 : goal.returns-then-wide-eq0
returns-then-wide-eq0 t c = let a = c.args in
    record {
      answer = halve_over a.how a.b a.knots.now.now a.y a.precision a.limit a.rising a.halvings a.left a.wide c.requires.none
          c.if-wide-eq0.true;
      left = omega arith;
      count_after = λ _. omega arith;
    }

pub returns-then-halvings-eq0 : goal.returns-then-halvings-eq0
returns-then-halvings-eq0 t c = let a = c.args in
    record {
      answer = halve_spent a.how a.b a.knots.now.now a.y a.precision a.limit a.rising a.halvings a.left a.wide c.requires.none
          c.if-halvings-eq0.true;
      left = omega arith;
      count_after = λ _. omega arith;
    }

pub overflow_sub-half : goal.overflow_sub-half
overflow_sub-half t c = omega arith

pub overflow_add-mid : goal.overflow_add-mid
overflow_add-mid t c = omega arith

pub try_at-t-requires : goal.try_at-t-requires
try_at-t-requires t c = let a = c.args in
    record { inside = fits_at (a.left + (a.wide - 1) / 2) (a.left + a.wide) _ _ (omega arith) c.requires.inside; most = c.requires.most; count = omega arith }

pub tell-requires : goal.tell-requires
tell-requires t c = tt

pub overflow_add-made : goal.overflow_add-made
overflow_add-made t c = omega arith

pub lies_before-requires : goal.lies_before-requires
lies_before-requires t c = tt

pub overflow_sub-halvings : goal.overflow_sub-halvings
overflow_sub-halvings t c = omega arith

pub halve-requires : goal.halve-requires
halve-requires t c = let a = c.args in (
  omega arith,
  (
    fits_le (a.left + (a.wide - 1) / 2) (a.left + a.wide) _ _ (omega arith) c.requires.inside,
    (c.requires.most, (omega arith, (c.requires.none, omega arith))),
  ),
)

pub overflow_add-mid-else-lies_before : goal.overflow_add-mid-else-lies_before
overflow_add-mid-else-lies_before t c = omega arith

pub overflow_sub-wide : goal.overflow_sub-wide
overflow_sub-wide t c = omega arith

pub overflow_sub-wide-else-lies_before : goal.overflow_sub-wide-else-lies_before
overflow_sub-wide-else-lies_before t c = omega arith

pub overflow_sub-halvings-else-lies_before : goal.overflow_sub-halvings-else-lies_before
overflow_sub-halvings-else-lies_before t c = omega arith

pub halve-requires-else-lies_before : goal.halve-requires-else-lies_before
halve-requires-else-lies_before t c = let a = c.args in (
  omega arith,
  (
    fits_le (a.left + (a.wide - 1) / 2 + 1 + (a.wide - 1 - (a.wide - 1) / 2)) (a.left + a.wide) _ _ (omega arith) c.requires.inside,
    (c.requires.most, (omega arith, (c.requires.none, omega arith))),
  ),
)

pub returns-in-Inside : goal.returns-in-Inside
returns-in-Inside t c = let a = c.args in
    record {
      answer = halve_hit a.how a.b a.knots.now.now a.y a.precision a.limit a.rising a.halvings a.left a.wide
          ((a.wide - 1) / 2) (omega arith) (omega arith) refl c.try_at-t.ensures c.in-Inside.is c.tell.ensures.ground c.tell.ensures.made
          c.tell.ensures.place;
      left = omega arith;
      count_after = λ z. absurd (omega (arith, z, c.tell.ensures.ground, number_some c.in-Inside.e.ground));
    }

pub returns-then-lies_before : goal.returns-then-lies_before
returns-then-lies_before t c = let a = c.args in
    record {
      answer = halve_left a.how a.b a.knots.now.now a.y a.precision a.limit a.rising a.halvings a.left a.wide
          ((a.wide - 1) / 2) (omega arith) (omega arith) refl c.try_at-t.ensures
          c.in-Outside.is
          (sym c.lies_before.ensures ∙ c.if-lies_before.true) c.halve.ensures.answer;
      left = omega (arith, c.halve.ensures.left);
      count_after = λ z. omega (arith, c.halve.ensures.count_after z);
    }

pub returns-else-lies_before : goal.returns-else-lies_before
returns-else-lies_before t c = let a = c.args in
    record {
      answer = halve_right a.how a.b a.knots.now.now a.y a.precision a.limit a.rising a.halvings a.left a.wide
          ((a.wide - 1) / 2) (omega arith) (omega arith) refl c.try_at-t.ensures
          c.in-Outside.is
          (sym c.lies_before.ensures ∙ c.if-lies_before.false) c.halve-else-lies_before.ensures.answer;
      left = omega (arith, c.halve-else-lies_before.ensures.left);
      count_after = λ z. omega (arith, c.halve-else-lies_before.ensures.count_after z);
    }
