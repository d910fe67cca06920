-- The rows are the knots, or Monotone makes them.
use mathlib.Core.Path.{◌≡◌, ap, ◌∙◌}
use Rattle.whole.specs.Held.{held_all}
use lib.ListN.{length, take}
use lib.Seq.{length-take-le}
use Prim.Native.Nat.{◌-◌}
use Rattle.whole.proofs.Held.{long}
use Rattle.ask_verdict.specs.Curve.{suits}
use Rattle.ask_sheet.specs.declared.Kind.TheVariants.{Drawn}
use Rattle.ask_verdict.proofs.Telling.{drawing_drawn}
use native.Mathlib.Omega.{arith}
use borrow.Author.Rules.{rules}
use Rattle.ask_verdict.proofs.told_if.Goals as goal

pub told_of-requires : goal.told_of-requires
told_of-requires c = let e : c.args.n - 0 ≡ c.args.n = omega arith in let l : length (take c.args.n c.args.rows.now) ≡ c.args.n =
    length-take-le c.args.n c.args.rows.now (omega (arith, c.requires.few, c.requires.rows)) in let q : length (held_all (take
    c.args.n c.args.rows.now)) ≡ c.args.n = long (take c.args.n c.args.rows.now) ∙ l in rw e (record {
      curve = drawing_drawn
          c.in-Drawn.b (held_all (take c.args.n c.args.rows.now)) (omega (arith, q, c.requires.few)) (ap (suits (Drawn
          c.in-Drawn.b)) q ∙ (rw c.in-Drawn.is at c.requires.suited)) (rw c.in-Drawn.is at c.requires.sound);
      labels = c.requires.labels;
      knots = c.requires.knots;
      room = c.requires.room;
    })

pub told_monotone-requires : goal.told_monotone-requires
told_monotone-requires c = record {
  few = c.requires.few;
  suited = (rw c.in-Monotone.is at c.requires.suited);
  rows = c.requires.rows;
  sound = (rw c.in-Monotone.is at c.requires.sound);
  whole = search rules;
  labels = c.requires.labels;
  knots = c.requires.knots;
  room = c.requires.room;
}

pub returns-in-Drawn : goal.returns-in-Drawn
returns-in-Drawn c =
    let e : c.args.n - 0 ≡ c.args.n = omega arith in
    let l : length (take c.args.n c.args.rows.now) ≡ c.args.n =
    length-take-le c.args.n c.args.rows.now (omega (arith, c.requires.few, c.requires.rows)) in
    let q : length (held_all (take c.args.n c.args.rows.now)) ≡ c.args.n = long (take c.args.n c.args.rows.now) ∙ l in
    rw c.in-Drawn.is (record {
      text = rw (e, l) at c.told_of.ensures.text;
      held = rw (e, l) at c.told_of.ensures.held;
      few = c.told_of.ensures.few;
    })

pub returns-in-Monotone : goal.returns-in-Monotone
returns-in-Monotone c = rw c.in-Monotone.is (record {
  text = c.told_monotone.ensures.text;
  held = c.told_monotone.ensures.held;
  few = c.told_monotone.ensures.few;
})
