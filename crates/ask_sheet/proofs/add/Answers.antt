-- Each way in which a depth line is at fault; else a row more.
use mathlib.Core.Path.{sym, ap, ◌∙◌}
use Rattle.sheet.proofs.Lines.{depth_small}
use Rattle.ask_sheet.specs.Contract.{labels_to}
use Rattle.ask_sheet.proofs.Lines.{no_label, long_label, no_depth, too_large, too_many, one_more, whole_held}
use Rattle.whole.specs.Held.{held}
use native.Mathlib.Omega.{arith}
use Rattle.ask_sheet.proofs.add.Goals as goal

pub returns-then-t-lt1 : goal.returns-then-t-lt1
returns-then-t-lt1 c = record {
  sheet = no_label c.args.k c.args.n c.args.rows.now c.requires.count c.requires.rows (labels_to c.args.labels.now
      c.args.n) c.args.l.now c.place_of-t.result c.place_of-t.ensures.answer (omega arith);
  line_after = omega arith;
}

pub returns-then-t-gt16 : goal.returns-then-t-gt16
returns-then-t-gt16 c = record {
  sheet = long_label c.args.k c.args.n c.args.rows.now c.requires.count c.requires.rows (labels_to c.args.labels.now
      c.args.n) c.args.l.now c.place_of-t.result c.place_of-t.ensures.answer (omega arith) (omega arith);
  line_after = omega arith;
}

pub returns-in_default : goal.returns-in_default
returns-in_default c = record {
  sheet = no_depth c.args.k c.args.n c.args.rows.now c.requires.count c.requires.rows
      (labels_to c.args.labels.now c.args.n) c.args.l.now c.place_of-t.result
      c.place_of-t.ensures.answer (omega arith) (omega arith) c.depth_line.ensures c.in_default.is;
  line_after = omega arith;
}

pub returns-then-most_in-m : goal.returns-then-most_in-m
returns-then-most_in-m c = record {
  sheet = too_large c.args.k c.args.n c.args.rows.now c.requires.count c.requires.rows (labels_to c.args.labels.now
      c.args.n) c.args.l.now c.place_of-t.result c.place_of-t.ensures.answer (omega arith) (omega arith) _ _
      c.depth_line.ensures c.in-Some.is (omega (arith, c.most_in.ensures));
  line_after = omega arith;
}

pub whole_of-requires : goal.whole_of-requires
whole_of-requires c = omega (arith, depth_small _ _ _ (sym c.depth_line.ensures ∙ c.in-Some.is))

pub returns-then-n-lt-MOST_KNOTS : goal.returns-then-n-lt-MOST_KNOTS
returns-then-n-lt-MOST_KNOTS c = record {
  sheet = one_more c.args.k c.args.n c.args.rows.now c.requires.count c.requires.rows
      (labels_to c.args.labels.now c.args.n) c.args.l.now c.place_of-t.result
      c.place_of-t.ensures.answer (omega (arith, c.if-t-lt1.false)) (omega (arith, c.if-t-gt16.false)) _ _
      c.depth_line.ensures c.in-Some.is (omega (arith, c.most_in.ensures, c.if-most_in-m.false))
      (omega (arith, depth_small _ _ _ (sym c.depth_line.ensures ∙ c.in-Some.is)))
      (omega (arith, c.if-n-lt-MOST_KNOTS.true)) (ap held c.whole_of.ensures ∙ whole_held c.in-Some.minus
      c.in-Some.m (omega (arith, depth_small _ _ _ (sym c.depth_line.ensures ∙ c.in-Some.is))))
      c.keep.ensures.labels;
  line_after = omega (arith, c.if-n-lt-MOST_KNOTS.true);
}

pub returns : goal.returns
returns c = record {
  sheet = too_many c.args.k c.args.n c.args.rows.now c.requires.count c.requires.rows
      (labels_to c.args.labels.now c.args.n) c.args.l.now c.place_of-t.result
      c.place_of-t.ensures.answer (omega arith) (omega arith) _ _ c.depth_line.ensures c.in-Some.is
      (omega (arith, c.most_in.ensures)) (omega arith);
  line_after = omega arith;
}
