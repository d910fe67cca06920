-- The invariant: the faults of the rows passed are written.
use Rattle.std.proofs.Common.{arith, ◌≡◌, ◌+◌, ◌*◌, length}
use Rattle.text.proofs.Pens.{within}
use Rattle.whole.specs.Held.{held_all}
use Rattle.whole.proofs.Held.{long}
use Rattle.ask_sheet.specs.Contract.{labels_to}
use Rattle.ask_verdict.proofs.Texts.{as_told, still, no_rows, row_more}
use Rattle.ask_verdict.proofs.put_rows.Goals as goal

pub loop-i-init : goal.loop-i-init
loop-i-init c = as_told (no_rows c.args.k c.args.w (held_all c.args.rows.now) (labels_to c.args.labels.now (length c.args.rows.now))) (still 0 _)

pub put_twice-requires : goal.put_twice-requires
put_twice-requires c = record {
  inside = omega arith;
  few = omega (arith, c.requires.curve.rows, long c.args.rows.now);
  labels = c.requires.labels;
  room = omega (arith, c.requires.curve.rows, long c.args.rows.now);
}

pub put_bent-requires : goal.put_bent-requires
put_bent-requires c = record {
  inside = omega arith;
  curve = c.requires.curve;
  room = omega (arith, c.requires.curve.rows, long c.args.rows.now);
}

pub loop-i-preserved : goal.loop-i-preserved
loop-i-preserved c = within (30 * (c.loop-i.i + 1)) (row_more c.args.k c.args.w (held_all c.args.rows.now)
    (labels_to c.args.labels.now (length c.args.rows.now)) c.loop-i.i c.loop-i.invariant c.put_twice.ensures c.put_bent.ensures) (omega arith)

pub returns : goal.returns
returns c = let e : c.loop-i.i ≡ length c.args.rows.now = omega arith in rw e at c.loop-i.invariant
