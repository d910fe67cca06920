-- The direction, the rows, and whether there is a direction.
use mathlib.Core.Path.{sym, ap}
use Rattle.whole.specs.Held.{held_all}
use Rattle.whole.proofs.Held.{long}
use Prim.Native.Nat.{ℕ}
use lib.ListN.{length}
use Rattle.ask_sheet.specs.Contract.{labels_to}
use Rattle.ask_verdict.specs.Faults.{faults_to}
use Rattle.ask_verdict.specs.Told.{faults_text}
use Rattle.ask_verdict.specs.Contract.{longest}
use Rattle.text.proofs.Pens.{within}
use Rattle.ask_verdict.proofs.Texts.{as_told, all_rows}
use Rattle.ask_verdict.proofs.Bends.{way_there}
use native.Mathlib.Omega.{arith}
use Rattle.ask_verdict.proofs.put_faults.Goals as goal

pub way_taken-w-requires : goal.way_taken-w-requires
way_taken-w-requires c = let e = long c.args.knots.now in record {
  enough = omega (arith, c.requires.curve.enough, e);
  few = omega (arith, c.requires.curve.few, e);
  small = c.requires.curve.small;
}

pub put_flat-requires : goal.put_flat-requires
put_flat-requires c = omega (arith, c.requires.curve.rows, long c.args.rows.now)

pub returns : goal.returns
returns c = let z = held_all c.args.rows.now in
    let ls = labels_to c.args.labels.now (length c.args.rows.now) in
    within longest (all_rows c.args.k c.way_taken-w.result z ls (way_there c.args.k z (held_all c.args.knots.now)
    c.requires.curve.is c.basis_of.ensures c.way_taken-w.ensures) (as_told
    (ap (λ (n : ℕ). faults_text (faults_to c.args.k c.way_taken-w.result z ls n)) (sym (long c.args.rows.now)))
    c.put_rows.ensures) c.put_flat.ensures) (omega (arith, c.requires.curve.rows, long c.args.rows.now))
