-- Faults were written, or none.
use mathlib.Core.Path.{sym, ap, ◌∙◌}
use Rattle.whole.specs.Held.{held_all}
use lib.ListN.{length}
use mathlib.Core.List.{List, map}
use Prim.Native.Nat.{ℕ}
use lib.IntN.{ℤ}
use Rattle.ask_verdict.proofs.Doubles.{cut_doubles, cut_long}
use Rattle.whole.proofs.Held.{long}
use Rattle.basis.specs.Basis.{segments_of}
use Rattle.ask_sheet.specs.Contract.{labels_to}
use Rattle.ask_verdict.specs.Curve.{double_of}
use Rattle.ask_verdict.proofs.Telling.{faults_told, not_asked, fine_told, may_be_asked, may_ask, ends_are}
use native.Mathlib.Omega.{arith}
use Rattle.ask_verdict.proofs.told_of.Goals as goal

pub returns-then-start-end : goal.returns-then-start-end
returns-then-start-end c = record {
  text = faults_told c.args.k (held_all c.args.rows.now) (labels_to c.args.labels.now (length c.args.rows.now)) c.put_faults.ensures (omega arith);
  held = not_asked c.args.k (held_all c.args.rows.now) (labels_to c.args.labels.now (length c.args.rows.now)) c.put_faults.ensures (omega arith);
  few = tt;
}

pub fill-requires : goal.fill-requires
fill-requires c = record { small = c.requires.curve.small; few = omega (arith, c.requires.curve.few, long c.args.whole.now, c.requires.knots) }

pub slice_bounds-curve_ends-end : goal.slice_bounds-curve_ends-end
slice_bounds-curve_ends-end c = omega (arith, c.fill.ensures.long, c.requires.curve.few, long c.args.whole.now, c.requires.knots)

pub segments-requires : goal.segments-requires
segments-requires c = omega (arith, c.requires.curve.enough, long c.args.whole.now)

pub curve_ends-e-requires : goal.curve_ends-e-requires
curve_ends-e-requires c = let l = cut_long c.args.whole.now _ c.fill.ensures.knots in
    record {
      segments = c.segments.ensures ∙ ap (λ (n : ℕ). segments_of c.basis_of-b.result n) (sym l);
      enough = omega (arith, l, c.requires.curve.enough, long c.args.whole.now);
      most = omega (arith, l, c.requires.curve.few, long c.args.whole.now);
    }

pub put_fine-requires : goal.put_fine-requires
put_fine-requires c = record { number = omega (arith, c.requires.curve.rows, long c.args.rows.now); room = omega arith }

pub returns : goal.returns
returns c = let z = held_all c.args.rows.now in
    let l = cut_long c.args.whole.now _ c.fill.ensures.knots in
    let d = ends_are c.args.k z (held_all c.args.whole.now) c.requires.curve.is c.basis_of-b.ensures
    (cut_doubles c.args.whole.now _ c.fill.ensures.knots)
    (c.segments.ensures ∙ ap (λ (n : ℕ). segments_of c.basis_of-b.result n) (sym l)) c.curve_ends-e.ensures in record {
      text = fine_told c.args.k z (labels_to c.args.labels.now (length c.args.rows.now)) c.put_faults.ensures (omega arith)
          (sym (long c.args.rows.now)) d c.put_fine.ensures;
      held = may_be_asked c.args.k z (labels_to c.args.labels.now (length c.args.rows.now)) c.put_faults.ensures (omega arith)
          (c.fill.ensures.knots ∙ ap (λ (y : List ℤ). map double_of y) c.requires.curve.is);
      few = may_ask c.args.k z (held_all c.args.whole.now) c.requires.curve (long c.args.rows.now)
          (long c.args.whole.now);
    }
