-- The two rows, where there are two and the curve passes through them.
use mathlib.Core.Path.{sym, ap, ◌∙◌}
use mathlib.Core.Bool.{Bool}
use Rattle.ask_verdict.specs.Faults.{against}
use Rattle.whole.specs.Held.{held}
use Prim.Native.Nat.{◌+◌}
use lib.IntN.{pos}
use lib.ListN.{get_or}
use Rattle.ask_verdict.proofs.Bends.{not_through, last_row, row_turns}
use Rattle.ask_verdict.proofs.is_turning.Goals as goal

pub returns-then-not-is_through_rows : goal.returns-then-not-is_through_rows
returns-then-not-is_through_rows c = not_through c.args.k c.args.up c.args.rows.now c.args.i c.is_through_rows.ensures (c.if-not-is_through_rows.true)

pub returns-then-up : goal.returns-then-up
returns-then-up c = ap (λ (u : Bool). against u (held (get_or c.args.rows.now c.args.i (pos 0)))
    (held (get_or c.args.rows.now (c.args.i + 1) (pos 0)))) (sym c.if-up.true) ∙ row_turns c.args.k
    c.args.up c.args.rows.now c.args.i c.is_through_rows.ensures (c.if-not-is_through_rows.false)
    c.if-next-rows.true

pub returns-then-next-rows : goal.returns-then-next-rows
returns-then-next-rows c = ap (λ (u : Bool). against u (held (get_or c.args.rows.now c.args.i (pos 0)))
    (held (get_or c.args.rows.now (c.args.i + 1) (pos 0)))) (sym c.if-up.false) ∙ row_turns c.args.k
    c.args.up c.args.rows.now c.args.i c.is_through_rows.ensures (c.if-not-is_through_rows.false)
    c.if-next-rows.true

pub returns : goal.returns
returns c = last_row c.args.k c.args.up c.args.rows.now c.args.i c.is_through_rows.ensures
    (c.if-not-is_through_rows.false) c.if-next-rows.false
