-- Monotone, or a basis.
use mathlib.Core.Path.{sym, ap}
use Rattle.ask_sheet.specs.Sheet.{drawn}
use Rattle.ask_sheet.proofs.Lines.{is_monotone, is_drawn}
use Rattle.ask_sheet.proofs.kind_named.Goals as goal

pub returns-then-is_word : goal.returns-then-is_word
returns-then-is_word c = is_monotone c.args.l.now c.is_word.ensures c.if-is_word.true

pub returns-in_err-b : goal.returns-in_err-b
returns-in_err-b c = rw c.from_residual.ensures
    (is_drawn c.args.l.now c.is_word.ensures c.if-is_word.false c.basis_named.ensures (ap drawn (sym c.in_err-b.was)))

pub returns : goal.returns
returns c = is_drawn c.args.l.now c.is_word.ensures c.if-is_word.false c.basis_named.ensures (ap drawn (sym
    c.in_ok-b.was))
