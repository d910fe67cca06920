-- A number with its sign.
use mathlib.Core.Path.{sym, ap, ◌∙◌}
use mathlib.Core.Bool.{Bool}
use Rattle.whole.specs.Held.{held}
use Rattle.ask_sheet.specs.Sheet.{whole_of}
use Rattle.ask_sheet.proofs.Lines.{whole_held}
use Rattle.ask_sheet.proofs.whole_of.Goals as goal

pub returns-then-minus : goal.returns-then-minus
returns-then-minus c = ap held (c.down.ensures ∙ ap (λ (b : Bool). whole_of b c.args.n) (sym c.if-minus.true)) ∙ whole_held c.args.minus
    c.args.n c.requires

pub returns : goal.returns
returns c = ap held (c.up.ensures ∙ ap (λ (b : Bool). whole_of b c.args.n) (sym c.if-minus.false)) ∙ whole_held c.args.minus
    c.args.n c.requires
