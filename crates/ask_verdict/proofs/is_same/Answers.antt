-- Both labels in their places.
use mathlib.Core.Path.{◌∙◌}
use Rattle.ask_verdict.proofs.Labels.{cell, both}
use Rattle.ask_verdict.proofs.is_same.Goals as goal

pub returns : goal.returns
returns c = c.is_same_text.ensures ∙ both (cell c.args.labels.now c.args.i c.label_len.ensures) (cell c.args.labels.now
    c.args.j c.label_len-2.ensures)
