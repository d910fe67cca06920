-- The length and the bytes, one after another.
use mathlib.Core.Path.{◌∙◌}
use Rattle.text.proofs.Writing.{then}
use Rattle.ask_sheet.proofs.Labels.{kept}
use native.Mathlib.Omega.{arith}
use Rattle.ask_sheet.proofs.keep.Goals as goal

pub returns : goal.returns
returns c =
    let w = then c.put_byte-at.ensures c.put_word.ensures in record {
      labels =
          kept c.args.labels.now _ c.args.w.now c.args.n _ c.requires.short (omega (arith, c.requires.inside, c.requires.labels)) w;
      long = w.long
          ∙ c.requires.labels;
    }
