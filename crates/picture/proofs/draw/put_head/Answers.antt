-- Five words, one after another.
use Rattle.std.proofs.Common.{arith}
use Rattle.text.proofs.Pens.{within, chained}
use Rattle.picture.specs.Picture.{head_text}
use Rattle.picture.proofs.draw.put_head.Goals as goal

pub returns : goal.returns
unfolding head_text
returns c = within 900 (chained (chained (chained (chained c.word.ensures c.word-2.ensures) c.word-3.ensures) c.word-4.ensures) c.word-5.ensures)
    (omega arith)
