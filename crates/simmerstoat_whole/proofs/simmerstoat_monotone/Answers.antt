-- What the table's call answers is told as it is. Assumes nothing.
use mathlib.Core.Path.{ap, ◌∙◌}
use Rattle.simmerstoat_whole.specs.Replies.{made_reply, written_left}
use Rattle.simmerstoat_whole.proofs.simmerstoat_monotone.Goals as goal

pub returns : goal.returns
returns c = let args = c.args in
    record {
      answer = c.written_told.ensures.answer ∙ ap made_reply c.monotone.ensures.answer;
      written = c.written_told.ensures.written
          ∙ ap (λ a. written_left a args.written.now) c.monotone.ensures.answer;
      out = c.monotone.ensures.out;
    }
