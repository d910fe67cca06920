-- The question, the span after it, and its text.
use mathlib.Core.Path.{◌≡◌, ap, ◌∙◌}
use native.Mathlib.Omega.{arith}
use Rattle.text.proofs.Pens.{lands}
use lib.ListN.{length, take, length-take}
use Rattle.ask_sheet.specs.Contract.{labels_to}
use Rattle.ask_answers.specs.Answers.{text_by, span_by, answer_text, span_after}
use Rattle.ask_answers.proofs.answer.Goals as goal

pub returns : goal.returns
unfolding answer_text span_after
returns c = let long : length (take c.args.n c.args.knots.now) ≡ c.args.n =
    rw length-take (omega (arith, c.requires.few, c.requires.knots)) in record {
      text = rw (← ap (text_by c.args.k (take c.args.n c.args.knots.now) (labels_to c.args.labels.now c.args.rows) c.args.span) c.asked-q.ensures)
          (grind (arith, lands));
      short = grind arith;
      span_after = c.span_by-after.ensures.span_after (take c.args.n c.args.knots.now) long ∙
          ap (span_by c.args.k (take c.args.n c.args.knots.now) c.args.span) c.asked-q.ensures;
      span_most = c.span_by-after.ensures.most;
    }
