-- A sheet that is not fine, or a question about a curve.
use Rattle.lines_machine.specs.Contract.{said_of}
use Rattle.ask_verdict.specs.Contract.{Asks}
use Rattle.ask.proofs.Steps.{as_text, bad_text, bad_after, fine_text_lem, fine_after, asks_on}
use native.Mathlib.Omega.{arith}
use Rattle.ask.proofs.answer.Goals as goal

pub answer-r-requires : goal.answer-r-requires
answer-r-requires c = let a : Asks c.in-Fine.rows c.in-Fine.n c.in-Fine.span =
    rw c.in-Fine.is at c.requires.held in
    record {
      rows = a.few_rows;
      enough = a.enough;
      few = a.few;
      span = a.short;
      labels = c.requires.labels;
      knots = c.requires.knots;
      room = c.requires.room;
    }

pub returns-in-Bad : goal.returns-in-Bad
returns-in-Bad c = rw c.in-Bad.is (record {
  text = as_text (bad_text (said_of c.args.line)) c.put_word.ensures;
  held = bad_after (said_of c.args.line);
  askable = tt;
  short = omega (arith, c.put_word.ensures.next);
})

pub returns-in-Fine : goal.returns-in-Fine
returns-in-Fine c = let a : Asks c.in-Fine.rows c.in-Fine.n c.in-Fine.span = rw c.in-Fine.is at c.requires.held in rw
    c.in-Fine.is (record {
      text = as_text (fine_text_lem _ _ _ _ (said_of c.args.line)) c.answer-r.ensures.text;
      held = fine_after _ _ _ _ (said_of c.args.line) c.answer-r.ensures.span_after;
      askable = asks_on a c.answer-r.ensures.span_most;
      short = c.answer-r.ensures.short;
    })
