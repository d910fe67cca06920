-- `table` alone, or a word, a tab and the rest.
use native.Mathlib.Omega.{arith}
use Rattle.ask_answers.proofs.Questions.{table_asked, word_asked, no_tab}
use Rattle.ask_answers.proofs.by_line.Goals as goal

pub returns-then-is_word : goal.returns-then-is_word
returns-then-is_word c = table_asked c.args.l.now c.is_word.ensures c.if-is_word.true

pub returns-then-t-l : goal.returns-then-t-l
returns-then-t-l c = word_asked c.args.l.now c.is_word.ensures c.if-is_word.false c.place_of-t.result c.place_of-t.ensures.answer
    (omega arith) c.by_word.ensures

pub returns : goal.returns
returns c = no_tab c.args.l.now c.is_word.ensures c.if-is_word.false c.place_of-t.result
    c.place_of-t.ensures.answer (omega arith)
