-- The three words, one after another.
use Rattle.ask_answers.proofs.Questions.{row_asked, at_asked, every_asked, no_number}
use Rattle.ask_answers.proofs.by_number.Goals as goal

pub returns-then-is_word : goal.returns-then-is_word
returns-then-is_word c = row_asked c.args.w.now c.args.n c.is_word.ensures c.if-is_word.true

pub returns-then-is_word-2 : goal.returns-then-is_word-2
returns-then-is_word-2 c = at_asked c.args.w.now c.args.n c.is_word.ensures c.if-is_word.false c.is_word-2.ensures c.if-is_word-2.true

pub returns-then-is_word-3 : goal.returns-then-is_word-3
returns-then-is_word-3 c = every_asked c.args.w.now c.args.n c.is_word.ensures c.if-is_word.false c.is_word-2.ensures
    c.if-is_word-2.false c.is_word-3.ensures c.if-is_word-3.true

pub returns : goal.returns
returns c = no_number c.args.w.now c.args.n c.is_word.ensures c.if-is_word.false c.is_word-2.ensures
    c.if-is_word-2.false c.is_word-3.ensures c.if-is_word-3.false
