-- A case for each word, in the definition's order: the words before it did not fit.
use mathlib.Core.Path.{sym, ◌∙◌}
use Rattle.lines_record.specs.Record.{ends_of}
use Rattle.lines_record.proofs.ends_named.Goals as goal

pub returns-then-is_word : goal.returns-then-is_word
unfolding ends_of
returns-then-is_word c = simp (sym c.is_word.ensures ∙ c.if-is_word.true)

pub returns-then-is_word-2 : goal.returns-then-is_word-2
unfolding ends_of
returns-then-is_word-2 c = simp (sym c.is_word.ensures ∙ c.if-is_word.false, sym c.is_word-else-is_word.ensures ∙ c.if-is_word-2.true)

pub returns-else-is_word-2 : goal.returns-else-is_word-2
unfolding ends_of
returns-else-is_word-2 c = simp (sym c.is_word.ensures ∙ c.if-is_word.false, sym c.is_word-else-is_word.ensures ∙ c.if-is_word-2.false)
