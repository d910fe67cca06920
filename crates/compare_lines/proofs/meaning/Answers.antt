-- A case for each word, in the definition's order: the words before it did not fit.
use mathlib.Core.Path.{sym, ◌∙◌}
use Rattle.compare_lines.specs.CompareRecord.{meaning_of}
use Rattle.compare_lines.proofs.meaning.Goals as goal

pub returns-then-is_word : goal.returns-then-is_word
unfolding meaning_of
returns-then-is_word c = simp (sym c.is_word.ensures ∙ c.if-is_word.true) c.curve_of.ensures

pub returns-then-is_word-2 : goal.returns-then-is_word-2
unfolding meaning_of
returns-then-is_word-2 c = simp (sym c.is_word.ensures ∙ c.if-is_word.false, sym c.is_word-2.ensures ∙ c.if-is_word-2.true)
    c.span_of.ensures

pub returns-then-is_word-3 : goal.returns-then-is_word-3
unfolding meaning_of
returns-then-is_word-3 c = simp (
  sym c.is_word.ensures ∙ c.if-is_word.false,
  sym c.is_word-2.ensures ∙ c.if-is_word-2.false,
  sym c.is_word-3.ensures ∙ c.if-is_word-3.true,
) c.knot_of.ensures

pub returns : goal.returns
unfolding meaning_of
returns c = simp (
  sym c.is_word.ensures ∙ c.if-is_word.false,
  sym c.is_word-2.ensures ∙ c.if-is_word-2.false,
  sym c.is_word-3.ensures ∙ c.if-is_word-3.false,
)
