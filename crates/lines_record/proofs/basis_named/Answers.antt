-- A case for each name, in the definition's order: the names before it did not fit.
use mathlib.Core.Path.{sym, ◌∙◌}
use Rattle.lines_record.specs.Record.{named_of}
use Rattle.lines_record.proofs.basis_named.Goals as goal

pub returns-then-is_word : goal.returns-then-is_word
unfolding named_of
returns-then-is_word c = simp (sym c.is_word.ensures ∙ c.if-is_word.true)

pub returns-then-is_word-2 : goal.returns-then-is_word-2
unfolding named_of
returns-then-is_word-2 c = simp (sym c.is_word.ensures ∙ c.if-is_word.false, sym c.is_word-else-is_word.ensures ∙ c.if-is_word-2.true)

pub returns-then-is_word-3 : goal.returns-then-is_word-3
unfolding named_of
returns-then-is_word-3 c = simp (
  sym c.is_word.ensures ∙ c.if-is_word.false,
  sym c.is_word-else-is_word.ensures ∙ c.if-is_word-2.false,
  sym c.is_word-else-is_word-2.ensures ∙ c.if-is_word-3.true,
)

pub returns-then-is_word-4 : goal.returns-then-is_word-4
unfolding named_of
returns-then-is_word-4 c = simp (
  sym c.is_word.ensures ∙ c.if-is_word.false,
  sym c.is_word-else-is_word.ensures
      ∙ c.if-is_word-2.false,
  sym c.is_word-else-is_word-2.ensures ∙ c.if-is_word-3.false,
  sym c.is_word-else-is_word-3.ensures ∙ c.if-is_word-4.true,
)

pub returns-then-is_word-5 : goal.returns-then-is_word-5
unfolding named_of
returns-then-is_word-5 c = simp (
  sym c.is_word.ensures ∙ c.if-is_word.false,
  sym c.is_word-else-is_word.ensures ∙ c.if-is_word-2.false,
  sym c.is_word-else-is_word-2.ensures
      ∙ c.if-is_word-3.false,
  sym c.is_word-else-is_word-3.ensures ∙ c.if-is_word-4.false,
  sym c.is_word-else-is_word-4.ensures ∙ c.if-is_word-5.true,
)

pub returns-then-is_word-6 : goal.returns-then-is_word-6
unfolding named_of
returns-then-is_word-6 c = simp (
  sym c.is_word.ensures
      ∙ c.if-is_word.false,
  sym c.is_word-else-is_word.ensures ∙ c.if-is_word-2.false,
  sym c.is_word-else-is_word-2.ensures ∙ c.if-is_word-3.false,
  sym c.is_word-else-is_word-3.ensures
      ∙ c.if-is_word-4.false,
  sym c.is_word-else-is_word-4.ensures ∙ c.if-is_word-5.false,
  sym c.is_word-else-is_word-5.ensures ∙ c.if-is_word-6.true,
)

pub returns-else-is_word-6 : goal.returns-else-is_word-6
unfolding named_of
returns-else-is_word-6 c = simp (
  sym c.is_word.ensures
      ∙ c.if-is_word.false,
  sym c.is_word-else-is_word.ensures ∙ c.if-is_word-2.false,
  sym c.is_word-else-is_word-2.ensures ∙ c.if-is_word-3.false,
  sym c.is_word-else-is_word-3.ensures
      ∙ c.if-is_word-4.false,
  sym c.is_word-else-is_word-4.ensures ∙ c.if-is_word-5.false,
  sym c.is_word-else-is_word-5.ensures ∙ c.if-is_word-6.false,
)
