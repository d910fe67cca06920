-- One field is `other` or says nothing, two are read, and any other number says nothing.
use native.Mathlib.Omega.{arith}
use mathlib.Core.Path.{sym, ◌∙◌}
use Rattle.compare_lines.proofs.Fields.{one_field, two_fields, no_record}
use Rattle.compare_lines.proofs.said_of.Goals as goal

pub field-requires : goal.field-requires
field-requires c = omega arith

pub returns-then-is_word : goal.returns-then-is_word
returns-then-is_word c = sym (one_field c.args.line.now (sym c.fields_in-n.ensures ∙ c.if-n-eq1.true)
    c.field.ensures c.is_word.ensures ∙ rw c.if-is_word.true)

pub returns-then-n-eq1 : goal.returns-then-n-eq1
returns-then-n-eq1 c = sym (one_field c.args.line.now (sym c.fields_in-n.ensures ∙ c.if-n-eq1.true)
    c.field.ensures c.is_word.ensures ∙ rw c.if-is_word.false)

pub returns-then-n-ne2 : goal.returns-then-n-ne2
returns-then-n-ne2 c = sym (no_record c.args.line.now (rw c.fields_in-n.ensures at c.if-n-eq1.false) (rw c.fields_in-n.ensures at c.if-n-ne2.true))

pub field-requires-2 : goal.field-requires-2
field-requires-2 c = omega arith

pub field-requires-3 : goal.field-requires-3
field-requires-3 c = omega arith

pub returns : goal.returns
returns c = c.meaning.ensures ∙ rw (c.field-2.ensures, c.field-3.ensures)
    (two_fields c.args.line.now (sym c.fields_in-n.ensures ∙ c.if-n-ne2.false))
