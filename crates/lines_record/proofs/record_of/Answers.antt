-- Two fields are read; any other number of them is no record.
use native.Mathlib.Omega.{arith}
use mathlib.Core.Path.{sym, ◌∙◌}
use Rattle.lines_record.proofs.Fields.{two_fields, no_record}
use Rattle.lines_record.proofs.record_of.Goals as goal

pub returns-then-fields_in-ne2 : goal.returns-then-fields_in-ne2
returns-then-fields_in-ne2 c = sym (no_record c.args.line.now (rw c.fields_in.ensures at c.if-fields_in-ne2.true))

pub field-requires : goal.field-requires
field-requires c = omega arith

pub field-requires-2 : goal.field-requires-2
field-requires-2 c = omega arith

pub returns : goal.returns
returns c = c.meaning.ensures ∙ rw (c.word_of.ensures, c.field.ensures, c.field-2.ensures)
    (two_fields c.args.line.now (sym c.fields_in.ensures ∙ c.if-fields_in-ne2.false))
