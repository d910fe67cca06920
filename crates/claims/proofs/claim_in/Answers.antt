-- Five fields, the word among them, are read; any other number of them is no claim.
use native.Mathlib.Omega.{arith}
use mathlib.Core.Path.{sym, ◌∙◌}
use Rattle.claims.proofs.Saying.{four_fields, no_claim}
use Rattle.claims.proofs.claim_in.Goals as goal

pub returns-then-fields_in-ne5 : goal.returns-then-fields_in-ne5
returns-then-fields_in-ne5 c = sym (no_claim c.args.line.now (rw c.fields_in.ensures at c.if-fields_in-ne5.true))

pub field-requires : goal.field-requires
field-requires c = omega arith

pub field-requires-2 : goal.field-requires-2
field-requires-2 c = omega arith

pub field-requires-3 : goal.field-requires-3
field-requires-3 c = omega arith

pub field-requires-4 : goal.field-requires-4
field-requires-4 c = omega arith

pub returns : goal.returns
returns c = c.claim_with.ensures
    ∙ rw (c.field.ensures, c.field-2.ensures, c.field-3.ensures, c.field-4.ensures)
    (four_fields c.args.line.now (sym c.fields_in.ensures ∙ c.if-fields_in-ne5.false))
