-- A case for each word; its field is then a basis or a number, or says nothing, as in the definition.
use mathlib.Core.Path.{sym, ◌∙◌}
use Rattle.lines_record.specs.Record.{meaning_of}
use Rattle.lines_record.proofs.meaning.Goals as goal

pub returns-in_default : goal.returns-in_default
unfolding meaning_of
returns-in_default c = simp (c.in-Curve.is, sym c.basis_named.ensures ∙ c.in_default.is)

pub returns-in_default-hex : goal.returns-in_default-hex
unfolding meaning_of
returns-in_default-hex c = simp (c.in-Knot.is, sym c.hex.ensures ∙ c.in_default-hex.is)

pub returns-in_default-hex-2 : goal.returns-in_default-hex-2
unfolding meaning_of
returns-in_default-hex-2 c = simp (c.in-At.is, sym c.hex-in-At.ensures ∙ c.in_default-hex-2.is)

pub returns-in_default-hex-3 : goal.returns-in_default-hex-3
unfolding meaning_of
returns-in_default-hex-3 c = simp (c.in-Find.is, sym c.hex-in-Find.ensures ∙ c.in_default-hex-3.is)

pub returns-in_default-basis_named : goal.returns-in_default-basis_named
unfolding meaning_of
returns-in_default-basis_named c = simp (c.in-Turn.is, sym c.basis_named-in-Turn.ensures ∙ c.in_default-basis_named.is)

pub returns-in-Some : goal.returns-in-Some
unfolding meaning_of
returns-in-Some c = simp (c.in-Curve.is, sym c.basis_named.ensures ∙ c.in-Some.is)

pub returns-in-Span : goal.returns-in-Span
unfolding meaning_of
returns-in-Span c = rw c.in-Span.is c.span_of.ensures

pub returns-in-Some-hex : goal.returns-in-Some-hex
unfolding meaning_of
returns-in-Some-hex c = simp (c.in-Knot.is, sym c.hex.ensures ∙ c.in-Some-hex.is, c.of_bits.ensures)

pub returns-in-Ends : goal.returns-in-Ends
unfolding meaning_of
returns-in-Ends c = rw c.in-Ends.is c.ends_of.ensures

pub returns-in-Some-hex-2 : goal.returns-in-Some-hex-2
unfolding meaning_of
returns-in-Some-hex-2 c = simp (c.in-At.is, sym c.hex-in-At.ensures ∙ c.in-Some-hex-2.is, c.of_bits-in-At.ensures)

pub returns-in-Some-hex-3 : goal.returns-in-Some-hex-3
unfolding meaning_of
returns-in-Some-hex-3 c = simp (c.in-Find.is, sym c.hex-in-Find.ensures ∙ c.in-Some-hex-3.is, c.of_bits-in-Find.ensures)

pub returns-in-Some-basis_named : goal.returns-in-Some-basis_named
unfolding meaning_of
returns-in-Some-basis_named c = simp (c.in-Turn.is, sym c.basis_named-in-Turn.ensures ∙ c.in-Some-basis_named.is)

pub returns-in-Other : goal.returns-in-Other
unfolding meaning_of
returns-in-Other c = simp c.in-Other.is
