-- A field that says nothing makes a bad line; otherwise all four are read.
use mathlib.Core.Path.{sym, ◌∙◌}
use Rattle.claims.proofs.claim_with.Goals as goal

pub returns-in_default : goal.returns-in_default
returns-in_default c = simp (sym c.hex.ensures ∙ c.in_default.is)

pub returns-in_default-number_in : goal.returns-in_default-number_in
returns-in_default-number_in c = simp (sym c.hex.ensures ∙ c.in-Some.is, sym c.number_in.ensures ∙ c.in_default-number_in.is)

pub returns-in_default-hex : goal.returns-in_default-hex
returns-in_default-hex c = simp (
  sym c.hex.ensures ∙ c.in-Some.is,
  sym c.number_in.ensures ∙ c.in-Some-number_in.is,
  sym c.hex-2.ensures ∙ c.in_default-hex.is,
)

pub returns-in_default-hex-2 : goal.returns-in_default-hex-2
returns-in_default-hex-2 c = simp (
  sym c.hex.ensures ∙ c.in-Some.is,
  sym c.number_in.ensures ∙ c.in-Some-number_in.is,
  sym c.hex-2.ensures ∙ c.in-Some-hex.is,
  sym c.hex-3.ensures ∙ c.in_default-hex-2.is,
)

pub returns : goal.returns
returns c = simp (
  sym c.hex.ensures ∙ c.in-Some.is,
  sym c.number_in.ensures
      ∙ c.in-Some-number_in.is,
  sym c.hex-2.ensures ∙ c.in-Some-hex.is,
  sym c.hex-3.ensures ∙ c.in-Some-hex-2.is,
  c.of_bits.ensures,
  c.of_bits-2.ensures,
  c.of_bits-3.ensures,
)
