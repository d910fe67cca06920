-- Both ways out are the row of the knots: the scan tells whether it applies, and the search for the first bad knot what it tells.
use Rattle.std.specs.Prelude.{Err}
use Rattle.std.proofs.Common.{◌≡◌, false, sym, ap, ◌∙◌, arith}
use Rattle.error.specs.declared.Refusal.TheVariants.{BadKnot}
use Rattle.checks.specs.Checks.{all_in_range}
use Rattle.checks.proofs.Scan.{first_bad_is}
use Rattle.checks.proofs.knots.Goals as goal

pub returns-then-all_in_range : goal.returns-then-all_in_range
returns-then-all_in_range c = simp (sym c.all_in_range.ensures ∙ c.if-all_in_range.true)

pub returns-in-Some : goal.returns-in-Some
returns-in-Some c = simp (sym c.all_in_range.ensures ∙ c.if-all_in_range.false) (ap (λ n. Err (BadKnot n)) c.in-Some.ensures.0)

pub returns-in-None : goal.returns-in-None
returns-in-None c =
    let e : all_in_range c.args.knots.now ≡ false = sym c.all_in_range.ensures ∙ c.if-all_in_range.false in
    absurd (omega (arith, c.in-None.ensures, (first_bad_is c.args.knots.now e).0))
