-- `find` stops at the first place whose knot is out of range.
use Rattle.std.proofs.Common.{rules, tests, arith, ◌≡◌, true, false, get_or}
use Rattle.std.proofs.lemmas.Iterator.{first_from_Range}
use Rattle.std.proofs.lemmas.List.{get_or_read}
use lib.Ieee.{nan}
use Rattle.checks.specs.Checks.{in_range}
use Rattle.checks.proofs.Scan.{bad_among}
use Rattle.checks.proofs.first_bad.Goals as goal

pub returns : goal.returns
returns c =
    let xs = c.args.knots.now in
    bad_among xs c.find.result
    (first_from_Range _ _ _ _ (λ i. in_range (get_or xs i nan) ≡ false) (λ i. in_range (get_or xs i nan) ≡ true) c.find.ensures.ran
    (λ i q k. grind (arith, tests, get_or_read)) (λ i q k. (search rules, grind (arith, tests, get_or_read))))
