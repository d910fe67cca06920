-- `position` stops at the first number that is not small. Assumes nothing.
use Rattle.std.proofs.Common.{rules, tests, ◌≡◌, true, false}
use Rattle.std.proofs.lemmas.Iterator.{YieldsList-from_slice, IsFirst-from_position}
use Rattle.whole.specs.Held.{held, small}
use Rattle.whole.proofs.Held.{first_found}
use Rattle.whole.proofs.first_large.Goals as goal

pub returns : goal.returns
returns c = first_found c.args.most c.args.numbers.now c.position.result
    (IsFirst-from_position _ _ _ (λ z. small c.args.most (held z) ≡ false) (λ z. small c.args.most (held z) ≡ true) c.position.ensures.ran
    (YieldsList-from_slice c.args.numbers.now cc) (λ x q k. search (rules, tests)) (λ x q k. search (rules, tests)))
