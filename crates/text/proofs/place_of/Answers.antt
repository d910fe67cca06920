-- `position` finds the first byte that is b: `place_of` counts those before it.
use Rattle.std.proofs.Common.{rules, tests, ◌≡◌, ◌≢◌, ◌∙◌}
use Rattle.std.proofs.lemmas.Iterator.{YieldsList-from_slice, IsFirst-from_position}
use Rattle.text.proofs.Words.{place_found}
use Rattle.text.proofs.place_of.Goals as goal

pub returns-clause-answer : goal.returns-clause-answer
returns-clause-answer c = c.unwrap_or.ensures ∙ place_found c.args.b c.args.s.now c.position.result
    (IsFirst-from_position _ _ _ (λ x. x ≡ c.args.b) (λ x. x ≢ c.args.b) c.position.ensures.ran (YieldsList-from_slice c.args.s.now cc)
    (λ x q k. search (rules, tests)) (λ x q k. search (rules, tests)))
