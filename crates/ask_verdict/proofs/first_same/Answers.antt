-- Invariant: none before j is the same, so that the first from there on is the first of all.
use mathlib.Core.Path.{◌≡◌, sym, ◌∙◌}
use native.Mathlib.Omega.{arith}
use Rattle.ask_sheet.specs.Contract.{labels_to}
use Rattle.ask_verdict.proofs.Labels.{both, label_of, found, passed, none_found, from_first}
use Rattle.ask_verdict.proofs.first_same.Goals as goal

pub loop-j-init : goal.loop-j-init
loop-j-init c = from_first (labels_to c.args.labels.now c.args.n) c.args.i

pub returns-then-is_same-clause-first : goal.returns-then-is_same-clause-first
returns-then-is_same-clause-first c = let a = c.args in
    let j = c.loop-j.j in
    let e = both (label_of a.labels.now a.n j (omega (arith, c.requires.inside, c.loop-j-test.true)))
    (label_of a.labels.now a.n a.i c.requires.inside) in
    found (labels_to a.labels.now a.n) _ a.i j (omega (arith, c.loop-j-test.true)) c.loop-j.invariant (e ∙ sym c.is_same.ensures ∙ c.if-is_same.true)

pub loop-j-preserved : goal.loop-j-preserved
loop-j-preserved c = let a = c.args in
    let j = c.loop-j.j in
    let e = both (label_of a.labels.now a.n j (omega (arith, c.requires.inside, c.loop-j-test.true)))
    (label_of a.labels.now a.n a.i c.requires.inside) in
    passed (labels_to a.labels.now a.n) _ a.i j (omega (arith, c.loop-j-test.true)) c.loop-j.invariant (e ∙ sym c.is_same.ensures ∙ c.if-is_same.false)

pub returns-clause-first : goal.returns-clause-first
returns-clause-first c = let e : c.loop-j.j ≡ c.args.i = omega arith in
    sym e ∙ none_found (labels_to c.args.labels.now c.args.n) _ c.args.i c.loop-j.j e c.loop-j.invariant
