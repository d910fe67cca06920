-- At the pace by the steady method, on the chord by the two others: each is its function's contract.
use mathlib.Core.Path.{sym, ap}
use Rattle.inverse_segment.proofs.Choosing.{first_two, by_chord, by_pace}
use Rattle.inverse_segment.specs.Method.{rule_of}
use Rattle.inverse_segment.proofs.choice.choose.Goals as goal

pub returns-in_default : goal.returns-in_default
returns-in_default c = let a = c.args in
    by_chord a.how a.y a.regula_falsi a.width a.st (first_two a.how c.in_default.not-Steady) c.chord.ensures

pub returns : goal.returns
returns c = let a = c.args in
    by_pace a.how a.y a.regula_falsi a.width a.st (sym (ap rule_of c.in-Steady.is)) c.paced.ensures
