-- The verdict is the definition's. Where it passed the table is written. Assumes nothing.
use Rattle.error.proofs.Exits.{exit}
use mathlib.Core.Path.{sym, ◌∙◌}
use native.Mathlib.Omega.{arith}
use lib.ListN.{length}
use Rattle.whole.specs.Held.{held_all}
use Rattle.whole.proofs.Held.{long}
use Rattle.monotone.proofs.Verdicts.{passed, refuses, writes}
use Rattle.monotone.proofs.monotone.Goals as goal

pub fill-requires : goal.fill-requires
fill-requires c = let a = c.args in
    let p = passed (held_all a.rows.now) (length a.out.now) (sym c.verdict.ensures ∙ c.in_ok-verdict.was) in
    let e = long a.rows.now in
    record { many = omega (arith, p.many, e); few = omega (arith, p.few, e); room = omega (arith, p.room, e); small = p.small }

pub returns-in_err-verdict : goal.returns-in_err-verdict
returns-in_err-verdict c = let pair = let a = c.args in
    refuses (held_all a.rows.now) a.out.now c.verdict.ensures c.in_err-verdict.was
    in record { answer = exit _ _ c.from_residual.ensures.1 ∙ pair.0; out = pair.1 }

pub returns : goal.returns
returns c = let pair = let a = c.args in
    writes (held_all a.rows.now) a.out.now c.verdict.ensures c.in_ok-verdict.was (length a.rows.now)
    (sym (long a.rows.now)) _ c.fill.ensures in record { answer = pair.0; out = pair.1 }
