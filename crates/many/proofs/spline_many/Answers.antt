-- The verdict is the definition's. Where it passed every value fits into the output, and where not nothing was written.
use Rattle.std.proofs.Common.{length, sym, ◌∙◌}
use Rattle.many.proofs.Verdicts.{many_sound}
use Rattle.many.proofs.Many.{written, refused}
use Rattle.many.proofs.spline_many.Goals as goal

pub put_values-requires : goal.put_values-requires
put_values-requires c = let a = c.args in
    let h = many_sound a.b a.xs.now a.knots.now (length a.out.now)
    (sym c.verdict-v.ensures ∙ c.in-Ok.is) in
    record { enough = h.enough; most = h.most; numbers = h.numbers; room = h.fits }

pub returns-in-Err : goal.returns-in-Err
returns-in-Err c = let a = c.args in
    let t = refused a.b a.xs.now a.knots.now a.out.now _ (sym
    c.verdict-v.ensures ∙ c.in-Err.is) c.told.ensures in
    record { answer = t.answer; out = t.left }

pub returns-in-Ok : goal.returns-in-Ok
returns-in-Ok c = let a = c.args in
    let t = written a.b a.xs.now a.knots.now a.out.now _ (sym
    c.verdict-v.ensures ∙ c.in-Ok.is)
    c.put_values.ensures in
    record { answer = t.answer; out = t.left }
