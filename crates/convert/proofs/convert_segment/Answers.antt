-- The verdict is the definition's. Where it passed there is room for four, and four values are written to the front of the buffer.
use Rattle.error.proofs.Exits.{exit}
use mathlib.Core.Path.{sym, ◌∙◌}
use native.Mathlib.Omega.{arith}
use lib.Dec.{lit<, lit≤}
use lib.ListN.{length}
use Rattle.convert.proofs.Verdicts.{segment_passed}
use Rattle.convert.proofs.Glue.{segment_refused, segment_written}
use Rattle.convert.proofs.convert_segment.Goals as goal

pub sums-requires : goal.sums-requires
sums-requires c = let a = c.args in
    let h =
    (segment_passed a.to a.cv.now (length a.out.now)
    (sym c.segment_verdict.ensures ∙ c.in_ok-segment_verdict.was)).0 in omega arith

pub put_last-requires : goal.put_last-requires
put_last-requires c = let a = c.args in
    let h = (segment_passed a.to a.cv.now (length a.out.now)
    (sym c.segment_verdict.ensures ∙ c.in_ok-segment_verdict.was)).1 in
    record { some = lit< tt; few = lit≤ tt; room = h.enough }

pub returns-in_err-segment_verdict : goal.returns-in_err-segment_verdict
returns-in_err-segment_verdict c = let a = c.args in
    let t = segment_refused a.from a.to a.cv.now a.out.now _
    (sym c.segment_verdict.ensures ∙ c.in_err-segment_verdict.was) in
    record { answer = exit _ _ c.from_residual.ensures.1 ∙ t.answer; out = t.buffer }

pub returns : goal.returns
returns c = let a = c.args in
    let t = segment_written a.from a.to a.cv.now a.out.now _ _ _
    (sym c.segment_verdict.ensures ∙ c.in_ok-segment_verdict.was)
    c.conversion_matrix-m.ensures c.sums.ensures
    c.put_last.ensures in
    record { answer = t.answer; out = t.buffer }
