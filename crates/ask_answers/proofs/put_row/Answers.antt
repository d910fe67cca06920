-- Nothing is printed where the span is good.
use Rattle.std.proofs.Common.{arith}
use Rattle.text.proofs.Pens.{within, chained}
use Rattle.ask_verdict.proofs.Texts.{as_told, still}
use Rattle.std.proofs.Common.{sym, ap, ◌∙◌, ℕ, ◌*◌}
use Rattle.basis.specs.Basis.{segments_of}
use Rattle.ask_verdict.specs.Curve.{basis_of}
use Rattle.ask_answers.proofs.Answers.{row_good, row_bad}
use Rattle.ask_answers.proofs.put_row.Goals as goal

pub returns-then-is_good : goal.returns-then-is_good
returns-then-is_good c = λ ks e. as_told (row_good c.args.k ks c.args.m c.curve_seconds.result
    (c.curve_seconds.ensures ∙ ap (λ (x : ℕ). c.args.m * segments_of (basis_of c.args.k) x) (sym e))
    c.is_good.ensures c.if-is_good.true) (still 18 _)

pub returns : goal.returns
returns c = λ ks e. as_told (row_bad c.args.k ks c.args.m c.curve_seconds.result
    (c.curve_seconds.ensures ∙ ap (λ (x : ℕ). c.args.m * segments_of (basis_of c.args.k) x) (sym e))
    c.is_good.ensures c.if-is_good.false) c.put_refused.ensures
