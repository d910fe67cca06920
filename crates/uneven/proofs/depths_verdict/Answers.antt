-- By the evaluation: its refusal, or 18 where the segments are not as many.
use Rattle.spline.specs.Evaluation.{Evaluation}
use Rattle.std.specs.Prelude.{Ok, Err}
use mathlib.Core.Path.{sym, ap, ◌∙◌}
use mathlib.Core.Bool.{Bool, cond}
use Rattle.error.specs.declared.Refusal.TheVariants.{UnequalSegments}
use Rattle.uneven.specs.Contract.{verdict_of}
use Rattle.uneven.proofs.depths_verdict.Goals as goal

pub returns-in-Err : goal.returns-in-Err
returns-in-Err c = sym (ap (λ (x : Evaluation). verdict_of x c.args.equal) c.in-Err.is)

pub returns-else-equal : goal.returns-else-equal
returns-else-equal c = sym (ap (λ (x : Evaluation). verdict_of x c.args.equal) c.in-Ok.is ∙ ap
    (λ (t : Bool). cond t (Ok tt) (Err UnequalSegments)) c.if-equal.false)
