-- The exit of a `?` whose error goes out as it came in: what is returned is that error.
use mathlib.Core.Path.{◌≡◌, ap, ◌∙◌}
use Rattle.std.specs.Prelude.{Result, Err}
use Rattle.std.specs.Result.{IsErrAnd}
use Rattle.std.proofs.lemmas.Result.{err_from_is_err_and}

pub exit : {U E : Type 0} (r : Result U E) (e : E) → IsErrAnd r (λ (y : E). y ≡ e) → r ≡ Err e
exit r e p = let q = err_from_is_err_and r p in q.1 ∙ ap Err q.2
