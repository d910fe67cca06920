-- A number that is no basis writes nothing (`unfound`); for any other the call's contract is carried over to what C sees (`found`).
use mathlib.Core.Path.{sym, ap, ◌∙◌}
use mathlib.Core.Bool.{cond}
use Rattle.basis.specs.Basis.{length_ok}
use Rattle.exports_reply.proofs.Found.{found}
use Rattle.exports_reply.specs.Replies.{no_basis}
use Rattle.exports_value.proofs.is_len_ok.Goals as goal

pub returns-then-is_len_ok : goal.returns-then-is_len_ok
returns-then-is_len_ok c = let args = c.args in
    let known = c.in-Some.is in
    let ok = sym c.is_len_ok.ensures ∙ c.if-is_len_ok.true in
    found no_basis (λ b. cond (length_ok b args.n) 1 0) c.basis_of-c.ensures known (sym (ap (λ t. cond t 1 0) ok))

pub returns-else-is_len_ok : goal.returns-else-is_len_ok
returns-else-is_len_ok c = let args = c.args in
    let known = c.in-Some.is in
    let ok = sym c.is_len_ok.ensures ∙ c.if-is_len_ok.false in
    found no_basis (λ b. cond (length_ok b args.n) 1 0) c.basis_of-c.ensures known (sym (ap (λ t. cond t 1 0) ok))
