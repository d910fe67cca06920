-- `exports_reply::value_told` meets its contract: in each arm the answer is that arm's. Assumes nothing.
use mathlib.Core.Path.{sym, ap, ◌∙◌}
use Rattle.exports_reply.specs.Replies.{evaluated_reply, value_left}
use Rattle.exports_reply.proofs.value_told.Goals as goal

pub returns-in-Err : goal.returns-in-Err
returns-in-Err c = let args = c.args in
    let is = c.in-Err.is in
    record { answer = c.reply.ensures ∙ sym (ap evaluated_reply is); value = sym (ap (λ e. value_left e args.value.now) is) }
