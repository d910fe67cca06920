-- `exports_reply::length_told` meets its contract: in each arm the answer is that arm's. Assumes nothing.
use mathlib.Core.Path.{sym, ap, ◌∙◌}
use Rattle.exports_reply.specs.Replies.{converted_reply, length_left}
use Rattle.exports_reply.proofs.length_told.Goals as goal

pub returns-in-Err : goal.returns-in-Err
returns-in-Err c = let args = c.args in
    let is = c.in-Err.is in
    record { answer = c.reply.ensures ∙ sym (ap converted_reply is); written = sym (ap (λ a. length_left a args.written.now) is) }
