-- `exports_reply::conversion_reply` meets its contract: in each arm the answer is that arm's. Assumes nothing.
use mathlib.Core.Path.{sym, ap, ◌∙◌}
use Rattle.exports_reply.specs.Replies.{converted_reply}
use Rattle.exports_reply.proofs.conversion_reply.Goals as goal

pub returns-in-Err : goal.returns-in-Err
returns-in-Err c = c.reply.ensures ∙ sym (ap converted_reply c.in-Err.is)
