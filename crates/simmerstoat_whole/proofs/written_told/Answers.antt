-- In each arm the answer is that arm's. Assumes nothing.
use mathlib.Core.Path.{sym, ap, ◌∙◌}
use Rattle.simmerstoat_whole.specs.Replies.{made_reply, written_left}
use borrow.Author.Rules.{rules}
use Rattle.simmerstoat_whole.proofs.written_told.Goals as goal

pub returns-in-Err : goal.returns-in-Err
returns-in-Err c = let args = c.args in
    let is = c.in-Err.is in
    record { answer = c.reply.ensures ∙ sym (ap made_reply is); written = sym (ap (λ a. written_left a args.written.now) is) }

pub returns-in-Ok : goal.returns-in-Ok
returns-in-Ok c = record { answer = search rules; written = search rules }
