-- In each arm the answer is that arm's. Assumes nothing.
use Rattle.std.specs.Prelude.{Ok}
use mathlib.Core.Path.{sym, ap, ◌∙◌}
use Rattle.simmerstoat_whole.specs.Replies.{turning_reply, turning_left}
use borrow.Author.Rules.{rules}
use Rattle.simmerstoat_whole.proofs.turning_told.Goals as goal

pub returns-in-Err : goal.returns-in-Err
returns-in-Err c = let args = c.args in
    let is = c.in-Err.is in
    record { answer = c.reply.ensures ∙ sym (ap turning_reply is); turning = sym (ap (λ a. turning_left a args.turning.now) is) }

pub returns-in-Ok-Never : goal.returns-in-Ok-Never
returns-in-Ok-Never c = record { answer = search rules; turning = search rules }

pub returns-in-Ok-At : goal.returns-in-Ok-At
returns-in-Ok-At c = let args = c.args in
    let is = (c.in-Ok-At.is ∙ ap Ok (rw c.in-Ok-At.is at c.in-Ok-At.field-0-is)) in
    record { answer = sym (ap turning_reply is); turning = sym (ap (λ a. turning_left a args.turning.now) is) }
