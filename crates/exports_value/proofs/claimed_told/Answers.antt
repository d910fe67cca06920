-- In each arm the reply and what is left are that arm's.
use mathlib.Core.Path.{sym, ap, ◌∙◌}
use Rattle.exports_value.specs.Claims.{claimed_reply, holds_left}
use Rattle.exports_value.proofs.claimed_told.Goals as goal

pub returns-in-Ok : goal.returns-in-Ok
returns-in-Ok c = let is = c.in-Ok.is
    in record { answer = sym (ap claimed_reply is); holds = sym (ap (λ e. holds_left e c.args.holds.now) is) }

pub returns-in-Err : goal.returns-in-Err
returns-in-Err c = let is = c.in-Err.is
    in record { answer = c.reply.ensures ∙ sym (ap claimed_reply is); holds = sym (ap (λ e. holds_left e c.args.holds.now) is) }
