-- By the table that is meant. Assumes nothing.
use mathlib.Core.Path.{sym, ap, ◌∙◌}
use Prim.Native.Nat.{ℕ, ◌+◌, ◌*◌}
use Rattle.error.specs.Refusals.{number_of}
use Rattle.uneven.specs.declared.WhichTable.{WhichTable}
use Rattle.exports_value.specs.Uneven.{named_reply}
use Rattle.exports_value.proofs.named_reply.Goals as goal

pub returns-in-Times : goal.returns-in-Times
returns-in-Times c = c.reply.ensures ∙ sym (ap (λ (t : WhichTable). named_reply t c.args.r) c.in-Times.is)

pub returns-in-Depths : goal.returns-in-Depths
returns-in-Depths c = let r = c.args.r in
    ap (λ (x : ℕ). 2147483648 + (x + 256 * c.place.result)) c.number.ensures ∙ ap (λ (x : ℕ). 2147483648 + (number_of r + 256 * x)) c.place.ensures ∙ sym
    (ap (λ (t : WhichTable). named_reply t r) c.in-Depths.is)
