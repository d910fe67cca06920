-- `exports_table::timed_told` meets its contract: in each arm the answer is that arm's. Assumes nothing.
use Rattle.std.specs.Prelude.{Err}
use mathlib.Core.Path.{sym, ap, ◌∙◌}
use mathlib.Core.List.{[], ◌∷◌}
use Prim.Native.Nat.{ℕ}
use Rattle.exports_table.specs.Tables.{timed_reply, timed_place, timed_whole}
use Rattle.exports_table.proofs.timed_told.Goals as goal

pub returns-in-Ok : goal.returns-in-Ok
returns-in-Ok c = let args = c.args in
    let is = c.in-Ok.is in
    let p = c.in-Ok.p in
    let s = c.in-Ok.s in record {
      answer = sym (ap timed_reply is);
      place = sym (ap (λ a. timed_place a args.place.now) is);
      whole = ap
          (λ (g : ℕ). g ∷ p.segment ∷ p.count ∷ s ∷ []) c.ground_number.ensures ∙ sym (ap (λ a. timed_whole a args.whole.now) is);
    }

pub returns-in-Err-OffCurve : goal.returns-in-Err-OffCurve
returns-in-Err-OffCurve c = let args = c.args in
    let is = (c.in-Err-OffCurve.is ∙ ap Err (rw c.in-Err-OffCurve.is at c.in-Err-OffCurve.field-0-is)) in
    record {
      answer = c.reply.ensures ∙ sym (ap timed_reply is);
      place = sym (ap (λ a. timed_place a args.place.now) is);
      whole = sym (ap (λ a. timed_whole a args.whole.now) is);
    }

pub returns-in-Err-Refused : goal.returns-in-Err-Refused
returns-in-Err-Refused c = let args = c.args in
    let is = (c.in-Err-Refused.is ∙ ap Err (rw c.in-Err-Refused.is at c.in-Err-Refused.field-0-is)) in
    record {
      answer = c.reply-in-Err-Refused.ensures ∙ sym (ap timed_reply is);
      place = sym (ap (λ a. timed_place a args.place.now) is);
      whole = sym (ap (λ a. timed_whole a args.whole.now) is);
    }
