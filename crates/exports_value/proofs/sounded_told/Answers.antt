-- In each arm the answer is that arm's. Assumes nothing.
use Rattle.uneven.specs.declared.DepthMiss.{DepthMiss}
use Rattle.uneven.specs.declared.Depth.{Depth}
use Rattle.std.specs.Prelude.{Result, Err}
use mathlib.Core.Path.{sym, ap, ◌∙◌}
use mathlib.Core.List.{[], ◌∷◌}
use Prim.Native.Nat.{ℕ}
use Rattle.exports_value.specs.Uneven.{sounded_reply, depth_left, depth_place_left, depth_whole_left}
use Rattle.exports_value.proofs.sounded_told.Goals as goal

pub returns-in-Ok : goal.returns-in-Ok
returns-in-Ok c = let a = c.args in
    let is = c.in-Ok.is in
    let d = c.in-Ok.d in record {
      answer = sym (ap sounded_reply is);
      value = sym (ap (λ (s : Result Depth DepthMiss). depth_left s a.depth.now) is);
      place = sym (ap (λ (s : Result Depth DepthMiss). depth_place_left s a.place.now) is);
      whole = ap (λ (g : ℕ). g ∷ d.place.segment ∷ d.place.count ∷ d.count ∷ [])
          c.ground_number.ensures ∙ sym (ap (λ (s : Result Depth DepthMiss). depth_whole_left s a.whole.now) is);
    }

pub returns-in-Err-OffCurve : goal.returns-in-Err-OffCurve
returns-in-Err-OffCurve c = let a = c.args in
    let is = (c.in-Err-OffCurve.is ∙ ap Err (rw c.in-Err-OffCurve.is at c.in-Err-OffCurve.field-0-is)) in record {
      answer = c.reply.ensures ∙ sym (ap sounded_reply is);
      value = sym (ap (λ (s : Result Depth DepthMiss). depth_left s a.depth.now) is);
      place = sym (ap (λ (s : Result Depth DepthMiss). depth_place_left s a.place.now) is);
      whole = sym (ap (λ (s : Result Depth DepthMiss). depth_whole_left s a.whole.now) is);
    }

pub returns-in-Err-Refused : goal.returns-in-Err-Refused
returns-in-Err-Refused c = let a = c.args in
    let is = (c.in-Err-Refused.is ∙ ap Err (rw c.in-Err-Refused.is at c.in-Err-Refused.field-0-is)) in record {
      answer = c.named_reply.ensures ∙ sym (ap sounded_reply is);
      value = sym (ap (λ (s : Result Depth DepthMiss). depth_left s a.depth.now) is);
      place = sym (ap (λ (s : Result Depth DepthMiss). depth_place_left s a.place.now) is);
      whole = sym (ap (λ (s : Result Depth DepthMiss). depth_whole_left s a.whole.now) is);
    }
