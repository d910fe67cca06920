-- By the two numbers: no basis, or the call for the bases found. Assumes nothing.
use Rattle.uneven.specs.declared.DepthMiss.{DepthMiss}
use Rattle.uneven.specs.declared.Depth.{Depth}
use Rattle.std.specs.Prelude.{Result}
use mathlib.Core.Path.{ap, ◌∙◌}
use Rattle.basis.specs.declared.Basis.{Basis}
use Rattle.uneven.specs.Uneven.{depth_of}
use Rattle.exports_reply.specs.Replies.{chosen_of, no_basis, chosen}
use Rattle.exports_value.specs.Uneven.{sounded_reply, depth_left, depth_place_left, depth_whole_left}
use Rattle.exports_reply.proofs.Found.{found, unfound}
use Rattle.exports_value.proofs.depth_at.Goals as goal

pub returns-in_default : goal.returns-in_default
returns-in_default c = let a = c.args in
    let g : Basis → Basis → Result Depth DepthMiss = λ t d. depth_of t a.times.now d a.depths.now a.y a.limit a.precision in
    let to = chosen_of a.db in
    let unknown = c.in_default.is in
    record {
      answer = unfound no_basis (λ t. chosen to no_basis (λ d. sounded_reply (g t d))) c.basis_of-c.ensures unknown;
      value = unfound a.depth.now (λ t. chosen to a.depth.now (λ d. depth_left (g t d) a.depth.now)) c.basis_of-c.ensures unknown;
      place = unfound a.place.now (λ t. chosen to a.place.now (λ d. depth_place_left (g t d) a.place.now)) c.basis_of-c.ensures unknown;
      whole = unfound a.whole.now (λ t. chosen to a.whole.now (λ d. depth_whole_left (g t d) a.whole.now)) c.basis_of-c.ensures unknown;
    }

pub returns-in_default-e : goal.returns-in_default-e
returns-in_default-e c = let a = c.args in
    let g : Basis → Basis → Result Depth DepthMiss = λ t d. depth_of t a.times.now d a.depths.now a.y a.limit a.precision in
    let to = chosen_of a.db in
    let known = c.in-Some.is in
    let t = c.in-Some.t in
    let unknown = c.in_default-e.is in record {
      answer = found no_basis (λ t. chosen to no_basis (λ d. sounded_reply (g t d))) c.basis_of-c.ensures known (unfound no_basis (λ d. sounded_reply
          (g t d)) c.basis_of-e.ensures unknown);
      value = found a.depth.now (λ t. chosen to a.depth.now (λ d. depth_left (g t d) a.depth.now)) c.basis_of-c.ensures known
          (unfound a.depth.now (λ d. depth_left (g t d) a.depth.now) c.basis_of-e.ensures unknown);
      place = found a.place.now (λ t. chosen to a.place.now (λ d. depth_place_left (g t d) a.place.now)) c.basis_of-c.ensures known
          (unfound a.place.now (λ d. depth_place_left (g t d) a.place.now) c.basis_of-e.ensures unknown);
      whole = found a.whole.now (λ t. chosen to a.whole.now (λ d. depth_whole_left (g t d) a.whole.now)) c.basis_of-c.ensures known
          (unfound a.whole.now (λ d. depth_whole_left (g t d) a.whole.now) c.basis_of-e.ensures unknown);
    }

pub returns : goal.returns
returns c = let a = c.args in
    let g : Basis → Basis → Result Depth DepthMiss = λ t d. depth_of t a.times.now d a.depths.now a.y a.limit a.precision in
    let to = chosen_of a.db in
    let known = c.in-Some.is in
    let t = c.in-Some.t in
    let known-to = c.in-Some-e.is in
    record {
      answer = found no_basis (λ t. chosen to no_basis (λ d. sounded_reply (g t d))) c.basis_of-c.ensures known
          (found no_basis (λ d. sounded_reply (g t d)) c.basis_of-e.ensures known-to (c.sounded_told.ensures.answer ∙ ap sounded_reply c.depth_at.ensures));
      value = found a.depth.now (λ t. chosen to a.depth.now (λ d. depth_left (g t d) a.depth.now)) c.basis_of-c.ensures known
          (found a.depth.now (λ d. depth_left (g t d) a.depth.now) c.basis_of-e.ensures known-to
          (c.sounded_told.ensures.value ∙ ap (λ (s : Result Depth DepthMiss). depth_left s a.depth.now) c.depth_at.ensures));
      place = found a.place.now (λ t. chosen to a.place.now (λ d. depth_place_left (g t d) a.place.now)) c.basis_of-c.ensures known
          (found a.place.now (λ d. depth_place_left (g t d) a.place.now) c.basis_of-e.ensures known-to
          (c.sounded_told.ensures.place ∙ ap (λ (s : Result Depth DepthMiss). depth_place_left s a.place.now) c.depth_at.ensures));
      whole = found a.whole.now (λ t. chosen to a.whole.now (λ d. depth_whole_left (g t d) a.whole.now)) c.basis_of-c.ensures known
          (found a.whole.now (λ d. depth_whole_left (g t d) a.whole.now) c.basis_of-e.ensures known-to
          (c.sounded_told.ensures.whole ∙ ap (λ (s : Result Depth DepthMiss). depth_whole_left s a.whole.now) c.depth_at.ensures));
    }
