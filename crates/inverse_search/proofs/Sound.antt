-- The trial of a segment, by any lawful rule: where its ends enclose the target it is entered, and its place is one of which all is known that the segment's
-- laws say. Assumes nothing.
use mathlib.Core.Path.{◌≡◌}
use mathlib.Core.Bool.{Bool, not}
use Prim.Native.Nat.{ℕ, ◌+◌, ◌^◌, ◌<◌}
use lib.Dec.{T, leb}
use lib.ListN.{length}
use lib.Ieee.{Float, lt}
use Rattle.doubles.specs.Numbers.{nought, one}
use Rattle.doubles.proofs.Units.{nought_in, one_in}
use Rattle.inverse_segment.specs.Evaluations.{Evaluations}
use Rattle.inverse_segment.specs.Round.{Rule}
use Rattle.inverse_segment.specs.Rounds.{Arrival}
use Rattle.inverse_segment.specs.Segment.{Entry}
use Rattle.inverse_segment.proofs.Rules.{Lawful}
use Rattle.inverse_segment.proofs.Enclosing.{Numbers}
use Rattle.inverse_segment.proofs.Places as places
use Rattle.inverse_search.specs.Search.{find}
use Rattle.inverse_search.specs.Trial.{trial}
use Rattle.inverse_search.proofs.Found.{Nothing, Straight, Tried, shut, hit, Result, probes, find_says}

module _ (g : ℕ → Float → Float) (y ε : Float) (limit : ℕ) where
  -- the place p is in segment s, and sound there
  abbrev pub SoundIn : ℕ → ℕ → Arrival → Type 0
  SoundIn s base p = places.SoundAt (g s) y ε (lt (g s nought) (g s one)) limit base p × (p.segment ≡ s)

  as_tried : (k s : ℕ) (ev : Evaluations) (e : Entry) → places.Tells (g s) s y ε limit ev e → Tried g y k SoundIn s ev e
  as_tried k s ev _ (places.missed h) = shut h
  as_tried k s ev _ (places.hit h r q) = hit h (r, q)

  module _ (R : Rule) (lawful : Lawful R) where
    pub trial_tried : (k : ℕ) → ((s : ℕ) → s < k → Numbers (g s) y) → (s : ℕ) (ev : Evaluations) → s < k → Tried g y k SoundIn s ev (trial R g y ε limit s ev)
    trial_tried k numbers s ev l = as_tried k s ev (trial R g y ε limit s ev) (places.enter_tells R lawful (g s) s y ε limit ev (numbers s l))

    -- the whole search, after the evaluations ev
    pub find_sound : (k : ℕ) → 0 < k → k < 2 ^ 64 → ((s : ℕ) → s < k → Numbers (g s) y) → (rising : Bool) (ev : Evaluations)
        → Result g y k SoundIn (length ev + probes (leb k 12) k) ((T (not (leb k 12)) → Straight g y k rising) → Nothing g y k 0 k)
        (find (trial R g y ε limit) y rising k ev)
    find_sound k some fits numbers rising ev =
        find_says g y k SoundIn (trial R g y ε limit) (trial_tried k numbers) (numbers 0 some).target
        (λ s l. ((numbers s l).values nought nought_in, (numbers s l).values one one_in)) rising ev fits
