-- An inversion stops in the segment that it entered: so a stop, with that segment's number and a parameter, is the definition's place. Assumes nothing.
use mathlib.Core.Path.{◌≡◌, refl}
use mathlib.Core.Bool.{Bool, true, false, cond}
use Prim.Native.Nat.{ℕ, zero, suc, ◌+◌}
use native.Mathlib.Omega.{arith}
use lib.ListN.{length}
use lib.Ieee.{Float, lt}
use Rattle.doubles.specs.Numbers.{nought, one}
use Rattle.inverse_segment.specs.declared.Ground.TheVariants.{Edge}
use Rattle.inverse_segment.specs.declared.Stop.{Stop}
use Rattle.inverse_segment.specs.Evaluations.{Evaluations}
use Rattle.inverse_segment.specs.Round.{Rule, Round, found, on, round_of}
use Rattle.inverse_segment.specs.Rounds.{Arrival, stopped, rounds}
use Rattle.inverse_segment.specs.Segment.{encloses, near, opening, start, entered, Entry, outside, inside, enter}
use Rattle.inverse_segment.specs.Answer.{place_of}
use Rattle.inverse_segment.specs.Contract.{stop_of, place_at}
use Rattle.inverse_segment.proofs.Ends.{both}

module _ (R : Rule) (f : Float → Float) (s : ℕ) (y ε : Float) where
  pub rounds_segment : (rising : Bool) (limit n i : ℕ) (t : Round) → (rounds R f s y ε rising limit n i t).segment ≡ s
  unfolding rounds
  rounds_segment rising limit zero i (found g x b ev) = refl
  rounds_segment rising limit zero i (on st ev) = refl
  rounds_segment rising limit (suc n) i (found g x b ev) = refl
  rounds_segment rising limit (suc n) i (on st ev) = rounds_segment rising limit n (suc i) (round_of R f s y ε rising limit i st ev)

  pub entered_segment : (limit : ℕ) (v0 v1 : Float) (ev : Evaluations) → (entered R f s y ε limit v0 v1 ev).segment ≡ s
  unfolding entered
  entered_segment limit v0 v1 ev = go (near y v0 ε) (near y v1 ε)
    where
      r : Arrival
      r = rounds R f s y ε (lt v0 v1) limit limit 0 (on (start (opening v0 v1)) ev)

      go : (a b : Bool) → (cond a (stopped s Edge nought (opening v0 v1) ev) (cond b (stopped s Edge one (opening v0 v1) ev) r)).segment ≡ s
      go true b = refl
      go false true = refl
      go false false = rounds_segment (lt v0 v1) limit limit 0 (on (start (opening v0 v1)) ev)

-- the parameter is added once, by whoever knows the segment's number
pub place_at_lem : (P : ℕ → Float → Float) (p : Arrival) {s : ℕ} {x : Float} {e : Stop} → p.segment ≡ s → e ≡ stop_of p → x ≡ P s e.local
    → place_at x s e ≡ place_of P p
place_at_lem P p {s} {x} {e} q d h = rw (h, d, ← q)

-- what the trial of segment s leaves, n evaluations having been made before it: two more, or an arrival in that segment
abbrev pub Leaves : ℕ → ℕ → Entry → Type 0
Leaves s n (outside v ev) = length ev ≡ n + 2
Leaves s n (inside p) = p.segment ≡ s

pub enter_leaves : (R : Rule) (f : Float → Float) (s : ℕ) (y ε : Float) (limit : ℕ) (ev : Evaluations) → Leaves s (length ev) (enter R f s y ε limit ev)
unfolding enter
enter_leaves R f s y ε limit ev = go (encloses (f nought) (f one) y)
  where
    p : Arrival
    p = entered R f s y ε limit (f nought) (f one) (both s ev)

    go : (t : Bool) → Leaves s (length ev) (cond t (inside p) (outside (f nought) (both s ev)))
    go true = entered_segment R f s y ε limit (f nought) (f one) (both s ev)
    go false = omega arith
