-- The list of evaluations misses none: two segments that agree at every listed place come to the same outcome, with the same list.
-- For any rule. Assumes nothing.
use mathlib.Core.Path.{◌≡◌, refl, ap, ◌∙◌}
use mathlib.Core.List.{◌∷◌}
use mathlib.Core.Bool.{Bool}
use Prim.Native.Nat.{ℕ, zero, suc}
use lib.Ieee.{Float, binary64, sub, lt}
use Rattle.doubles.specs.Numbers.{nought, one, magnitude_of}
use Rattle.doubles.proofs.Tests.{branch, alike}
use Rattle.inverse_segment.specs.declared.Bracket.{Bracket}
use Rattle.inverse_segment.specs.declared.State.{State}
use Rattle.inverse_segment.specs.Evaluations.{Evaluations}
use Rattle.inverse_segment.specs.Agreed.{Agreed}
use Rattle.inverse_segment.specs.Round.{Rule, narrow, Round, found, on, settled, probed, round_of}
use Rattle.inverse_segment.specs.Rounds.{Arrival, rounds}
use Rattle.inverse_segment.specs.Segment.{encloses, near, opening, start, entered, Entry, outside, inside, enter}
use Rattle.inverse_segment.proofs.Ends.{both}

-- what a segment's trial has seen
abbrev pub seen_in : Entry → Evaluations
seen_in (outside v ev) = ev
seen_in (inside p) = p.made

-- what a round has seen
abbrev seen_by : Round → Evaluations
seen_by (found g x b ev) = ev
seen_by (on st ev) = ev

settled_sees : (y ε : Float) (rising : Bool) (b : Bracket) (st : State) (x v : Float) (ev : Evaluations) → seen_by (settled y ε rising b st x v ev) ≡ ev
unfolding settled
settled_sees y ε rising b st x v ev = branch (λ (t : Round). seen_by t ≡ ev) (lt (magnitude_of (sub binary64 v y)) ε) (λ _. refl) (λ _. refl)

module _ (g h : ℕ → Float → Float) (R : Rule) (s : ℕ) (y ε : Float) where
  -- ---- a round
  abbrev Same : Round → Type 0
  Same t = Agreed g h (seen_by t)

  probed_agreed : (rising : Bool) (limit i : ℕ) (st : State) (ev : Evaluations) → Same (probed R (g s) s y ε rising limit i st ev)
      → Agreed g h ((s, (R limit i y st).place) ∷ ev)
  unfolding probed
  probed_agreed rising limit i st ev a = let c = R limit i y st
      in rw (settled_sees y ε rising c.bracket st c.place (g s c.place) ((s, c.place) ∷ ev)) at a

  probed_same : (rising : Bool) (limit i : ℕ) (st : State) (ev : Evaluations) → Same (probed R (g s) s y ε rising limit i st ev)
      → probed R (g s) s y ε rising limit i st ev ≡ probed R (h s) s y ε rising limit i st ev
  unfolding probed
  probed_same rising limit i st ev a = let c = R limit i y st
      in ap (λ (v : Float). settled y ε rising c.bracket st c.place v ((s, c.place) ∷ ev)) (probed_agreed rising limit i st ev a).0

  round_grows : (rising : Bool) (limit i : ℕ) (st : State) (ev : Evaluations) → Same (round_of R (g s) s y ε rising limit i st ev) → Agreed g h ev
  unfolding round_of
  round_grows rising limit i st ev =
      branch (λ (t : Round). Same t → Agreed g h ev) (narrow ε st.bracket) (λ _ a. a) (λ _ a. (probed_agreed rising limit i st ev a).1)

  round_same : (rising : Bool) (limit i : ℕ) (st : State) (ev : Evaluations) → Same (round_of R (g s) s y ε rising limit i st ev)
      → round_of R (g s) s y ε rising limit i st ev ≡ round_of R (h s) s y ε rising limit i st ev
  unfolding round_of
  round_same rising limit i st ev a = alike Same (narrow ε st.bracket) (λ _. refl) (probed_same rising limit i st ev) a

  -- ---- the rounds
  module _ (rising : Bool) (limit : ℕ) where
    rounds_grows : (n i : ℕ) (t : Round) → Agreed g h (rounds R (g s) s y ε rising limit n i t).made → Same t
    unfolding rounds
    rounds_grows zero i (found k x b ev) a = a
    rounds_grows zero i (on st ev) a = a
    rounds_grows (suc n) i (found k x b ev) a = a
    rounds_grows (suc n) i (on st ev) a = round_grows rising limit i st ev (rounds_grows n (suc i) (round_of R (g s) s y ε rising limit i st ev) a)

    rounds_same : (n i : ℕ) (t : Round) → Agreed g h (rounds R (g s) s y ε rising limit n i t).made
        → rounds R (g s) s y ε rising limit n i t ≡ rounds R (h s) s y ε rising limit n i t
    unfolding rounds
    rounds_same zero i (found k x b ev) a = refl
    rounds_same zero i (on st ev) a = refl
    rounds_same (suc n) i (found k x b ev) a = refl
    rounds_same (suc n) i (on st ev) a =
        let t = round_of R (g s) s y ε rising limit i st ev in
        rounds_same n (suc i) t a
        ∙ ap (λ (z : Round). rounds R (h s) s y ε rising limit n (suc i) z) (round_same rising limit i st ev (rounds_grows n (suc i) t a))

  -- ---- the segment
  module _ (limit : ℕ) where
    abbrev Alike : Arrival → Type 0
    Alike p = Agreed g h p.made

    entered_grows : (v0 v1 : Float) (ev : Evaluations) → Alike (entered R (g s) s y ε limit v0 v1 ev) → Agreed g h ev
    unfolding entered
    entered_grows v0 v1 ev =
        let P : Arrival → Type 0 = λ p. Alike p → Agreed g h ev in
        branch P (near y v0 ε) (λ _ a. a)
        (λ _. branch P (near y v1 ε) (λ _ a. a) (λ _ a. rounds_grows (lt v0 v1) limit limit 0 (on (start (opening v0 v1)) ev) a))

    entered_same : (v0 v1 : Float) (ev : Evaluations) → Alike (entered R (g s) s y ε limit v0 v1 ev)
        → entered R (g s) s y ε limit v0 v1 ev ≡ entered R (h s) s y ε limit v0 v1 ev
    unfolding entered
    entered_same v0 v1 ev a =
        alike Alike (near y v0 ε) (λ _. refl) (alike Alike (near y v1 ε) (λ _. refl) (rounds_same (lt v0 v1) limit limit 0 (on (start (opening v0 v1)) ev)))
        a

    ends_agreed : (ev : Evaluations) → Agreed g h (seen_in (enter R (g s) s y ε limit ev)) → Agreed g h (both s ev)
    unfolding enter
    ends_agreed ev =
        branch (λ (e : Entry). Agreed g h (seen_in e) → Agreed g h (both s ev)) (encloses (g s nought) (g s one) y)
        (λ _ a. entered_grows (g s nought) (g s one) (both s ev) a) (λ _ a. a)

    pub enter_grows : (ev : Evaluations) → Agreed g h (seen_in (enter R (g s) s y ε limit ev)) → Agreed g h ev
    enter_grows ev a = (ends_agreed ev a).1.1

    pub enter_same : (ev : Evaluations) → Agreed g h (seen_in (enter R (g s) s y ε limit ev)) → enter R (g s) s y ε limit ev ≡ enter R (h s) s y ε limit ev
    unfolding enter
    enter_same ev a =
        let e = ends_agreed ev a in
        rw (← e.0, ← e.1.0)
        (alike (λ (e : Entry). Agreed g h (seen_in e)) (encloses (g s nought) (g s one) y)
        (λ b. ap inside (entered_same (g s nought) (g s one) (both s ev) b)) (λ _. refl) a)
