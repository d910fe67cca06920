-- The evaluations made before a segment is entered touch its place in nothing but the count. For any rule. Assumes nothing.
use mathlib.Core.Path.{◌≡◌, refl}
use mathlib.Core.Bool.{Bool, true, false, cond}
use Prim.Native.Nat.{ℕ, zero, suc, ◌+◌}
use native.Mathlib.Omega.{arith}
use lib.ListN.{length}
use lib.Ieee.{Float, binary64, sub, lt}
use Rattle.doubles.specs.Numbers.{magnitude_of}
use Rattle.inverse_segment.specs.declared.Ground.{Ground}
use Rattle.inverse_segment.specs.declared.Ground.TheVariants.{End, Edge, Value, Width, Spent}
use Rattle.inverse_segment.specs.declared.Bracket.{Bracket}
use Rattle.inverse_segment.specs.declared.State.{State}
use Rattle.inverse_segment.specs.Evaluations.{Evaluations}
use Rattle.inverse_segment.specs.Round.{Rule, narrow, Round, found, on, settled, probed, round_of}
use Rattle.inverse_segment.specs.Rounds.{Arrival, rounds}
use Rattle.inverse_segment.specs.Segment.{near, opening, start, entered}

abbrev pub is_end : Ground → Bool
is_end End = true
is_end Edge = false
is_end Value = false
is_end Width = false
is_end Spent = false

-- q is p with n evaluations more; and the end rule did not place it
pub record More (n : ℕ) (p q : Arrival) : Type 0 where
  pub searched : is_end p.ground ≡ false
  pub ground : q.ground ≡ p.ground
  pub segment : q.segment ≡ p.segment
  pub local : q.local ≡ p.local
  pub lower : q.lower ≡ p.lower
  pub upper : q.upper ≡ p.upper
  pub count : length q.made ≡ length p.made + n

data MoreRound (n : ℕ) : Round → Round → Type 0 where
  founds : {g : Ground} {x : Float} {b : Bracket} {ev et : Evaluations} → is_end g ≡ false → length et ≡ length ev + n
      → MoreRound n (found g x b ev) (found g x b et)
  ons : {st : State} {ev et : Evaluations} → length et ≡ length ev + n → MoreRound n (on st ev) (on st et)

either : (n : ℕ) (t : Bool) {a b c d : Round} → MoreRound n a c → MoreRound n b d → MoreRound n (cond t a b) (cond t c d)
either n true p q = p
either n false p q = q

choice : (n : ℕ) (t : Bool) {a b c d : Arrival} → More n a c → More n b d → More n (cond t a b) (cond t c d)
choice n true p q = p
choice n false p q = q

module _ (R : Rule) (f : Float → Float) (s : ℕ) (y ε : Float) (n : ℕ) where
  round_more : (rising : Bool) (limit i : ℕ) (st : State) (ev et : Evaluations) → length et ≡ length ev + n
      → MoreRound n (round_of R f s y ε rising limit i st ev) (round_of R f s y ε rising limit i st et)
  unfolding round_of probed settled
  round_more rising limit i st ev et e =
      let x = (R limit i y st).place in
      either n (narrow ε st.bracket) (founds refl e) (either n (lt (magnitude_of (sub binary64 (f x) y)) ε) (founds refl (omega arith)) (ons (omega arith)))

  rounds_more : (rising : Bool) (limit m i : ℕ) (t u : Round) → MoreRound n t u
      → More n (rounds R f s y ε rising limit m i t) (rounds R f s y ε rising limit m i u)
  unfolding rounds
  rounds_more rising limit zero i _ _ (founds h e) = record { searched = h; ground = refl; segment = refl; local = refl; lower = refl; upper = refl; count = e }
  rounds_more rising limit zero i _ _ (ons e) = record { searched = refl; ground = refl; segment = refl; local = refl; lower = refl; upper = refl; count = e }
  rounds_more rising limit (suc m) i _ _ (founds h e) =
      record { searched = h; ground = refl; segment = refl; local = refl; lower = refl; upper = refl; count = e }
  rounds_more rising limit (suc m) i _ _ (ons {st} {ev} {et} e) =
      rounds_more rising limit m (suc i) (round_of R f s y ε rising limit i st ev) (round_of R f s y ε rising limit i st et)
      (round_more rising limit i st ev et e)

  pub entered_more : (limit : ℕ) (v0 v1 : Float) (ev et : Evaluations) → length et ≡ length ev + n
      → More n (entered R f s y ε limit v0 v1 ev) (entered R f s y ε limit v0 v1 et)
  unfolding entered
  entered_more limit v0 v1 ev et e =
      choice n (near y v0 ε) (record { searched = refl; ground = refl; segment = refl; local = refl; lower = refl; upper = refl; count = e })
      (choice n (near y v1 ε) (record { searched = refl; ground = refl; segment = refl; local = refl; lower = refl; upper = refl; count = e })
      (rounds_more (lt v0 v1) limit limit 0 (on (start (opening v0 v1)) ev) (on (start (opening v0 v1)) et) (ons e)))
