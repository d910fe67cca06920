-- The rounds of the inversion of a segment. Definitions only.
use Rattle.std.specs.Prelude.{Bool, ℕ, zero, suc, Float}
use Rattle.inverse_segment.specs.declared.Ground.{Ground}
use Rattle.inverse_segment.specs.declared.Ground.TheVariants.{Spent}
use Rattle.inverse_segment.specs.declared.Bracket.{Bracket}
use Rattle.inverse_segment.specs.Evaluations.{Evaluations}
use Rattle.inverse_segment.specs.Round.{Rule, midpoint, Round, found, on, round_of}

-- where an inversion came out, and the evaluations made until then
pub record Arrival : Type 0 where
  pub ground : Ground
  pub segment : ℕ
  pub local : Float
  pub lower : Float
  pub upper : Float
  pub made : Evaluations

-- the bracket shown is the one after its last move
abbrev pub stopped : ℕ → Ground → Float → Bracket → Evaluations → Arrival
stopped s g x b ev = record { ground = g; segment = s; local = x; lower = b.lower; upper = b.upper; made = ev }

-- n rounds are left and i are done, the last of which left this result; after the last round, the midpoint
unfoldable pub rounds : Rule → (Float → Float) → ℕ → Float → Float → Bool → ℕ → ℕ → ℕ → Round → Arrival
rounds R f s y ε rising limit zero i (found g x b ev) = stopped s g x b ev
rounds R f s y ε rising limit zero i (on st ev) = stopped s Spent (midpoint st.bracket) st.bracket ev
rounds R f s y ε rising limit (suc n) i (found g x b ev) = stopped s g x b ev
rounds R f s y ε rising limit (suc n) i (on st ev) = rounds R f s y ε rising limit n (suc i) (round_of R f s y ε rising limit i st ev)
