-- A lawful rule kept to the pace, on a curve: where N rounds are enough for the precision and the limit is above N, it is never told as spent; and the count is
-- bounded by N as by a limit. Assumes nothing.
use Rattle.inverse_segment.specs.Inversion.{Inversion}
use mathlib.Core.Bool.{Bool, true, false, not, cond}
use Prim.Native.Nat.{ℕ, ◌+◌, ◌*◌, ◌≤◌, ◌<◌}
use native.Mathlib.Nat.{le_trans, lt_of_le_of_lt}
use native.Mathlib.Omega.{arith}
use lib.Dec.{T, leb, lit<}
use lib.ListN.{length}
use lib.Ieee.{Float}
use Rattle.doubles.specs.Numbers.{nought, one}
use Rattle.doubles.proofs.Tests.{branch}
use Rattle.doubles.proofs.Units.{nought_in, one_in}
use Rattle.inverse_segment.specs.Evaluations.{Evaluations}
use Rattle.inverse_segment.specs.Rounds.{Arrival}
use Rattle.inverse_segment.specs.Segment.{encloses, enter, Outcome, off, placed}
use Rattle.inverse_segment.specs.Answer.{answered, count_told}
use Rattle.inverse_segment.proofs.Ends.{both}
use Rattle.inverse_segment.proofs.Enclosing.{Numbers}
use Rattle.inverse_search.specs.Bound.{bits_of, bound_of}
use Rattle.inverse_search.specs.Search.{find}
use Rattle.inverse_search.specs.Trial.{trial}
use Rattle.inverse_search.proofs.Found.{Nothing, Straight, Tried, shut, hit, Result, missed, got, probes, find_says}
use Rattle.inverse.specs.declared.Ends.{Ends}
use Rattle.inverse.specs.EndRule.{at_low, at_high}
use Rattle.inverse.specs.Curve.{parameter_of, located}
use Rattle.inverse_segment.specs.Round.{Rule}
use Rattle.inverse_segment.proofs.Rules.{Lawful}
use Rattle.inverse_segment.specs.Steady.{paced}
use Rattle.inverse_segment.proofs.Ending.{Enough}
use Rattle.inverse_segment.proofs.Timely as S

module _ (R : Rule) (lawful : Lawful R) (y ε : Float) (limit N : ℕ) (E : Enough ε N) where
  abbrev InTime : ℕ → ℕ → Arrival → Type 0
  InTime s base p = S.InTime limit N base p

  module _ (g : ℕ → Float → Float) (k : ℕ) where
    trial_in_time : (s : ℕ) (ev : Evaluations) → s < k → Tried g y k InTime s ev (trial (paced R) g y ε limit s ev)
    unfolding enter
    trial_in_time s ev l =
        let q = S.entered_in_time R lawful y ε limit N E (g s) s (both s ev) (g s nought) (g s one) in
        branch (Tried g y k InTime s ev) (encloses (g s nought) (g s one) y) (λ h. hit h (omega (arith, q.0), q.1)) (λ h. shut h)

    module _ (some : 0 < k) (fits : k ≤ 4093) (numbers : (s : ℕ) → s < k → Numbers (g s) y) (e : Ends) (ev : Evaluations) where
      Searched : Outcome → Type 0
      Searched = Result g y k InTime (length ev + probes (leb k 12) k) ((T (not (leb k 12)) → Straight g y k e.rising) → Nothing g y k 0 k)

      searched : Searched (find (trial (paced R) g y ε limit) y e.rising k ev)
      unfolding Searched
      searched =
          find_says g y k InTime (trial (paced R) g y ε limit) trial_in_time (numbers 0 some).target
          (λ s l. ((numbers s l).values nought nought_in, (numbers s l).values one one_in)) e.rising ev (lt_of_le_of_lt fits (lit< tt))

      -- what an answer owes: never spent, and a count bounded as if the limit were N
      abbrev pub Timely : Inversion → Type 0
      Timely r = (N < limit → S.NeverSpent r) × (count_told r ≤ length ev + bound_of k N)

      room : (n : ℕ) → n ≤ length ev + probes (leb k 12) k → n + N ≤ length ev + bound_of k N
      room n = go (leb k 12)
        where
          go : (b : Bool) → n ≤ length ev + probes b k → n + N ≤ length ev + cond b (N + 24) (N + 2 * bits_of k + 4)
          go true h = omega arith
          go false h = omega arith

      found_timely : (o : Outcome) → Searched o → Timely (answered (parameter_of k) o)
      unfolding Searched
      found_timely (off t) (missed n c) = (λ _. tt, omega (arith, room (length t) (omega (arith, c))))
      found_timely (placed p) (got r) = (r.good.1, le_trans r.good.0 (room r.base r.few))

      pub located_timely : Timely (located (paced R) e ev g k y ε limit)
      unfolding located
      located_timely =
          branch Timely (at_low e y) (λ _. (λ _. tt, omega (arith, room 0 (omega arith))))
          (λ _. branch Timely (at_high e y) (λ _. (λ _. tt, omega (arith, room 0 (omega arith))))
          (λ _. found_timely (find (trial (paced R) g y ε limit) y e.rising k ev) searched))
