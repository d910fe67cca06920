-- What an inversion past the refusals tells, for any curve g of k segments and any end rule e. Assumes nothing.
use Rattle.inverse_segment.specs.Inversion.{Inversion}
use Rattle.inverse_segment.specs.declared.Miss.TheVariants.{OffCurve}
use Rattle.std.specs.Prelude.{Err, Ok}
use mathlib.Core.Path.{◌≡◌, refl, sym, subst}
use mathlib.Core.Bool.{Bool, true, false, not, cond}
use Prim.Native.Nat.{ℕ, ◌+◌, ◌-◌, ◌*◌, ◌≤◌, ◌<◌}
use native.Mathlib.Nat.{lt_of_le_of_lt}
use native.Mathlib.Omega.{arith}
use lib.Dec.{T, leb, lit<}
use lib.ListN.{length}
use lib.Ieee.{Float, lt}
use Rattle.doubles.specs.Numbers.{nought, one}
use Rattle.doubles.proofs.Tests.{branch}
use Rattle.inverse_segment.specs.declared.Place.{Place}
use Rattle.inverse_segment.specs.Evaluations.{Evaluations}
use Rattle.inverse_segment.specs.Segment.{Outcome, off, placed}
use Rattle.inverse_segment.specs.Answer.{answered}
use Rattle.inverse_segment.proofs.Enclosing.{Numbers, Sound}
use Rattle.inverse_search.specs.Bound.{bits_of, bound_of}
use Rattle.inverse_segment.specs.Round.{Rule}
use Rattle.inverse_search.specs.Trial.{trial}
use Rattle.inverse_segment.proofs.Rules.{Lawful}
use Rattle.inverse_search.specs.Search.{find}
use Rattle.inverse_search.proofs.Found.{Holds, Nothing, Straight, Result, missed, got, probes}
use Rattle.inverse_search.proofs.Sound.{SoundIn, find_sound}
use Rattle.inverse.specs.declared.Ends.{Ends}
use Rattle.inverse.specs.EndRule.{at_low, at_high}
use Rattle.inverse.specs.Curve.{parameter_of, ended, located}

module _ (e : Ends) (ev : Evaluations) (g : ℕ → Float → Float) (k : ℕ) (y ε : Float) (limit : ℕ) where
  -- the end rule says nothing
  abbrev pub Silent : Type 0
  Silent = T (not (at_low e y)) × T (not (at_high e y))

  -- no segment's ends enclose y
  abbrev pub NoneHolds : Type 0
  NoneHolds = (s : ℕ) → s < k → T (not (Holds g y k s))

  -- what a search by halving needs: asked above 12 segments only
  abbrev pub Supposed : Type 0
  Supposed = T (not (leb k 12)) → Straight g y k e.rising

  -- at most so many evaluations
  abbrev pub most : ℕ
  most = length ev + bound_of k limit

  -- a segment was entered: its ends enclose y, and `base` evaluations were made before its rounds
  pub record In (p : Place) : Type 0 where
    pub base : ℕ
    pub few : base + limit ≤ most
    pub below : p.segment < k
    pub holds : T (Holds g y k p.segment)
    pub sound : Sound (g p.segment) y ε (lt (g p.segment nought) (g p.segment one)) limit base p.ground p.local p.lower p.upper p.count
    pub scaled : p.parameter ≡ parameter_of k p.segment p.local

  -- the answer is one of four: the end rule's start or end, a place in a segment that was entered, or refusal 11
  pub data AnswerCase : Inversion → Type 0 where
    at_low_lem : T (at_low e y) → AnswerCase (ended ev 0 nought)
    at_high_lem : T (not (at_low e y)) → T (at_high e y) → AnswerCase (ended ev (k - 1) one)
    entered : {p : Place} → Silent → In p → AnswerCase (Ok p)
    nowhere : {n : ℕ} → Silent → n ≤ most → (Supposed → NoneHolds) → AnswerCase (Err (OffCurve n))

module _ (R : Rule) (lawful : Lawful R) (e : Ends) (ev : Evaluations) (g : ℕ → Float → Float) (k : ℕ) (y ε : Float) (limit : ℕ) (some : 0 < k)
    (fits : k ≤ 4093) (numbers : (s : ℕ) → s < k → Numbers (g s) y) where
  abbrev Found : Outcome → Type 0
  Found = Result g y k (SoundIn g y ε limit) (length ev + probes (leb k 12) k) (Supposed e ev g k y ε limit → Nothing g y k 0 k)

  searched : Found (find (trial R g y ε limit) y e.rising k ev)
  searched = find_sound g y ε limit R lawful k some (lt_of_le_of_lt fits (lit< tt)) numbers e.rising ev

  -- the search's evaluations, and the rounds of the segment that was entered
  room : (n : ℕ) → n ≤ length ev + probes (leb k 12) k → n + limit ≤ most e ev g k y ε limit
  room n = go (leb k 12)
    where
      go : (b : Bool) → n ≤ length ev + probes b k → n + limit ≤ length ev + cond b (limit + 24) (limit + 2 * bits_of k + 4)
      go true h = omega arith
      go false h = omega arith

  found_told : Silent e ev g k y ε limit → (o : Outcome) → Found o → AnswerCase e ev g k y ε limit (answered (parameter_of k) o)
  found_told q (off t) (missed n c) = let h : length t ≤ most e ev g k y ε limit = omega (arith, room (length t) (omega arith))
      in nowhere q h (λ S s l. n S s (omega arith) (omega arith))
  found_told q (placed p) (got r) =
      let s = r.good.1 in
      entered q (record {
        base = r.base;
        few = room r.base r.few;
        below = subst (λ (i : ℕ). i < k) (sym s) r.below;
        holds = subst (λ (i : ℕ). T (Holds g y k i)) (sym s) r.holds;
        sound =
            subst (λ (i : ℕ). Sound (g i) y ε (lt (g i nought) (g i one)) limit r.base p.ground p.local p.lower p.upper (length p.made))
            (sym s) r.good.0;
        scaled = refl;
      })

  pub located_told : AnswerCase e ev g k y ε limit (located R e ev g k y ε limit)
  unfolding located
  located_told =
      branch (AnswerCase e ev g k y ε limit) (at_low e y) (λ h. at_low_lem h)
      (λ p. branch (AnswerCase e ev g k y ε limit) (at_high e y) (λ h. at_high_lem p h)
      (λ q. found_told (p, q) (find (trial R g y ε limit) y e.rising k ev) searched))
