-- `spent` says that every round was made: the list of evaluations ends with those of the two ends of the segment that is told, and after them as many of it as
-- the limit says. Assumes nothing.
use Rattle.inverse_segment.specs.Inversion.{Inversion}
use Rattle.std.specs.Prelude.{Ok, Err}
use mathlib.Core.Path.{◌≡◌, refl, sym, subst}
use mathlib.Core.Bool.{Bool, true, false, cond}
use mathlib.Core.List.{List, [], ◌∷◌}
use Prim.Native.Nat.{ℕ, zero, suc, ◌+◌, ◌-◌, ◌/◌, min}
use native.Mathlib.Omega.{arith}
use lib.Dec.{leb}
use lib.ListN.{length}
use lib.Ieee.{Float, binary64, sub, lt}
use Rattle.error.specs.Refusals.{first, Verdict}
use Rattle.basis.specs.declared.Basis.{Basis}
use Rattle.basis.specs.Basis.{segments_of}
use Rattle.doubles.specs.Numbers.{nought, one, magnitude_of}
use Rattle.doubles.proofs.Tests.{branch}
use Rattle.spline.specs.Segment.{segment_of}
use Rattle.inverse_segment.specs.declared.Ground.{Ground}
use Rattle.inverse_segment.specs.declared.Ground.TheVariants.{End, Edge, Value, Width, Spent}
use Rattle.inverse_segment.specs.declared.State.{State}
use Rattle.inverse_segment.specs.Evaluations.{Evaluations}
use Rattle.inverse_segment.specs.Round.{Rule, narrow, Round, found, on, round_of, probed, settled}
use Rattle.inverse_segment.specs.Rounds.{Arrival, rounds}
use Rattle.inverse_segment.specs.Segment.{
  encloses,
  near,
  start,
  opening,
  entered,
  Entry,
  outside,
  inside,
  enter,
  Outcome,
  off,
  placed,
  or_else,
  outcome_of,
  evaluations_of,
}
use Rattle.inverse_segment.specs.Answer.{
  answered,
  alone,
  inverted,
  unless_refused,
  inverse_segment_uses,
  inverse_segment_by,
  segment_evaluations_by,
  default_limit,
  default_precision,
}
use Rattle.inverse_segment.proofs.Ends.{both}
use Rattle.inverse_search.specs.Bound.{bits_of}
use Rattle.inverse_order.specs.Order.{before}
use Rattle.inverse_search.specs.Search.{Trial, tries, last, halve, find}
use Rattle.inverse_search.specs.Trial.{trial}
use Rattle.inverse_segment.specs.declared.Method.{Method}
use Rattle.inverse_segment.specs.declared.Method.TheVariants.{AsCrate}
use Rattle.inverse_segment.specs.Method.{rule_of}
use Rattle.inverse_order.specs.declared.EndsBy.{EndsBy}
use Rattle.inverse_order.specs.declared.EndsBy.TheVariants.{Knots}
use Rattle.inverse.specs.EndRule.{at_low, at_high, EndRule, end_rule_of}
use Rattle.inverse.specs.Curve.{parameter_of, ended, located, evaluations}
use Rattle.inverse.specs.Inverse.{inverse_uses, inverse_by, evaluations_by}
use Rattle.inverse.proofs.Facts.{AtPlace}
use Rattle.inverse_segment.proofs.spline_inverse_segment_with.Reads as spline_inverse_segment_with
use Rattle.inverse_segment.proofs.spline_inverse_segment.Reads as spline_inverse_segment
use Rattle.inverse_segment.proofs.spline_inverse_segment_by.Reads as spline_inverse_segment_by
use Rattle.inverse.proofs.spline_inverse_by.Reads as spline_inverse_by
use Rattle.inverse.proofs.spline_inverse_with.Reads as spline_inverse_with
use Rattle.inverse.proofs.spline_inverse.Reads as spline_inverse
use Rattle.calls.specs.Calls.{Keeps}

abbrev pub IsSpent : Ground → Type 0
IsSpent End = ⊥
IsSpent Edge = ⊥
IsSpent Value = ⊥
IsSpent Width = ⊥
IsSpent Spent = Unit

-- the list l is ev, and n evaluations of segment s after it
pub data Then (s : ℕ) (ev : Evaluations) : ℕ → Evaluations → Type 0 where
  none : Then s ev 0 ev
  more : {n : ℕ} {l : Evaluations} (x : Float) → Then s ev n l → Then s ev (suc n) ((s, x) ∷ l)

-- p is in segment s, whose ends were evaluated after ev, and then n evaluations more were made of it
abbrev pub SpentIn : ℕ → Evaluations → ℕ → Arrival → Type 0
SpentIn s ev n p = (p.segment ≡ s) × Then s (both s ev) n p.made

-- ---- a segment
module _ (R : Rule) (f : Float → Float) (s : ℕ) (y ε : Float) (rising : Bool) (limit : ℕ) (ev : Evaluations) where
  -- what a round leaves, m having been made
  abbrev Left : ℕ → Round → Type 0
  Left m (found g x b l) = IsSpent g → ⊥
  Left m (on st l) = Then s (both s ev) m l

  round_left : (m i : ℕ) (st : State) (l : Evaluations) → Then s (both s ev) m l → Left (suc m) (round_of R f s y ε rising limit i st l)
  unfolding round_of probed settled
  round_left m i st l t =
      let x = (R limit i y st).place in
      branch (Left (suc m)) (narrow ε st.bracket) (λ _ q. q)
      (λ _. branch (Left (suc m)) (lt (magnitude_of (sub binary64 (f x) y)) ε) (λ _ q. q) (λ _. more x t))

  rounds_spent : (n i m j : ℕ) (t : Round) → m + n ≡ j → Left m t → let p = rounds R f s y ε rising limit n i t in IsSpent p.ground → SpentIn s ev j p
  unfolding rounds
  rounds_spent zero i m j (found g x b l) e h q = absurd (h q)
  rounds_spent zero i m j (on st l) e h q = let e : m ≡ j = omega arith in (refl, subst (λ (j : ℕ). Then s (both s ev) j l) e h)
  rounds_spent (suc n) i m j (found g x b l) e h q = absurd (h q)
  rounds_spent (suc n) i m j (on st l) e h q = rounds_spent n (suc i) (suc m) j (round_of R f s y ε rising limit i st l) (omega arith) (round_left m i st l h) q

-- so of a trial after ev
abbrev pub SpentTrial : ℕ → Evaluations → ℕ → Entry → Type 0
SpentTrial s ev limit (outside v l) = Unit
SpentTrial s ev limit (inside p) = IsSpent p.ground → SpentIn s ev limit p

enter_spent : (R : Rule) (f : Float → Float) (s : ℕ) (y ε : Float) (limit : ℕ) (ev : Evaluations) → SpentTrial s ev limit (enter R f s y ε limit ev)
unfolding enter entered
enter_spent R f s y ε limit ev =
    let rising = lt (f nought) (f one) in
    let t = on (start (opening (f nought) (f one))) (both s ev) in
    let P : Arrival → Type 0 = λ p. IsSpent p.ground → SpentIn s ev limit p in
    branch (SpentTrial s ev limit) (encloses (f nought) (f one) y)
    (λ _. branch P (near y (f nought) ε) (λ _ q. absurd q)
    (λ _. branch P (near y (f one) ε) (λ _ q. absurd q)
    (λ _ q. rounds_spent R f s y ε rising limit ev limit 0 0 limit t (omega arith) none q)))
    (λ _. tt)

-- and of what a search comes to, whatever it evaluated before
abbrev pub Rounded : ℕ → Outcome → Type 0
Rounded limit (off l) = Unit
Rounded limit (placed p) = IsSpent p.ground → (ev : Evaluations) × Then p.segment (both p.segment ev) limit p.made

abbrev RoundedIn : ℕ → Entry → Type 0
RoundedIn limit (outside v l) = Unit
RoundedIn limit (inside p) = IsSpent p.ground → (ev : Evaluations) × Then p.segment (both p.segment ev) limit p.made

told_of : (s : ℕ) (ev : Evaluations) (limit : ℕ) (e : Entry) → SpentTrial s ev limit e → RoundedIn limit e
told_of s ev limit (outside v l) h = tt
told_of s ev limit (inside p) h = λ q. let r = h q in (ev, subst (λ (i : ℕ). Then i (both i ev) limit p.made) (sym r.0) r.1)

-- ---- a search
goes : (limit : ℕ) (e : Entry) (f : Float → Evaluations → Outcome) → RoundedIn limit e → ((v : Float) (t : Evaluations) → Rounded limit (f v t))
    → Rounded limit (or_else e f)
goes limit (outside v t) f r k = k v t
goes limit (inside p) f r k = r

module _ (limit : ℕ) (E : Trial) (trials : (s : ℕ) (ev : Evaluations) → RoundedIn limit (E s ev)) where
  tries_rounded : (n s : ℕ) (ev : Evaluations) → Rounded limit (tries E n s ev)
  unfolding tries
  tries_rounded zero s ev = tt
  tries_rounded (suc n) s ev = goes limit (E s ev) (λ v t. tries E n (suc s) t) (trials s ev) (λ v t. tries_rounded n (suc s) t)

  last_rounded : (k l : ℕ) (ev : Evaluations) → Rounded limit (last E k l ev)
  unfolding last
  last_rounded k l ev = tries_rounded (min (l - 1 + 2) k - (l - 1)) (l - 1) ev

  module _ (y : Float) (rising : Bool) (k : ℕ) where
    halve_rounded : (n l c : ℕ) (ev : Evaluations) → Rounded limit (halve E y rising k n l c ev)
    unfolding halve
    halve_rounded zero l c ev = last_rounded k l ev
    halve_rounded (suc n) l zero ev = last_rounded k l ev
    halve_rounded (suc n) l (suc c) ev =
        let m = l + c / 2 in
        goes limit (E m ev) (λ v t. cond (before rising y v) (halve E y rising k n l (c / 2) t) (halve E y rising k n (suc m) (c - c / 2) t)) (trials m ev)
        (λ v t. branch (Rounded limit) (before rising y v) (λ _. halve_rounded n l (c / 2) t) (λ _. halve_rounded n (suc m) (c - c / 2) t))

    find_all : (ev : Evaluations) → Rounded limit (find E y rising k ev)
    unfolding find
    find_all ev = branch (Rounded limit) (leb k 12) (λ _. tries_rounded k 0 ev) (λ _. halve_rounded (bits_of k) 0 k ev)

find_rounded : (R : Rule) (g : ℕ → Float → Float) (y ε : Float) (limit : ℕ) (rising : Bool) (k : ℕ) (ev : Evaluations)
    → Rounded limit (find (trial R g y ε limit) y rising k ev)
find_rounded R g y ε limit rising k ev =
    find_all limit (trial R g y ε limit) (λ s ev. told_of s ev limit (enter R (g s) s y ε limit ev) (enter_spent R (g s) s y ε limit ev)) y rising k ev

-- ---- a curve's call
module _ (m : EndsBy) (how : Method) (b : Basis) (y : Float) (ks : List Float) (check : Bool) (limit : ℕ) (ε : Float) where
  abbrev rule : EndRule
  rule = end_rule_of m b ks (segment_of b ks)

  abbrev pub AllRounds : Inversion → Type 0
  AllRounds r =
      AtPlace (λ p. IsSpent p.ground → (ev : Evaluations) × Then p.segment (both p.segment ev) limit (evaluations_by m how b y ks check limit ε)) r

  pub inverse_spent : AllRounds (inverse_by m how b y ks check limit ε)
  unfolding inverse_by evaluations_by located evaluations
  inverse_spent =
      go (first (inverse_uses b y ks check limit ε)) (at_low rule.ends y) (at_high rule.ends y)
      (find (trial (rule_of how) (segment_of b ks) y ε limit) y rule.ends.rising k rule.made)
      (find_rounded (rule_of how) (segment_of b ks) y ε limit rule.ends.rising k rule.made)
    where
      k : ℕ
      k = segments_of b (length ks)

      go : (v : Verdict) (a c : Bool) (o : Outcome) → Rounded limit o
          → AtPlace (λ p. IsSpent p.ground
          → (ev : Evaluations)
          × Then p.segment (both p.segment ev) limit (unless_refused v (cond a rule.made (cond c rule.made (evaluations_of o)))))
          (inverted v (cond a (ended rule.made 0 nought)
          (cond c (ended rule.made (segments_of b (length ks) - 1) one) (answered (parameter_of (segments_of b (length ks))) o))))
      go (Ok _) true c o h = λ q. absurd q
      go (Ok _) false true o h = λ q. absurd q
      go (Ok _) false false (off l) h = tt
      go (Ok _) false false (placed p) h = h
      go (Err r) a c o h = tt

  reply_spent : (r : Inversion) → r ≡ inverse_by m how b y ks check limit ε → AllRounds r
  reply_spent r e = subst AllRounds (sym e) inverse_spent

pub spline_inverse_by_spent : Keeps spline_inverse_by.Learnt
    (λ κs a z e. AllRounds a.0.ends a.0.method a.1.0 a.1.1.0 a.1.1.1.0.now a.0.check a.0.limit a.0.precision z)
spline_inverse_by_spent κs a z e p =
    reply_spent a.0.ends a.0.method a.1.0 a.1.1.0 a.1.1.1.0.now a.0.check a.0.limit a.0.precision z p

pub spline_inverse_with_spent : Keeps spline_inverse_with.Learnt
    (λ κs a z e. AllRounds Knots AsCrate a.0 a.1.0 a.1.1.0.now a.1.1.1.0 a.1.1.1.1.0 a.1.1.1.1.1.0 z)
spline_inverse_with_spent κs a z e p =
    reply_spent Knots AsCrate a.0 a.1.0 a.1.1.0.now a.1.1.1.0 a.1.1.1.1.0 a.1.1.1.1.1.0 z p

pub spline_inverse_spent : Keeps spline_inverse.Learnt
    (λ κs a z e. AllRounds Knots AsCrate a.0 a.1.0 a.1.1.0.now a.1.1.1.0 default_limit default_precision z)
spline_inverse_spent κs a z e p = reply_spent Knots AsCrate a.0 a.1.0 a.1.1.0.now a.1.1.1.0 default_limit default_precision z p

-- ---- one segment's call: those of its two ends, then as many as the limit says, and no other
module _ (how : Method) (b : Basis) (y : Float) (cv : List Float) (limit : ℕ) (ε : Float) where
  abbrev pub SegmentAllRounds : Inversion → Type 0
  SegmentAllRounds r = AtPlace (λ p. IsSpent p.ground → Then 0 (both 0 []) limit (segment_evaluations_by (rule_of how) b y cv limit ε)) r

  segment_spent : SegmentAllRounds (inverse_segment_by (rule_of how) b y cv limit ε)
  unfolding inverse_segment_by segment_evaluations_by
  segment_spent =
      go (first (inverse_segment_uses y cv limit ε)) (enter (rule_of how) (segment_of b cv 0) 0 y ε limit [])
      (enter_spent (rule_of how) (segment_of b cv 0) 0 y ε limit [])
    where
      go : (v : Verdict) (e : Entry) → SpentTrial 0 [] limit e
          → AtPlace (λ p. IsSpent p.ground → Then 0 (both 0 []) limit (unless_refused v (evaluations_of (outcome_of e))))
          (inverted v (answered alone (outcome_of e)))
      go (Ok _) (outside v l) h = tt
      go (Ok _) (inside p) h = λ q. (h q).1
      go (Err r) e h = tt

  segment_reply_spent : (r : Inversion) → r ≡ inverse_segment_by (rule_of how) b y cv limit ε → SegmentAllRounds r
  segment_reply_spent r e = subst SegmentAllRounds (sym e) segment_spent

pub spline_inverse_segment_by_spent : Keeps spline_inverse_segment_by.Learnt
    (λ κs a z e. SegmentAllRounds a.1.1.1.1.1.0 a.0 a.1.0 a.1.1.0.now a.1.1.1.0 a.1.1.1.1.0 z)
spline_inverse_segment_by_spent κs a z e p =
    segment_reply_spent a.1.1.1.1.1.0 a.0 a.1.0 a.1.1.0.now a.1.1.1.0 a.1.1.1.1.0 z p

pub spline_inverse_segment_with_spent : Keeps spline_inverse_segment_with.Learnt
    (λ κs a z e. SegmentAllRounds AsCrate a.0 a.1.0 a.1.1.0.now a.1.1.1.0 a.1.1.1.1.0 z)
spline_inverse_segment_with_spent κs a z e p = segment_reply_spent AsCrate a.0 a.1.0 a.1.1.0.now a.1.1.1.0 a.1.1.1.1.0 z p

pub spline_inverse_segment_spent : Keeps spline_inverse_segment.Learnt
    (λ κs a z e. SegmentAllRounds AsCrate a.0 a.1.0 a.1.1.0.now default_limit default_precision z)
spline_inverse_segment_spent κs a z e p = segment_reply_spent AsCrate a.0 a.1.0 a.1.1.0.now default_limit default_precision z p
