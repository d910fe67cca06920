-- What a search comes to, for any curve and any trial of its segments: how many evaluations it makes, which segment it enters, and when it enters none. Assumes
-- nothing.
use mathlib.Core.Path.{sym, subst}
use mathlib.Core.Logic.{inl, inr}
use mathlib.Core.Bool.{Bool, true, false, not, cond}
use Prim.Native.Nat.{ℕ, zero, suc, ◌+◌, ◌-◌, ◌*◌, ◌/◌, ◌^◌, ◌≤◌, ◌<◌, min}
use native.Mathlib.Nat.{le_trans, eq-or-lt_of_le, two-pow-succ}
use native.Mathlib.Omega.{arith}
use lib.Dec.{T, leb, leb→le, not_T, T_not}
use lib.ListN.{length}
use lib.Ieee.{Float, is_nan}
use Rattle.doubles.specs.Numbers.{nought, one}
use Rattle.doubles.proofs.Tests.{branch}
use Rattle.doubles.proofs.Rounding.{le_or_lt}
use Rattle.inverse_segment.specs.Evaluations.{Evaluations}
use Rattle.inverse_segment.specs.Rounds.{Arrival}
use Rattle.inverse_segment.specs.Segment.{Entry, outside, inside, Outcome, off, placed, or_else, encloses}
use Rattle.inverse_segment.proofs.Ends.{both}
use Rattle.inverse_segment.proofs.Places.{encloses_of}
use Rattle.inverse_search.specs.Bound.{bits_of}
use Rattle.inverse_order.specs.Order.{before}
use Rattle.inverse_search.specs.Search.{Trial, tries, last, halve, find}
use Rattle.inverse_order.proofs.Along.{Along, before_not, not_before}
use Rattle.inverse_search.proofs.Along.{along_trans, held_by, other_way, at_start, before_along, ahead}
use Rattle.inverse_search.proofs.Digits.{bits_enough}

-- ---- what is said of a curve g of k segments
module _ (g : ℕ → Float → Float) (y : Float) (k : ℕ) where
  -- the ends of segment s enclose y
  abbrev pub Holds : ℕ → Bool
  Holds s = encloses (g s nought) (g s one) y

  -- none of the n segments from s on
  abbrev pub Nothing : ℕ → ℕ → Type 0
  Nothing s n = (j : ℕ) → s ≤ j → j < s + n → T (not (Holds j))

  -- neither the starts nor the ends turn against the direction
  pub record Straight (rising : Bool) : Type 0 where
    pub starts : (i : ℕ) → suc i < k → Along rising (g i nought) (g (suc i) nought)
    pub ends : (i : ℕ) → suc i < k → Along rising (g i one) (g (suc i) one)

-- ---- what a search comes to. `Good s base p` stands for what the inversion of segment s tells of its place p, `base` evaluations having been made before its
-- rounds
module _ (g : ℕ → Float → Float) (y : Float) (k : ℕ) (Good : ℕ → ℕ → Arrival → Type 0) where
  -- what the trial of segment s comes to, after the evaluations ev
  pub data Tried (s : ℕ) (ev : Evaluations) : Entry → Type 0 where
    shut : T (not (Holds g y k s)) → Tried s ev (outside (g s nought) (both s ev))
    hit : {p : Arrival} → T (Holds g y k s) → Good s (length ev + 2) p → Tried s ev (inside p)

  -- a segment below k was entered whose ends enclose y, after at most m evaluations, those of its ends among them
  pub record Entrance (m : ℕ) (p : Arrival) : Type 0 where
    pub at : ℕ
    pub base : ℕ
    pub few : base ≤ m
    pub below : at < k
    pub holds : T (Holds g y k at)
    pub good : Good at base p

  -- N is known where none was entered, after at most m evaluations
  pub data Result (m : ℕ) (N : Type 0) : Outcome → Type 0 where
    missed : {ev : Evaluations} → N → length ev ≤ m → Result m N (off ev)
    got : {p : Arrival} → Entrance m p → Result m N (placed p)

  weaken : {N M : Type 0} (m n : ℕ) {o : Outcome} → n ≤ m → (M → N) → Result n M o → Result m N o
  weaken m n h f (missed a b) = missed (f a) (le_trans b h)
  weaken m n h f (got r) = got (record { at = r.at; base = r.base; few = le_trans r.few h; below = r.below; holds = r.holds; good = r.good })

  -- segment s is entered, or the search goes on from its start's value and its two evaluations
  trying : (s : ℕ) (ev : Evaluations) (m : ℕ) (N : Type 0) {e : Entry} (f : Float → Evaluations → Outcome) → s < k → length ev + 2 ≤ m → Tried s ev e
      → (T (not (Holds g y k s)) → Result m N (f (g s nought) (both s ev))) → Result m N (or_else e f)
  trying s ev m N f l c (shut h) r = r h
  trying s ev m N f l c (hit h a) r = got (record { at = s; base = length ev + 2; few = c; below = l; holds = h; good = a })

-- up to 12 segments, two evaluations for each; above, two at each halving and four in the last tries
abbrev pub probes : Bool → ℕ → ℕ
probes few k = cond few 24 (2 * bits_of k + 4)

module _ (g : ℕ → Float → Float) (y : Float) (k : ℕ) (Good : ℕ → ℕ → Arrival → Type 0) (E : Trial)
    (tried : (s : ℕ) (ev : Evaluations) → s < k → Tried g y k Good s ev (E s ev)) where
  more : (s n : ℕ) → T (not (Holds g y k s)) → Nothing g y k (suc s) n → Nothing g y k s (suc n)
  more s n h r j a b = elim (eq-or-lt_of_le a) [ inl e ↦ subst (λ (i : ℕ). T (not (Holds g y k i))) e h | inr l ↦ r j l (omega arith) ]

  tries_says : (n s : ℕ) (ev : Evaluations) → s + n ≤ k → Result g y k Good (length ev + 2 * n) (Nothing g y k s n) (tries E n s ev)
  unfolding tries
  tries_says zero s ev l = missed {ev = ev} (λ j a b. absurd (omega arith)) (omega arith)
  tries_says (suc n) s ev l =
      trying g y k Good s ev (length ev + 2 * suc n) (Nothing g y k s (suc n)) (λ v t. tries E n (suc s) t) (omega arith) (omega arith)
      (tried s ev (omega arith))
      (λ h. weaken g y k Good (length ev + 2 * suc n) (length (both s ev) + 2 * n) (omega arith) (more s n h) (tries_says n (suc s) (both s ev) (omega arith)))

  -- the last tries are of two segments at most
  last_says : (l : ℕ) (ev : Evaluations) → l ≤ k → Result g y k Good (length ev + 4) Unit (last E k l ev)
  unfolding last
  last_says l ev h = let n = min (l - 1 + 2) k - (l - 1)
      in weaken g y k Good (length ev + 4) (length ev + 2 * n) (omega arith) (λ _. tt) (tries_says n (l - 1) ev (omega arith))

  module _ (number : T (not (is_nan y))) (numbers : (s : ℕ) → s < k → T (not (is_nan (g s nought))) × T (not (is_nan (g s one)))) where
    -- of c open segments from l on, n halvings being enough for them, none holds y
    abbrev Missed : Bool → ℕ → ℕ → ℕ → Type 0
    Missed rising n l c = Straight g y k rising → c < 2 ^ n → Nothing g y k l c

    module _ (rising : Bool) (l c n : ℕ) (fit : l + suc c ≤ k) (h : T (not (Holds g y k (l + c / 2)))) where
      -- y lies before the start of the middle: so does every start from there on
      to_left : T (before rising y (g (l + c / 2) nought)) → Missed rising n l (c / 2) → Missed rising (suc n) l (suc c)
      to_left b r S e j a z =
          let m = l + c / 2 in
          elim (le_or_lt m j) [
            | inl q ↦ elim (eq-or-lt_of_le q) [
              | inl p ↦ subst (λ (i : ℕ). T (not (Holds g y k i))) p h
              | inr p ↦ not_T (Holds g y k j) (λ H.
                  let M : m < k = omega arith in
                  let J : j < k = omega arith in
                  let v = numbers m M in
                  elim (held_by rising (g j nought) (g j one) y H) [
                    | inl q ↦ before_not rising y (g m nought) b
                        (along_trans rising (g m nought) (g j nought) y (ahead rising (λ i. g i nought) k S.starts m j p J) q.0)
                    | inr q ↦ T_not (Holds g y k m) h
                        (other_way rising (g m nought) (g m one) y v.0 v.1 (before_along rising y (g m nought) b)
                        (along_trans rising (g m one) (g j one) y (ahead rising (λ i. g i one) k S.ends m j p J) q.0))
                  ])
            ]
            | inr q ↦ r S (omega (arith, two-pow-succ n)) j a q
          ]

      -- y lies past the end of the middle: so does every end up to there
      to_right : T (not (before rising y (g (l + c / 2) nought))) → Missed rising n (suc (l + c / 2)) (c - c / 2) → Missed rising (suc n) l (suc c)
      to_right b r S e j a z =
          let m = l + c / 2 in
          let M : m < k = omega arith in
          let v = numbers m M in
          elim (le_or_lt j m) [
            | inl q ↦ elim (eq-or-lt_of_le q) [
              | inl p ↦ subst (λ (i : ℕ). T (not (Holds g y k i))) (sym p) h
              | inr p ↦ not_T (Holds g y k j) (λ H.
                  let a : Along rising (g m nought) y = not_before rising y (g m nought) number v.0 b in
                  T_not (Holds g y k m) h
                  (elim (held_by rising (g j nought) (g j one) y H) [
                    | inl q ↦ encloses_of rising (g m nought) (g m one) y v.0 v.1 a
                        (along_trans rising y (g j one) (g m one) q.1 (ahead rising (λ i. g i one) k S.ends j m p M))
                    | inr q ↦ at_start rising (g m nought) (g m one) y number v.0 v.1 a
                        (along_trans rising y (g j nought) (g m nought) q.1 (ahead rising (λ i. g i nought) k S.starts j m p M))
                  ]))
            ]
            | inr q ↦ r S (omega (arith, two-pow-succ n)) j q (omega arith)
          ]

    halve_says : (rising : Bool) (n l c : ℕ) (ev : Evaluations) → l + c ≤ k
        → Result g y k Good (length ev + 2 * n + 4) (Missed rising n l c) (halve E y rising k n l c ev)
    unfolding halve
    halve_says rising zero l c ev f =
        weaken g y k Good (length ev + 0 + 4) (length ev + 4) (omega arith) (λ _ S e j a b. absurd (omega arith)) (last_says l ev (omega arith))
    halve_says rising (suc n) l zero ev f =
        weaken g y k Good (length ev + 2 * suc n + 4) (length ev + 4) (omega arith) (λ _ S e j a b. absurd (omega arith)) (last_says l ev (omega arith))
    halve_says rising (suc n) l (suc c) ev f =
        let m = l + c / 2 in
        let M : m < k = omega arith in
        let t = length ev + 2 * suc n + 4 in
        let N = Missed rising (suc n) l (suc c) in
        trying g y k Good m ev t N (λ v t. cond (before rising y v) (halve E y rising k n l (c / 2) t) (halve E y rising k n (suc m) (c - c / 2) t)) M
        (omega arith) (tried m ev M)
        (λ h.
        branch (Result g y k Good t N) (before rising y (g m nought))
        (λ b. weaken g y k Good t (length (both m ev) + 2 * n + 4) (omega arith) (to_left rising l c n f h b)
        (halve_says rising n l (c / 2) (both m ev) (omega arith)))
        (λ b. weaken g y k Good t (length (both m ev) + 2 * n + 4) (omega arith) (to_right rising l c n f h b)
        (halve_says rising n (suc m) (c - c / 2) (both m ev) (omega arith))))

    -- the whole search, after the evaluations ev
    pub find_says : (rising : Bool) (ev : Evaluations) → k < 2 ^ 64
        → Result g y k Good (length ev + probes (leb k 12) k) ((T (not (leb k 12)) → Straight g y k rising) → Nothing g y k 0 k) (find E y rising k ev)
    unfolding find
    find_says rising ev w = go (leb k 12) (leb→le k 12)
      where
        go : (b : Bool) → (T b → k ≤ 12)
            → Result g y k Good (length ev + probes b k) ((T (not b) → Straight g y k rising) → Nothing g y k 0 k)
            (cond b (tries E k 0 ev) (halve E y rising k (bits_of k) 0 k ev))
        go true h = weaken g y k Good (length ev + 24) (length ev + 2 * k) (omega (arith, h tt)) (λ r _. r) (tries_says k 0 ev (omega arith))
        go false h =
            weaken g y k Good (length ev + (2 * bits_of k + 4)) (length ev + 2 * bits_of k + 4) (omega arith) (λ r s. r (s tt) (bits_enough k w))
            (halve_says rising (bits_of k) 0 k ev (omega arith))
