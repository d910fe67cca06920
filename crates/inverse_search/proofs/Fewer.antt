-- Beside the crate's way, in which an entered segment's ends are evaluated twice: the same place by the same ground, and two evaluations fewer; and the same
-- list where none is entered. For any rule. Assumes nothing.
use mathlib.Core.Bool.{Bool, true, false, cond}
use Prim.Native.Nat.{ℕ, zero, suc, ◌+◌, ◌-◌, ◌/◌, min}
use native.Mathlib.Omega.{arith}
use lib.Dec.{leb}
use lib.Ieee.{Float}
use Rattle.doubles.specs.Numbers.{nought, one}
use Rattle.inverse_segment.specs.Evaluations.{Evaluations}
use Rattle.inverse_segment.specs.Round.{Rule}
use Rattle.inverse_segment.specs.Rounds.{Arrival}
use Rattle.inverse_segment.specs.Segment.{encloses, entered, Entry, outside, inside, enter, Outcome, off, placed, or_else}
use Rattle.inverse_segment.proofs.Ends.{both}
use Rattle.inverse_segment.proofs.Later.{More, entered_more}
use Rattle.inverse_search.specs.Bound.{bits_of}
use Rattle.inverse_order.specs.Order.{before}
use Rattle.inverse_search.specs.Search.{Trial, tries, last, halve, find}
use Rattle.inverse_search.specs.Trial.{trial}
use Rattle.inverse_search.specs.Twice.{trial_twice}

-- o is q with n evaluations fewer where a segment was entered, and q itself where none was
pub data Fewer (n : ℕ) : Outcome → Outcome → Type 0 where
  same : {ev : Evaluations} → Fewer n (off ev) (off ev)
  fewer : {p q : Arrival} → More n p q → Fewer n (placed p) (placed q)

-- so of a trial
data FewerIn (n : ℕ) : Entry → Entry → Type 0 where
  same_out : {v : Float} {ev : Evaluations} → FewerIn n (outside v ev) (outside v ev)
  fewer_in : {p q : Arrival} → More n p q → FewerIn n (inside p) (inside q)

either : (n : ℕ) (t : Bool) {a b c d : Outcome} → Fewer n a c → Fewer n b d → Fewer n (cond t a b) (cond t c d)
either n true p q = p
either n false p q = q

goes : (n : ℕ) {e d : Entry} {f q : Float → Evaluations → Outcome} → FewerIn n e d → ((v : Float) (t : Evaluations) → Fewer n (f v t) (q v t))
    → Fewer n (or_else e f) (or_else d q)
goes n same_out k = k _ _
goes n (fewer_in m) k = fewer m

module _ (n : ℕ) (E D : Trial) (trials : (s : ℕ) (ev : Evaluations) → FewerIn n (E s ev) (D s ev)) where
  tries_fewer : (m s : ℕ) (ev : Evaluations) → Fewer n (tries E m s ev) (tries D m s ev)
  unfolding tries
  tries_fewer zero s ev = same
  tries_fewer (suc m) s ev = goes n (trials s ev) (λ v t. tries_fewer m (suc s) t)

  last_fewer : (k l : ℕ) (ev : Evaluations) → Fewer n (last E k l ev) (last D k l ev)
  unfolding last
  last_fewer k l ev = tries_fewer (min (l - 1 + 2) k - (l - 1)) (l - 1) ev

  module _ (y : Float) (rising : Bool) (k : ℕ) where
    halve_fewer : (m l c : ℕ) (ev : Evaluations) → Fewer n (halve E y rising k m l c ev) (halve D y rising k m l c ev)
    unfolding halve
    halve_fewer zero l c ev = last_fewer k l ev
    halve_fewer (suc m) l zero ev = last_fewer k l ev
    halve_fewer (suc m) l (suc c) ev =
        goes n (trials (l + c / 2) ev) (λ v t. either n (before rising y v) (halve_fewer m l (c / 2) t) (halve_fewer m (suc (l + c / 2)) (c - c / 2) t))

    find_less : (ev : Evaluations) → Fewer n (find E y rising k ev) (find D y rising k ev)
    unfolding find
    find_less ev = either n (leb k 12) (tries_fewer k 0 ev) (halve_fewer (bits_of k) 0 k ev)

module _ (R : Rule) (g : ℕ → Float → Float) (y ε : Float) (limit : ℕ) where
  trial_fewer : (s : ℕ) (ev : Evaluations) → FewerIn 2 (trial R g y ε limit s ev) (trial_twice R g y ε limit s ev)
  unfolding enter trial_twice
  trial_fewer s ev = go (encloses (g s nought) (g s one) y)
    where
      p : Evaluations → Arrival
      p t = entered R (g s) s y ε limit (g s nought) (g s one) t

      go : (t : Bool) → FewerIn 2 (cond t (inside (p (both s ev))) (outside (g s nought) (both s ev)))
          (cond t (cond t (inside (p (both s (both s ev)))) (outside (g s nought) (both s (both s ev)))) (outside (g s nought) (both s ev)))
      go true = fewer_in (entered_more R (g s) s y ε 2 limit (g s nought) (g s one) (both s ev) (both s (both s ev)) (omega arith))
      go false = same_out

  -- the search with `trial` beside the search with the crate's
  pub find_fewer : (rising : Bool) (k : ℕ) (ev : Evaluations)
      → Fewer 2 (find (trial R g y ε limit) y rising k ev) (find (trial_twice R g y ε limit) y rising k ev)
  find_fewer rising k ev = find_less 2 (trial R g y ε limit) (trial_twice R g y ε limit) trial_fewer y rising k ev
