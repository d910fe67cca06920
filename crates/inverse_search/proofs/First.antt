-- Segments that are tried in order: the first whose ends enclose y is the one entered, two evaluations having been made for each before it. Assumes nothing.
use mathlib.Core.Path.{◌≡◌, refl, sym, subst}
use mathlib.Core.Bool.{Bool}
use Prim.Native.Nat.{ℕ, zero, suc, ◌+◌, ◌*◌, ◌≤◌, ◌<◌}
use native.Mathlib.Omega.{arith}
use lib.Dec.{T, T_not}
use lib.ListN.{length}
use lib.Ieee.{Float}
use borrow.Author.Tests.{le-leb}
use Rattle.doubles.specs.Numbers.{nought}
use Rattle.inverse_segment.specs.Evaluations.{Evaluations}
use Rattle.inverse_segment.specs.Rounds.{Arrival}
use Rattle.inverse_segment.specs.Segment.{Entry, Outcome, placed, or_else}
use Rattle.inverse_segment.proofs.Ends.{both}
use Rattle.inverse_search.specs.Search.{Trial, tries, find}
use Rattle.inverse_search.proofs.Found.{Holds, Nothing, Tried, shut, hit}

module _ (g : ℕ → Float → Float) (y : Float) (k : ℕ) (Good : ℕ → ℕ → Arrival → Type 0) where
  -- segment s is entered, m evaluations having been made before its rounds
  abbrev pub EnteredAt : ℕ → ℕ → Outcome → Type 0
  EnteredAt s m o = (p : Arrival) × (o ≡ placed p) × Good s m p

  here : (s m : ℕ) (ev : Evaluations) {e : Entry} (f : Float → Evaluations → Outcome) → length ev + 2 ≡ m → T (Holds g y k s) → Tried g y k Good s ev e
      → EnteredAt s m (or_else e f)
  here s m ev f q h (shut n) = absurd (T_not (Holds g y k s) n h)
  here s m ev f q h (hit {p} _ a) = (p, refl, subst (λ (i : ℕ). Good s i p) q a)

  later : (s t m : ℕ) (ev : Evaluations) {e : Entry} (f : Float → Evaluations → Outcome) → (T (Holds g y k s) → ⊥) → Tried g y k Good s ev e
      → EnteredAt t m (f (g s nought) (both s ev)) → EnteredAt t m (or_else e f)
  later s t m ev f n (shut _) r = r
  later s t m ev f n (hit h _) r = absurd (n h)

  module _ (E : Trial) (tried : (s : ℕ) (ev : Evaluations) → s < k → Tried g y k Good s ev (E s ev)) where
    tries_first : (d n s t : ℕ) (ev : Evaluations) → t ≡ s + d → d < n → s + n ≤ k → T (Holds g y k t) → Nothing g y k s d
        → EnteredAt t (length ev + 2 * suc d) (tries E n s ev)
    unfolding tries
    tries_first d zero s t ev e l w h r = absurd (omega arith)
    tries_first zero (suc n) s t ev e l w h r =
        let q : s ≡ t = omega arith in
        subst (λ (i : ℕ). EnteredAt i (length ev + 2) (tries E (suc n) s ev)) q
        (here s (length ev + 2) ev (λ v t. tries E n (suc s) t) refl (subst (λ (i : ℕ). T (Holds g y k i)) (sym q) h) (tried s ev (omega arith)))
    tries_first (suc d) (suc n) s t ev e l w h r =
        let q : length (both s ev) + 2 * suc d ≡ length ev + 2 * suc (suc d) = omega arith in
        later s t (length ev + 2 * suc (suc d)) ev (λ v t. tries E n (suc s) t) (λ H. T_not (Holds g y k s) (r s (omega arith) (omega arith)) H)
        (tried s ev (omega arith))
        (subst (λ (i : ℕ). EnteredAt t i (tries E n (suc s) (both s ev))) q
        (tries_first d n (suc s) t (both s ev) (omega arith) (omega arith) (omega arith) h (λ j a b. r j (omega arith) (omega arith))))

    pub first_entered : (rising : Bool) (s : ℕ) (ev : Evaluations) → k ≤ 12 → s < k → T (Holds g y k s) → Nothing g y k 0 s
        → EnteredAt s (length ev + 2 * suc s) (find E y rising k ev)
    unfolding find
    first_entered rising s ev f l h r = simp (le-leb k 12 f) (tries_first s k 0 s ev (omega arith) l (omega arith) h r)
