-- Two texts compared a byte at a time: as long as they agree, comparing what is left is comparing all. Assumes nothing.
use mathlib.Core.Path.{◌≡◌, refl, sym, ap, ◌∙◌}
use mathlib.Core.Bool.{true, false, ◌&&◌, and-false}
use mathlib.Core.List.{List, [], ◌∷◌}
use Prim.Native.Nat.{ℕ, suc, ◌+◌, ◌≤◌, ◌<◌}
use native.Mathlib.Numerals.{add-one}
use native.Mathlib.Omega.{arith}
use borrow.Author.Tests.{eq-eqb, ne_eqb}
use lib.Dec.{eqb}
use lib.ListN.{length, drop, get_or}
use lib.Seq.{drop-cons, drop-length}
use Rattle.text.specs.Text.{same}

pub same_long : (s w : List ℕ) → (length s ≡ length w → ⊥) → same s w ≡ false
unfolding same
same_long [] [] h = absurd (h refl)
same_long [] (b ∷ w) h = refl
same_long (a ∷ s) [] h = refl
same_long (a ∷ s) (b ∷ w) h = rw (same_long s w (λ e. h (ap suc e))) (and-false (eqb a b))

-- at place i
same_at : (s w : List ℕ) (i : ℕ) → i < length s → i < length w
    → same (drop i s) (drop i w) ≡ (eqb (get_or s i 0) (get_or w i 0) && same (drop (i + 1) s) (drop (i + 1) w))
unfolding same
same_at s w i h k = rw (add-one i, drop-cons s i 0 h, drop-cons w i 0 k) refl

pub same_step : (s w : List ℕ) (i : ℕ) → i < length s → i < length w → get_or s i 0 ≡ get_or w i 0
    → same (drop (i + 1) s) (drop (i + 1) w) ≡ same (drop i s) (drop i w)
same_step s w i h k e = sym (same_at s w i h k ∙ simp (eq-eqb _ _ e))

pub same_stop : (s w : List ℕ) (i : ℕ) → i < length s → i < length w → (get_or s i 0 ≡ get_or w i 0 → ⊥)
    → same (drop i s) (drop i w) ≡ false
same_stop s w i h k e = same_at s w i h k ∙ simp (ne_eqb _ _ e)

pub same_done : (s w : List ℕ) (i : ℕ) → i ≤ length s → length s ≤ i → length s ≡ length w → same (drop i s) (drop i w) ≡ true
unfolding same
same_done s w i h k e =
    let p : i ≡ length s = omega arith in
    let q : i ≡ length w = omega arith in
    ap (λ (l : List ℕ). same l (drop i w)) (ap (λ (j : ℕ). drop j s) p ∙ drop-length s)
    ∙ ap (λ (l : List ℕ). same [] l) (ap (λ (j : ℕ). drop j w) q ∙ drop-length w)
