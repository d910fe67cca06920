-- The four terms, added left to right. Assumes nothing.
use mathlib.Core.Path.{◌≡◌, ap, ◌∙◌}
use mathlib.Core.List.{List}
use Prim.Native.Nat.{ℕ, ◌≤◌}
use lib.IntN.{ℤ, pos, nat_abs, ◌+ℤ◌, ◌*ℤ◌}
use lib.Dec.{lit<}
use Rattle.valve.specs.Mix.{held, knot_of, mix_of}
use Rattle.valve.specs.Contract.{FourOf, weighted_of}
use Rattle.valve.proofs.Sizes.{back, plus_is}

-- a weight times a knot
abbrev pub Term : List ℤ → ℕ → ℕ → ℤ → Type 0
Term ks w i t = (t ≡ pos w *ℤ knot_of ks i) × (nat_abs t ≤ 67108864000000)

pub summed : (ks : List ℤ) (w0 w1 w2 w3 : ℕ) (a b c d p q r : ℤ) → Term ks w0 0 a → Term ks w1 1 b → Term ks w2 2 c → Term ks w3 3 d
    → p ≡ held a +ℤ held b → q ≡ held p +ℤ held c → r ≡ held q +ℤ held d → held r ≡ weighted_of ks w0 w1 w2 w3
unfolding weighted_of
summed ks w0 w1 w2 w3 a b c d p q r ta tb tc td e f g =
    let P = plus_is a b 67108864000000 67108864000000 ta.1 tb.1 (lit< tt) p e in
    let Q = plus_is p c 134217728000000 67108864000000 P.1 tc.1 (lit< tt) q f in
    let R = plus_is q d 201326592000000 67108864000000 Q.1 td.1 (lit< tt) r g in
    back r 268435456000000 R.1 (lit< tt)
    ∙ R.0
    ∙ ap (λ (x : ℤ). q +ℤ x) td.0
    ∙ ap (λ (x : ℤ). x +ℤ pos w3 *ℤ knot_of ks 3)
    (Q.0 ∙ ap (λ (x : ℤ). p +ℤ x) tc.0
    ∙ ap (λ (x : ℤ). x +ℤ pos w2 *ℤ knot_of ks 2) (P.0 ∙ ap (λ (x : ℤ). a +ℤ x) tb.0 ∙ ap (λ (x : ℤ). x +ℤ pos w1 *ℤ knot_of ks 1) ta.0))

-- by the weights of a step it is the mix at that step
pub by_four : (ks : List ℤ) (j w0 w1 w2 w3 : ℕ) → FourOf j w0 w1 w2 w3 → weighted_of ks w0 w1 w2 w3 ≡ mix_of ks j
unfolding weighted_of mix_of
by_four ks j w0 w1 w2 w3 f = rw (f.is0, f.is1, f.is2, f.is3)
