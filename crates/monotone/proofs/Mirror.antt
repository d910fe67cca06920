-- Rows with their signs changed have the table with its signs changed. Assumes nothing.
use mathlib.Core.Path.{◌≡◌, refl, sym, ap, ◌∙◌}
use mathlib.Core.Bool.{Bool, true, false}
use mathlib.Core.List.{List, ◌∷◌, map}
use Prim.Native.Nat.{ℕ, zero, suc, min, ◌-◌}
use native.Mathlib.Omega.{arith}
use lib.IntN.{ℤ, pos, negsuc, neg_ℤ, ◌-ℤ◌, neg_ℤ-neg_ℤ}
use lib.ListN.{length, get_or, length-map, get_or-map}
use Rattle.whole.specs.Held.{turned_all}
use Rattle.whole.proofs.Differences.{itself}
use Rattle.whole.proofs.Held.{same_all}
use Rattle.monotone.specs.Slope.{step_at, limited, between, slope_at}
use Rattle.monotone.specs.Table.{pairs, table_of}
use Rattle.whole.proofs.Differences.{negated, less, alike}
use Rattle.monotone.proofs.Limits.{limited_first, limited_second}

none_first : (b : ℕ) → limited 0 b ≡ 0
none_first b = omega (arith, limited_first 0 b)

none_second : (a : ℕ) → limited a 0 ≡ 0
none_second a = omega (arith, limited_second a 0)

pub between_turned : (a b : ℤ) → between (neg_ℤ a) (neg_ℤ b) ≡ neg_ℤ (between a b)
unfolding between
between_turned (pos zero) (pos zero) = simp (none_first 0)
between_turned (pos zero) (pos (suc b)) = simp (none_first (suc b))
between_turned (pos (suc a)) (pos zero) = simp (none_second (suc a))
between_turned (pos (suc a)) (pos (suc b)) = refl
between_turned (pos zero) (negsuc b) = simp (none_first (suc b))
between_turned (pos (suc a)) (negsuc b) = refl
between_turned (negsuc a) (pos zero) = simp (none_second (suc a))
between_turned (negsuc a) (pos (suc b)) = refl
between_turned (negsuc a) (negsuc b) = sym (neg_ℤ-neg_ℤ (pos (limited (suc a) (suc b))))

turned_at : (z : List ℤ) (i : ℕ) → get_or (map neg_ℤ z) i (pos 0) ≡ neg_ℤ (get_or z i (pos 0))
turned_at z i = get_or-map neg_ℤ z i (pos 0)

step_turned : (z : List ℤ) (i : ℕ) → step_at (map neg_ℤ z) i ≡ neg_ℤ (step_at z i)
step_turned z i = both (turned_at z (suc i)) (turned_at z i) ∙ minus (get_or z (suc i) (pos 0)) (get_or z i (pos 0))
  where
    both : {a b c d : ℤ} → a ≡ c → b ≡ d → a -ℤ b ≡ c -ℤ d
    both {a} {b} {c} {d} p q = ap (λ (v : ℤ). v -ℤ b) p ∙ ap (λ (v : ℤ). c -ℤ v) q

    minus : (a b : ℤ) → neg_ℤ a -ℤ neg_ℤ b ≡ neg_ℤ (a -ℤ b)
    minus a b = alike (less (negated (itself a)) (negated (itself b))) (negated (less (itself a) (itself b))) (omega arith)

pub slope_turned : (z : List ℤ) (i : ℕ) → slope_at (map neg_ℤ z) i ≡ neg_ℤ (slope_at z i)
unfolding slope_at
slope_turned z i =
    ap (λ (n : ℕ). between (step_at (map neg_ℤ z) (i - 1)) (step_at (map neg_ℤ z) (min i (n - 2)))) (length-map z neg_ℤ)
    ∙ both (step_turned z (i - 1)) (step_turned z (min i (length z - 2)))
    ∙ between_turned (step_at z (i - 1)) (step_at z (min i (length z - 2)))
  where
    both : {a b c d : ℤ} → a ≡ c → b ≡ d → between a b ≡ between c d
    both p q = cc

pairs_turned : (z : List ℤ) (k i : ℕ) → map neg_ℤ (pairs z i k) ≡ pairs (map neg_ℤ z) i k
unfolding pairs
pairs_turned z zero i = refl
pairs_turned z (suc k) i = cons (sym (turned_at z i)) (sym (slope_turned z i)) (pairs_turned z k (suc i))
  where
    cons : {a b c d : ℤ} {l m : List ℤ} → a ≡ c → b ≡ d → l ≡ m → (a ∷ b ∷ l) ≡ (c ∷ d ∷ m)
    cons p q r = cc

pub table_turned : (t : Bool) (z : List ℤ) → turned_all t (table_of z) ≡ table_of (turned_all t z)
table_turned true z = same_all (table_of z) ∙ ap (λ (l : List ℤ). table_of l) (sym (same_all z))
table_turned false z = pairs_turned z (length z) 0 ∙ ap (pairs (map neg_ℤ z) 0) (sym (length-map z neg_ℤ))
