-- The values up to the first of eight places that is empty: one more is asked, and the loop over them, a pass at a time. Assumes nothing.
use mathlib.Core.Path.{◌≡◌, refl, ap, ◌∙◌}
use mathlib.Core.List.{List, [], ◌∷◌, ◌++◌}
use Prim.Native.Nat.{ℕ, zero, suc, ◌+◌, ◌<◌, ◌≤◌}
use native.Mathlib.Numerals.{add-one}
use native.Mathlib.Omega.{arith}
use lib.ListN.{length, get_or, take}
use lib.Seq.{take-suc}
use lib.Ieee.{Float, nan}
use Rattle.basis.specs.declared.Basis.{Basis}
use Rattle.inverse_order.specs.declared.EndsBy.{EndsBy}
use Rattle.picture_scale.specs.declared.Extent.{Extent}
use Rattle.std.specs.Prelude.{Option, Some, None}
use Rattle.picture_finds.specs.Finds.{asked, find_text, finds_text}
use Rattle.picture_finds.specs.Contract.{leading}

-- ---- the values up to the first empty place
-- of the first n places they are the first n
pub leading_take : (n : ℕ) (l : List (Option Float)) → leading (take n l) ≡ take n (leading l)
unfolding leading
leading_take zero l = refl
leading_take (suc n) [] = refl
leading_take (suc n) (None ∷ os) = refl
leading_take (suc n) (Some y ∷ os) = ap (λ (r : List Float). y ∷ r) (leading_take n os)

pub leading_few : (l : List (Option Float)) → length (leading l) ≤ length l
unfolding leading
leading_few [] = omega arith
leading_few (None ∷ os) = omega arith
leading_few (Some y ∷ os) = let h = leading_few os in omega arith

-- behind them a value is one of them, and where a place is empty they end
pub is_leading : (l : List (Option Float)) (i : ℕ) {y : Float} → i ≤ length (leading l) → i < length l → get_or l i None ≡ Some y
    → (i < length (leading l)) × (get_or (leading l) i nan ≡ y)
unfolding leading
is_leading [] i h b e = absurd (omega arith)
is_leading (None ∷ os) zero h b e = absurd (cc)
is_leading (None ∷ os) (suc i) h b e = absurd (omega arith)
is_leading (Some y ∷ os) zero h b e = (omega arith, cc)
is_leading (Some y ∷ os) (suc i) h b e = let r = is_leading os i (omega arith) (omega arith) e in (omega (arith, r.0), r.1)

pub ends_at : (l : List (Option Float)) (i : ℕ) → i ≤ length (leading l) → i < length l → get_or l i None ≡ None → i ≡ length (leading l)
unfolding leading
ends_at [] i h b e = absurd (omega arith)
ends_at (None ∷ os) zero h b e = refl
ends_at (None ∷ os) (suc i) h b e = absurd (omega arith)
ends_at (Some y ∷ os) zero h b e = absurd (cc)
ends_at (Some y ∷ os) (suc i) h b e = let r = ends_at os i (omega arith) (omega arith) e in omega (arith, r)

module _ (l : List (Option Float)) (h : length l ≡ 8) (d : Option Float) where
  seven : get_or l 0 d ∷ get_or l 1 d ∷ get_or l 2 d ∷ get_or l 3 d ∷ get_or l 4 d ∷ get_or l 5 d ∷ get_or l 6 d ∷ [] ≡ take 7 l
  seven =
      let s1 : take 1 l ≡ get_or l 0 d ∷ [] = take-suc l 0 d (omega (arith, h)) in
      let s2 : take 2 l ≡ take 1 l ++ (get_or l 1 d ∷ []) = take-suc l 1 d (omega (arith, h)) in
      let s3 : take 3 l ≡ take 2 l ++ (get_or l 2 d ∷ []) = take-suc l 2 d (omega (arith, h)) in
      let s4 : take 4 l ≡ take 3 l ++ (get_or l 3 d ∷ []) = take-suc l 3 d (omega (arith, h)) in
      let s5 : take 5 l ≡ take 4 l ++ (get_or l 4 d ∷ []) = take-suc l 4 d (omega (arith, h)) in
      let s6 : take 6 l ≡ take 5 l ++ (get_or l 5 d ∷ []) = take-suc l 5 d (omega (arith, h)) in
      let s7 : take 7 l ≡ take 6 l ++ (get_or l 6 d ∷ []) = take-suc l 6 d (omega (arith, h)) in
      rw (s7, s6, s5, s4, s3, s2, s1) refl

  -- one more before the seven latest
  pub asked_so : (y : Float)
      → leading (Some y ∷ get_or l 0 d ∷ get_or l 1 d ∷ get_or l 2 d ∷ get_or l 3 d ∷ get_or l 4 d ∷ get_or l 5 d ∷ get_or l 6 d ∷ [])
      ≡ asked y (leading l)
  unfolding leading
  asked_so y = ap (λ (r : List Float). y ∷ r) (ap leading seven ∙ leading_take 7 l)

-- ---- the loop
module _ (span : ℕ) (m : EndsBy) (b : Basis) (ks : List Float) (e : Extent) (l : List Float) where
  pub no_finds : finds_text span m b ks e l 0 ≡ []
  unfolding finds_text
  no_finds = refl

  pub finds_go_on : (i : ℕ) {y : Float} → get_or l i nan ≡ y
      → finds_text span m b ks e l (i + 1) ≡ finds_text span m b ks e l i ++ find_text span m b ks e (i + 2) y
  unfolding finds_text
  finds_go_on i h = rw (add-one i, h) refl
