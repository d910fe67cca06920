-- The order check: it fails exactly where some neighbouring pair, from knot 1 on, goes against the direction. Assumes nothing.
use mathlib.Core.Path.{◌≡◌, refl, sym, ap, ◌∙◌, subst, subst₂}
use mathlib.Core.Logic.{inl, inr}
use mathlib.Core.Bool.{Bool, true, false, not, ◌&&◌}
use mathlib.Core.List.{List, [], ◌∷◌}
use Prim.Native.Nat.{ℕ, zero, suc, ◌+◌, ◌≤◌, ◌<◌}
use native.Mathlib.Omega.{arith}
use lib.Dec.{T, T_not, not_T}
use lib.ListN.{length, get_or, drop, length-drop, drop_of_length-le}
use Rattle.doubles.proofs.Tests.{holds, fails}
use Rattle.doubles.proofs.Rounding.{le_or_lt}
use lib.Seq.{get_or-drop}
use lib.Ieee.{Float, nan}
use lib.Ieee.Fits.{and_l, and_r}
use Rattle.inverse_order.specs.Order.{before, knot, rises, ordered, turns_back, turns_at, turning_knot}
use Rattle.inverse_order.proofs.Scan.{next}

module _ (rising : Bool) where
  against : (xs : List Float) → T (not (ordered rising xs)) → (i : ℕ) × (suc i < length xs) × T (before rising (get_or xs (suc i) nan) (get_or xs i nan))
  unfolding ordered
  against [] h = absurd h
  against (x ∷ []) h = absurd h
  against (x ∷ (z ∷ r)) h = go (before rising z x) (λ k. k) (against (z ∷ r)) h
    where
      go : (t : Bool) → (T t → T (before rising z x))
          → (T (not (ordered rising (z ∷ r))) → (i : ℕ) × (suc i < length (z ∷ r)) × T (before rising (get_or (z ∷ r) (suc i) nan) (get_or (z ∷ r) i nan)))
          → T (not (not t && ordered rising (z ∷ r)))
          → (i : ℕ) × (suc i < length (x ∷ (z ∷ r))) × T (before rising (get_or (x ∷ (z ∷ r)) (suc i) nan) (get_or (x ∷ (z ∷ r)) i nan))
      go true f u k = (0, omega arith, f tt)
      go false f u k = let a = u k in (suc a.0, omega (arith, a.1), a.2)

  not_ordered : (xs : List Float) (i : ℕ) → suc i < length xs → T (before rising (get_or xs (suc i) nan) (get_or xs i nan)) → T (ordered rising xs) → ⊥
  unfolding ordered
  not_ordered [] i l b h = omega arith
  not_ordered (x ∷ []) i l b h = omega arith
  not_ordered (x ∷ (z ∷ r)) zero l b h = T_not (before rising z x) (and_l (not (before rising z x)) (ordered rising (z ∷ r)) h) b
  not_ordered (x ∷ (z ∷ r)) (suc i) l b h = not_ordered (z ∷ r) i (omega arith) b (and_r (not (before rising z x)) (ordered rising (z ∷ r)) h)

-- the step from knot i to the next goes against the direction
abbrev pub AgainstAt : List Float → ℕ → Type 0
AgainstAt ks i = (1 ≤ i) × (suc i < length ks) × T (before (rises ks) (knot ks (suc i)) (knot ks i))

-- the list from knot 1 on
from_one : (ks : List Float) (i : ℕ) → get_or (drop 1 ks) i nan ≡ knot ks (suc i)
from_one ks i = let q : 1 + i ≡ suc i = omega arith in get_or-drop 1 ks i nan ∙ ap (knot ks) q

pub turns_back_at : (ks : List Float) → T (turns_back ks) → (i : ℕ) × AgainstAt ks i
turns_back_at ks h =
    let a = against (rises ks) (drop 1 ks) h in (
      suc a.0,
      (
        omega arith,
        omega (arith, a.1, length-drop 1 ks),
        subst₂ (λ (u v : Float). T (before (rises ks) u v)) (from_one ks (suc a.0)) (from_one ks a.0) a.2,
      ),
    )

pub turns_back_where : (ks : List Float) (i : ℕ) → AgainstAt ks i → T (turns_back ks)
turns_back_where ks zero a = absurd (omega (arith, a.0))
turns_back_where ks (suc i) a =
    not_T (ordered (rises ks) (drop 1 ks))
    (not_ordered (rises ks) (drop 1 ks) i (omega (arith, a.1, length-drop 1 ks))
    (subst₂ (λ (u v : Float). T (before (rises ks) u v)) (sym (from_one ks (suc i))) (sym (from_one ks i)) a.2))

-- ---- the first such knot
module _ (rising : Bool) (ks : List Float) (i : ℕ) where
  -- as the code looks for it
  pub turn_later : suc i < length ks → before rising (knot ks (i + 1)) (knot ks i) ≡ false
      → turns_at rising i (drop i ks) ≡ turns_at rising (i + 1) (drop (i + 1) ks)
  unfolding turns_at
  turn_later h e =
      let f = next ks (i + 1) (omega arith) in
      let q : suc i ≡ i + 1 = omega arith in
      let r : turns_at rising i (knot ks i ∷ (knot ks (i + 1) ∷ drop (i + 1 + 1) ks)) ≡ turns_at rising (suc i) (knot ks (i + 1) ∷ drop (i + 1 + 1) ks) =
      simp e in
      ap (turns_at rising i) (next ks i (omega arith) ∙ ap (λ (l : List Float). knot ks i ∷ l) f) ∙ r ∙ ap (turns_at rising (suc i)) (sym f)
      ∙ ap (λ (n : ℕ). turns_at rising n (drop (i + 1) ks)) q

  pub turn_here : suc i < length ks → before rising (knot ks (i + 1)) (knot ks i) ≡ true → turns_at rising i (drop i ks) ≡ i
  unfolding turns_at
  turn_here h e =
      let r : turns_at rising i (knot ks i ∷ (knot ks (i + 1) ∷ drop (i + 1 + 1) ks)) ≡ i = simp e in
      ap (turns_at rising i) (next ks i (omega arith) ∙ ap (λ (l : List Float). knot ks i ∷ l) (next ks (i + 1) (omega arith))) ∙ r

  pub turn_none : i + 1 ≡ length ks → turns_at rising i (drop i ks) ≡ i
  unfolding turns_at
  turn_none h = ap (turns_at rising i) (next ks i (omega arith) ∙ ap (λ (l : List Float). knot ks i ∷ l) (drop_of_length-le ks {i = i + 1} (omega arith)))

-- what it is: the step at the place told goes against the direction, and none before it does
module _ (rising : Bool) where
  -- place d of the list xs, which begins with knot a
  record FirstIn (a : ℕ) (xs : List Float) (d : ℕ) : Type 0 where
    told : turns_at rising a xs ≡ a + d
    within : suc d < length xs
    turns : T (before rising (get_or xs (suc d) nan) (get_or xs d nan))
    none : (j : ℕ) → j < d → T (not (before rising (get_or xs (suc j) nan) (get_or xs j nan)))

  first_in : (a : ℕ) (xs : List Float) → T (not (ordered rising xs)) → (d : ℕ) × FirstIn a xs d
  unfolding ordered turns_at
  first_in a [] h = absurd h
  first_in a (x ∷ []) h = absurd h
  first_in a (x ∷ (z ∷ r)) h = go (before rising z x) refl (first_in (suc a) (z ∷ r)) h
    where
      go : (t : Bool) → before rising z x ≡ t → (T (not (ordered rising (z ∷ r))) → (d : ℕ) × FirstIn (suc a) (z ∷ r) d)
          → T (not (not t && ordered rising (z ∷ r))) → (d : ℕ) × FirstIn a (x ∷ (z ∷ r)) d
      go true e u k = let q : a ≡ a + 0 = omega arith
          in (0, record { told = rw e q; within = omega arith; turns = holds e; none = λ j l. absurd (omega arith) })
      go false e u k =
          let v = u k in
          let q : suc a + v.0 ≡ a + suc v.0 = omega arith in
          (suc v.0, record { told = rw e (v.1.told ∙ q); within = omega (arith, v.1.within); turns = v.1.turns; none = none_of v.1.none })
        where
          none_of : {d : ℕ} → ((j : ℕ) → j < d → T (not (before rising (get_or (z ∷ r) (suc j) nan) (get_or (z ∷ r) j nan)))) → (j : ℕ) → j < suc d
              → T (not (before rising (get_or (x ∷ (z ∷ r)) (suc j) nan) (get_or (x ∷ (z ∷ r)) j nan)))
          none_of f zero l = fails e
          none_of f (suc j) l = f j (omega arith)

-- the knot told turns back, and no earlier one does
pub turning_first : (ks : List Float) → T (turns_back ks) → AgainstAt ks (turning_knot ks) × ((j : ℕ) → AgainstAt ks j → turning_knot ks ≤ j)
turning_first ks h =
    let r = first_in (rises ks) 1 (drop 1 ks) h in
    let d = r.0 in
    let f = r.1 in
    let q : turning_knot ks ≡ suc d = f.told ∙ one_and d in (
      subst (AgainstAt ks) (sym q) (
        omega arith,
        omega (arith, f.within, length-drop 1 ks),
        subst₂ (λ (u v : Float). T (before (rises ks) u v)) (from_one ks (suc d)) (from_one ks d) f.turns,
      ),
      λ j a. rw q (least j a),
    )
  where
    one_and : (d : ℕ) → 1 + d ≡ suc d
    one_and d = omega arith

    least : (j : ℕ) → AgainstAt ks j → suc (first_in (rises ks) 1 (drop 1 ks) h).0 ≤ j
    least zero a = absurd (omega (arith, a.0))
    least (suc j) a =
        let r = first_in (rises ks) 1 (drop 1 ks) h in
        elim (le_or_lt r.0 j) [
          | inl l ↦ omega arith
          | inr l ↦ absurd (T_not (before (rises ks) (get_or (drop 1 ks) (suc j) nan) (get_or (drop 1 ks) j nan)) (r.1.none j l)
              (subst₂ (λ (u v : Float). T (before (rises ks) u v)) (sym (from_one ks (suc j))) (sym (from_one ks j)) a.2))
        ]
