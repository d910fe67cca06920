-- The scan over the seams, over plain values. Each segment writes its last doubles behind what stands, so that what a seam is compared with
-- is at once what the segments before it wrote and what the whole output has there. Assumes nothing.
use mathlib.Core.Path.{◌≡◌, refl, sym, ap, ◌∙◌}
use mathlib.Core.List.{List, [], ◌∷◌, ◌++◌}
use mathlib.Core.Bool.{Bool, true, false, cond, ◌||◌}
use Prim.Native.Nat.{ℕ, zero, suc, ◌+◌, ◌-◌, ◌*◌, ◌≤◌, ◌<◌}
use native.Mathlib.Nat.{suc-mul, zero-mul, mul-le-mul_right}
use native.Mathlib.Numerals.{add-one}
use native.Mathlib.Omega.{arith}
use lib.ListN.{length, take, drop, get_or, get_or-append}
use lib.Seq.{drop-append-le, drop-drop, get_or-drop}
use lib.Ieee.{Float, nan}
use Rattle.spline.specs.declared.RowSums.{RowSums}
use Rattle.spline.specs.Segment.{row_sums_of}
use Rattle.spline.proofs.Parts.{rest}
use Rattle.convert_matrix.specs.Matrix.{Matrix, applied}
use Rattle.convert.specs.Output.{window_of, windows}
use Rattle.convert.specs.Contract.{list_of}
use Rattle.convert.proofs.Writing.{windows_length}
use Rattle.convert_strict.specs.Seams.{is_apart, any, lowest, is_lost, loses, lost_seam}

-- ---- one of the first n numbers
pub any_same : (n : ℕ) (f g : ℕ → Bool) → ((j : ℕ) → j < n → f j ≡ g j) → any n f ≡ any n g
unfolding any
any_same zero f g h = refl
any_same (suc n) f g h = ap (λ (b : Bool). b || f n) (any_same n f g (λ j l. h j (omega arith))) ∙ ap (λ (b : Bool). any n g || b) (h n (omega arith))

-- ---- one window beside what stands: the tests for each stride
module _ (allowance : Float) (w h : RowSums) (stride : ℕ) where
  abbrev Answer : Bool → Type 0
  Answer r = r ≡ any (4 - stride) (λ j. is_apart allowance (get_or (list_of w) j nan) (get_or (list_of h) (stride + j) nan))

  pub yes_11 : stride ≡ 1 → is_apart allowance w.w0 h.w1 ≡ true → Answer true
  unfolding any
  yes_11 e t = rw e (simp t)

  pub yes_12 : stride ≡ 1 → is_apart allowance w.w0 h.w1 ≡ false → is_apart allowance w.w1 h.w2 ≡ true → Answer true
  unfolding any
  yes_12 e t u = rw e (simp (t, u))

  pub yes_13 : {r : Bool} → stride ≡ 1 → is_apart allowance w.w0 h.w1 ≡ false → is_apart allowance w.w1 h.w2 ≡ false → r ≡ is_apart allowance
      w.w2 h.w3 → Answer r
  unfolding any
  yes_13 e t u p = p ∙ rw e (simp (t, u))

  pub yes_21 : stride ≡ 2 → is_apart allowance w.w0 h.w2 ≡ true → Answer true
  unfolding any
  yes_21 e t = rw e (simp t)

  pub yes_22 : {r : Bool} → stride ≡ 2 → is_apart allowance w.w0 h.w2 ≡ false → r ≡ is_apart allowance w.w1 h.w3 → Answer r
  unfolding any
  yes_22 e t p = p ∙ rw e (simp t)

  pub yes_31 : {r : Bool} → stride ≡ 3 → r ≡ is_apart allowance w.w0 h.w3 → Answer r
  unfolding any
  yes_31 e p = p ∙ rw e refl

  pub none_4 : stride ≡ 4 → Answer false
  unfolding any
  none_4 e = rw e refl

-- ---- what stands
module _ (m : Matrix) (step stride : ℕ) (ks : List Float) (g : stride ≤ 4) where
  one_more : (k i : ℕ) → i < length (windows m step stride ks k) → get_or (windows m step stride ks (suc k)) i nan ≡ get_or (windows m step stride ks k) i nan
  unfolding windows
  one_more k i l = get_or-append (windows m step stride ks k) (drop (4 - stride) (window_of m step ks (suc k))) nan i l

  grown : (d s n i : ℕ) → n ≡ s + d → i < 4 + s * stride → get_or (windows m step stride ks n) i nan ≡ get_or (windows m step stride ks s) i nan
  grown zero s n i e h = let q : n ≡ s = omega arith in ap (λ (x : ℕ). get_or (windows m step stride ks x) i nan) q
  grown (suc d) s n i e h =
      let q : n ≡ suc (s + d) = omega arith in
      let more : s * stride ≤ (s + d) * stride = mul-le-mul_right stride (omega arith) in
      ap (λ (x : ℕ). get_or (windows m step stride ks x) i nan) q ∙ one_more (s + d) i (omega (arith, windows_length m step stride ks (s + d) g)) ∙ grown d s
      (s + d) i refl h

  -- what the segments up to s have written stays: it stands in the output of all
  pub stands : (last s i : ℕ) → s ≤ last → i < 4 + s * stride → get_or (windows m step stride ks last) i nan ≡ get_or (windows m step stride ks s) i nan
  stands last s i l h = grown (last - s) s last i (omega arith) h

-- ---- the scan, from segment to segment
module _ (m : Matrix) (step stride : ℕ) (allowance : Float) (ks : List Float) (last : ℕ) where
  pub first_held : (h : RowSums) → h ≡ row_sums_of m ks → list_of h ≡ drop (0 * stride) (windows m step stride ks 0)
  unfolding windows
  first_held h e = ap list_of e ∙ ap (λ (k : ℕ). applied m (drop k ks)) (sym (zero-mul step)) ∙ ap (λ (k : ℕ). drop k (applied m (drop (0 * step) ks)))
      (sym (zero-mul stride))

  -- none of the segments up to s loses a double: the search goes on from s + 1
  abbrev pub Searched : ℕ → Type 0
  Searched s = lowest (last - s) (s + 1) (loses m step stride allowance ks last) ≡ lost_seam m step stride allowance ks last

  pub begun : Searched 0
  begun = let q : last - 0 ≡ last = omega arith in ap (λ (n : ℕ). lowest n 1 (loses m step stride allowance ks last)) q

  module _ (s : ℕ) (h w : RowSums) (g : stride ≤ 4) (l : s < last) (held : list_of h ≡ drop (s * stride) (windows m step stride ks s))
      (is : w ≡ row_sums_of m (take (length ks - (s + 1) * step) (drop ((s + 1) * step) ks))) where
    window_is : list_of w ≡ window_of m step ks (s + 1)
    window_is = ap list_of (is ∙ ap (row_sums_of m) (rest ((s + 1) * step) ks))

    next_place : s * stride + stride ≡ (s + 1) * stride
    next_place = omega (arith, suc-mul s stride, ap (λ (x : ℕ). x * stride) (add-one s))

    pub next_held : (n : RowSums) → list_of n ≡ drop stride (list_of h) ++ drop (4 - stride) (list_of w) → list_of n ≡ drop ((s + 1) * stride)
        (windows m step stride ks (s + 1))
    unfolding windows
    next_held n e =
        let l = drop (4 - stride) (window_of m step ks (s + 1)) in
        let one : windows m step stride ks s ++ l ≡ windows m step stride ks (s + 1) = ap
        (λ (x : ℕ). windows m step stride ks s ++ drop (4 - stride) (window_of m step ks x)) (add-one s) ∙ ap (windows m step stride ks)
        (sym (add-one s)) in
        let kept : drop stride (list_of h) ≡ drop ((s + 1) * stride) (windows m step stride ks s) = ap (drop stride) held ∙ drop-drop stride (s * stride)
        (windows m step stride ks s) ∙ ap (λ (k : ℕ). drop k (windows m step stride ks s)) next_place in
        e
        ∙ ap (λ (x : List Float). x ++ drop (4 - stride) (list_of w)) kept
        ∙ ap (λ (x : List Float). drop ((s + 1) * stride) (windows m step stride ks s) ++ drop (4 - stride) x) window_is
        ∙ sym (drop-append-le ((s + 1) * stride) (windows m step stride ks s) l (omega (arith, windows_length m step stride ks s g, next_place)))
        ∙ ap (drop ((s + 1) * stride)) one

    -- what the window held has at a place is what the output has there
    held_stands : (j : ℕ) → j < 4 - stride → get_or (list_of h) (stride + j) nan ≡ get_or (windows m step stride ks last) ((s + 1) * stride + j) nan
    held_stands j b =
        let q : s * stride + (stride + j) ≡ (s + 1) * stride + j = omega (arith, next_place) in
        ap (λ (x : List Float). get_or x (stride + j) nan) held
        ∙ get_or-drop (s * stride) (windows m step stride ks s) (stride + j) nan
        ∙ ap (λ (k : ℕ). get_or (windows m step stride ks s) k nan) q
        ∙ sym (stands m step stride ks g last s ((s + 1) * stride + j) (omega arith) (omega (arith, next_place)))

    module _ (searched : Searched s) (r : Bool)
        (e : r ≡ any (4 - stride) (λ j. is_apart allowance (get_or (list_of w) j nan) (get_or (list_of h) (stride + j) nan))) where
      seam : r ≡ loses m step stride allowance ks last (s + 1)
      seam =
          e
          ∙ any_same (4 - stride) (λ j. is_apart allowance (get_or (list_of w) j nan) (get_or (list_of h) (stride + j) nan))
          (is_lost m step stride allowance ks last (s + 1))
          (λ j b. ap (λ (x : List Float). is_apart allowance (get_or x j nan) (get_or (list_of h) (stride + j) nan)) window_is ∙ ap
          (is_apart allowance (get_or (window_of m step ks (s + 1)) j nan)) (held_stands j b))

      opened : lowest (last - s) (s + 1) (loses m step stride allowance ks last) ≡ cond r (s + 1)
          (lowest (last - suc s) (suc (s + 1)) (loses m step stride allowance ks last))
      unfolding lowest
      opened =
          let q : last - s ≡ suc (last - suc s) = omega arith in
          ap (λ (n : ℕ). lowest n (s + 1) (loses m step stride allowance ks last)) q
          ∙ ap (λ (b : Bool). cond b (s + 1) (lowest (last - suc s) (suc (s + 1)) (loses m step stride allowance ks last))) (sym seam)

      pub seam_lost : r ≡ true → s + 1 ≡ lost_seam m step stride allowance ks last
      seam_lost t = sym
          (sym searched ∙ opened ∙ ap (λ (b : Bool). cond b (s + 1) (lowest (last - suc s) (suc (s + 1)) (loses m step stride allowance ks last))) t)

      pub seam_kept : r ≡ false → Searched (s + 1)
      seam_kept t =
          let a : last - (s + 1) ≡ last - suc s = omega arith in
          let b : s + 1 + 1 ≡ suc (s + 1) = omega arith in
          ap (λ (n : ℕ). lowest n (s + 1 + 1) (loses m step stride allowance ks last)) a
          ∙ ap (λ (n : ℕ). lowest (last - suc s) n (loses m step stride allowance ks last)) b
          ∙ sym (opened ∙ ap (λ (b : Bool). cond b (s + 1) (lowest (last - suc s) (suc (s + 1)) (loses m step stride allowance ks last))) t)
          ∙ searched

  pub none_lost : (s : ℕ) → last ≤ s → Searched s → 0 ≡ lost_seam m step stride allowance ks last
  unfolding lowest
  none_lost s h c = let q : 0 ≡ last - s = omega arith in ap (λ (n : ℕ). lowest n (s + 1) (loses m step stride allowance ks last)) q ∙ c

-- ---- what is shifted
module _ (stride : ℕ) (h w : RowSums) where
  pub shift_1 : stride ≡ 1 → h.w1 ∷ h.w2 ∷ h.w3 ∷ w.w3 ∷ [] ≡ drop stride (list_of h) ++ drop (4 - stride) (list_of w)
  shift_1 e = rw e refl

  pub shift_2 : stride ≡ 2 → h.w2 ∷ h.w3 ∷ w.w2 ∷ w.w3 ∷ [] ≡ drop stride (list_of h) ++ drop (4 - stride) (list_of w)
  shift_2 e = rw e refl

  pub shift_3 : stride ≡ 3 → h.w3 ∷ w.w1 ∷ w.w2 ∷ w.w3 ∷ [] ≡ drop stride (list_of h) ++ drop (4 - stride) (list_of w)
  shift_3 e = rw e refl

  pub shift_4 : stride ≡ 4 → list_of w ≡ drop stride (list_of h) ++ drop (4 - stride) (list_of w)
  shift_4 e = rw e refl
