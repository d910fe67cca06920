-- What the writes leave in the buffer, and how long the output is. Assumes nothing.
use mathlib.Core.Path.{◌≡◌, refl, sym, ap, ◌∙◌}
use mathlib.Core.List.{List, [], ◌∷◌, ◌++◌}
use Prim.Native.Nat.{ℕ, zero, suc, ◌+◌, ◌-◌, ◌*◌, ◌/◌, ◌≤◌, ◌<◌}
use native.Mathlib.Nat.{le_trans, le_of_eq, zero-mul, suc-mul, mul-le-mul, mul-le-mul_right}
use native.Mathlib.Numerals.{add-one}
use native.Mathlib.Omega.{arith}
use lib.Dec.{lit≤}
use lib.ListN.{length, get_or, take, drop, set, length-append, length-drop}
use lib.Seq.{sets-eq, take_at, drop-append-add, drop-drop}
use lib.Ieee.{Float}
use Rattle.spline.specs.declared.RowSums.{RowSums}
use Rattle.spline.specs.Segment.{row_sum, row_sums_of}
use Rattle.spline.proofs.Parts.{rest, inside, few}
use Rattle.convert_matrix.specs.Matrix.{Matrix, applied}
use Rattle.convert.specs.Output.{window_of, windows}
use Rattle.convert.specs.Contract.{placed, list_of}

-- ---- the stores of one window
module _ (o : List Float) (at : ℕ) (w : RowSums) (stride : ℕ) where
  pub put_1 : stride ≡ 1 → at + stride ≤ length o → set o at w.w3 ≡ placed at (drop (4 - stride) (list_of w)) o
  put_1 e h = rw e (sets-eq (w.w3 ∷ []) o at (rw e at h))

  pub put_2 : stride ≡ 2 → at + stride ≤ length o → set (set o at w.w2) (at + 1) w.w3 ≡ placed at (drop (4 - stride) (list_of w)) o
  put_2 e h = let p : at + 1 ≡ suc at = omega arith in rw (e, p) (sets-eq (w.w2 ∷ w.w3 ∷ []) o at (rw e at h))

  pub put_3 : stride ≡ 3 → at + stride ≤ length o → set (set (set o at w.w1) (at + 1) w.w2) (at + 2) w.w3 ≡ placed at (drop (4 - stride) (list_of w)) o
  put_3 e h =
      let p : at + 1 ≡ suc at = omega arith in
      let q : at + 2 ≡ suc (suc at) = omega arith in
      rw (e, p, q) (sets-eq (w.w1 ∷ w.w2 ∷ w.w3 ∷ []) o at (rw e at h))

  pub put_4 : stride ≡ 4 → at + stride ≤ length o
      → set (set (set (set o at w.w0) (at + 1) w.w1) (at + 2) w.w2) (at + 3) w.w3 ≡ placed at (drop (4 - stride) (list_of w)) o
  put_4 e h =
      let p : at + 1 ≡ suc at = omega arith in
      let q : at + 2 ≡ suc (suc at) = omega arith in
      let r : at + 3 ≡ suc (suc (suc at)) = omega arith in
      rw (e, p, q, r) (sets-eq (list_of w) o at (rw e at h))

-- ---- a window's last doubles, from its four row sums or, where one is written, from the fourth alone
module _ (m : Matrix) (cv o : List Float) (at stride : ℕ) where
  pub put_fourth : {x : Float} → x ≡ row_sum cv (get_or m 3 []) → stride ≡ 1 → at + stride ≤ length o
      → set o at x ≡ placed at (drop (4 - stride) (list_of (row_sums_of m cv))) o
  put_fourth p e h = ap (set o at) p ∙ put_1 o at (row_sums_of m cv) stride e h

  pub put_sums : {w : RowSums} {out : List Float} → w ≡ row_sums_of m cv → out ≡ placed at (drop (4 - stride) (list_of w)) o
      → out ≡ placed at (drop (4 - stride) (list_of (row_sums_of m cv))) o
  put_sums p q = q ∙ ap (λ (x : RowSums). placed at (drop (4 - stride) (list_of x)) o) p

-- ---- one window after the other
-- l is put behind p, which stands at the front
behind : (p l o : List Float) (at : ℕ) → length p ≡ at → placed at l (p ++ drop at o) ≡ p ++ l ++ drop (at + length l) o
behind p l o at e =
    ap (λ (x : List Float). x ++ l ++ drop (at + length l) (p ++ drop at o)) (take_at p (drop at o) at e)
    ∙ ap (λ (x : List Float). p ++ l ++ x)
    (ap (λ (n : ℕ). drop (n + length l) (p ++ drop at o)) (sym e) ∙ drop-append-add p (drop at o) (length l) ∙ drop-drop (length l) at o)

-- what stands behind a front is what stood there before
past : (p o : List Float) (at n : ℕ) → length p ≡ at → at ≤ n → drop n (p ++ drop at o) ≡ drop n o
past p o at n e h =
    let k = n - at in
    let f : n ≡ length p + k = omega arith in
    let g : at + k ≡ n = omega arith in
    ap (λ (x : ℕ). drop x (p ++ drop at o)) f ∙ drop-append-add p (drop at o) k ∙ drop-drop k at o ∙ ap (λ (x : ℕ). drop x o) g

module _ (m : Matrix) (step stride : ℕ) (ks : List Float) where
  pub windows_length : (n : ℕ) → stride ≤ 4 → length (windows m step stride ks n) ≡ 4 + n * stride
  unfolding windows
  windows_length zero g = ap (λ (k : ℕ). 4 + k) (sym (zero-mul stride))
  windows_length (suc n) g =
      length-append (windows m step stride ks n) (drop (4 - stride) (window_of m step ks (suc n)))
      ∙ ap (λ (k : ℕ). k + length (drop (4 - stride) (window_of m step ks (suc n)))) (windows_length n g)
      ∙ ap (λ (k : ℕ). 4 + n * stride + k) (length-drop (4 - stride) (window_of m step ks (suc n)))
      ∙ omega (arith, suc-mul n stride)

  -- the first window
  pub first_window : (w : RowSums) (o out : List Float) → w ≡ row_sums_of m ks → out ≡ placed 0 (drop (4 - 4) (list_of w)) o
      → out ≡ windows m step stride ks 0 ++ drop 4 o
  unfolding windows
  first_window w o out p q =
      q
      ∙ ap (λ (x : RowSums). list_of x ++ drop 4 o) p
      ∙ ap (λ (k : ℕ). applied m (drop k ks) ++ drop 4 o) (sym (zero-mul step))

  -- nothing was written behind it yet
  pub begun : (o out : List Float) → out ≡ windows m step stride ks 0 ++ drop 4 o → out ≡ windows m step stride ks 0 ++ drop (4 + 0 * stride) out
  unfolding windows
  begun o out q =
      q
      ∙ ap (λ (x : List Float). windows m step stride ks 0 ++ x)
      (sym (ap (λ (k : ℕ). drop (4 + k) out) (zero-mul stride) ∙ ap (drop 4) q ∙ past (windows m step stride ks 0) o 4 4 refl (lit≤ tt)))

  -- one window more
  pub next_window : (s : ℕ) (o out out' : List Float) → stride ≤ 4
      → out ≡ windows m step stride ks s ++ drop (4 + s * stride) o
      → out' ≡ placed (4 + s * stride) (drop (4 - stride) (applied m (take (length ks - (s + 1) * step) (drop ((s + 1) * step) ks)))) out
      → out' ≡ windows m step stride ks (s + 1) ++ drop (4 + (s + 1) * stride) o
  unfolding windows
  next_window s o out out' g q r =
      let at = 4 + s * stride in
      let k = (s + 1) * step in
      let l = drop (4 - stride) (window_of m step ks (s + 1)) in
      let n : length l ≡ 4 - (4 - stride) = length-drop (4 - stride) (window_of m step ks (s + 1)) in
      let f : at + length l ≡ 4 + (s + 1) * stride = omega (arith, n, suc-mul s stride, ap (λ (x : ℕ). x * stride) (add-one s)) in
      let one : windows m step stride ks (suc s) ≡ windows m step stride ks (s + 1) = ap (windows m step stride ks) (sym (add-one s)) in
      r
      ∙ ap (λ (x : List Float). placed at (drop (4 - stride) (applied m x)) out) (rest k ks)
      ∙ ap (placed at l) q
      ∙ behind (windows m step stride ks s) l o at (windows_length s g)
      ∙ ap (λ (x : ℕ). windows m step stride ks s ++ l ++ drop x o) f
      ∙ ap (λ (x : ℕ). windows m step stride ks s ++ drop (4 - stride) (window_of m step ks x) ++ drop (4 + (s + 1) * stride) o) (add-one s)
      ∙ ap (λ (x : List Float). x ++ drop (4 + (s + 1) * stride) o) one

  -- all windows
  pub all_windows : (s n : ℕ) (o o₁ out : List Float) → stride ≤ 4 → s ≡ n
      → o₁ ≡ windows m step stride ks 0 ++ drop 4 o
      → out ≡ windows m step stride ks s ++ drop (4 + s * stride) o₁
      → out ≡ windows m step stride ks n ++ drop (length (windows m step stride ks n)) o
  unfolding windows
  all_windows s n o o₁ out g e q r =
      let f : 4 ≤ length (windows m step stride ks n) = omega (arith, windows_length n g) in
      r
      ∙ ap (λ (k : ℕ). windows m step stride ks k ++ drop (4 + k * stride) o₁) e
      ∙ ap (λ (k : ℕ). windows m step stride ks n ++ drop k o₁) (sym (windows_length n g))
      ∙ ap (λ (x : List Float). windows m step stride ks n ++ x)
      (ap (drop (length (windows m step stride ks n))) q ∙ past (windows m step stride ks 0) o 4 (length (windows m step stride ks n)) refl f)

-- ---- the places of a window
pub record WindowPlaces (n step stride room s : ℕ) : Type 0 where
  pub start : (s + 1) * step + 4 ≤ n
  pub place : 4 + s * stride + stride ≤ room
  pub small : s * stride ≤ 16384
  pub few : s ≤ 4096

pub window_places : (n step stride room s : ℕ) → 4 ≤ n → n ≤ 4096 → stride ≤ 4 → 4 + (n - 4) / step * stride ≤ room → s < (n - 4) / step
    → WindowPlaces n step stride room s
window_places n step stride room s least most g r h =
    let k = (n - 4) / step in
    let a : (s + 1) * step ≤ n - 4 = inside (s + 1) step (n - 4) (le_trans (le_of_eq (add-one s)) h) in
    let b : (s + 1) * stride ≤ k * stride = mul-le-mul_right stride (le_trans (le_of_eq (add-one s)) h) in
    let d : k ≤ 4092 = few n step most in
    let i : s ≤ 4096 = omega arith in
    let e : s * stride ≤ 4096 * 4 = mul-le-mul i g in
    record { start = omega arith; place = omega (arith, suc-mul s stride, ap (λ (x : ℕ). x * stride) (add-one s)); small = omega arith; few = i }
