-- Labels in a lent slice: a label more leaves those before it. Assumes nothing.
use mathlib.Core.Path.{◌≡◌, refl, sym, ap, ◌∙◌}
use mathlib.Core.List.{List, [], ◌∷◌, ◌++◌, append_assoc}
use Prim.Native.Nat.{ℕ, zero, suc, min, ◌+◌, ◌*◌, ◌-◌, ◌≤◌}
use native.Mathlib.Omega.{arith}
use native.Mathlib.Numerals.{add-one}
use native.Mathlib.Nat.{add-zero, zero-add, suc-add}
use lib.ListN.{length, take, drop, get_or, take-append-drop}
use lib.Seq.{take-take, get_or-take, take_at, take-nil, length-take-le, take-append_seam, get_or-append-add, drop-append-add}
use Rattle.text.specs.Wrote.{Wrote}
use Rattle.ask_sheet.specs.Contract.{label_at, labels_to}

-- what is taken first and then passed over
drop_take : (a m : ℕ) (l : List ℕ) → drop a (take (a + m) l) ≡ take m (drop a l)
drop_take zero m l = ap (λ (n : ℕ). take n l) (zero-add m)
drop_take (suc a) m [] = ap (λ (n : ℕ). drop (suc a) (take n [])) (suc-add a m) ∙ sym (take-nil m)
drop_take (suc a) m (x ∷ l) = ap (λ (n : ℕ). drop (suc a) (take n (x ∷ l))) (suc-add a m) ∙ drop_take a m l

min_below : (x : ℕ) → min x 16 ≤ 16
min_below x = omega arith

-- a label's own 17 bytes are all that it goes by
pub label_within : (s : List ℕ) (m i : ℕ) → 17 * i + 17 ≤ m → label_at (take m s) i ≡ label_at s i
unfolding label_at
label_within s m i h =
    let g : get_or (take m s) (17 * i) 0 ≡ get_or s (17 * i) 0 = get_or-take m s (17 * i) 0 (omega arith) in
    let k = min (get_or s (17 * i) 0) 16 in
    let e : (17 * i + 1) + (m - (17 * i + 1)) ≡ m = omega arith in
    let d : drop (17 * i + 1) (take m s) ≡ take (m - (17 * i + 1)) (drop (17 * i + 1) s) =
    ap (λ (n : ℕ). drop (17 * i + 1) (take n s)) (sym e) ∙ drop_take (17 * i + 1) (m - (17 * i + 1)) s in
    rw (g, d) (take-take k (m - (17 * i + 1)) (drop (17 * i + 1) s) (omega (arith, min_below (get_or s (17 * i) 0))))

pub labels_within : (s : List ℕ) (m n : ℕ) → 17 * n ≤ m → labels_to (take m s) n ≡ labels_to s n
unfolding labels_to
labels_within s m zero h = refl
labels_within s m (suc n) h = rw (labels_within s m n (omega arith), label_within s m n (omega arith)) refl

module _ (s s' w : List ℕ) (n a : ℕ) (short : length w ≤ 16) (fits : 17 * n ≤ length s) (wrote : Wrote s (17 * n) ((length w ∷ []) ++ w) s' a) where
  front_long : length (take (17 * n) s) ≡ 17 * n
  front_long = length-take-le (17 * n) s fits

  pub before_kept : labels_to s' n ≡ labels_to s n
  before_kept =
      let p : take (17 * n) (take a s') ≡ take (17 * n) s =
      ap (take (17 * n)) wrote.front ∙ take_at (take (17 * n) s) ((length w ∷ []) ++ w) (17 * n) front_long in
      let q : take (17 * n) (take a s') ≡ take (17 * n) s' = take-take (17 * n) a s' (omega (arith, wrote.next)) in
      sym (labels_within s' (17 * n) n (omega arith))
      ∙ ap (λ (l : List ℕ). labels_to l n) (sym q ∙ p)
      ∙ labels_within s (17 * n) n (omega arith)

  parts : s' ≡ take (17 * n) s ++ ((length w ∷ w) ++ drop a s')
  parts =
      sym (take-append-drop a s') ∙ ap (λ (l : List ℕ). l ++ drop a s') wrote.front
      ∙ append_assoc (take (17 * n) s) ((length w ∷ []) ++ w) (drop a s')

  len_there : get_or s' (17 * n) 0 ≡ length w
  len_there =
      ap (λ (l : List ℕ). get_or l (17 * n) 0) parts
      ∙ ap (λ (i : ℕ). get_or (take (17 * n) s ++ ((length w ∷ w) ++ drop a s')) i 0) (sym front_long ∙ sym (add-zero (length (take (17 * n) s))))
      ∙ get_or-append-add (take (17 * n) s) ((length w ∷ w) ++ drop a s') 0 0

  behind : drop (17 * n + 1) s' ≡ w ++ drop a s'
  behind =
      ap (λ (l : List ℕ). drop (17 * n + 1) l) parts
      ∙ ap (λ (i : ℕ). drop (i + 1) (take (17 * n) s ++ ((length w ∷ w) ++ drop a s'))) (sym front_long)
      ∙ drop-append-add (take (17 * n) s) ((length w ∷ w) ++ drop a s') 1

  label_there : label_at s' n ≡ w
  unfolding label_at
  label_there =
      let m : min (length w) 16 ≡ length w = omega arith in
      rw (len_there, behind, m) (take-append_seam w (drop a s'))

  pub kept : labels_to s' (n + 1) ≡ labels_to s n ++ (w ∷ [])
  unfolding labels_to
  kept = rw (add-one n, before_kept, label_there) refl
