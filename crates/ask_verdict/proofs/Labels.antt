-- Labels as the verdict reads them: a label in its place, and the first that is the same. Assumes nothing.
use mathlib.Core.Path.{◌≡◌, refl, sym, ap, ◌∙◌}
use mathlib.Core.Bool.{Bool, true, false, cond}
use mathlib.Core.List.{List, [], ◌∷◌, ◌++◌}
use Prim.Native.Nat.{ℕ, zero, suc, min, ◌+◌, ◌*◌, ◌-◌, ◌≤◌, ◌<◌}
use native.Mathlib.Omega.{arith}
use native.Mathlib.Numerals.{add-one}
use lib.Dec.{ltb}
use borrow.Author.Tests.{lt-ltb, le-ltb, ltb-true, ltb-false}
use lib.ListN.{length, take, drop, get_or, length-append, get_or-append}
use lib.Seq.{get_or-append_seam}
use Rattle.text.specs.Text.{bytes, dec_text, same}
use Rattle.ask_sheet.specs.Contract.{label_at, labels_to}
use Rattle.ask_verdict.specs.Faults.{twice, same_from, first_same, twice_at}
use Rattle.ask_verdict.specs.Told.{number_text, faults_text}
use Rattle.ask_verdict.proofs.Texts.{one_text, no_text}

-- ---- in its place
pub cell : (s : List ℕ) (i : ℕ) {k : ℕ} → k ≡ min (get_or s (17 * i) 0) 16 → take ((17 * i + 1 + k) - (17 * i + 1)) (drop (17 * i + 1) s) ≡ label_at s i
unfolding label_at
cell s i {k} e = let d : (17 * i + 1 + k) - (17 * i + 1) ≡ min (get_or s (17 * i) 0) 16 = omega (arith, e) in rw d refl

pub both : {a b c d : List ℕ} → a ≡ c → b ≡ d → same a b ≡ same c d
both p q = cc

labels_long : (s : List ℕ) (n : ℕ) → length (labels_to s n) ≡ n
unfolding labels_to
labels_long s zero = refl
labels_long s (suc n) = length-append (labels_to s n) (label_at s n ∷ []) ∙ ap (λ (m : ℕ). m + 1) (labels_long s n) ∙ add-one n

pub label_of : (s : List ℕ) (n j : ℕ) → j < n → get_or (labels_to s n) j [] ≡ label_at s j
unfolding labels_to
label_of s zero j h = absurd (omega arith)
label_of s (suc n) j h = go (label_of s n j) (ltb j n) refl
  where
    go : (j < n → get_or (labels_to s n) j [] ≡ label_at s j) → (t : Bool) → ltb j n ≡ t → get_or (labels_to s n ++ (label_at s n ∷ [])) j [] ≡ label_at s j
    go again true e =
        let l : j < n = ltb-true j n e in
        get_or-append (labels_to s n) (label_at s n ∷ []) [] j (rw (labels_long s n) l) ∙ again l
    go again false e =
        let p : j ≡ n = omega (arith, ltb-false j n e) in
        let q : j ≡ length (labels_to s n) = p ∙ sym (labels_long s n) in
        ap (λ (m : ℕ). get_or (labels_to s n ++ (label_at s n ∷ [])) m []) q ∙ get_or-append_seam (labels_to s n) (label_at s n) [] [] ∙ ap (label_at s) (sym p)

-- ---- the first that is the same
module _ (ls : List (List ℕ)) (l : List ℕ) (i j : ℕ) where
  one_on : j < i → same_from ls l j (i - j) ≡ cond (same (get_or ls j []) l) j (same_from ls l (suc j) (i - (j + 1)))
  unfolding same_from
  one_on h = let d : i - j ≡ suc (i - (j + 1)) = omega arith in rw d refl

  pub found : {R : ℕ} → j < i → same_from ls l j (i - j) ≡ R → same (get_or ls j []) l ≡ true → j ≡ R
  found h e t = sym (rw t at (one_on h)) ∙ e

  pub passed : {R : ℕ} → j < i → same_from ls l j (i - j) ≡ R → same (get_or ls j []) l ≡ false → same_from ls l (j + 1) (i - (j + 1)) ≡ R
  passed h e t = rw (add-one j) (sym (rw (t, add-one j) at (one_on h)) ∙ e)

  pub none_found : {R : ℕ} → j ≡ i → same_from ls l j (i - j) ≡ R → j ≡ R
  unfolding same_from
  none_found h e = let d : i - j ≡ zero = omega arith in rw d at e

pub from_first : (ls : List (List ℕ)) (i : ℕ) → same_from ls (get_or ls i []) 0 (i - 0) ≡ first_same ls i
unfolding first_same
from_first ls i = let d : i - 0 ≡ i = omega arith in rw d refl

module _ (ls : List (List ℕ)) (i j : ℕ) (is : j ≡ first_same ls i) where
  pub twice_text : j < i → bytes "twice\t" ++ (dec_text 4 (j + 2) ++ number_text (bytes "\t") (i + 2)) ≡ faults_text (twice_at ls i)
  unfolding twice_at
  twice_text h = rw (← is, lt-ltb j i h) (one_text (twice (j + 2) (i + 2)))

  pub once_text : i ≤ j → [] ≡ faults_text (twice_at ls i)
  unfolding twice_at
  once_text h = rw (← is, le-ltb j i h) no_text
