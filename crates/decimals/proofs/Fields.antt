-- The cases of the code: a field, the fields behind one, a line. Assumes nothing.
use Rattle.std.specs.Prelude.{Some, None, Option, ℕ}
use mathlib.Core.Path.{◌≡◌, refl, sym, ap, ◌∙◌, subst}
use mathlib.Core.Bool.{Bool, true, false, cond}
use mathlib.Core.List.{List, [], ◌∷◌, ◌++◌, append_assoc}
use Prim.Native.Nat.{ℕ, suc, ◌+◌, ◌-◌, ◌≤◌, ◌<◌}
use native.Mathlib.Numerals.{add-one}
use native.Mathlib.Omega.{arith}
use borrow.Author.Tests.{le-leb, lt-leb, leb-true, leb-false, eqb-true}
use lib.Dec.{eqb, leb}
use lib.ListN.{length, take, drop, length-drop}
use lib.Seq.{take_all}
use Rattle.text.specs.Text.{bytes, TAB, LF, same, onto, fields_of, tab_of, value_of, hex_of, dec_text}
use Rattle.text.proofs.Fields.{fields_one, fields_more}
use Rattle.text_rounded.specs.Rounded.{rounded_text}
use Rattle.decimals.specs.Decimals.{digits_for, digits_in, field_text, fields_text, shown_line}

-- ---- the words
module _ (w : List ℕ) where
  pub by_place : {a : Bool} → a ≡ same w (bytes "place") → a ≡ true → 6 ≡ digits_for w
  unfolding digits_for
  by_place e h = rw (← e, h) refl

  pub by_at : {a b : Bool} → a ≡ same w (bytes "place") → a ≡ false → b ≡ same w (bytes "at") → b ≡ true → 6 ≡ digits_for w
  unfolding digits_for
  by_at e h f k = rw (← e, h, ← f, k) refl

  pub by_claim : {a b c : Bool} → a ≡ same w (bytes "place") → a ≡ false → b ≡ same w (bytes "at") → b ≡ false → c ≡ same w (bytes "claim") → c ≡ true
      → 6 ≡ digits_for w
  unfolding digits_for
  by_claim e h f k g l = rw (← e, h, ← f, k, ← g, l) refl

  pub by_none : {a b c : Bool} → a ≡ same w (bytes "place") → a ≡ false → b ≡ same w (bytes "at") → b ≡ false → c ≡ same w (bytes "claim") → c ≡ false
      → 3 ≡ digits_for w
  unfolding digits_for
  by_none e h f k g l = rw (← e, h, ← f, k, ← g, l) refl

-- ---- a field
-- only 16 bytes say a number
pub sixteen : (s : List ℕ) (n : ℕ) {h : Option ℕ} → h ≡ hex_of s → h ≡ Some n → length s ≡ 16
unfolding hex_of
sixteen s n e f = go (eqb (length s) 16) refl (sym e ∙ f)
  where
    go : (t : Bool) → eqb (length s) 16 ≡ t → cond t (value_of 0 s) None ≡ Some n → length s ≡ 16
    go true p q = eqb-true (length s) 16 p
    go false p q = let z : ◌≡◌ {A = ℕ} 0 1 = cc in absurd (omega arith)

-- ---- fields
some_fields : (d : ℕ) (f s : List ℕ) → fields_text d (f ∷ fields_of s) ≡ field_text d f ++ (TAB ∷ fields_text d (fields_of s))
unfolding fields_text fields_of onto
some_fields d f [] = refl
some_fields d f (b ∷ s) = go (eqb b TAB) (fields_of s)
  where
    go : (t : Bool) (fs : List (List ℕ))
        → fields_text d (f ∷ cond t ([] ∷ fs) (onto b fs)) ≡ field_text d f ++ (TAB ∷ fields_text d (cond t ([] ∷ fs) (onto b fs)))
    go true fs = refl
    go false [] = refl
    go false (g ∷ gs) = refl

pub fields_last : (d k : ℕ) (s : List ℕ) → k ≡ tab_of s → length s ≤ k → field_text d (take (k - 0) s) ≡ fields_text d (fields_of s)
unfolding fields_text
fields_last d k s e h = rw (fields_one s (omega arith), take_all (k - 0) s (omega arith)) refl

pub fields_next : (d k : ℕ) (s : List ℕ) → k ≡ tab_of s → k < length s
    → field_text d (take (k - 0) s) ++ (TAB ∷ []) ++ fields_text d (fields_of (take (length s - (k + 1)) (drop (k + 1) s))) ≡ fields_text d (fields_of s)
fields_next d k s e h =
    let p : fields_of s ≡ take k s ∷ fields_of (drop (suc k) s) = rw e (fields_more s (omega arith)) in
    let z : k - 0 ≡ k = omega arith in
    let q : take (length s - (k + 1)) (drop (k + 1) s) ≡ drop (suc k) s =
    take_all (length s - (k + 1)) (drop (k + 1) s) (simp length-drop (omega arith)) ∙ ap (λ (x : ℕ). drop x s) (add-one k) in
    rw (z, q, p, some_fields d (take k s) (drop (suc k) s), append_assoc) refl

pub first_field : (s : List ℕ) (k d : ℕ) → k ≡ tab_of s → d ≡ digits_for (take (k - 0) s) → d ≡ digits_in (fields_of s)
first_field s k d e f = let z : k - 0 ≡ k = omega arith in f ∙ ap (λ (x : ℕ). digits_for (take x s)) z ∙ go (leb (length s) (tab_of s)) refl
  where
    go : (t : Bool) → leb (length s) (tab_of s) ≡ t → digits_for (take k s) ≡ digits_in (fields_of s)
    go true h = rw (fields_one s (leb-true (length s) (tab_of s) h), take_all k s (omega (arith, leb-true (length s) (tab_of s) h))) refl
    go false h = rw (fields_more s (leb-false (length s) (tab_of s) h), ← e) refl
