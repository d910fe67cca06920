-- Lines come out of an input as they were written into it, and fields out of a line. Assumes nothing.
use mathlib.Core.Path.{◌≡◌, refl, ap, ◌∙◌}
use mathlib.Core.Bool.{Bool, true, false, cond}
use mathlib.Core.List.{List, [], ◌∷◌, ◌++◌, append_assoc}
use Prim.Native.Nat.{ℕ, zero, suc, ◌+◌, ◌/◌, ◌%◌, ◌≤◌, ◌<◌}
use native.Mathlib.Omega.{arith}
use borrow.Author.Tests.{ne_eqb, eqb-false}
use lib.Dec.{T, ltb, eqb}
use Rattle.text.specs.Text.{LF, TAB, onto, fields_of, glyph_of, hex_text, dec_text}
use Rattle.lines_machine.specs.Program.{lines_of}

-- no byte of a text is b
abbrev pub Free : ℕ → List ℕ → Type 0
Free b [] = Unit
Free b (a ∷ l) = (a ≡ b → ⊥) × Free b l

pub free_append : (b : ℕ) (s t : List ℕ) → Free b s → Free b t → Free b (s ++ t)
free_append b [] t p q = q
free_append b (a ∷ s) t p q = (p.0, free_append b s t p.1 q)

-- the same by a test, for texts that are written out
unfoldable pub freeb : ℕ → List ℕ → Bool
freeb b [] = true
freeb b (a ∷ s) = cond (eqb a b) false (freeb b s)

pub free_of : (b : ℕ) (s : List ℕ) → T (freeb b s) → Free b s
unfolding freeb
free_of b [] h = tt
free_of b (a ∷ s) h = go (eqb a b) refl h (free_of b s)
  where
    go : (t : Bool) → eqb a b ≡ t → T (cond t false (freeb b s)) → (T (freeb b s) → Free b s) → (a ≡ b → ⊥) × Free b s
    go true e h ih = absurd h
    go false e h ih = (eqb-false a b e, ih h)

pub line_ended : (l x : List ℕ) → Free LF l → lines_of (l ++ (LF ∷ x)) ≡ l ∷ lines_of x
unfolding lines_of onto
line_ended [] x p = refl
line_ended (b ∷ l) x p = rw (ne_eqb b LF p.0, line_ended l x p.1) refl

-- the same where the line's LF was written before what comes after was joined to it
pub broken : (l x : List ℕ) → Free LF l → lines_of ((l ++ (LF ∷ [])) ++ x) ≡ l ∷ lines_of x
broken l x p = ap lines_of (append_assoc l (LF ∷ []) x) ∙ line_ended l x p

-- the last line may lack its LF
pub line_last : (b : ℕ) (l : List ℕ) → Free LF (b ∷ l) → lines_of (b ∷ l) ≡ (b ∷ l) ∷ []
unfolding lines_of onto
line_last b [] p = rw (ne_eqb b LF p.0) refl
line_last b (a ∷ l) p = rw (ne_eqb b LF p.0, line_last a l p.1) refl

-- ---- digits
glyph_high : (d : ℕ) → 48 ≤ glyph_of d
glyph_high d = go (ltb d 10) refl
  where
    go : (t : Bool) → ltb d 10 ≡ t → 48 ≤ glyph_of d
    go true e = rw e (omega arith)
    go false e = rw e (omega arith)

-- a digit is neither tab nor LF
pub free_hex : (b k n : ℕ) → b < 48 → Free b (hex_text k n)
unfolding hex_text
free_hex b zero n h = tt
free_hex b (suc k) n h =
    free_append b (hex_text k (n / 16)) (glyph_of (n % 16) ∷ []) (free_hex b k (n / 16) h)
    ((λ e. let z : 48 ≤ glyph_of (n % 16) = glyph_high (n % 16) in omega arith), tt)

-- nor is a decimal
pub free_dec : (b k n : ℕ) → b < 48 → Free b (dec_text k n)
unfolding dec_text
free_dec b zero n h = ((λ e. omega arith), tt)
free_dec b (suc k) n h = go (ltb n 10) (free_dec b k (n / 10) h)
  where
    go : (t : Bool) → Free b (dec_text k (n / 10)) → Free b (cond t ((48 + n) ∷ []) (dec_text k (n / 10) ++ ((48 + n % 10) ∷ [])))
    go true ih = ((λ e. omega arith), tt)
    go false ih = free_append b (dec_text k (n / 10)) ((48 + n % 10) ∷ []) ih ((λ e. omega arith), tt)

-- ---- fields
pub field_ended : (s x : List ℕ) → Free TAB s → fields_of (s ++ (TAB ∷ x)) ≡ s ∷ fields_of x
unfolding fields_of onto
field_ended [] x p = refl
field_ended (b ∷ s) x p = rw (ne_eqb b TAB p.0, field_ended s x p.1) refl

pub field_last : (s : List ℕ) → Free TAB s → fields_of s ≡ s ∷ []
unfolding fields_of onto
field_last [] p = refl
field_last (b ∷ s) p = rw (ne_eqb b TAB p.0, field_last s p.1) refl
