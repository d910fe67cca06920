-- A line none of whose fields is a pattern is printed as it is. Assumes nothing.
use Rattle.std.specs.Prelude.{None}
use mathlib.Core.Path.{◌≡◌, refl, sym, ap, ◌∙◌}
use mathlib.Core.Bool.{Bool, true, false, cond}
use mathlib.Core.List.{List, [], ◌∷◌, ◌++◌}
use Prim.Native.Nat.{ℕ}
use borrow.Author.Tests.{eqb-true}
use lib.Dec.{eqb}
use Rattle.text.specs.Text.{TAB, LF, onto, fields_of, hex_of}
use Rattle.lines_machine.specs.Program.{so}
use Rattle.decimals.specs.Decimals.{digits_in, shown_of, fields_text, shown_line}

-- no field is 16 uppercase hexadecimal digits
pub data Plain : List (List ℕ) → Type 0 where
  none : Plain []
  more : {f : List ℕ} {fs : List (List ℕ)} → hex_of f ≡ None → Plain fs → Plain (f ∷ fs)

-- texts with tabs between them
tabbed : List (List ℕ) → List ℕ
tabbed [] = []
tabbed (f ∷ []) = f
tabbed (f ∷ g ∷ fs) = f ++ (TAB ∷ tabbed (g ∷ fs))

tabbed_more : (f s : List ℕ) → tabbed (f ∷ fields_of s) ≡ f ++ (TAB ∷ tabbed (fields_of s))
unfolding tabbed fields_of onto
tabbed_more f [] = refl
tabbed_more f (b ∷ s) = go (eqb b TAB) (fields_of s)
  where
    go : (t : Bool) (fs : List (List ℕ)) → tabbed (f ∷ cond t ([] ∷ fs) (onto b fs)) ≡ f ++ (TAB ∷ tabbed (cond t ([] ∷ fs) (onto b fs)))
    go true fs = refl
    go false [] = refl
    go false (g ∷ gs) = refl

tabbed_onto : (b : ℕ) (fs : List (List ℕ)) → tabbed (onto b fs) ≡ b ∷ tabbed fs
unfolding tabbed onto
tabbed_onto b [] = refl
tabbed_onto b (t ∷ []) = refl
tabbed_onto b (t ∷ g ∷ gs) = refl

fields_tabbed : (s : List ℕ) → tabbed (fields_of s) ≡ s
unfolding tabbed fields_of
fields_tabbed [] = refl
fields_tabbed (b ∷ s) = go (eqb b TAB) refl (fields_tabbed s)
  where
    go : (t : Bool) → eqb b TAB ≡ t → tabbed (fields_of s) ≡ s → tabbed (cond t ([] ∷ fields_of s) (onto b (fields_of s))) ≡ b ∷ s
    go true e ih = tabbed_more [] s ∙ ap (λ (x : ℕ). x ∷ tabbed (fields_of s)) (sym (eqb-true b TAB e)) ∙ ap (λ (l : List ℕ). b ∷ l) ih
    go false e ih = tabbed_onto b (fields_of s) ∙ ap (λ (l : List ℕ). b ∷ l) ih

plain_fields : (d : ℕ) (fs : List (List ℕ)) → Plain fs → fields_text d fs ≡ tabbed fs
unfolding fields_text tabbed
plain_fields d [] p = refl
plain_fields d (f ∷ []) (more e p) = ap (shown_of d f) e
plain_fields d (f ∷ g ∷ fs) (more e p) =
    ap (λ (t : List ℕ). t ++ (TAB ∷ fields_text d (g ∷ fs))) (ap (shown_of d f) e) ∙ ap (λ (t : List ℕ). f ++ (TAB ∷ t)) (plain_fields d (g ∷ fs) p)

pub plain_line : (l : List ℕ) → Plain (fields_of l) → shown_line (so l) ≡ l ++ (LF ∷ [])
unfolding shown_line
plain_line l p = ap (λ (t : List ℕ). t ++ (LF ∷ [])) (plain_fields (digits_in (fields_of l)) (fields_of l) p ∙ fields_tabbed l)
