-- A line of two fields is read, and no other. Assumes nothing.
use mathlib.Core.Path.{◌≡◌, refl}
use mathlib.Core.List.{List, [], ◌∷◌}
use Prim.Native.Nat.{ℕ}
use native.Mathlib.Omega.{arith}
use lib.ListN.{length, get_or}
use Rattle.text.specs.Text.{fields_of}
use Rattle.lines_record.specs.declared.Record.TheVariants.{Bad}
use Rattle.lines_record.specs.Record.{word_of, meaning_of, of_fields, record_of}

pub two_fields : (l : List ℕ) → length (fields_of l) ≡ 2 → meaning_of (word_of (get_or (fields_of l) 0 [])) (get_or (fields_of l) 1 []) ≡ record_of l
unfolding record_of of_fields
two_fields l h = go (fields_of l) h
  where
    go : (fs : List (List ℕ)) → length fs ≡ 2 → meaning_of (word_of (get_or fs 0 [])) (get_or fs 1 []) ≡ of_fields fs
    go [] h = absurd (omega arith)
    go (w ∷ []) h = absurd (omega arith)
    go (w ∷ s ∷ []) h = refl
    go (w ∷ s ∷ t ∷ ts) h = absurd (omega arith)

pub no_record : (l : List ℕ) → (length (fields_of l) ≡ 2 → ⊥) → record_of l ≡ Bad
unfolding record_of of_fields
no_record l h = go (fields_of l) h
  where
    go : (fs : List (List ℕ)) → (length fs ≡ 2 → ⊥) → of_fields fs ≡ Bad
    go [] h = refl
    go (w ∷ []) h = refl
    go (w ∷ s ∷ []) h = absurd (h refl)
    go (w ∷ s ∷ t ∷ ts) h = refl
