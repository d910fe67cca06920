-- A line of one field or of two is read, and no other; and a line that stands in the lent 64. Assumes nothing.
use mathlib.Core.Path.{◌≡◌, refl, ◌∙◌}
use mathlib.Core.Bool.{Bool, cond}
use mathlib.Core.List.{List, [], ◌∷◌}
use Prim.Native.Nat.{ℕ, ◌-◌, ◌≤◌, ◌<◌}
use native.Mathlib.Omega.{arith}
use borrow.Author.Tests.{le-leb, lt-leb}
use lib.ListN.{length, take, get_or}
use Rattle.text.specs.Text.{bytes, same, fields_of}
use Rattle.lines_machine.specs.Program.{widest}
use Rattle.compare_lines.specs.declared.CompareRecord.TheVariants.{Other, Bad}
use Rattle.compare_lines.specs.CompareRecord.{meaning_of, of_fields, said_of}
use Rattle.compare_lines.specs.Listings.{says}

pub one_field : (l : List ℕ) → length (fields_of l) ≡ 1 → {w : List ℕ} {b : Bool} → w ≡ get_or (fields_of l) 0 [] → b ≡ same w (bytes "other")
    → said_of l ≡ cond b Other Bad
unfolding said_of of_fields
one_field l h e f = go (fields_of l) h ∙ rw (f, e) refl
  where
    go : (fs : List (List ℕ)) → length fs ≡ 1 → of_fields fs ≡ cond (same (get_or fs 0 []) (bytes "other")) Other Bad
    go [] h = absurd (omega arith)
    go (w ∷ []) h = refl
    go (w ∷ s ∷ ts) h = absurd (omega arith)

pub two_fields : (l : List ℕ) → length (fields_of l) ≡ 2 → meaning_of (get_or (fields_of l) 0 []) (get_or (fields_of l) 1 []) ≡ said_of l
unfolding said_of of_fields
two_fields l h = go (fields_of l) h
  where
    go : (fs : List (List ℕ)) → length fs ≡ 2 → meaning_of (get_or fs 0 []) (get_or fs 1 []) ≡ of_fields fs
    go [] h = absurd (omega arith)
    go (w ∷ []) h = absurd (omega arith)
    go (w ∷ s ∷ []) h = refl
    go (w ∷ s ∷ t ∷ ts) h = absurd (omega arith)

pub no_record : (l : List ℕ) → (length (fields_of l) ≡ 1 → ⊥) → (length (fields_of l) ≡ 2 → ⊥) → said_of l ≡ Bad
unfolding said_of of_fields
no_record l h k = go (fields_of l) h k
  where
    go : (fs : List (List ℕ)) → (length fs ≡ 1 → ⊥) → (length fs ≡ 2 → ⊥) → of_fields fs ≡ Bad
    go [] h k = refl
    go (w ∷ []) h k = absurd (h refl)
    go (w ∷ s ∷ []) h k = absurd (k refl)
    go (w ∷ s ∷ t ∷ ts) h k = refl
