-- What `position` finds, in the words of a function that counts the items before the first that passes. Assumes nothing.
use Rattle.std.proofs.Common.{◌≡◌, sym, ℕ, ◌+◌, ◌<◌, List, [], ◌∷◌, length, Option, Some, None, MatchOption, HoldsAt, unwrap_or}
use Rattle.std.specs.Bool.{⊤}
use Rattle.std.specs.List.{AllWithin}
use Rattle.std.proofs.lemmas.Iterator.{index_from_first}
use Rattle.error.specs.Found.{Found}

-- the first fact is what `IsFirst-from_position` concludes; n is the function
pub found_first : {X : Type 0} (n : List X → ℕ) (Yes No : X → Type 0) (none : n [] ≡ 0) (hit : (x : X) (xs : List X) → Yes x → n (x ∷ xs) ≡ 0)
    (miss : (x : X) (xs : List X) → No x → n (x ∷ xs) ≡ n xs + 1) → (xs : List X) (r : Option ℕ)
    → MatchOption r (AllWithin No xs 0 (length xs)) (λ i. (i < length xs) × HoldsAt Yes xs i × AllWithin No xs 0 i)
    → Found (length xs) (n xs) r
found_first n Yes No none hit miss xs r h = go r (inside r h) (index_from_first n Yes No none hit miss xs r h)
  where
    go : (r : Option ℕ) → MatchOption r ⊤ (λ i. i < length xs) → n xs ≡ unwrap_or r (length xs) → Found (length xs) (n xs) r
    go None l e = e
    go (Some i) l e = (sym e, l)

    inside : (r : Option ℕ) → MatchOption r (AllWithin No xs 0 (length xs)) (λ i. (i < length xs) × HoldsAt Yes xs i × AllWithin No xs 0 i)
        → MatchOption r ⊤ (λ i. i < length xs)
    inside None h = tt
    inside (Some i) h = h.0
