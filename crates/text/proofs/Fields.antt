-- The fields of a line, its first tab, and how many fields there are. Assumes nothing.
use mathlib.Core.Path.{◌≡◌, refl}
use mathlib.Core.Bool.{Bool, true, false, cond}
use mathlib.Core.List.{List, [], ◌∷◌}
use Prim.Native.Nat.{ℕ, suc, ◌≤◌, ◌<◌}
use native.Mathlib.Omega.{arith}
use lib.Dec.{eqb}
use lib.ListN.{length, take, drop}
use Rattle.std.proofs.Common.{Option, Some, None, unwrap_or, option_map}
use Rattle.std.specs.List.{slice_split, onto_first}
use Rattle.text.specs.Text.{TAB, onto, fields_of, place_of, tab_of}

-- the fields are the parts that `split` cuts at each tab
same_onto : (b : ℕ) (fs : List (List ℕ)) → onto_first b fs ≡ onto b fs
unfolding onto
same_onto b [] = refl
same_onto b (f ∷ fs) = refl

pub fields_is : (s : List ℕ) → fields_of s ≡ slice_split (λ b. eqb b TAB) s
unfolding fields_of
fields_is [] = refl
fields_is (b ∷ s) = rw (fields_is s, same_onto b (slice_split (λ x. eqb x TAB) s)) refl

-- a line without a tab is one field
pub fields_one : (s : List ℕ) → length s ≤ tab_of s → fields_of s ≡ s ∷ []
unfolding fields_of place_of onto
fields_one [] h = refl
fields_one (b ∷ s) h = go (eqb b TAB) refl (fields_one s)
  where
    go : (t : Bool) → eqb b TAB ≡ t → (length s ≤ tab_of s → fields_of s ≡ s ∷ []) → fields_of (b ∷ s) ≡ (b ∷ s) ∷ []
    go true e ih = let z : suc (length s) ≤ 0 = rw e at h in absurd (omega arith)
    go false e ih =
        let z : suc (length s) ≤ suc (tab_of s) = rw e at h in
        let w : fields_of s ≡ s ∷ [] = ih (omega arith) in
        rw (e, w) refl

-- the first field stands before the first tab, the others after it
pub fields_more : (s : List ℕ) → tab_of s < length s → fields_of s ≡ take (tab_of s) s ∷ fields_of (drop (suc (tab_of s)) s)
unfolding fields_of place_of onto
fields_more [] h = absurd (omega arith)
fields_more (b ∷ s) h = go (eqb b TAB) refl (fields_more s)
  where
    go : (t : Bool) → eqb b TAB ≡ t → (tab_of s < length s → fields_of s ≡ take (tab_of s) s ∷ fields_of (drop (suc (tab_of s)) s))
        → fields_of (b ∷ s) ≡ take (tab_of (b ∷ s)) (b ∷ s) ∷ fields_of (drop (suc (tab_of (b ∷ s))) (b ∷ s))
    go true e ih = rw e refl
    go false e ih =
        let z : suc (tab_of s) < suc (length s) = rw e at h in
        let w : fields_of s ≡ take (tab_of s) s ∷ fields_of (drop (suc (tab_of s)) s) = ih (omega arith) in
        rw (e, w) refl

-- ---- how many fields there are
-- a line has one at least
pub some : (s : List ℕ) → 1 ≤ length (fields_of s)
unfolding fields_of onto
some [] = omega arith
some (b ∷ s) = go (eqb b TAB) (fields_of s)
  where
    go : (t : Bool) (fs : List (List ℕ)) → 1 ≤ length (cond t ([] ∷ fs) (onto b fs))
    go true fs = omega arith
    go false [] = omega arith
    go false (f ∷ fs) = omega arith

-- ---- a field by its number
pub unwrap_map : {X Y : Type 0} (v : X → Y) (r : Option X) (d : X) → v (unwrap_or r d) ≡ unwrap_or (option_map v r) (v d)
unwrap_map v None d = refl
unwrap_map v (Some x) d = refl
