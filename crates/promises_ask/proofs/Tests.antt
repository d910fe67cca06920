-- How many bytes are compared to tell which labels stand twice: each label is compared with those before it, up to the first that is the same, and two
-- labels of one length byte by byte, up to the first that differs. So row i takes at most 16 × i tests. Assumes nothing.
use mathlib.Core.Path.{◌≡◌}
use mathlib.Core.Bool.{Bool, true, false, cond}
use mathlib.Core.List.{List, [], ◌∷◌}
use Prim.Native.Nat.{ℕ, zero, suc, ◌+◌, ◌*◌, ◌≤◌}
use native.Mathlib.Nat.{mul-le-mul}
use native.Mathlib.Omega.{arith}
use lib.Dec.{eqb}
use lib.IntN.{ℤ}
use lib.ListN.{length, get_or}
use Rattle.text.specs.Text.{same}
use Rattle.ask_sheet.specs.declared.Kind.{Kind}
use Rattle.ask_sheet.specs.Sheet.{on}
use Rattle.promises_ask.proofs.Reading.{sheet_read, Short, short_at, read_modest}

-- two texts of one length, byte by byte up to the first that differs
unfoldable pub bytes_tested : List ℕ → List ℕ → ℕ
bytes_tested [] w = 0
bytes_tested (a ∷ s) [] = 0
bytes_tested (a ∷ s) (b ∷ w) = suc (cond (eqb a b) (bytes_tested s w) 0)

-- two labels: their lengths first
abbrev pub pair_tests : List ℕ → List ℕ → ℕ
pair_tests a b = cond (eqb (length a) (length b)) (bytes_tested a b) 0

-- of k labels from j on, up to the first that is l
unfoldable pub search_tests : List (List ℕ) → List ℕ → ℕ → ℕ → ℕ
search_tests ls l j zero = 0
search_tests ls l j (suc k) = pair_tests (get_or ls j []) l + cond (same (get_or ls j []) l) 0 (search_tests ls l (suc j) k)

-- of every row before n, among those before it
unfoldable pub label_tests : List (List ℕ) → ℕ → ℕ
label_tests ls zero = 0
label_tests ls (suc i) = label_tests ls i + search_tests ls (get_or ls i []) 0 i

tested_few : (a b : List ℕ) → bytes_tested a b ≤ length a
unfolding bytes_tested
tested_few [] b = omega arith
tested_few (x ∷ a) [] = omega arith
tested_few (x ∷ a) (y ∷ b) = go (eqb x y) (tested_few a b)
  where
    go : (t : Bool) → bytes_tested a b ≤ length a → suc (cond t (bytes_tested a b) 0) ≤ suc (length a)
    go true h = omega (arith, h)
    go false h = omega arith

pair_few : (a b : List ℕ) → pair_tests a b ≤ length a
pair_few a b = go (eqb (length a) (length b))
  where
    go : (t : Bool) → cond t (bytes_tested a b) 0 ≤ length a
    go true = tested_few a b
    go false = omega arith

search_few : (ls : List (List ℕ)) → Short ls → (l : List ℕ) (j k : ℕ) → search_tests ls l j k ≤ 16 * k
unfolding search_tests
search_few ls s l j zero = omega arith
search_few ls s l j (suc k) = go (same (get_or ls j []) l) (search_few ls s l (suc j) k)
  where
    go : (t : Bool) → search_tests ls l (suc j) k ≤ 16 * k → pair_tests (get_or ls j []) l + cond t 0 (search_tests ls l (suc j) k) ≤ 16 * suc k
    go true h = omega (arith, pair_few (get_or ls j []) l, short_at ls s j)
    go false h = omega (arith, pair_few (get_or ls j []) l, short_at ls s j, h)

label_few : (ls : List (List ℕ)) → Short ls → (n : ℕ) → label_tests ls n + 8 * n ≤ 8 * (n * n)
unfolding label_tests
label_few ls s zero = omega arith
label_few ls s (suc i) =
    let h = label_few ls s i in
    let k = search_few ls s (get_or ls i []) 0 i in
    let e : suc i * suc i ≡ i * i + 2 * i + 1 = omega arith in
    omega (arith, h, k, e)

-- whatever the sheet: 16 times 4,096 × 4,095 / 2
pub labels_compared : (lines : List (List ℕ)) (k : Kind) (z : List ℤ) (ls : List (List ℕ)) → sheet_read lines ≡ on k z ls
    → label_tests ls (length z) ≤ 134184960
labels_compared lines k z ls e =
    let m = read_modest lines k z ls e in
    bound (length z) (label_tests ls (length z)) m.few (label_few ls m.short (length z))
  where
    -- n × (n − 1) is 4,096 × 4,095 at most
    bound : (n t : ℕ) → n ≤ 4096 → t + 8 * n ≤ 8 * (n * n) → t ≤ 134184960
    bound zero t h l = omega (arith, l)
    bound (suc n) t h l =
        let m : n ≤ 4095 = omega (arith, h) in
        let p : suc n * n ≤ 4096 * 4095 = mul-le-mul h m in
        let q : suc n * suc n ≡ suc n * n + suc n = omega arith in
        omega (arith, l, p, q)
