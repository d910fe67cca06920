-- Words, places and digits: what the library's calls answer, in this crate's words. Assumes nothing.
use Rattle.std.specs.Prelude.{Some, None}
use Rattle.std.proofs.Common.{◌≡◌, refl, sym, ap, ◌∙◌, cond, List, [], ◌∷◌, ℕ, suc, ◌+◌, ◌*◌, ◌-◌, ◌≤◌, ◌<◌, ◌^◌}
use Rattle.std.proofs.Common.{pow-suc, add-one, arith, eq-eqb, ne_eqb, eqb, nat_eq, length, drop, get_or, drop-cons}
use native.Mathlib.Nat.{pow-le-pow_right}
use lib.Seq.{drop-length}
use borrow.Author.Tests.{lt-leb}
use Rattle.std.proofs.Common.{le-leb, Option, MatchOption, HoldsAt, unwrap_or, ◌≢◌}
use lib.Pointwise.{pointwise}
use Rattle.std.specs.List.{AllWithin}
use Rattle.std.proofs.lemmas.Iterator.{index_from_first}
use Rattle.text.specs.Text.{same, digit_of, value_of, hex_of, place_of}

-- `==` of two slices is the test of words
pub same_is : (s w : List ℕ) → same s w ≡ pointwise nat_eq s w
unfolding same
same_is [] [] = refl
same_is [] (b ∷ w) = refl
same_is (a ∷ s) [] = refl
same_is (a ∷ s) (b ∷ w) = rw (same_is s w) refl

-- ---- digits
value_at : (n : ℕ) (s : List ℕ) (i : ℕ) → i < length s
    → value_of n (drop i s) ≡ cond (eqb (digit_of (get_or s i 0)) 16) None (value_of (n * 16 + digit_of (get_or s i 0)) (drop (i + 1) s))
unfolding value_of
value_at n s i h = rw (add-one i, drop-cons s i 0 h) refl

pub value_step : (n d : ℕ) (s : List ℕ) (i : ℕ) → i < length s → d ≡ digit_of (get_or s i 0) → (d ≡ 16 → ⊥)
    → value_of (n * 16 + d) (drop (i + 1) s) ≡ value_of n (drop i s)
value_step n d s i h e k = sym (value_at n s i h ∙ rw (← e) (simp (ne_eqb d 16 k)))

pub value_stop : (n : ℕ) (s : List ℕ) (i : ℕ) → i < length s → digit_of (get_or s i 0) ≡ 16 → value_of n (drop i s) ≡ None
value_stop n s i h e = value_at n s i h ∙ simp (eq-eqb _ 16 e)

pub value_done : (n : ℕ) (s : List ℕ) (i : ℕ) → i ≤ length s → length s ≤ i → value_of n (drop i s) ≡ Some n
unfolding value_of
value_done n s i h k =
    let p : i ≡ length s = omega arith in
    ap (λ (l : List ℕ). value_of n l) (ap (λ (j : ℕ). drop j s) p ∙ drop-length s)

pub hex_is : (s : List ℕ) → length s ≡ 16 → hex_of s ≡ value_of 0 s
unfolding hex_of
hex_is s h = simp (eq-eqb (length s) 16 h)

pub hex_not : (s : List ℕ) → (length s ≡ 16 → ⊥) → hex_of s ≡ None
unfolding hex_of
hex_not s h = simp (ne_eqb (length s) 16 h)

-- ---- a place
-- what `position` finds, or the length
pub place_found : (b : ℕ) (s : List ℕ) (r : Option ℕ)
    → MatchOption r (AllWithin (λ x. x ≢ b) s 0 (length s)) (λ i. (i < length s) × HoldsAt (λ x. x ≡ b) s i × AllWithin (λ x. x ≢ b) s 0 i)
    → unwrap_or r (length s) ≡ place_of b s
unfolding place_of
place_found b s r h = sym (index_from_first (place_of b) (λ x. x ≡ b) (λ x. x ≢ b) refl (λ x xs e. simp (eq-eqb x b e))
    (λ x xs e. rw (ne_eqb x b e) (sym (add-one _))) s r h)

-- ---- a digit
pub digit_below : (b : ℕ) → b < 48 → 16 ≡ digit_of b
digit_below b h = simp (lt-leb 48 b h, lt-leb 65 b (omega arith))

pub digit_number : (b : ℕ) → 48 ≤ b → b ≤ 57 → b - 48 ≡ digit_of b
digit_number b h k = simp (le-leb 48 b h, le-leb b 57 k)

pub digit_between : (b : ℕ) → 57 < b → b < 65 → 16 ≡ digit_of b
digit_between b h k = simp (le-leb 48 b (omega arith), lt-leb b 57 h, lt-leb 65 b k)

pub digit_letter : (b : ℕ) → 65 ≤ b → b ≤ 70 → b - 55 ≡ digit_of b
digit_letter b h k = simp (le-leb 48 b (omega arith), lt-leb b 57 (omega arith), le-leb 65 b h, le-leb b 70 k)

pub digit_above : (b : ℕ) → 70 < b → 16 ≡ digit_of b
digit_above b h = simp (le-leb 48 b (omega arith), lt-leb b 57 (omega arith), le-leb 65 b (omega arith), lt-leb b 70 h)

-- ---- room for one more digit
pub grow16 : (n i d : ℕ) → n < 16 ^ i → d < 16 → n * 16 + d < 16 ^ (i + 1)
grow16 n i d h k = rw (add-one i, pow-suc 16 i) (omega arith)

pub room16 : (n i : ℕ) → n < 16 ^ i → i < 16 → n * 16 + 15 < 2 ^ 64
room16 n i h k =
    let p : 16 ^ i * 16 ≤ 16 ^ 16 = rw (pow-suc 16 i) at (pow-le-pow_right {n = 16} (omega arith) {i = suc i} {j = 16} k) in
    omega arith
