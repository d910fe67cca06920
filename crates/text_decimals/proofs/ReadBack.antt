-- Decimals that were printed read back as the number. Assumes nothing.
use Rattle.std.specs.Prelude.{Some}
use mathlib.Core.Path.{◌≡◌, refl, sym, ap, ◌∙◌}
use mathlib.Core.Bool.{Bool, true, false, cond}
use mathlib.Core.List.{List, [], ◌∷◌, ◌++◌, append_assoc, append-nil}
use Prim.Native.Nat.{ℕ, zero, suc, ◌+◌, ◌*◌, ◌/◌, ◌%◌, ◌≤◌, ◌<◌, ◌^◌}
use native.Mathlib.Nat.{pow-suc, pow-le-pow_right, div-lt_iff_lt-mul}
use native.Mathlib.Omega.{arith}
use borrow.Author.Tests.{ltb-true, ltb-false, ne_eqb}
use lib.Dec.{ltb}
use lib.ListN.{length, length-append}
use Rattle.text.specs.Text.{dec_text}
use Rattle.text_decimals.specs.Decimals.{digit_in, digits_of, number_in}
use Rattle.text_decimals.proofs.Digits.{digit_is, number_is}

-- one digit more
digit_cons : (m d : ℕ) (s : List ℕ) → d < 10 → digits_of m ((48 + d) ∷ s) ≡ digits_of (m * 10 + d) s
unfolding digits_of
digit_cons m d s h =
    let i : digit_in (48 + d) ≡ d = sym (digit_is (48 + d) (omega arith) (omega arith)) ∙ omega arith in
    let k : d ≡ 10 → ⊥ = λ e. omega arith in
    rw (i, ne_eqb d 10 k) refl

less : (n k : ℕ) → n < 10 ^ suc (suc k) → n / 10 < 10 ^ suc k
less n k h = (div-lt_iff_lt-mul {k = 10} {x = n} {y = 10 ^ suc k} (omega arith)).1 (rw (pow-suc 10 (suc k)) at h)

digits_back : (k n : ℕ) (s : List ℕ) → n < 10 ^ suc k → digits_of 0 (dec_text k n ++ s) ≡ digits_of n s
unfolding dec_text
digits_back zero n s h = digit_cons 0 n s (omega arith) ∙ ap (λ (x : ℕ). digits_of x s) (omega arith)
digits_back (suc k) n s h = go (ltb n 10) refl (digits_back k (n / 10) ((48 + n % 10) ∷ s) (less n k h))
  where
    go : (t : Bool) → ltb n 10 ≡ t → digits_of 0 (dec_text k (n / 10) ++ ((48 + n % 10) ∷ s)) ≡ digits_of (n / 10) ((48 + n % 10) ∷ s)
        → digits_of 0 (cond t ((48 + n) ∷ []) (dec_text k (n / 10) ++ ((48 + n % 10) ∷ [])) ++ s) ≡ digits_of n s
    go true e ih = digit_cons 0 n s (ltb-true n 10 e) ∙ ap (λ (x : ℕ). digits_of x s) (omega arith)
    go false e ih =
        ap (digits_of 0) (append_assoc (dec_text k (n / 10)) ((48 + n % 10) ∷ []) s)
        ∙ ih
        ∙ digit_cons (n / 10) (n % 10) s (omega arith)
        ∙ ap (λ (x : ℕ). digits_of x s) (omega arith)

-- a number below 10^(j + 1) has at most j + 1 digits
dec_some : (k n : ℕ) → 1 ≤ length (dec_text k n)
unfolding dec_text
dec_some zero n = omega arith
dec_some (suc k) n = go (ltb n 10)
  where
    go : (t : Bool) → 1 ≤ length (cond t ((48 + n) ∷ []) (dec_text k (n / 10) ++ ((48 + n % 10) ∷ [])))
    go true = omega arith
    go false = simp length-append (omega arith)

dec_few : (k j n : ℕ) → n < 10 ^ suc j → length (dec_text k n) ≤ suc j
unfolding dec_text
dec_few zero j n h = omega arith
dec_few (suc k) zero n h = go (ltb n 10) refl
  where
    go : (t : Bool) → ltb n 10 ≡ t → length (cond t ((48 + n) ∷ []) (dec_text k (n / 10) ++ ((48 + n % 10) ∷ []))) ≤ 1
    go true e = omega arith
    go false e = absurd (omega (arith, ltb-false n 10 e))
dec_few (suc k) (suc j) n h = go (ltb n 10) (dec_few k j (n / 10) (less n j h))
  where
    go : (t : Bool) → length (dec_text k (n / 10)) ≤ suc j → length (cond t ((48 + n) ∷ []) (dec_text k (n / 10) ++ ((48 + n % 10) ∷ []))) ≤ suc (suc j)
    go true ih = omega arith
    go false ih = simp length-append (omega arith)

-- a number of at most j + 1 digits, printed with room for more, is read by those digits
pub number_back : (k j n : ℕ) → j ≤ k → n < 10 ^ suc j → number_in (suc j) (dec_text k n) ≡ Some n
unfolding digits_of
number_back k j n l h =
    let wide : 10 ^ suc j ≤ 10 ^ suc k = pow-le-pow_right {n = 10} (omega arith) {i = suc j} {j = suc k} (omega arith) in
    number_is (suc j) (dec_text k n) (dec_some k n) (dec_few k j n h)
    ∙ ap (digits_of 0) (sym (append-nil (dec_text k n)))
    ∙ digits_back k n [] (omega arith)

-- it has few bytes, and each is a digit
pub dec_length : (k j n : ℕ) → n < 10 ^ suc j → length (dec_text k n) ≤ suc j
dec_length k j n h = dec_few k j n h
