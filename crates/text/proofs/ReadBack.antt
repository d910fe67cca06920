-- Hexadecimal digits and decimals read back as what was printed, and print back as what was read. Assumes nothing.
use Rattle.std.specs.Prelude.{Some, None}
use mathlib.Core.Path.{◌≡◌, refl, sym, ap, subst, ◌∙◌}
use mathlib.Core.Bool.{Bool, true, false, cond, not}
use mathlib.Core.List.{List, [], ◌∷◌, ◌++◌, append_assoc, append-nil}
use Prim.Native.Nat.{ℕ, zero, suc, ◌+◌, ◌*◌, ◌-◌, ◌/◌, ◌%◌, ◌<◌, ◌≤◌, ◌^◌}
use native.Mathlib.Nat.{pow-suc, pow-succ', mul_assoc, div-lt_iff_lt-mul, div-div-eq-div-mul}
use native.Mathlib.Omega.{arith}
use borrow.Author.Tests.{ltb-true, ltb-false, leb-true, leb-false, lt-ltb, le-ltb, eqb-false, eqb-true, ne_eqb}
use lib.Dec.{ltb, leb, eqb, T}
use lib.ListN.{length, length-append}
use lib.Ieee.{Float, to_bits, fits, is_nan, binary64}
use lib.Ieee.Bits.{to_bits-of_bits, of_bits-to_bits, to_bits-lt}
use Rattle.text.specs.Text.{digit_of, value_of, hex_of, glyph_of, hex_text, dec_text, double_of, double_text}
use Rattle.text.proofs.Words.{digit_below, digit_number, digit_between, digit_letter, digit_above, hex_is}

-- ---- printed, then read
digit_glyph : (d : ℕ) → d < 16 → digit_of (glyph_of d) ≡ d
digit_glyph d h = go (ltb d 10) refl
  where
    go : (b : Bool) → ltb d 10 ≡ b → digit_of (glyph_of d) ≡ d
    go true e = let k : d < 10 = ltb-true d 10 e in rw e (sym (digit_number (48 + d) (omega arith) (omega arith)) ∙ omega arith)
    go false e = let k : 10 ≤ d = ltb-false d 10 e in rw e (sym (digit_letter (55 + d) (omega arith) (omega arith)) ∙ omega arith)

pub length_hex : (k n : ℕ) → length (hex_text k n) ≡ k
unfolding hex_text
length_hex zero n = refl
length_hex (suc k) n = let e : length (hex_text k (n / 16)) ≡ k = length_hex k (n / 16) in simp length-append (omega arith)

value_cons : (m d : ℕ) (s : List ℕ) → d < 16 → value_of m (glyph_of d ∷ s) ≡ value_of (m * 16 + d) s
unfolding value_of
value_cons m d s h =
    let k : d ≡ 16 → ⊥ = λ e. omega arith in
    rw (digit_glyph d h, ne_eqb d 16 k) refl

sums : (m p n : ℕ) → (m * p + n / 16) * 16 + n % 16 ≡ m * (p * 16) + n
sums m p n = rw (← mul_assoc m p 16) (omega arith)

value_hex : (k m n : ℕ) (s : List ℕ) → n < 16 ^ k → value_of m (hex_text k n ++ s) ≡ value_of (m * 16 ^ k + n) s
unfolding hex_text
value_hex zero m n s h = let e : m ≡ m * 1 + n = omega arith in ap (λ (x : ℕ). value_of x s) e
value_hex (suc k) m n s h =
    let less : n / 16 < 16 ^ k = (div-lt_iff_lt-mul {k = 16} {x = n} {y = 16 ^ k} (omega arith)).1 (rw pow-suc at h) in
    ap (value_of m) (append_assoc (hex_text k (n / 16)) (glyph_of (n % 16) ∷ []) s)
    ∙ value_hex k m (n / 16) (glyph_of (n % 16) ∷ s) less
    ∙ value_cons (m * 16 ^ k + n / 16) (n % 16) s (omega arith)
    ∙ ap (λ (x : ℕ). value_of x s) (sums m (16 ^ k) n ∙ ap (λ (x : ℕ). m * x + n) (sym (pow-suc 16 k)))

-- every u64 that is printed reads back
pub parse_print : (n : ℕ) → n < 2 ^ 64 → hex_of (hex_text 16 n) ≡ Some n
unfolding value_of
parse_print n h =
    hex_is (hex_text 16 n) (length_hex 16 n)
    ∙ ap (value_of 0) (sym (append-nil (hex_text 16 n)))
    ∙ value_hex 16 0 n [] h
    ∙ ap Some (omega arith)

-- ---- read, then printed
-- the digit of a byte that is one
glyph_low : (b : ℕ) → 48 ≤ b → b ≤ 57 → (digit_of b < 16) × (glyph_of (digit_of b) ≡ b)
glyph_low b h k =
    let e : digit_of b ≡ b - 48 = sym (digit_number b h k) in
    (omega arith, ap glyph_of e ∙ rw (lt-ltb (b - 48) 10 (omega arith)) (omega arith))

glyph_high : (b : ℕ) → 65 ≤ b → b ≤ 70 → (digit_of b < 16) × (glyph_of (digit_of b) ≡ b)
glyph_high b h k =
    let e : digit_of b ≡ b - 55 = sym (digit_letter b h k) in
    (omega arith, ap glyph_of e ∙ rw (le-ltb (b - 55) 10 (omega arith)) (omega arith))

glyph_digit : (b : ℕ) → (digit_of b ≡ 16 → ⊥) → (digit_of b < 16) × (glyph_of (digit_of b) ≡ b)
glyph_digit b ne = go (ltb b 48) refl (leb b 57) refl (ltb b 65) refl (leb b 70) refl
  where
    go : (p : Bool) → ltb b 48 ≡ p → (q : Bool) → leb b 57 ≡ q → (r : Bool) → ltb b 65 ≡ r → (s : Bool) → leb b 70 ≡ s
        → (digit_of b < 16) × (glyph_of (digit_of b) ≡ b)
    go true e q f r g s h = absurd (ne (sym (digit_below b (ltb-true b 48 e))))
    go false e true f r g s h = glyph_low b (ltb-false b 48 e) (leb-true b 57 f)
    go false e false f true g s h = absurd (ne (sym (digit_between b (leb-false b 57 f) (ltb-true b 65 g))))
    go false e false f false g true h = glyph_high b (ltb-false b 65 g) (leb-true b 70 h)
    go false e false f false g false h = absurd (ne (sym (digit_above b (leb-false b 70 h))))

-- the highest digit comes first
hex_front : (k n : ℕ) → hex_text (suc k) n ≡ glyph_of (n / 16 ^ k % 16) ∷ hex_text k n
unfolding hex_text
hex_front zero n = let e : n ≡ n / 1 = omega arith in ap (λ (x : ℕ). glyph_of (x % 16) ∷ []) e
hex_front (suc k) n =
    let e : n / 16 / 16 ^ k ≡ n / 16 ^ suc k = div-div-eq-div-mul n 16 (16 ^ k) ∙ ap (λ (x : ℕ). n / x) (sym (pow-succ' 16 k)) in
    ap (λ (l : List ℕ). l ++ (glyph_of (n % 16) ∷ [])) (hex_front k (n / 16))
    ∙ ap (λ (x : ℕ). glyph_of (x % 16) ∷ (hex_text k (n / 16) ++ (glyph_of (n % 16) ∷ []))) e

-- nothing is no number
unread : {A : Type 0} {n : ℕ} → None ≡ Some n → A
unread e = let z : ◌≡◌ {A = ℕ} 0 1 = cc in absurd (omega arith)

value_back : (s : List ℕ) (m n : ℕ) → value_of m s ≡ Some n → (n / 16 ^ length s ≡ m) × (hex_text (length s) n ≡ s)
unfolding value_of hex_text
value_back [] m n h = let e : m ≡ n = cc in (omega arith, refl)
value_back (b ∷ s) m n h = go (eqb (digit_of b) 16) refl (value_back s (m * 16 + digit_of b) n)
  where
    go : (t : Bool) → eqb (digit_of b) 16 ≡ t
        → (value_of (m * 16 + digit_of b) s ≡ Some n → (n / 16 ^ length s ≡ m * 16 + digit_of b) × (hex_text (length s) n ≡ s))
        → (n / 16 ^ suc (length s) ≡ m) × (hex_text (suc (length s)) n ≡ b ∷ s)
    go true e ih =
        let w : None ≡ Some n = rw e at h in unread w
    go false e ih =
        let d : ℕ = digit_of b in
        let w : value_of (m * 16 + digit_of b) s ≡ Some n = rw e at h in
        let r : (n / 16 ^ length s ≡ m * 16 + digit_of b) × (hex_text (length s) n ≡ s) = ih w in
        let g : (digit_of b < 16) × (glyph_of (digit_of b) ≡ b) = glyph_digit b (eqb-false (digit_of b) 16 e) in
        let top : n / 16 ^ suc (length s) ≡ n / 16 ^ length s / 16 =
        ap (λ (x : ℕ). n / x) (pow-suc 16 (length s)) ∙ sym (div-div-eq-div-mul n (16 ^ length s) 16) in
        let low : n / 16 ^ length s % 16 ≡ digit_of b = omega arith in
        (omega arith, hex_front (length s) n ∙ rw (low, g.1, r.1) refl)

-- what is read prints back
pub print_parse : (s : List ℕ) (n : ℕ) → hex_of s ≡ Some n → hex_text 16 n ≡ s
unfolding hex_of
print_parse s n h = go (eqb (length s) 16) refl
  where
    go : (t : Bool) → eqb (length s) 16 ≡ t → hex_text 16 n ≡ s
    go true e =
        let w : value_of 0 s ≡ Some n = rw e at h in
        subst (λ (k : ℕ). hex_text k n ≡ s) (eqb-true (length s) 16 e) (value_back s 0 n w).1
    go false e =
        let w : None ≡ Some n = rw e at h in unread w

-- 16 digits say a number below 2^64
pub read_small : (s : List ℕ) (n : ℕ) → hex_of s ≡ Some n → n < 2 ^ 64
unfolding hex_of
read_small s n h = go (eqb (length s) 16) refl
  where
    go : (t : Bool) → eqb (length s) 16 ≡ t → n < 2 ^ 64
    go true e =
        let w : value_of 0 s ≡ Some n = rw e at h in
        let z : n / 16 ^ 16 ≡ 0 = subst (λ (k : ℕ). n / 16 ^ k ≡ 0) (eqb-true (length s) 16 e) (value_back s 0 n w).0 in
        omega arith
    go false e =
        let w : None ≡ Some n = rw e at h in unread w

-- ---- doubles
-- a double that is no NaN comes out as it went in, digit for digit
pub hex_in_out : (s : List ℕ) (n : ℕ) → hex_of s ≡ Some n → T (not (is_nan (double_of n))) → double_text (double_of n) ≡ s
unfolding double_of
hex_in_out s n h k = ap (hex_text 16) (to_bits-of_bits binary64 n (read_small s n h) k) ∙ print_parse s n h

-- a double that was printed reads back as the same double
pub hex_out_in : (x : Float) → T (fits binary64 x) → (hex_of (double_text x) ≡ Some (to_bits binary64 x)) × (double_of (to_bits binary64 x) ≡ x)
unfolding double_of
hex_out_in x h = (parse_print (to_bits binary64 x) (to_bits-lt binary64 x h), of_bits-to_bits binary64 x h)

-- ---- decimals
-- m, with the decimals s after it
unfoldable pub decimal_of : ℕ → List ℕ → ℕ
decimal_of m [] = m
decimal_of m (b ∷ s) = decimal_of (m * 10 + (b - 48)) s

decimal_append : (m : ℕ) (s t : List ℕ) → decimal_of m (s ++ t) ≡ decimal_of (decimal_of m s) t
unfolding decimal_of
decimal_append m [] t = refl
decimal_append m (b ∷ s) t = decimal_append (m * 10 + (b - 48)) s t

pub decimal_out_in : (k n : ℕ) → decimal_of 0 (dec_text k n) ≡ n
unfolding decimal_of dec_text
decimal_out_in zero n = omega arith
decimal_out_in (suc k) n = go (ltb n 10) (decimal_out_in k (n / 10))
  where
    go : (t : Bool) → decimal_of 0 (dec_text k (n / 10)) ≡ n / 10
        → decimal_of 0 (cond t ((48 + n) ∷ []) (dec_text k (n / 10) ++ ((48 + n % 10) ∷ []))) ≡ n
    go true ih = omega arith
    go false ih = decimal_append 0 (dec_text k (n / 10)) ((48 + n % 10) ∷ []) ∙ rw ih (omega arith)
