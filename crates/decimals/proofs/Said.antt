-- What is printed in digits says the units, for every number of digits behind the point: a reader that drops the point, and one law over d. The
-- digits of the whole part are followed by those behind the point, so that each step of the text is a step of the number. Assumes nothing.
use Rattle.std.specs.Prelude.{Some, None, Option, ℕ}
use mathlib.Core.Path.{◌≡◌, refl, sym, ap, ◌∙◌, subst}
use mathlib.Core.Bool.{Bool, true, false, cond, ◌&&◌}
use mathlib.Core.List.{List, [], ◌∷◌, ◌++◌, append_assoc}
use Prim.Native.Nat.{ℕ, zero, suc, ◌+◌, ◌*◌, ◌-◌, ◌/◌, ◌%◌, ◌≤◌, ◌<◌, ◌^◌}
use native.Mathlib.Nat.{pow-suc, div-lt_iff_lt-mul}
use native.Mathlib.Omega.{arith}
use borrow.Author.Tests.{eq-eqb, ne_eqb, ltb-true, ltb-false}
use lib.Dec.{leb, ltb, eqb}
use lib.ListN.{length, take, drop, length-append}
use Rattle.text.specs.Text.{place_of, dec_text}
use Rattle.text_decimals.specs.Decimals.{MINUS, POINT, digit_in, digits_of, number_in}
use Rattle.text_decimals.proofs.Digits.{digit_is}
use Rattle.text_decimals.proofs.ReadBack.{number_back}
use Rattle.text_rounded.specs.Rounded.{minus_in, size_in, largest, significand_of, shift_of, units_of, fixed_text, units_text, rounded_text}
use Rattle.text_rounded.proofs.Parts.{small_significand, large_significand, small_shift, large_shift, units_bound, units_short}
use Rattle.text_rounded.proofs.Values.{number_text_lem}
use Rattle.decimals.proofs.Again.{Digits, dec_digits, point_place, before_point, behind_point}

-- ---- the reader
-- a text with a point and d digits behind it: the number that its digits make
abbrev pub units_in : ℕ → List ℕ → Option ℕ
units_in d s =
    cond (eqb (place_of POINT s + suc d) (length s)) (digits_of 0 (take (place_of POINT s) s ++ drop (suc (place_of POINT s)) s)) None

-- whether a minus stands before it, and that number
abbrev pub decimal_in : ℕ → List ℕ → Bool × Option ℕ
decimal_in d [] = (false, None)
decimal_in d (b ∷ s) = cond (eqb b MINUS) (true, units_in d s) (false, units_in d (b ∷ s))

-- ---- digits after digits
unread : {A : Type 0} {n : ℕ} → None ≡ Some n → A
unread e = let z : ◌≡◌ {A = ℕ} 0 1 = cc in absurd (omega arith)

digits_then : (s t : List ℕ) (m n : ℕ) → digits_of m s ≡ Some n → digits_of m (s ++ t) ≡ digits_of n t
unfolding digits_of
digits_then [] t m n e = let z : m ≡ n = cc in ap (λ (x : ℕ). digits_of x t) z
digits_then (b ∷ s) t m n e = go (eqb (digit_in b) 10) e (digits_then s t (m * 10 + digit_in b) n)
  where
    go : (q : Bool) → cond q None (digits_of (m * 10 + digit_in b) s) ≡ Some n
        → (digits_of (m * 10 + digit_in b) s ≡ Some n → digits_of (m * 10 + digit_in b) (s ++ t) ≡ digits_of n t)
        → cond q None (digits_of (m * 10 + digit_in b) (s ++ t)) ≡ digits_of n t
    go true h k = unread h
    go false h k = k h

one_digit : (m d : ℕ) → d < 10 → digits_of m ((48 + d) ∷ []) ≡ Some (m * 10 + d)
unfolding digits_of
one_digit m d h =
    let i : digit_in (48 + d) ≡ d = sym (digit_is (48 + d) (omega arith) (omega arith)) ∙ omega arith in
    rw (i, ne_eqb d 10 (λ (e : d ≡ 10). omega arith)) refl

said_so : (k : ℕ) (s : List ℕ) (n : ℕ) → number_in k s ≡ Some n → digits_of 0 s ≡ Some n
unfolding number_in
said_so k s n e = go (leb 1 (length s) && leb (length s) k) e
  where
    go : (q : Bool) → cond q (digits_of 0 s) None ≡ Some n → digits_of 0 s ≡ Some n
    go true h = h
    go false h = unread h

-- ---- the whole part, and what stands behind the point
unfoldable whole_in : ℕ → ℕ → ℕ
whole_in zero n = n
whole_in (suc d) n = whole_in d (n / 10)

unfoldable rest_in : ℕ → ℕ → List ℕ
rest_in zero n = []
rest_in (suc d) n = rest_in d (n / 10) ++ ((48 + n % 10) ∷ [])

fixed_is : (d n : ℕ) → fixed_text d n ≡ dec_text 12 (whole_in d n) ++ (POINT ∷ rest_in d n)
unfolding fixed_text whole_in rest_in
fixed_is zero n = refl
fixed_is (suc d) n =
    ap (λ (s : List ℕ). s ++ ((48 + n % 10) ∷ [])) (fixed_is d (n / 10))
    ∙ append_assoc (dec_text 12 (whole_in d (n / 10))) (POINT ∷ rest_in d (n / 10)) ((48 + n % 10) ∷ [])

rest_length : (d n : ℕ) → length (rest_in d n) ≡ d
unfolding rest_in
rest_length zero n = refl
rest_length (suc d) n = let e : length (rest_in d (n / 10)) ≡ d = rest_length d (n / 10) in simp length-append (omega arith)

rest_says : (d n : ℕ) → digits_of (whole_in d n) (rest_in d n) ≡ Some n
unfolding whole_in rest_in digits_of
rest_says zero n = refl
rest_says (suc d) n =
    digits_then (rest_in d (n / 10)) ((48 + n % 10) ∷ []) (whole_in d (n / 10)) (n / 10) (rest_says d (n / 10))
    ∙ one_digit (n / 10) (n % 10) (omega arith)
    ∙ ap Some (omega arith)

whole_few : (d n : ℕ) → n < 10 ^ (d + 13) → whole_in d n < 10 ^ 13
unfolding whole_in
whole_few zero n h = h
whole_few (suc d) n h =
    let q : suc d + 13 ≡ suc (d + 13) = omega arith in
    let l : n < 10 ^ suc (d + 13) = subst (λ (x : ℕ). n < 10 ^ x) q h in
    whole_few d (n / 10) ((div-lt_iff_lt-mul {k = 10} {x = n} {y = 10 ^ (d + 13)} (omega arith)).1 (rw (pow-suc 10 (d + 13)) at l))

-- ---- n units of 10^-d, printed and read
pub fixed_said : (d n : ℕ) → n < 10 ^ (d + 13) → units_in d (fixed_text d n) ≡ Some n
fixed_said d n h =
    let w = dec_text 12 (whole_in d n) in
    let t = rest_in d n in
    let p : place_of POINT (w ++ (POINT ∷ t)) ≡ length w = point_place t w (dec_digits 12 (whole_in d n)) in
    let l : length w + suc d ≡ length (w ++ (POINT ∷ t)) = let r : length t ≡ d = rest_length d n in simp length-append (omega arith) in
    let f : digits_of 0 w ≡ Some (whole_in d n) = said_so 13 w (whole_in d n) (number_back 12 12 (whole_in d n) (omega arith) (whole_few d n h)) in
    ap (units_in d) (fixed_is d n)
    ∙ rw (p, eq-eqb (length w + suc d) (length (w ++ (POINT ∷ t))) l, before_point t w, behind_point t w)
    (digits_then w t 0 (whole_in d n) f ∙ rest_says d n)

-- a digit comes first
plain_said : (d : ℕ) (w t : List ℕ) → Digits w → 1 ≤ length w → decimal_in d (w ++ t) ≡ (false, units_in d (w ++ t))
plain_said d [] t h l = absurd (omega arith)
plain_said d (b ∷ w) t h l = rw (ne_eqb b MINUS (λ (e : b ≡ MINUS). let k : 48 ≤ b = h.0 in omega arith)) refl

some_digits : (k : ℕ) (s : List ℕ) (n : ℕ) → number_in k s ≡ Some n → 1 ≤ length s
unfolding number_in
some_digits k [] n e = unread e
some_digits k (b ∷ s) n e = omega arith

-- with its sign, which zero has not
pub units_said : (d : ℕ) (minus : Bool) (u : ℕ) → u < 10 ^ (d + 13) → decimal_in d (units_text d minus u) ≡ (minus && ltb 0 u, Some u)
units_said d minus u h = go (minus && ltb 0 u)
  where
    go : (q : Bool) → decimal_in d (cond q (MINUS ∷ []) [] ++ fixed_text d u) ≡ (q, Some u)
    go true = ap (λ (x : Option ℕ). (true, x)) (fixed_said d u h)
    go false =
        let w = dec_text 12 (whole_in d u) in
        let n : number_in 13 w ≡ Some (whole_in d u) = number_back 12 12 (whole_in d u) (omega arith) (whole_few d u h) in
        ap (decimal_in d) (fixed_is d u)
        ∙ plain_said d w (POINT ∷ rest_in d u) (dec_digits 12 (whole_in d u)) (some_digits 13 w (whole_in d u) n)
        ∙ ap (λ (s : List ℕ). (false, units_in d s)) (sym (fixed_is d u))
        ∙ ap (λ (x : Option ℕ). (false, x)) (fixed_said d u h)

-- ---- the pattern of a double of at most 2^40 in magnitude
significand_few : (a : ℕ) → a ≤ largest → significand_of a < 2 ^ 53
significand_few a h = go (ltb a (2 ^ 52)) refl
  where
    go : (q : Bool) → ltb a (2 ^ 52) ≡ q → significand_of a < 2 ^ 53
    go true e = let s : a ≡ significand_of a = small_significand a (ltb-true a (2 ^ 52) e) in omega (arith, ltb-true a (2 ^ 52) e)
    go false e = let s : 2 ^ 52 + a % 2 ^ 52 ≡ significand_of a = large_significand a (ltb-false a (2 ^ 52) e) in omega arith

shift_enough : (a : ℕ) → a ≤ largest → 12 ≤ shift_of a
shift_enough a h = go (ltb a (2 ^ 52)) refl
  where
    go : (q : Bool) → ltb a (2 ^ 52) ≡ q → 12 ≤ shift_of a
    go true e = let s : 1074 ≡ shift_of a = small_shift a (ltb-true a (2 ^ 52) e) in omega arith
    go false e = let s : 1075 - a / 2 ^ 52 ≡ shift_of a = large_shift a (ltb-false a (2 ^ 52) e) in omega arith

-- what is printed says the nearest number of units, with the double's sign where it is not zero
pub printed_says : (d p : ℕ) → size_in p ≤ largest
    → decimal_in d (rounded_text d p) ≡ (minus_in p && ltb 0 (units_of d (size_in p)), Some (units_of d (size_in p)))
printed_says d p h =
    let a = size_in p in
    ap (decimal_in d) (number_text_lem d p h)
    ∙ units_said d (minus_in p) (units_of d a) (units_short d (units_of d a) (units_bound d a (significand_few a h) (shift_enough a h)))
