-- The text of so many thousandths, read as a sheet reads a decimal, says those thousandths. Assumes nothing.
use Rattle.std.specs.Prelude.{Some}
use mathlib.Core.Path.{◌≡◌, refl, sym, ap, ◌∙◌}
use mathlib.Core.Bool.{Bool, true, false, cond}
use mathlib.Core.List.{List, [], ◌∷◌, ◌++◌, append_assoc}
use Prim.Native.Nat.{ℕ, zero, suc, ◌+◌, ◌*◌, ◌/◌, ◌%◌, ◌≤◌, ◌<◌}
use native.Mathlib.Omega.{arith}
use borrow.Author.Tests.{lt-ltb, ne_eqb}
use lib.Dec.{ltb}
use lib.ListN.{length, take, drop, length-append}
use Rattle.sheet_depth.specs.Depth.{greatest}
use Rattle.text.specs.Text.{place_of, dec_text}
use Rattle.text_decimals.specs.Decimals.{POINT, digit_in, digits_of, number_in, scaled, behind_of, thousandths_of}
use Rattle.text_decimals.proofs.Digits.{digit_is}
use Rattle.text_decimals.proofs.ReadBack.{number_back}
use Rattle.text_rounded.specs.Rounded.{fixed_text}

-- ---- digits are no points
abbrev pub Digits : List ℕ → Type 0
Digits [] = Unit
Digits (b ∷ s) = (48 ≤ b) × Digits s

digits_append : (s t : List ℕ) → Digits s → Digits t → Digits (s ++ t)
digits_append [] t p q = q
digits_append (b ∷ s) t p q = (p.0, digits_append s t p.1 q)

pub dec_digits : (k n : ℕ) → Digits (dec_text k n)
unfolding dec_text
dec_digits zero n = (omega arith, tt)
dec_digits (suc k) n = go (ltb n 10) (dec_digits k (n / 10))
  where
    go : (t : Bool) → Digits (dec_text k (n / 10)) → Digits (cond t ((48 + n) ∷ []) (dec_text k (n / 10) ++ ((48 + n % 10) ∷ [])))
    go true p = (omega arith, tt)
    go false p = digits_append (dec_text k (n / 10)) ((48 + n % 10) ∷ []) p (omega arith, tt)

module _ (t : List ℕ) where
  pub point_place : (s : List ℕ) → Digits s → place_of POINT (s ++ (POINT ∷ t)) ≡ length s
  unfolding place_of
  point_place [] p = refl
  point_place (b ∷ s) p = rw (ne_eqb b POINT (λ (e : b ≡ POINT). let h : 48 ≤ b = p.0 in omega arith)) (ap suc (point_place s p.1))

  pub before_point : (s : List ℕ) → take (length s) (s ++ (POINT ∷ t)) ≡ s
  before_point [] = refl
  before_point (b ∷ s) = ap (λ (l : List ℕ). b ∷ l) (before_point s)

  pub behind_point : (s : List ℕ) → drop (suc (length s)) (s ++ (POINT ∷ t)) ≡ t
  behind_point [] = refl
  behind_point (b ∷ s) = behind_point s

-- ---- three digits
module _ (a b c : ℕ) (A : a < 10) (B : b < 10) (C : c < 10) where
  value : (d : ℕ) → d < 10 → digit_in (48 + d) ≡ d
  value d h = sym (digit_is (48 + d) (omega arith) (omega arith)) ∙ omega arith

  step : (n d : ℕ) (s : List ℕ) → d < 10 → digits_of n ((48 + d) ∷ s) ≡ digits_of (n * 10 + d) s
  unfolding digits_of
  step n d s h = rw (value d h, ne_eqb d 10 (λ (e : d ≡ 10). omega arith)) refl

  three : behind_of ((48 + a) ∷ (48 + b) ∷ (48 + c) ∷ []) ≡ Some ((((0 * 10 + a) * 10 + b) * 10 + c) * 1)
  unfolding behind_of number_in digits_of
  three = ap (scaled 1) (step 0 a ((48 + b) ∷ (48 + c) ∷ []) A ∙ step (0 * 10 + a) b ((48 + c) ∷ []) B ∙ step ((0 * 10 + a) * 10 + b) c [] C)

fixed_parts : (n : ℕ) → fixed_text 3 n ≡ dec_text 12 (n / 10 / 10 / 10) ++ (POINT ∷ (48 + n / 10 / 10 % 10) ∷ (48 + n / 10 % 10) ∷ (48 + n % 10) ∷ [])
unfolding fixed_text
fixed_parts n = simp append_assoc

pub thousandths_back : (n : ℕ) → n ≤ greatest → thousandths_of (fixed_text 3 n) ≡ Some n
unfolding thousandths_of
thousandths_back n h =
    let w = dec_text 12 (n / 10 / 10 / 10) in
    let t = (48 + n / 10 / 10 % 10) ∷ (48 + n / 10 % 10) ∷ (48 + n % 10) ∷ [] in
    let l : length w < length (w ++ (POINT ∷ t)) = simp length-append (omega arith) in
    let f : number_in 9 w ≡ Some (n / 10 / 10 / 10) = number_back 12 8 (n / 10 / 10 / 10) (omega arith) (omega arith) in
    let g : behind_of t ≡ Some ((((0 * 10 + n / 10 / 10 % 10) * 10 + n / 10 % 10) * 10 + n % 10) * 1) =
    three (n / 10 / 10 % 10) (n / 10 % 10) (n % 10) (omega arith) (omega arith) (omega arith) in
    ap thousandths_of (fixed_parts n)
    ∙ rw (point_place t w (dec_digits 12 (n / 10 / 10 / 10)), lt-ltb (length w) (length (w ++ (POINT ∷ t))) l, before_point t w, behind_point t w, f, g)
    (ap Some (omega arith))
