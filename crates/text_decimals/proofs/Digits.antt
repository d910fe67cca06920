-- The steps of the loops over decimal digits, and what digits can say. Assumes nothing.
use Rattle.std.specs.Prelude.{Some, None, Option, ℕ}
use mathlib.Core.Path.{◌≡◌, refl, sym, ap, ◌∙◌}
use mathlib.Core.Bool.{Bool, true, false, cond, ◌&&◌}
use mathlib.Core.List.{List, [], ◌∷◌}
use Prim.Native.Nat.{ℕ, zero, suc, ◌+◌, ◌*◌, ◌-◌, ◌≤◌, ◌<◌, ◌^◌}
use native.Mathlib.Nat.{pow-suc, pow-le-pow_right, mul-one, mul-lt-mul_of_pos_right}
use lib.Pow.{pow-add}
use native.Mathlib.Numerals.{add-one}
use native.Mathlib.Omega.{arith}
use borrow.Author.Tests.{eq-eqb, ne_eqb, le-leb, lt-leb, lt-ltb, le-ltb, eqb-false, leb-true, leb-false}
use lib.Dec.{leb, ltb, eqb}
use lib.ListN.{length, take, drop, get_or, length-drop}
use lib.Seq.{drop-cons, drop-length, take_all}
use Rattle.text.specs.Text.{place_of}
use Rattle.text_decimals.specs.Decimals.{POINT, digit_in, digits_of, number_in, scaled, behind_of, joined, thousandths_of}

-- ---- a digit
pub digit_below : (b : ℕ) → b < 48 → 10 ≡ digit_in b
digit_below b h = simp (lt-leb 48 b h)

pub digit_is : (b : ℕ) → 48 ≤ b → b ≤ 57 → b - 48 ≡ digit_in b
digit_is b h k = simp (le-leb 48 b h, le-leb b 57 k)

pub digit_above : (b : ℕ) → 57 < b → 10 ≡ digit_in b
digit_above b h = simp (le-leb 48 b (omega arith), lt-leb b 57 h)

-- ---- digits
digits_at : (n : ℕ) (s : List ℕ) (i : ℕ) → i < length s
    → digits_of n (drop i s) ≡ cond (eqb (digit_in (get_or s i 0)) 10) None (digits_of (n * 10 + digit_in (get_or s i 0)) (drop (i + 1) s))
unfolding digits_of
digits_at n s i h = rw (add-one i, drop-cons s i 0 h) refl

pub digits_step : (n d : ℕ) (s : List ℕ) (i : ℕ) → i < length s → d ≡ digit_in (get_or s i 0) → (d ≡ 10 → ⊥)
    → digits_of (n * 10 + d) (drop (i + 1) s) ≡ digits_of n (drop i s)
digits_step n d s i h e k = sym (digits_at n s i h ∙ rw (← e) (simp (ne_eqb d 10 k)))

pub digits_stop : (n : ℕ) (s : List ℕ) (i : ℕ) → i < length s → digit_in (get_or s i 0) ≡ 10 → digits_of n (drop i s) ≡ None
digits_stop n s i h e = digits_at n s i h ∙ simp (eq-eqb _ 10 e)

pub digits_done : (n : ℕ) (s : List ℕ) (i : ℕ) → i ≤ length s → length s ≤ i → digits_of n (drop i s) ≡ Some n
unfolding digits_of
digits_done n s i h k =
    let p : i ≡ length s = omega arith in
    ap (λ (l : List ℕ). digits_of n l) (ap (λ (j : ℕ). drop j s) p ∙ drop-length s)

pub number_short : (k : ℕ) (s : List ℕ) → length s < 1 → None ≡ number_in k s
unfolding number_in
number_short k s h = simp (lt-leb 1 (length s) h)

pub number_long : (k : ℕ) (s : List ℕ) → 1 ≤ length s → k < length s → None ≡ number_in k s
unfolding number_in
number_long k s h l = simp (le-leb 1 (length s) h, lt-leb (length s) k l)

pub number_is : (k : ℕ) (s : List ℕ) → 1 ≤ length s → length s ≤ k → number_in k s ≡ digits_of 0 s
unfolding number_in
number_is k s h l = simp (le-leb 1 (length s) h, le-leb (length s) k l)

-- ---- room for one more digit
pub grow10 : (n i d : ℕ) → n < 10 ^ i → d < 10 → n * 10 + d < 10 ^ (i + 1)
grow10 n i d h k = rw (add-one i, pow-suc 10 i) (omega arith)

pub room10 : (n i : ℕ) → n < 10 ^ i → i < 9 → n * 10 + 9 < 10 ^ 9
room10 n i h k =
    let p : 10 ^ i * 10 ≤ 10 ^ 9 = rw (pow-suc 10 i) at (pow-le-pow_right {n = 10} (omega arith) {i = suc i} {j = 9} k) in
    omega arith

-- ---- k digits say a number below 10^k
unread : {A : Type 0} {n : ℕ} → None ≡ Some n → A
unread e = let z : ◌≡◌ {A = ℕ} 0 1 = cc in absurd (omega arith)

digit_less : (b : ℕ) → (digit_in b ≡ 10 → ⊥) → digit_in b < 10
digit_less b ne = go (leb 48 b) refl (leb b 57) refl
  where
    go : (p : Bool) → leb 48 b ≡ p → (q : Bool) → leb b 57 ≡ q → digit_in b < 10
    go true e true f = let x : b - 48 ≡ digit_in b = digit_is b (leb-true 48 b e) (leb-true b 57 f) in omega (arith, leb-true b 57 f)
    go true e false f = absurd (ne (sym (digit_above b (leb-false b 57 f))))
    go false e q f = absurd (ne (sym (digit_below b (leb-false 48 b e))))

digits_small : (s : List ℕ) (m n i : ℕ) → m < 10 ^ i → digits_of m s ≡ Some n → n < 10 ^ (i + length s)
unfolding digits_of
digits_small [] m n i h e = let z : m ≡ n = cc in let w : i + 0 ≡ i = omega arith in rw (w, ← z) h
digits_small (b ∷ s) m n i h e = go (eqb (digit_in b) 10) refl (digits_small s (m * 10 + digit_in b) n (i + 1))
  where
    go : (t : Bool) → eqb (digit_in b) 10 ≡ t → (m * 10 + digit_in b < 10 ^ (i + 1) → digits_of (m * 10 + digit_in b) s ≡ Some n → n < 10 ^ (i + 1 + length s))
        → n < 10 ^ (i + suc (length s))
    go true f ih = let w : None ≡ Some n = rw f at e in unread w
    go false f ih =
        let w : digits_of (m * 10 + digit_in b) s ≡ Some n = rw f at e in
        let l : i + suc (length s) ≡ i + 1 + length s = omega arith in
        rw l (ih (grow10 m i (digit_in b) h (digit_less b (eqb-false (digit_in b) 10 f))) w)

pub number_small : (k : ℕ) (s : List ℕ) (n : ℕ) → number_in k s ≡ Some n → n < 10 ^ k
unfolding number_in
number_small k s n e = go (leb 1 (length s)) (leb (length s) k) refl e
  where
    go : (p q : Bool) → leb (length s) k ≡ q → cond (p && q) (digits_of 0 s) None ≡ Some n → n < 10 ^ k
    go true true f h =
        let z : 0 + length s ≡ length s = omega arith in
        let a : n < 10 ^ length s = rw z at (digits_small s 0 n 0 (omega arith) h) in
        let b : 10 ^ length s ≤ 10 ^ k = pow-le-pow_right {n = 10} (omega arith) {i = length s} {j = k} (leb-true (length s) k f) in
        omega arith
    go true false f h = unread h
    go false q f h = unread h

-- ---- behind the point
number_length : (k : ℕ) (s : List ℕ) (n : ℕ) → number_in k s ≡ Some n → length s ≤ k
unfolding number_in
number_length k s n e = go (leb 1 (length s)) (leb (length s) k) refl e
  where
    go : (p q : Bool) → leb (length s) k ≡ q → cond (p && q) (digits_of 0 s) None ≡ Some n → length s ≤ k
    go true true f h = leb-true (length s) k f
    go true false f h = unread h
    go false q f h = unread h

number_some : (k : ℕ) (s : List ℕ) (n : ℕ) → number_in k s ≡ Some n → 1 ≤ length s
unfolding number_in
number_some k s n e = go (leb 1 (length s)) refl (leb (length s) k) e
  where
    go : (p : Bool) → leb 1 (length s) ≡ p → (q : Bool) → cond (p && q) (digits_of 0 s) None ≡ Some n → 1 ≤ length s
    go true f q h = leb-true 1 (length s) f
    go false f q h = unread h

pub behind_none : (s : List ℕ) {r : Option ℕ} → r ≡ number_in 3 s → r ≡ None → None ≡ behind_of s
unfolding behind_of
behind_none s e f = ap (scaled (10 ^ (3 - length s))) (sym f ∙ e)

behind_is : (s : List ℕ) (f k : ℕ) {r : Option ℕ} → r ≡ number_in 3 s → r ≡ Some f → 10 ^ (3 - length s) ≡ k → Some (f * k) ≡ behind_of s
unfolding behind_of
behind_is s f k e g p = ap (λ (x : ℕ). Some (f * x)) (sym p) ∙ ap (scaled (10 ^ (3 - length s))) (sym g ∙ e)

pub behind_one : (s : List ℕ) (f : ℕ) {r : Option ℕ} → r ≡ number_in 3 s → r ≡ Some f → length s ≡ 1 → Some (f * 100) ≡ behind_of s
behind_one s f e g l = behind_is s f 100 e g (ap (λ (x : ℕ). 10 ^ (3 - x)) l)

pub behind_two : (s : List ℕ) (f : ℕ) {r : Option ℕ} → r ≡ number_in 3 s → r ≡ Some f → length s ≡ 2 → Some (f * 10) ≡ behind_of s
behind_two s f e g l = behind_is s f 10 e g (ap (λ (x : ℕ). 10 ^ (3 - x)) l)

pub behind_three : (s : List ℕ) (f : ℕ) {r : Option ℕ} → r ≡ number_in 3 s → r ≡ Some f → (length s ≡ 1 → ⊥) → (length s ≡ 2 → ⊥) → Some f ≡ behind_of s
behind_three s f e g a b =
    let x : 1 ≤ length s = number_some 3 s f (sym e ∙ g) in
    let y : length s ≤ 3 = number_length 3 s f (sym e ∙ g) in
    let l : length s ≡ 3 = omega arith in
    let z : f ≡ f * 1 = sym (mul-one f) in
    ap Some z ∙ behind_is s f 1 e g (ap (λ (x : ℕ). 10 ^ (3 - x)) l)

-- ---- how large the thousandths get
number_within : (k : ℕ) (s : List ℕ) (n : ℕ) → number_in k s ≡ Some n → n < 10 ^ length s
unfolding number_in
number_within k s n e = go (leb 1 (length s)) (leb (length s) k) e
  where
    go : (p q : Bool) → cond (p && q) (digits_of 0 s) None ≡ Some n → n < 10 ^ length s
    go true true h = let z : 0 + length s ≡ length s = omega arith in rw z at (digits_small s 0 n 0 (omega arith) h)
    go true false h = unread h
    go false q h = unread h

pub behind_small : (s : List ℕ) (f : ℕ) → behind_of s ≡ Some f → f < 1000
unfolding behind_of
behind_small s f e = go (number_in 3 s) refl e
  where
    go : (r : Option ℕ) → number_in 3 s ≡ r → scaled (10 ^ (3 - length s)) r ≡ Some f → f < 1000
    go (Some n) g h =
        let a : n < 10 ^ length s = number_within 3 s n g in
        let l : length s ≤ 3 = number_length 3 s n g in
        let b : n * 10 ^ (3 - length s) < 10 ^ length s * 10 ^ (3 - length s) = mul-lt-mul_of_pos_right a (pow_pos10 (3 - length s)) in
        let c : 10 ^ length s * 10 ^ (3 - length s) ≡ 1000 = sym (pow-add 10 (length s) (3 - length s)) ∙ ap (λ (x : ℕ). 10 ^ x) (fill l) in
        let d : n * 10 ^ (3 - length s) ≡ f = cc in
        omega arith
      where
        pow_pos10 : (k : ℕ) → 0 < 10 ^ k
        pow_pos10 zero = omega arith
        pow_pos10 (suc k) = let h : 0 < 10 ^ k = pow_pos10 k in rw (pow-suc 10 k) (omega arith)

        fill : {x : ℕ} → x ≤ 3 → x + (3 - x) ≡ 3
        fill h = omega arith
    go None g h = unread h

-- ---- thousandths, case by case
module _ (s : List ℕ) (p : ℕ) (is : p ≡ place_of POINT s) where
  pub no_whole : {r : Option ℕ} → p < length s → r ≡ number_in 9 (take (p - 0) s) → r ≡ None → None ≡ thousandths_of s
  unfolding thousandths_of
  no_whole {r} h e f =
      let z : p - 0 ≡ p = omega arith in
      let w : number_in 9 (take p s) ≡ None = sym (ap (λ (x : ℕ). number_in 9 (take x s)) z) ∙ sym e ∙ f in
      rw (← is, lt-ltb p (length s) h, w) refl

  pub no_rest : {r q : Option ℕ} {w : ℕ} → p < length s → r ≡ number_in 9 (take (p - 0) s) → r ≡ Some w
      → q ≡ behind_of (take (length s - (p + 1)) (drop (p + 1) s)) → q ≡ None → None ≡ thousandths_of s
  unfolding thousandths_of
  no_rest {r} {q} {w} h e f g k =
      let z : p - 0 ≡ p = omega arith in
      let a : number_in 9 (take p s) ≡ Some w = sym (ap (λ (x : ℕ). number_in 9 (take x s)) z) ∙ sym e ∙ f in
      let b : behind_of (drop (suc p) s) ≡ None =
      sym (ap behind_of (take_all (length s - (p + 1)) (drop (p + 1) s) (rw length-drop (omega arith)) ∙ ap (λ (x : ℕ). drop x s) (add-one p))) ∙ sym g
      ∙ k in
      rw (← is, lt-ltb p (length s) h, a, b) refl

  pub with_point : {r q : Option ℕ} {w f : ℕ} → p < length s → r ≡ number_in 9 (take (p - 0) s) → r ≡ Some w
      → q ≡ behind_of (take (length s - (p + 1)) (drop (p + 1) s)) → q ≡ Some f → Some (w * 1000 + f) ≡ thousandths_of s
  unfolding thousandths_of
  with_point {r} {q} {w} {f} h e j g k =
      let z : p - 0 ≡ p = omega arith in
      let a : number_in 9 (take p s) ≡ Some w = sym (ap (λ (x : ℕ). number_in 9 (take x s)) z) ∙ sym e ∙ j in
      let b : behind_of (drop (suc p) s) ≡ Some f =
      sym (ap behind_of (take_all (length s - (p + 1)) (drop (p + 1) s) (rw length-drop (omega arith)) ∙ ap (λ (x : ℕ). drop x s) (add-one p))) ∙ sym g
      ∙ k in
      rw (← is, lt-ltb p (length s) h, a, b) refl

  pub plain_none : {r : Option ℕ} → length s ≤ p → r ≡ number_in 9 s → r ≡ None → None ≡ thousandths_of s
  unfolding thousandths_of
  plain_none {r} h e f = rw (← is, le-ltb p (length s) h, sym e ∙ f) refl

  pub plain : {r : Option ℕ} {w : ℕ} → length s ≤ p → r ≡ number_in 9 s → r ≡ Some w → Some (w * 1000) ≡ thousandths_of s
  unfolding thousandths_of
  plain {r} {w} h e f = let z : w * 1000 ≡ w * 1000 + 0 = omega arith in ap Some z ∙ rw (← is, le-ltb p (length s) h, sym e ∙ f) refl

-- nine digits and three: at most 999,999,999,999 thousandths
pub thousandths_small : (s : List ℕ) (n : ℕ) → thousandths_of s ≡ Some n → n ≤ 999999999999
unfolding thousandths_of
thousandths_small s n e = go (ltb (place_of POINT s) (length s)) e
  where
    both : (a b : Option ℕ) → (x y : List ℕ) → number_in 9 x ≡ a → ((f : ℕ) → b ≡ Some f → f < 1000) → joined a b ≡ Some n → n ≤ 999999999999
    both (Some w) (Some f) x y g k h =
        let a : w < 10 ^ 9 = number_small 9 x w g in
        let b : f < 1000 = k f refl in
        let c : w * 1000 + f ≡ n = cc in
        omega arith
    both (Some w) None x y g k h = unread h
    both None b x y g k h = unread h

    none : (f : ℕ) → Some 0 ≡ Some f → f < 1000
    none f h = let z : 0 ≡ f = cc in omega arith

    go : (t : Bool)
        → cond t (joined (number_in 9 (take (place_of POINT s) s)) (behind_of (drop (suc (place_of POINT s)) s))) (joined (number_in 9 s) (Some 0)) ≡ Some n
        → n ≤ 999999999999
    go true h =
        both (number_in 9 (take (place_of POINT s) s)) (behind_of (drop (suc (place_of POINT s)) s)) (take (place_of POINT s) s) (drop (suc (place_of
        POINT s)) s)
        refl (behind_small (drop (suc (place_of POINT s)) s)) h
    go false h = both (number_in 9 s) (Some 0) s s refl none h
