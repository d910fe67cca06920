-- Doubles with the sign clear, counted in units of the format's smallest value: `Units f x` says how many x is. The operations on such values. Assumes nothing.
use Rattle.std.proofs.Common.{
  ◌≡◌,
  ℕ,
  zero,
  suc,
  ◌+◌,
  ◌-◌,
  ◌*◌,
  ◌%◌,
  ◌^◌,
  ◌<◌,
  ◌≤◌,
  Bool,
  true,
  false,
  cond,
  not,
  ◌&&◌,
  T,
  eqb,
  ltb,
  leb,
  ℤ,
  pos,
  negsuc,
  sym,
  refl,
  ap,
  ◌∙◌,
  inl,
  inr,
  true≢false,
  le_trans,
  le_of_eq,
  lt_of_lt_of_le,
  lt_of_le_of_lt,
  mul-le-mul_right,
  mul_assoc,
  mul_comm,
  add-mul,
  lt_of_mul-lt-mul_right,
  mul-le-mul_left,
  mul-lt-mul_of_pos_right,
  mul-pos,
  zero-mul,
  mul-one,
  mul_right_comm,
  not-le_of_lt,
  le_of_mul-le-mul_right,
  arith,
  lit<,
  lit≤,
  ltb→lt,
  leb→le,
  pow_pos,
  pow-add,
}
use native.Mathlib.Nat.{mul-mul-mul_comm, mul-sub}
use lib.Pow.{pow-lt}
use lib.Ieee.{Float, nan, inf, fin, Format, binary64, prec, emax, low, up, down, round, sum, add, sub, mul, lt, le, of_int, fits}
use lib.Ieee.Digits.{back}
use lib.Ieee.Fits.{and_l, and_r, down_pos}
use lib.Ieee.Exact.{HasValue}
use lib.Ieee.Back.{round_whole}
use lib.Ieee.Order.{transfer, le_of_values}
use lib.Ieee.Scale.{grid, overflow, round_same, round_val}
use Rattle.doubles.specs.Numbers.{nought, one, trillionth, magnitude_of}
use Rattle.doubles.proofs.Rounding.{le_or_lt, Short, grid_short_le}
use Rattle.doubles.proofs.Tests.{branch}
use Rattle.doubles.proofs.Order.{at_most, lt_le_absurd}

-- finite, with the sign clear
abbrev pub clear : Float → Bool
clear nan = false
clear (inf s) = false
clear (fin s m e) = not s

pub record Units (f : Format) (x : Float) : Type 0 where
  pub h : ℕ
  pub is : HasValue x false h (2 ^ low f)
  pub digits : Short f h
  pub fine : h < overflow f

fine_of : (y de l h E : ℕ) → y < 2 ^ E * de → y * 2 ^ l ≡ h * de → h < 2 ^ (l + E)
fine_of y de l h E lt e =
    lt_of_mul-lt-mul_right de
    (lt_of_le_of_lt (le_of_eq (sym e))
    (lt_of_lt_of_le (mul-lt-mul_of_pos_right lt (pow_pos l))
    (le_of_eq (mul_right_comm (2 ^ E) de (2 ^ l) ∙ ap (λ (z : ℕ). z * de) (mul_comm (2 ^ E) (2 ^ l) ∙ sym (pow-add 2 l E))))))

exponents : (i j : ℕ) → 2 ^ i ≤ 2 ^ j → i ≤ j
exponents i j h = elim (le_or_lt i j) [ inl l ↦ l | inr g ↦ absurd (not-le_of_lt (pow-lt g) h) ]

-- a value above zero: m * 2 ^ j units
made : (f : Format) (m j : ℕ) (e : ℤ) → T (fits f (fin false (suc m) e))
    → (T (leb (down e) (2 ^ low f)) → suc m * up e * 2 ^ low f ≡ suc m * 2 ^ j * down e) → Units f (fin false (suc m) e)
unfolding fits
made f m j e t is =
    let p = eqb (suc m % 2) 1 in
    let q = ltb (suc m) (2 ^ prec f) in
    let r = leb (down e) (2 ^ low f) in
    let s = ltb (suc m * up e) (2 ^ suc (emax f) * down e) in
    let v : suc m * up e * 2 ^ low f ≡ suc m * 2 ^ j * down e = is (and_r (p && q) r (and_l (p && q && r) s t)) in
    record {
      h = suc m * 2 ^ j;
      is = (refl, v);
      digits = record { q = suc m; j = j; short = ltb→lt (suc m) (2 ^ prec f) (and_r p q (and_l (p && q) r (and_l (p && q && r) s t))); whole = refl };
      fine =
          fine_of (suc m * up e) (down e) (low f) (suc m * 2 ^ j) (suc (emax f))
          (ltb→lt (suc m * up e) (2 ^ suc (emax f) * down e) (and_r (p && q && r) s t)) v;
    }

pub units_of : (f : Format) (x : Float) → T (fits f x) → T (clear x) → Units f x
units_of f nan t c = absurd c
units_of f (inf s) t c = absurd c
units_of f (fin true m e) t c = absurd c
units_of f (fin false zero e) t c =
    record {
      h = 0;
      is = (refl, simp zero-mul);
      digits = record { q = 0; j = 0; short = pow_pos (prec f); whole = refl };
      fine = pow_pos (low f + suc (emax f));
    }
units_of f (fin false (suc m) (pos k)) t c =
    made f m (k + low f) (pos k) t
    (λ (g : T (leb (down (pos k)) (2 ^ low f))). mul_assoc (suc m) (2 ^ k) (2 ^ low f) ∙ ap (λ (z : ℕ). suc m * z) (sym (pow-add 2 k (low f)))
    ∙ sym (mul-one (suc m * 2 ^ (k + low f))))
units_of f (fin false (suc m) (negsuc k)) t c =
    let j = low f - suc k in
    made f m j (negsuc k) t
    (λ (g : T (leb (down (negsuc k)) (2 ^ low f))).
    ap (λ (z : ℕ). z * 2 ^ low f) (mul-one (suc m))
    ∙ ap (λ (z : ℕ). suc m * z)
    (ap (λ (z : ℕ). 2 ^ z) (sym (back (low f) (suc k) (exponents (suc k) (low f) (leb→le (2 ^ suc k) (2 ^ low f) g)))) ∙ pow-add 2 j (suc k))
    ∙ sym (mul_assoc (suc m) (2 ^ j) (2 ^ suc k)))

-- ---- the operations on such values
-- X / de is a / L, so that X * dd / (de * dd) is too
scale : (X de dd L a : ℕ) → X * L ≡ a * de → X * dd * L ≡ a * (de * dd)
scale X de dd L a v = mul_right_comm X dd L ∙ ap (λ (z : ℕ). z * dd) v ∙ mul_assoc a de dd

scale' : (Y de dd L b : ℕ) → Y * L ≡ b * dd → Y * de * L ≡ b * (de * dd)
scale' Y de dd L b w = scale Y dd de L b w ∙ ap (λ (z : ℕ). b * z) (mul_comm dd de)

pub add_at : (f : Format) (x y : Float) (a b : ℕ) → HasValue x false a (2 ^ low f) → HasValue y false b (2 ^ low f)
    → add f x y ≡ round f false (a + b) (2 ^ low f)
unfolding add
add_at f nan y a b v w = absurd v
add_at f (inf s) y a b v w = absurd v
add_at f (fin true m e) y a b v w = absurd (true≢false v.0)
add_at f (fin false m e) nan a b v w = absurd w
add_at f (fin false m e) (inf s) a b v w = absurd w
add_at f (fin false m e) (fin true n d) a b v w = absurd (true≢false w.0)
add_at f (fin false m e) (fin false n d) a b v w =
    round_same f false (m * up e * down d + n * up d * down e) (down e * down d) (a + b) (2 ^ low f) (mul-pos (down_pos e) (down_pos d)) (pow_pos (low f))
    (add-mul (m * up e * down d) (n * up d * down e) (2 ^ low f)
    ∙ cc (
      scale (m * up e) (down e) (down d) (2 ^ low f) a v.1,
      scale' (n * up d) (down e) (down d) (2 ^ low f) b w.1,
      add-mul a b (down e * down d),
    ))

pick : (f : Format) (a b c : ℕ) → b ≤ a → sum f false a true b c ≡ round f false (a - b) c
unfolding sum
pick f a b c h = go (ltb a b) (ltb→lt a b)
  where
    go : (t : Bool) → (T t → a < b) → cond t (round f true (b - a) c) (round f false (a - b) c) ≡ round f false (a - b) c
    go true k = absurd (not-le_of_lt (k tt) h)
    go false k = refl

pub sub_at : (f : Format) (x y : Float) (a b : ℕ) → b ≤ a → HasValue x false a (2 ^ low f) → HasValue y false b (2 ^ low f)
    → sub f x y ≡ round f false (a - b) (2 ^ low f)
unfolding sub
sub_at f nan y a b h v w = absurd v
sub_at f (inf s) y a b h v w = absurd v
sub_at f (fin true m e) y a b h v w = absurd (true≢false v.0)
sub_at f (fin false m e) nan a b h v w = absurd w
sub_at f (fin false m e) (inf s) a b h v w = absurd w
sub_at f (fin false m e) (fin true n d) a b h v w = absurd (true≢false w.0)
sub_at f (fin false m e) (fin false n d) a b h v w =
    let A = m * up e * down d in
    let B = n * up d * down e in
    let c = down e * down d in
    let L = 2 ^ low f in
    let p : A * L ≡ a * c = scale (m * up e) (down e) (down d) L a v.1 in
    let q : B * L ≡ b * c = scale' (n * up d) (down e) (down d) L b w.1 in
    let ba : B ≤ A = le_of_mul-le-mul_right (le_trans (le_of_eq q) (le_trans (mul-le-mul_right c h) (le_of_eq (sym p)))) (pow_pos (low f)) in
    pick f A B c ba
    ∙ round_same f false (A - B) c (a - b) L (mul-pos (down_pos e) (down_pos d)) (pow_pos (low f))
    (mul_comm (A - B) L ∙ mul-sub L A B ∙ cc (mul_comm L A, mul_comm L B, p, q, mul_comm (a - b) c, mul-sub c a b, mul_comm c a, mul_comm c b))

pub mul_at : (f : Format) (x : Float) (n : ℕ) (d : ℤ) (a : ℕ) → HasValue x false a (2 ^ low f)
    → mul f x (fin false n d) ≡ round f false (a * (n * up d)) (2 ^ low f * down d)
unfolding mul
mul_at f nan n d a v = absurd v
mul_at f (inf s) n d a v = absurd v
mul_at f (fin true m e) n d a v = absurd (true≢false v.0)
mul_at f (fin false m e) n d a v =
    round_same f false (m * up e * (n * up d)) (down e * down d) (a * (n * up d)) (2 ^ low f * down d) (mul-pos (down_pos e) (down_pos d))
    (mul-pos (pow_pos (low f)) (down_pos d))
    (mul-mul-mul_comm (m * up e) (n * up d) (2 ^ low f) (down d) ∙ ap (λ (z : ℕ). z * (n * up d * down d)) v.1
    ∙ mul-mul-mul_comm a (down e) (n * up d) (down d))

pub clear_of : (x : Float) (a c : ℕ) → HasValue x false a c → T (clear x)
clear_of nan a c v = v
clear_of (inf s) a c v = v
clear_of (fin true m e) a c v = absurd (true≢false v.0)
clear_of (fin false m e) a c v = tt

-- the order of two such values, as one of units
pub in_order : (f : Format) (x y : Float) (a b : ℕ) → HasValue x false a (2 ^ low f) → HasValue y false b (2 ^ low f) → T (le x y) → a ≤ b
unfolding le
in_order f nan y a b v w h = absurd v
in_order f (inf s) y a b v w h = absurd v
in_order f (fin true m e) y a b v w h = absurd (true≢false v.0)
in_order f (fin false m e) nan a b v w h = absurd w
in_order f (fin false m e) (inf s) a b v w h = absurd w
in_order f (fin false m e) (fin true n d) a b v w h = absurd (true≢false w.0)
in_order f (fin false m e) (fin false n d) a b v w h =
    le_of_mul-le-mul_right
    (transfer a b (2 ^ low f) (2 ^ low f) (m * up e) (n * up d) (down e) (down d) (down_pos e) (down_pos d) (sym v.1) (sym w.1)
    (at_most (m * up e * down d) (n * up d * down e) true h))
    (pow_pos (low f))

-- ---- whole numbers
-- a value in other units
pub scale_up : (x : Float) (n c : ℕ) → HasValue x false n 1 → HasValue x false (n * c) c
scale_up nan n c v = v
scale_up (inf s) n c v = v
scale_up (fin s m e) n c v = (v.0, ap (λ (z : ℕ). z * c) (sym (mul-one (m * up e)) ∙ v.1) ∙ mul_right_comm n (down e) c)

pub whole_value : (n : ℕ) → n ≤ 4096 → HasValue (of_int binary64 (pos n)) false n 1
unfolding of_int
whole_value n h = round_whole binary64 false n (le_trans h (lit≤ tt))

pub whole_at : (n : ℕ) → n ≤ 4096 → HasValue (of_int binary64 (pos n)) false (n * 2 ^ low binary64) (2 ^ low binary64)
whole_at n h = scale_up (of_int binary64 (pos n)) n (2 ^ low binary64) (whole_value n h)

-- ---- laws that callers use
-- a double from 0 to 1 with the sign clear
pub record InUnit (x : Float) : Type 0 where
  pub sign : T (clear x)
  pub held : T (fits binary64 x)
  pub top : T (le x one)

pub nought_in : InUnit nought
unfolding le lt fits
nought_in = record { sign = tt; held = tt; top = tt }

pub one_in : InUnit one
unfolding le lt fits
one_in = record { sign = tt; held = tt; top = tt }

pub le_refl_clear : (x : Float) → T (fits binary64 x) → T (clear x) → T (le x x)
le_refl_clear x h c = let U = units_of binary64 x h c
    in le_of_values x x U.h _ U.h _ (pow_pos (low binary64)) (pow_pos (low binary64)) U.is U.is (le_of_eq refl)

pub nought_le : (w : Float) → T (clear w) → T (le nought w)
nought_le nan c = absurd c
nought_le (inf s) c = absurd c
nought_le (fin true m e) c = absurd c
nought_le (fin false m e) c = le_of_values nought (fin false m e) 0 1 (m * up e) (down e) (lit< tt) (down_pos e) (refl, refl) (refl, refl) (omega arith)

pub magnitude_clear : (w : Float) → T (clear w) → magnitude_of w ≡ w
unfolding magnitude_of
magnitude_clear w c = branch (λ (z : Float). z ≡ w) (lt w nought) (λ h. absurd (lt_le_absurd w nought h (nought_le w c))) (λ _. refl)

-- upper - lower has the sign clear
pub sub_clear : (lo hi : Float) → T (fits binary64 lo) → T (fits binary64 hi) → T (clear lo) → T (clear hi) → T (le lo hi) → T (clear (sub binary64 hi lo))
sub_clear lo hi a b p q h =
    let f = binary64 in
    let c = 2 ^ low f in
    let L = units_of f lo a p in
    let H = units_of f hi b q in
    let o : L.h ≤ H.h = in_order f lo hi L.h H.h L.is H.is h in
    let X = H.h - L.h in
    let g : grid f X c ≤ H.h = grid_short_le f X c H.h (pow_pos (low f)) H.digits (mul-le-mul_right c (omega arith)) in
    clear_of (sub f hi lo) (grid f X c) c (rw (sub_at f hi lo H.h L.h o H.is L.is) (round_val f X c (lt_of_le_of_lt g H.fine)))

-- a trillionth of w is at most w
pub trillionth_le : (w : Float) → T (fits binary64 w) → T (clear w) → T (le (mul binary64 w trillionth) w)
trillionth_le w h c =
    let f = binary64 in
    let U = units_of f w h c in
    let m = 4951760157141521 * 1 in
    let C : 0 < 2 ^ low f = pow_pos (low f) in
    let a = U.h * m in
    let d = 2 ^ low f * 2 ^ 92 in
    let g : grid f a d ≤ U.h =
    grid_short_le f a d U.h (mul-pos C (pow_pos 92)) U.digits
    (le_trans (le_of_eq (mul_assoc U.h m (2 ^ low f)))
    (mul-le-mul_left U.h
    (le_trans (mul-le-mul_right (2 ^ low f) (lit≤ {m = m} {n = 2 ^ 92} tt)) (le_of_eq (mul_comm (2 ^ 92) (2 ^ low f)))))) in
    let v : HasValue (mul f w trillionth) false (grid f a d) (2 ^ low f) =
    rw (mul_at f w 4951760157141521 (negsuc 91) U.h U.is) (round_val f a d (lt_of_le_of_lt g U.fine)) in
    le_of_values (mul f w trillionth) w (grid f a d) (2 ^ low f) U.h (2 ^ low f) C C v U.is (mul-le-mul_right (2 ^ low f) g)
