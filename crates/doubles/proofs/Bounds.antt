-- How large a result can get. `Within a x`: x is finite, and at most 2 ^ a in magnitude. Rounding keeps such a bound, of either sign, since 2 ^ a is a value of
-- the format.
-- So a product is within the sum of the two exponents, and a sum within one more. Assumes nothing.
use Rattle.std.proofs.Common.{
  ◌≡◌,
  ℕ,
  suc,
  ◌+◌,
  ◌-◌,
  ◌*◌,
  ◌^◌,
  ◌<◌,
  ◌≤◌,
  Bool,
  true,
  false,
  cond,
  not,
  ◌&&◌,
  T,
  ltb,
  pos,
  sym,
  ap,
  ◌∙◌,
  subst,
  le_trans,
  le_of_eq,
  lt_of_le_of_lt,
  add-le-add,
  mul-le-mul_right,
  mul_assoc,
  mul_comm,
  add-mul,
  mul-le-mul,
  mul-pos,
  one-mul,
  mul-one,
  mul_right_comm,
  le_of_mul-le-mul_right,
  arith,
  lit<,
  lit≤,
  pow_pos,
  pow_mono,
  pow-add,
}
use mathlib.Core.Bool.{beq}
use native.Mathlib.Nat.{mul-mul-mul_comm, two-pow-succ}
use lib.Pow.{pow-lt}
use lib.Ieee.{Float, nan, inf, fin, Format, binary64, prec, emax, low, up, down, unlike, round, sum, add, mul, lt, le, eq, of_int, is_nan}
use lib.Ieee.Fits.{round_is, two, down_pos}
use lib.Ieee.Exact.{HasValue, units_val}
use lib.Ieee.Order.{drop, kept}
use lib.Ieee.Scale.{grid, overflow, finite}
use Rattle.doubles.specs.Numbers.{nought, one, clamp}
use Rattle.doubles.proofs.Tests.{branch}
use Rattle.doubles.proofs.Order.{of_Le, at_most, at_least, le_trans_float, not-lt→le}
use Rattle.doubles.proofs.Rounding.{grid_le}

abbrev pub Size : ℕ → Float → Type 0
Size a nan = ⊥
Size a (inf s) = ⊥
Size a (fin s m e) = m * up e ≤ 2 ^ a * down e

-- a record, so that antt finds a and x from a proof of it
pub record Within (a : ℕ) (x : Float) : Type 0 where
  pub held : Size a x

size_widen : (a b : ℕ) (x : Float) → a ≤ b → Size a x → Size b x
size_widen a b nan h w = w
size_widen a b (inf s) h w = w
size_widen a b (fin s m e) h w = le_trans w (mul-le-mul_right (down e) (pow_mono h))

widen : {a : ℕ} (b : ℕ) {x : Float} → a ≤ b → Within a x → Within b x
widen {a} b {x} h w = record { held = size_widen a b x h w.held }

size_finite : (a : ℕ) (x : Float) → Size a x → T (finite x)
size_finite a nan w = w
size_finite a (inf s) w = w
size_finite a (fin s m e) w = tt

pub within_finite : {a : ℕ} {x : Float} → Within a x → T (finite x)
within_finite {a} {x} w = size_finite a x w.held

size_number : (a : ℕ) (x : Float) → Size a x → T (not (is_nan x))
unfolding is_nan
size_number a nan w = w
size_number a (inf s) w = tt
size_number a (fin s m e) w = tt

pub within_number : {a : ℕ} {x : Float} → Within a x → T (not (is_nan x))
within_number {a} {x} w = size_number a x w.held

-- ---- rounding
-- from a value g / l that is at most 2 ^ a
size_of_value : (x : Float) (s : Bool) (g l a : ℕ) → 0 < l → HasValue x s g l → g ≤ 2 ^ a * l → Size a x
size_of_value nan s g l a L v h = v
size_of_value (inf t) s g l a L v h = v
size_of_value (fin t m e) s g l a L v h =
    le_of_mul-le-mul_right (le_trans (le_of_eq v.1) (le_trans (mul-le-mul_right (down e) h) (le_of_eq (mul_right_comm (2 ^ a) l (down e))))) L

pub value_within : (x : Float) (s : Bool) (g l a : ℕ) → 0 < l → HasValue x s g l → g ≤ 2 ^ a * l → Within a x
value_within x s g l a L v h = record { held = size_of_value x s g l a L v h }

one_digit : (f : Format) → 1 < 2 ^ prec f
one_digit f = pow-lt {i = 0} (le_trans (lit≤ tt) (two f))

pub round_size : (f : Format) (s : Bool) (num den a : ℕ) → 0 < den → a ≤ emax f → num ≤ 2 ^ a * den → Size a (round f s num den)
round_size f s num den a D A h =
    let l = low f in
    let e : 2 ^ a * 2 ^ l ≡ 1 * 2 ^ (a + l) = sym (pow-add 2 a l) ∙ sym (one-mul (2 ^ (a + l))) in
    let g : grid f num den ≤ 2 ^ a * 2 ^ l =
    le_trans (grid_le f num den 1 (a + l) D (one_digit f)
    (le_trans (mul-le-mul_right (2 ^ l) h) (le_of_eq (mul_right_comm (2 ^ a) den (2 ^ l) ∙ ap (λ (x : ℕ). x * den) e)))) (le_of_eq (sym e)) in
    let fine : grid f num den < overflow f = lt_of_le_of_lt g (subst (λ (x : ℕ). x < overflow f) (pow-add 2 a l) (pow-lt (omega arith))) in
    size_of_value (round f s num den) s (grid f num den) (2 ^ l) a (pow_pos l)
    (subst (λ (x : Float). HasValue x s (grid f num den) (2 ^ l)) (sym (round_is f s num den))
    (units_val f s (kept (prec f) (num * 2 ^ l) den) (drop (prec f) (num * 2 ^ l) den) fine)) g

-- ---- the operations
mul_size : (f : Format) (a b : ℕ) (x y : Float) → a + b ≤ emax f → Size a x → Size b y → Size (a + b) (mul f x y)
unfolding mul
mul_size f a b nan y A v w = v
mul_size f a b (inf s) y A v w = absurd v
mul_size f a b (fin s m e) nan A v w = w
mul_size f a b (fin s m e) (inf t) A v w = absurd w
mul_size f a b (fin s m e) (fin t n d) A v w =
    round_size f (unlike s t) (m * up e * (n * up d)) (down e * down d) (a + b) (mul-pos (down_pos e) (down_pos d)) A
    (le_trans (mul-le-mul v w) (le_of_eq (mul-mul-mul_comm (2 ^ a) (down e) (2 ^ b) (down d) ∙ ap (λ (x : ℕ). x * (down e * down d)) (sym (pow-add 2 a b)))))

sum_size : (f : Format) (a : ℕ) (s : Bool) (x : ℕ) (t : Bool) (y c : ℕ) → 0 < c → a ≤ emax f → x + y ≤ 2 ^ a * c → Size a (sum f s x t y c)
unfolding sum
sum_size f a s x t y c C A h = go (beq s t) (ltb x y)
  where
    go : (p q : Bool) → Size a (cond p (round f s (x + y) c) (cond q (round f t (y - x) c) (round f (s && ltb y x) (x - y) c)))
    go true q = round_size f s (x + y) c a C A h
    go false true = round_size f t (y - x) c a C A (omega arith)
    go false false = round_size f (s && ltb y x) (x - y) c a C A (omega arith)

add_size : (f : Format) (a : ℕ) (x y : Float) → suc a ≤ emax f → Size a x → Size a y → Size (suc a) (add f x y)
unfolding add
add_size f a nan y A v w = v
add_size f a (inf s) y A v w = absurd v
add_size f a (fin s m e) nan A v w = w
add_size f a (fin s m e) (inf t) A v w = absurd w
add_size f a (fin s m e) (fin t n d) A v w =
    let de = down e in
    let dd = down d in
    let p : m * up e * dd ≤ 2 ^ a * (de * dd) = le_trans (mul-le-mul_right dd v) (le_of_eq (mul_assoc (2 ^ a) de dd)) in
    let q : n * up d * de ≤ 2 ^ a * (de * dd) =
    le_trans (mul-le-mul_right de w) (le_of_eq (mul_assoc (2 ^ a) dd de ∙ ap (λ (x : ℕ). 2 ^ a * x) (mul_comm dd de))) in
    sum_size f (suc a) s (m * up e * dd) t (n * up d * de) (de * dd) (mul-pos (down_pos e) (down_pos d)) A
    (le_trans (add-le-add p q) (le_of_eq (sym (add-mul (2 ^ a) (2 ^ a) (de * dd)) ∙ ap (λ (x : ℕ). x * (de * dd)) (sym (two-pow-succ a)))))

pub times : {a b : ℕ} {x y : Float} → a + b ≤ 1023 → Within a x → Within b y → Within (a + b) (mul binary64 x y)
times {a} {b} {x} {y} A v w = record { held = mul_size binary64 a b x y A v.held w.held }

pub plus : (c : ℕ) {a b : ℕ} {x y : Float} → a ≤ c → b ≤ c → c < 1023 → Within a x → Within b y → Within (suc c) (add binary64 x y)
plus c {a} {b} {x} {y} p q A v w = record { held = add_size binary64 c x y A (widen c p v).held (widen c q w).held }

-- ---- a bound from comparisons
-- from -2 ^ a to 2 ^ a
between : (a : ℕ) (x : Float) → T (le (fin true 1 (pos a)) x) → T (le x (fin false 1 (pos a))) → Size a x
unfolding le
between a nan l h = h
between a (inf true) l h = l
between a (inf false) l h = h
between a (fin true m e) l h = simp (mul-one, one-mul) at (at_least (1 * 2 ^ a * down e) (m * up e * 1) true l)
between a (fin false m e) l h = simp (mul-one, one-mul) at (at_most (m * up e * 1) (1 * 2 ^ a * down e) true h)

pub between_within : (a : ℕ) (x : Float) → T (le (fin true 1 (pos a)) x) → T (le x (fin false 1 (pos a))) → Within a x
between_within a x l h = record { held = between a x l h }

-- and back
sized_between : (a : ℕ) (x : Float) → Size a x → T (le (fin true 1 (pos a)) x) × T (le x (fin false 1 (pos a)))
unfolding le lt eq
sized_between a nan w = absurd w
sized_between a (inf s) w = absurd w
sized_between a (fin true m e) w =
    (of_Le true (1 * 2 ^ a * down e) true (m * up e * 1) (simp (mul-one, one-mul) w), of_Le true (m * up e * 1) false (1 * 2 ^ a * down e) tt)
sized_between a (fin false m e) w =
    (of_Le true (1 * 2 ^ a * down e) false (m * up e * 1) tt, of_Le false (m * up e * 1) false (1 * 2 ^ a * down e) (simp (mul-one, one-mul) w))

pub within_between : {a : ℕ} {x : Float} → Within a x → T (le (fin true 1 (pos a)) x) × T (le x (fin false 1 (pos a)))
within_between {a} {x} w = sized_between a x w.held

minus_one_below : T (le (fin true 1 (pos 0)) nought)
unfolding le
minus_one_below = tt

pub unit_within : (t : Float) → T (le nought t) → T (le t one) → Within 0 t
unit_within t l h = between_within 0 t (le_trans_float (fin true 1 (pos 0)) nought t minus_one_below l) h

-- ---- from 0 to 1, −0 among them
pub record InOne (x : Float) : Type 0 where
  pub low : T (le nought x)
  pub high : T (le x one)

pub in_nought : InOne nought
unfolding le lt eq
in_nought = record { low = tt; high = tt }

in_one : InOne one
unfolding le lt eq
in_one = record { low = tt; high = tt }

pub clamp_in : (x : Float) → T (not (is_nan x)) → InOne (clamp x)
unfolding clamp is_nan
clamp_in x n =
    branch InOne (lt x nought) (λ h. in_nought)
    (λ h. branch InOne (lt one x) (λ k. in_one) (λ k. record { low = not-lt→le x nought n tt h; high = not-lt→le one x tt n k }))

pub clamp_within : (x : Float) → T (not (is_nan x)) → Within 0 (clamp x)
clamp_within x n = let c = clamp_in x n in unit_within (clamp x) c.low c.high

-- ---- whole numbers
pub whole_within : (n : ℕ) → n ≤ 4096 → Within 12 (of_int binary64 (pos n))
unfolding of_int
whole_within n h = record { held = round_size binary64 false n 1 12 (lit< tt) (lit≤ tt) (omega arith) }
