-- A fraction's nearest whole number, ties to even: by quotient and remainder, and what it is to be nearest. Assumes nothing.
use mathlib.Core.Path.{◌≡◌, refl, sym, ap, ◌∙◌, subst}
use mathlib.Core.Bool.{not}
use Prim.Native.Nat.{ℕ, zero, suc, ◌+◌, ◌*◌, ◌/◌, ◌%◌, ◌≤◌, ◌<◌, compare, Ordering}
use native.Mathlib.Nat.{add-mul, mul_assoc, mul_comm, mul-one, add-zero, mod-lt, div-add-mod'}
use native.Mathlib.Numerals.{add-one}
use native.Mathlib.Omega.{arith}
use lib.Arith.{lt_of_le-ne, digits_div, digits_mod}
use lib.Dec.{T, is_le, compare_is_eq, eqb, leb→le, nleb→lt, eqb→eq, eqb_refl}
use lib.Ieee.{nearest}
use lib.Ieee.Nearest.{closest, closest_mono}

-- ---- what `compare` says
abbrev Cmp : Ordering → ℕ → ℕ → Type 0
Cmp Ordering.lt a b = a < b
Cmp Ordering.eq a b = a ≡ b
Cmp Ordering.gt a b = b < a

cmp : (a b : ℕ) → Cmp (compare a b) a b
cmp a b = go (compare a b) (leb→le a b) (nleb→lt a b) (eqb→eq a b) (λ (e : a ≡ b). subst (λ (x : ℕ). T (eqb a x)) e (eqb_refl a))
  where
    go : (o : Ordering) → (T (is_le o) → a ≤ b) → (T (not (is_le o)) → b < a) → (T (compare_is_eq o) → a ≡ b) → (a ≡ b → T (compare_is_eq o)) → Cmp o a b
    go Ordering.lt h k e n = lt_of_le-ne (h tt) n
    go Ordering.eq h k e n = e tt
    go Ordering.gt h k e n = k tt

-- ---- by quotient and remainder
module _ (a b q r : ℕ) (is : a ≡ q * b + r) (small : r < b) where
  parted : closest a b ≡ nearest q (compare (r * 2) b)
  parted =
      ap (λ (x : ℕ). closest x b) is
      ∙ ap (λ (x : ℕ). nearest x (compare ((q * b + r) % b * 2) b)) (digits_div q small)
      ∙ ap (λ (x : ℕ). nearest q (compare (x * 2) b)) (digits_mod q small)

  pub closest_below : r * 2 < b → closest a b ≡ q
  closest_below h = parted ∙ go (compare (r * 2) b) (cmp (r * 2) b)
    where
      go : (o : Ordering) → Cmp o (r * 2) b → nearest q o ≡ q
      go Ordering.lt k = refl
      go Ordering.eq k = absurd (omega arith)
      go Ordering.gt k = absurd (omega arith)

  pub closest_above : b < r * 2 → closest a b ≡ q + 1
  closest_above h = parted ∙ go (compare (r * 2) b) (cmp (r * 2) b)
    where
      go : (o : Ordering) → Cmp o (r * 2) b → nearest q o ≡ q + 1
      go Ordering.lt k = absurd (omega arith)
      go Ordering.eq k = absurd (omega arith)
      go Ordering.gt k = omega arith

  pub closest_tie : r * 2 ≡ b → closest a b ≡ q + q % 2
  closest_tie h = parted ∙ go (compare (r * 2) b) (cmp (r * 2) b)
    where
      go : (o : Ordering) → Cmp o (r * 2) b → nearest q o ≡ q + q % 2
      go Ordering.lt k = absurd (omega arith)
      go Ordering.eq k = refl
      go Ordering.gt k = absurd (omega arith)

-- ---- (high · 2048 + low) / (half · 4096), by the quotient and the remainder of high alone
module _ (high low half : ℕ) (few : low < 2048) (some : 0 < half) where
  abbrev unit : ℕ
  unit = half * 2

  abbrev rest : ℕ
  rest = high % unit * 2048 + low

  split : high * 2048 + low ≡ high / unit * (half * 4096) + rest
  split =
      let e : high / unit * unit + high % unit ≡ high = div-add-mod' high unit in
      let f : high / unit * (half * 4096) ≡ high / unit * unit * 2048 =
      ap (λ (x : ℕ). high / unit * x) (sym (mul_assoc half 2 2048)) ∙ sym (mul_assoc (high / unit) unit 2048) in
      omega arith

  left : rest < half * 4096
  left = let h : high % unit < unit = mod-lt high (omega arith) in omega arith

  pub at_below : high % unit < half → high / unit ≡ closest (high * 2048 + low) (half * 4096)
  at_below h = sym (closest_below (high * 2048 + low) (half * 4096) (high / unit) rest split left (omega arith))

  pub at_above : half < high % unit → high / unit + 1 ≡ closest (high * 2048 + low) (half * 4096)
  at_above h = sym (closest_above (high * 2048 + low) (half * 4096) (high / unit) rest split left (omega arith))

  pub at_more : high % unit ≡ half → 0 < low → high / unit + 1 ≡ closest (high * 2048 + low) (half * 4096)
  at_more e h = sym (closest_above (high * 2048 + low) (half * 4096) (high / unit) rest split left (omega arith))

  pub at_half : high % unit ≡ half → low ≡ 0 → high / unit + high / unit % 2 ≡ closest (high * 2048 + low) (half * 4096)
  at_half e z = sym (closest_tie (high * 2048 + low) (half * 4096) (high / unit) rest split left (omega arith))

-- ---- a bound
closest_whole : (k : ℕ) → closest k 1 ≡ k
closest_whole k = closest_below k 1 k 0 (omega arith) (omega arith) (omega arith)

pub closest_bound : (a b k : ℕ) → 0 < b → a ≤ k * b → closest a b ≤ k
closest_bound a b k B h =
    let l : closest a b ≤ closest k 1 = closest_mono a b k 1 B (omega arith) (omega arith) in
    let e : closest k 1 ≡ k = closest_whole k in
    omega arith

-- ---- nearest: u lies at most half a unit from a / b, and exactly half only where u is even
pub record NearestTo (a b u : ℕ) : Type 0 where
  pub above : 2 * (u * b) ≤ 2 * a + b
  pub below : 2 * a ≤ 2 * (u * b) + b
  pub even_above : 2 * (u * b) ≡ 2 * a + b → u % 2 ≡ 0
  pub even_below : 2 * a ≡ 2 * (u * b) + b → u % 2 ≡ 0

one_more : (q b : ℕ) → (q + 1) * b ≡ q * b + b
one_more q b = add-mul q 1 b ∙ ap (λ (x : ℕ). q * b + x) (mul_comm 1 b ∙ mul-one b)

pub closest_nearest : (a b : ℕ) → 0 < b → NearestTo a b (closest a b)
closest_nearest a b B = go (compare (a % b * 2) b) (cmp (a % b * 2) b)
  where
    tied : (p : ℕ) → a / b % 2 ≡ p → p < 2 → a % b * 2 ≡ b → NearestTo a b (a / b + p)
    tied zero f l k =
        let e : a / b * b + a % b ≡ a = div-add-mod' a b in
        let g : (a / b + 0) * b ≡ a / b * b = ap (λ (x : ℕ). x * b) (add-zero (a / b)) in
        record { above = omega arith; below = omega arith; even_above = λ h. omega arith; even_below = λ h. omega arith }
    tied (suc zero) f l k =
        let e : a / b * b + a % b ≡ a = div-add-mod' a b in
        let g : (a / b + 1) * b ≡ a / b * b + b = one_more (a / b) b in
        record { above = omega arith; below = omega arith; even_above = λ h. omega arith; even_below = λ h. omega arith }
    tied (suc (suc p)) f l k = absurd (omega arith)

    go : (o : Ordering) → Cmp o (a % b * 2) b → NearestTo a b (nearest (a / b) o)
    go Ordering.lt k =
        let e : a / b * b + a % b ≡ a = div-add-mod' a b in
        record { above = omega arith; below = omega arith; even_above = λ h. absurd (omega arith); even_below = λ h. absurd (omega arith) }
    go Ordering.eq k = tied (a / b % 2) refl (omega arith) k
    go Ordering.gt k =
        let e : a / b * b + a % b ≡ a = div-add-mod' a b in
        let f : suc (a / b) * b ≡ a / b * b + b = ap (λ (x : ℕ). x * b) (sym (add-one (a / b))) ∙ one_more (a / b) b in
        let l : a % b < b = mod-lt a B in
        record { above = omega arith; below = omega arith; even_above = λ h. absurd (omega arith); even_below = λ h. absurd (omega arith) }
