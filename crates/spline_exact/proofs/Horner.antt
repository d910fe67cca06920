-- Horner's rule and the sum of the powers are one number: whole numbers are multiplied out, a power of the place at a time. Assumes nothing.
use mathlib.Core.Path.{◌≡◌, refl, sym, ap, ◌∙◌}
use Prim.Native.Nat.{ℕ, zero, suc, ◌*◌}
use native.Mathlib.Nat.{mul_assoc, zero-mul}
use lib.IntN.{ℤ, pos, negsuc, neg_ℤ, ◌+ℤ◌, ◌*ℤ◌, +ℤ_assoc, +ℤ_comm, *ℤ_comm, *ℤ-zero, suc_ℤ-*ℤ}

-- ---- by a whole number that is not negative
minus_times : (n j : ℕ) → neg_ℤ (pos n) *ℤ pos j ≡ neg_ℤ (pos (n * j))
minus_times zero j = ap pos (zero-mul j) ∙ sym (ap (λ (x : ℕ). neg_ℤ (pos x)) (zero-mul j))
minus_times (suc n) j = refl

pub times_times : (a : ℤ) (i j : ℕ) → a *ℤ pos i *ℤ pos j ≡ a *ℤ pos (i * j)
times_times (pos a) i j = ap pos (mul_assoc a i j)
times_times (negsuc a) i j = minus_times (suc a * i) j ∙ ap (λ (x : ℕ). neg_ℤ (pos x)) (mul_assoc (suc a) i j)

once_more : (a : ℤ) (j : ℕ) → a *ℤ pos (suc j) ≡ a *ℤ pos j +ℤ a
once_more a j = *ℤ_comm a (pos (suc j)) ∙ suc_ℤ-*ℤ (pos j) a ∙ ap (λ (x : ℤ). x +ℤ a) (*ℤ_comm (pos j) a)

swap : (a b c d : ℤ) → a +ℤ b +ℤ (c +ℤ d) ≡ a +ℤ c +ℤ (b +ℤ d)
swap a b c d =
    +ℤ_assoc a b (c +ℤ d)
    ∙ ap (λ (x : ℤ). a +ℤ x) (sym (+ℤ_assoc b c d) ∙ ap (λ (x : ℤ). x +ℤ d) (+ℤ_comm b c) ∙ +ℤ_assoc c b d)
    ∙ sym (+ℤ_assoc a c (b +ℤ d))

pub sum_times : (a b : ℤ) (j : ℕ) → (a +ℤ b) *ℤ pos j ≡ a *ℤ pos j +ℤ b *ℤ pos j
sum_times a b zero = *ℤ-zero (a +ℤ b) ∙ sym (ap (λ (x : ℤ). x +ℤ b *ℤ pos 0) (*ℤ-zero a) ∙ ap (λ (x : ℤ). pos 0 +ℤ x) (*ℤ-zero b))
sum_times a b (suc j) =
    once_more (a +ℤ b) j
    ∙ ap (λ (x : ℤ). x +ℤ (a +ℤ b)) (sum_times a b j)
    ∙ swap (a *ℤ pos j) (b *ℤ pos j) a b
    ∙ sym (ap (λ (x : ℤ). x +ℤ b *ℤ pos (suc j)) (once_more a j) ∙ ap (λ (x : ℤ). a *ℤ pos j +ℤ a +ℤ x) (once_more b j))

-- both summands by j
spread : (a b : ℤ) (i k j : ℕ) → (a *ℤ pos i +ℤ b *ℤ pos k) *ℤ pos j ≡ a *ℤ pos (i * j) +ℤ b *ℤ pos (k * j)
spread a b i k j =
    sum_times (a *ℤ pos i) (b *ℤ pos k) j ∙ ap (λ (x : ℤ). x +ℤ b *ℤ pos k *ℤ pos j) (times_times a i j)
    ∙ ap (λ (x : ℤ). a *ℤ pos (i * j) +ℤ x) (times_times b k j)

pub horner : (a b c d : ℤ) (k l n j : ℕ)
    → ((a *ℤ pos j +ℤ b *ℤ pos k) *ℤ pos j +ℤ c *ℤ pos l) *ℤ pos j +ℤ d *ℤ pos n ≡ a *ℤ pos (j * j * j) +ℤ b *ℤ pos (k * j * j) +ℤ c *ℤ pos (l * j) +ℤ d *ℤ
    pos n
horner a b c d k l n j =
    ap (λ (x : ℤ). x +ℤ d *ℤ pos n)
    (ap (λ (x : ℤ). (x +ℤ c *ℤ pos l) *ℤ pos j) (spread a b j k j)
    ∙ sum_times (a *ℤ pos (j * j) +ℤ b *ℤ pos (k * j)) (c *ℤ pos l) j
    ∙ ap (λ (x : ℤ). x +ℤ c *ℤ pos l *ℤ pos j) (spread a b (j * j) (k * j) j)
    ∙ ap (λ (x : ℤ). a *ℤ pos (j * j * j) +ℤ b *ℤ pos (k * j * j) +ℤ x) (times_times c l j))
