-- The sum lies between the least and the greatest knot, times what the weights come to: each term is at least the least knot's share and at most the
-- greatest's,
-- and the shares add up to the whole. Assumes nothing.
use Rattle.std.specs.Prelude.{Ok}
use mathlib.Core.Path.{◌≡◌, refl, sym, ap, ◌∙◌, subst}
use mathlib.Core.List.{List}
use mathlib.Core.Bool.{Bool, true, false, cond}
use Prim.Native.Nat.{ℕ, zero, suc, ◌+◌, ◌-◌, ◌*◌, ◌≤◌, ◌<◌}
use native.Mathlib.Nat.{add-zero, add-suc, le-add_right}
use native.Mathlib.Omega.{arith}
use lib.IntN.{ℤ, pos, negsuc, ◌+ℤ◌, ◌*ℤ◌, +ℤ_idr, +ℤ_assoc, +ℤ_comm, *ℤ_comm, *ℤ-zero, suc_ℤ-*ℤ}
use lib.Dec.{T, ltb, le→leb, leb→le, lit<}
use borrow.Author.Tests.{ltb-true, ltb-false}
use lib.Signed.{le_z, le_z_yes, ◌≤ℤ◌}
use Rattle.error.specs.Refusals.{first}
use Rattle.valve.specs.Mix.{weight_of, whole, knot_of, term_of, mix_of, mix_uses, mixture_of}
use Rattle.valve.proofs.Refusals.{passed, told}
use Rattle.valve.proofs.Rule.{sum_is}

-- b is a and so much more
pub record Up (a b : ℤ) : Type 0 where
  pub by : ℕ
  pub is : b ≡ a +ℤ pos by

once_more : (a : ℤ) (j : ℕ) → a *ℤ pos (suc j) ≡ a *ℤ pos j +ℤ a
once_more a j = *ℤ_comm a (pos (suc j)) ∙ suc_ℤ-*ℤ (pos j) a ∙ ap (λ (x : ℤ). x +ℤ a) (*ℤ_comm (pos j) a)

swap : (a b c d : ℤ) → a +ℤ b +ℤ (c +ℤ d) ≡ a +ℤ c +ℤ (b +ℤ d)
swap a b c d =
    +ℤ_assoc a b (c +ℤ d)
    ∙ ap (λ (x : ℤ). a +ℤ x) (sym (+ℤ_assoc b c d) ∙ ap (λ (x : ℤ). x +ℤ d) (+ℤ_comm b c) ∙ +ℤ_assoc c b d)
    ∙ sym (+ℤ_assoc a c (b +ℤ d))

sum_times : (a b : ℤ) (j : ℕ) → (a +ℤ b) *ℤ pos j ≡ a *ℤ pos j +ℤ b *ℤ pos j
sum_times a b zero = *ℤ-zero (a +ℤ b) ∙ sym (ap (λ (x : ℤ). x +ℤ b *ℤ pos 0) (*ℤ-zero a) ∙ ap (λ (x : ℤ). pos 0 +ℤ x) (*ℤ-zero b))
sum_times a b (suc j) =
    once_more (a +ℤ b) j
    ∙ ap (λ (x : ℤ). x +ℤ (a +ℤ b)) (sum_times a b j)
    ∙ swap (a *ℤ pos j) (b *ℤ pos j) a b
    ∙ sym (ap (λ (x : ℤ). x +ℤ b *ℤ pos (suc j)) (once_more a j) ∙ ap (λ (x : ℤ). a *ℤ pos j +ℤ a +ℤ x) (once_more b j))

times_sum : (x : ℤ) (a b : ℕ) → x *ℤ pos (a + b) ≡ x *ℤ pos a +ℤ x *ℤ pos b
times_sum x a zero = ap (λ (n : ℕ). x *ℤ pos n) (add-zero a) ∙ sym (ap (λ (y : ℤ). x *ℤ pos a +ℤ y) (*ℤ-zero x) ∙ +ℤ_idr (x *ℤ pos a))
times_sum x a (suc b) =
    ap (λ (n : ℕ). x *ℤ pos n) (add-suc a b)
    ∙ once_more x (a + b)
    ∙ ap (λ (y : ℤ). y +ℤ x) (times_sum x a b)
    ∙ +ℤ_assoc (x *ℤ pos a) (x *ℤ pos b) x
    ∙ ap (λ (y : ℤ). x *ℤ pos a +ℤ y) (sym (once_more x b))

up_times : (w : ℕ) (a b : ℤ) → Up a b → Up (pos w *ℤ a) (pos w *ℤ b)
up_times w a b u =
    record {
      by = u.by * w;
      is =
          *ℤ_comm (pos w) b ∙ ap (λ (x : ℤ). x *ℤ pos w) u.is ∙ sum_times a (pos u.by) w
          ∙ ap (λ (x : ℤ). x +ℤ pos (u.by * w)) (*ℤ_comm a (pos w));
    }

up_plus : (a b c d : ℤ) → Up a b → Up c d → Up (a +ℤ c) (b +ℤ d)
up_plus a b c d u v =
    record
    { by = u.by + v.by; is = ap (λ (x : ℤ). x +ℤ d) u.is ∙ ap (λ (x : ℤ). a +ℤ pos u.by +ℤ x) v.is ∙ swap a (pos u.by) c (pos v.by) }

up_le : (a : ℤ) (n : ℕ) → T (le_z a (a +ℤ pos n))
up_le (pos a) n = le→leb a (a + n) (le-add_right a n)
up_le (negsuc a) n = go (ltb n (suc a))
  where
    go : (t : Bool) → T (le_z (negsuc a) (cond t (negsuc (suc a - suc n)) (pos (n - suc a))))
    go true = le→leb (suc a - suc n) a (omega arith)
    go false = tt

le_of_up : {a b : ℤ} → Up a b → a ≤ℤ b
le_of_up {a} {b} u = le_z_yes (subst (λ (x : ℤ). T (le_z a x)) (sym u.is) (up_le a u.by))

-- four weights of one number
together : (x : ℤ) (a b c d : ℕ) → pos a *ℤ x +ℤ pos b *ℤ x +ℤ pos c *ℤ x +ℤ pos d *ℤ x ≡ x *ℤ pos (a + b + c + d)
together x a b c d =
    sym
    (times_sum x (a + b + c) d
    ∙ ap (λ (y : ℤ). y +ℤ x *ℤ pos d) (times_sum x (a + b) c ∙ ap (λ (y : ℤ). y +ℤ x *ℤ pos c) (times_sum x a b))
    ∙ ap (λ (y : ℤ). x *ℤ pos a +ℤ x *ℤ pos b +ℤ x *ℤ pos c +ℤ y) (*ℤ_comm x (pos d))
    ∙ ap (λ (y : ℤ). x *ℤ pos a +ℤ x *ℤ pos b +ℤ y +ℤ pos d *ℤ x) (*ℤ_comm x (pos c))
    ∙ ap (λ (y : ℤ). x *ℤ pos a +ℤ y +ℤ pos c *ℤ x +ℤ pos d *ℤ x) (*ℤ_comm x (pos b))
    ∙ ap (λ (y : ℤ). y +ℤ pos b *ℤ x +ℤ pos c *ℤ x +ℤ pos d *ℤ x) (*ℤ_comm x (pos a)))

mixes : (j : ℕ) (a b c d x y z u : ℤ) → Up a x → Up b y → Up c z → Up d u
    → Up (pos (weight_of j 0) *ℤ a +ℤ pos (weight_of j 1) *ℤ b +ℤ pos (weight_of j 2) *ℤ c +ℤ pos (weight_of j 3) *ℤ d)
    (pos (weight_of j 0) *ℤ x +ℤ pos (weight_of j 1) *ℤ y +ℤ pos (weight_of j 2) *ℤ z +ℤ pos (weight_of j 3) *ℤ u)
mixes j a b c d x y z u p q r s =
    up_plus _ _ _ _ (up_plus _ _ _ _ (up_plus _ _ _ _ (up_times (weight_of j 0) a x p) (up_times (weight_of j 1) b y q)) (up_times (weight_of j 2) c z r))
    (up_times (weight_of j 3) d u s)

-- ---- from the order of whole numbers
up_of : (a b : ℤ) → T (le_z a b) → Up a b
up_of (pos a) (pos b) h = let l = leb→le a b h in let e : b ≡ a + (b - a) = omega (arith, l) in record { by = b - a; is = ap pos e }
up_of (pos a) (negsuc b) h = absurd h
up_of (negsuc a) (pos b) h = record { by = b + suc a; is = rest (ltb (b + suc a) (suc a)) refl }
  where
    rest : (t : Bool) → ltb (b + suc a) (suc a) ≡ t → pos b ≡ cond t (negsuc (suc a - suc (b + suc a))) (pos (b + suc a - suc a))
    rest true e = absurd (let l = ltb-true (b + suc a) (suc a) e in omega (arith, l))
    rest false e = let q : b ≡ b + suc a - suc a = omega arith in ap pos q
up_of (negsuc a) (negsuc b) h = record { by = a - b; is = rest (ltb (a - b) (suc a)) refl }
  where
    rest : (t : Bool) → ltb (a - b) (suc a) ≡ t → negsuc b ≡ cond t (negsuc (suc a - suc (a - b))) (pos (a - b - suc a))
    rest true e = let l = leb→le b a h in let q : b ≡ suc a - suc (a - b) = omega (arith, l) in ap negsuc q
    rest false e = absurd (let l = ltb-false (a - b) (suc a) e in omega (arith, l))

-- no knot is below lo
pub at_least : (ks : List ℤ) (j : ℕ) (lo : ℤ) → j ≤ 256 → ((i : ℕ) → i < 4 → lo ≤ℤ knot_of ks i) → (lo *ℤ pos whole) ≤ℤ mix_of ks j
unfolding mix_of
at_least ks j lo h p =
    let up : (i : ℕ) → i < 4 → Up lo (knot_of ks i) = λ i l. up_of lo (knot_of ks i) (p i l).le in
    le_of_up
    (subst (λ (y : ℤ). Up y (term_of ks j 0 +ℤ term_of ks j 1 +ℤ term_of ks j 2 +ℤ term_of ks j 3))
    (together lo (weight_of j 0) (weight_of j 1) (weight_of j 2) (weight_of j 3) ∙ ap (λ (n : ℕ). lo *ℤ pos n) (sum_is j h))
    (mixes j lo lo lo lo (knot_of ks 0) (knot_of ks 1) (knot_of ks 2) (knot_of ks 3) (up 0 (lit< tt)) (up 1 (lit< tt)) (up 2 (lit< tt)) (up 3 (lit< tt))))

-- none is above hi
pub at_most : (ks : List ℤ) (j : ℕ) (hi : ℤ) → j ≤ 256 → ((i : ℕ) → i < 4 → knot_of ks i ≤ℤ hi) → mix_of ks j ≤ℤ (hi *ℤ pos whole)
unfolding mix_of
at_most ks j hi h p =
    let up : (i : ℕ) → i < 4 → Up (knot_of ks i) hi = λ i l. up_of (knot_of ks i) hi (p i l).le in
    le_of_up
    (subst (λ (y : ℤ). Up (term_of ks j 0 +ℤ term_of ks j 1 +ℤ term_of ks j 2 +ℤ term_of ks j 3) y)
    (together hi (weight_of j 0) (weight_of j 1) (weight_of j 2) (weight_of j 3) ∙ ap (λ (n : ℕ). hi *ℤ pos n) (sum_is j h))
    (mixes j (knot_of ks 0) (knot_of ks 1) (knot_of ks 2) (knot_of ks 3) hi hi hi hi (up 0 (lit< tt)) (up 1 (lit< tt)) (up 2 (lit< tt)) (up 3 (lit< tt))))

-- ---- of what the call answers
pub record Between (ks : List ℤ) (s : ℤ) : Type 0 where
  pub low : (lo : ℤ) → ((i : ℕ) → i < 4 → lo ≤ℤ knot_of ks i) → (lo *ℤ pos whole) ≤ℤ s
  pub high : (hi : ℤ) → ((i : ℕ) → i < 4 → knot_of ks i ≤ℤ hi) → s ≤ℤ (hi *ℤ pos whole)

pub mixed_between : (j : ℕ) (ks : List ℤ) (s : ℤ) → mixture_of j ks ≡ Ok s → Between ks s
unfolding mixture_of
mixed_between j ks s e =
    let t = told (first (mix_uses j ks)) e in
    let h : j ≤ 256 = (passed j ks t.0).step in
    record {
      low = λ lo p. subst (λ (z : ℤ). (lo *ℤ pos whole) ≤ℤ z) t.1 (at_least ks j lo h p);
      high = λ hi p. subst (λ (z : ℤ). z ≤ℤ (hi *ℤ pos whole)) t.1 (at_most ks j hi h p);
    }
