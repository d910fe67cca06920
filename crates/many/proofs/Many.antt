-- The two parts of the call's answer, from what its steps come to. Assumes nothing.
use Rattle.many.specs.declared.ManyRefusal.{ManyRefusal}
use Rattle.many.specs.declared.ManyRefusal.TheVariants.{NotANumberAt, Refused}
use Rattle.std.specs.Prelude.{Ok, Err, Result, ⊤}
use Rattle.std.proofs.Common.{
  ◌≡◌,
  ℕ,
  ◌<◌,
  ◌≤◌,
  Bool,
  true,
  false,
  cond,
  eqb,
  List,
  ◌++◌,
  map,
  length,
  get_or,
  drop,
  sym,
  refl,
  ap,
  ◌∙◌,
  subst,
  arith,
  eq-eqb,
  ne_eqb,
}
use lib.Ieee.{Float, nan, binary64, mul}
use Rattle.error.specs.declared.Refusal.{Refusal}
use Rattle.error.specs.Refusals.{number_of, first}
use Rattle.basis.specs.declared.Basis.{Basis}
use Rattle.basis.specs.Basis.{step_of, segments_of}
use Rattle.doubles.specs.Numbers.{clamp}
use Rattle.doubles.specs.Whole.{double}
use Rattle.spline.specs.Curve.{curve_value, scaled}
use Rattle.spline.proofs.Parts.{few}
use Rattle.many.specs.Many.{many_uses, some_nan, first_nan, many_of, values_of, left_by, told_of}
use Rattle.many.specs.Contract.{laid, value_at, InScale, AllInScale}
use Rattle.many.proofs.Scan.{each_number}
use Rattle.many.proofs.Places.{scaled_in}
use Rattle.many.proofs.Laying.{stands, map_length, map_at, both}

-- a value of the curve is the value at the scaled parameter
pub scaled_value : (b : Basis) (ks : List Float) (x : Float) → value_at b ks (scaled (segments_of b (length ks)) x) ≡ curve_value b x ks
unfolding curve_value value_at
scaled_value b ks x = refl

pub values_are : (b : Basis) (xs ks out end : List Float) → end ≡ map (λ x. curve_value b x ks) xs ++ drop (length (map (λ x. curve_value b x ks) xs)) out
    → end ≡ left_by (Ok tt) (values_of b xs ks) out
unfolding values_of
values_are b xs ks out end e = e

-- ---- the two loops
pub few_segments : (b : Basis) (n : ℕ) {k : ℕ} → n ≤ 4096 → k ≡ segments_of b n → k ≤ 4096
few_segments b n h e = omega (arith, e, few n (step_of b) h)

pub scaled_at : (k : ℕ) (xs : List Float) (i : ℕ) {r w : Float} → i < length xs → r ≡ clamp (get_or xs i nan) → w ≡ double k
    → mul binary64 r w ≡ get_or (map (scaled k) xs) i nan
scaled_at k xs i {r} {w} h a b =
    ap (λ (z : Float). mul binary64 z w) a ∙ ap (mul binary64 (clamp (get_or xs i nan))) b ∙ sym (map_at (scaled k) xs i h)

pub all_scaled : (k : ℕ) (xs out now : List Float) → k ≤ 4096 → some_nan xs ≡ false → length xs ≤ length out
    → now ≡ laid (length xs) (map (scaled k) xs) out → AllInScale k (length xs) now
all_scaled k xs out now h n r e i l =
    let m = map_length (scaled k) xs in
    let s : get_or now i nan ≡ scaled k (get_or xs i nan) =
    ap (λ (o : List Float). get_or o i nan) e
    ∙ stands (map (scaled k) xs) out (length xs) i l (omega (arith, m, l)) (omega (arith, l, r))
    ∙ map_at (scaled k) xs i l in
    subst (λ (p : Float). InScale k p) (sym s) (scaled_in k (get_or xs i nan) h (each_number xs i n l))

-- c is the basis whose loop was run
pub arm : (b c : Basis) (xs ks out now end : List Float) {k : ℕ} → b ≡ c → k ≡ segments_of b (length ks) → length xs ≤ length out
    → now ≡ laid (length xs) (map (scaled k) xs) out → end ≡ laid (length xs) (map (value_at c ks) now) now → end ≡ left_by (Ok tt) (values_of b xs ks) out
arm b c xs ks out now end {k} q e r p l =
    values_are b xs ks out end
    (both (value_at b ks) (scaled (segments_of b (length ks))) (λ x. curve_value b x ks) xs out now end (length xs) (scaled_value b ks) r refl
    (p ∙ ap (λ (j : ℕ). laid (length xs) (map (scaled j) xs) out) e)
    (l ∙ ap (λ (d : Basis). laid (length xs) (map (value_at d ks) now) now) (sym q)))

-- ---- the answer
pub told_which : (r : Refusal) (xs : List Float) {n i : ℕ} → n ≡ number_of r → n ≡ 5 → i ≡ first_nan xs → Err (NotANumberAt i) ≡ told_of r xs
told_which r xs a b e =
    ap (λ a. Err (NotANumberAt a)) e ∙ sym (ap (λ (t : Bool). cond t (Err (NotANumberAt (first_nan xs))) (Err (Refused r)))
    (eq-eqb (number_of r) 5 (sym a ∙ b)))

pub told_same : (r : Refusal) (xs : List Float) {n : ℕ} → n ≡ number_of r → (n ≡ 5 → Prim.⊥) → Err (Refused r) ≡ told_of r xs
told_same r xs a b = sym (ap (λ (t : Bool). cond t (Err (NotANumberAt (first_nan xs))) (Err (Refused r))) (ne_eqb (number_of r) 5 (λ e. b (a ∙ e))))

pub record Told (b : Basis) (xs ks out end : List Float) (a : Result ⊤ ManyRefusal) : Type 0 where
  pub answer : a ≡ many_of b xs ks (length out)
  pub left : end ≡ left_by (many_of b xs ks (length out)) (values_of b xs ks) out

pub written : (b : Basis) (xs ks out end : List Float) → first (many_uses b xs ks (length out)) ≡ Ok tt → end ≡ left_by (Ok tt) (values_of b xs ks) out
    → Told b xs ks out end (Ok tt)
unfolding many_of
written b xs ks out end e h = record { answer = simp e; left = simp e h }

kept : (r : Refusal) (xs l out : List Float) → left_by (told_of r xs) l out ≡ out
kept r xs l out = go (eqb (number_of r) 5)
  where
    go : (t : Bool) → left_by (cond t (Err (NotANumberAt (first_nan xs))) (Err (Refused r))) l out ≡ out
    go true = refl
    go false = refl

pub refused : (b : Basis) (xs ks out : List Float) (r : Refusal) {a : Result ⊤ ManyRefusal} → first (many_uses b xs ks (length out)) ≡ Err r → a ≡ told_of r xs
    → Told b xs ks out out a
unfolding many_of
refused b xs ks out r e h = record { answer = h ∙ simp e; left = simp e (sym (kept r xs (values_of b xs ks) out)) }
