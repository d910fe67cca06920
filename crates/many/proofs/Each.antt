-- What the call comes to for each parameter: where values are written, what stands at i is what `spline` answers for the i-th, and places
-- beyond stay; refusal 5 tells the first NaN; and whatever is refused, nothing is written. Assumes nothing.
use Rattle.many.specs.declared.ManyRefusal.{ManyRefusal}
use Rattle.many.specs.declared.ManyRefusal.TheVariants.{NotANumberAt, Refused}
use Rattle.std.specs.Prelude.{Ok, Err, Result, ⊤}
use Rattle.std.proofs.Common.{
  ◌≡◌,
  ℕ,
  ◌+◌,
  ◌-◌,
  ◌<◌,
  ◌≤◌,
  Bool,
  true,
  false,
  cond,
  eqb,
  List,
  length,
  get_or,
  drop,
  sym,
  refl,
  ap,
  ◌∙◌,
  arith,
  get_or-drop,
  get_or-append-add,
  eqb-true,
}
use lib.ListN.{get_or-append}
use lib.Ieee.{Float, nan, is_nan}
use Rattle.error.specs.declared.Refusal.{Refusal}
use Rattle.error.specs.Refusals.{number_of, rows, applies, first, Verdict}
use Rattle.error.proofs.First.{never, clear, first_sound, first_applies}
use Rattle.basis.specs.declared.Basis.{Basis}
use Rattle.spline.specs.Curve.{curve_value}
use Rattle.spline.specs.Evaluation.{spline_uses, evaluated, spline_of}
use Rattle.many.specs.Many.{some_nan, first_nan, many_uses, values_of, told_of, answer_by, many_of, left_by}
use Rattle.many.proofs.Scan.{each_number, first_nan_is}
use Rattle.many.proofs.Laying.{map_length, map_at}

-- the output when the call returns
abbrev pub leaves : Basis → List Float → List Float → List Float → List Float
leaves b xs ks out = left_by (many_of b xs ks (length out)) (values_of b xs ks) out

-- values are written only where the verdict is passed
told_is : (r : Refusal) (xs : List Float) → told_of r xs ≡ Ok tt → Prim.⊥
told_is r xs e = go (eqb (number_of r) 5) e
  where
    go : (t : Bool) → cond {A = Result ⊤ ManyRefusal} t (Err (NotANumberAt (first_nan xs))) (Err (Refused r)) ≡ Ok tt → Prim.⊥
    go true h = never (cc)
    go false h = never (cc)

passed_by : (v : Verdict) (xs : List Float) → answer_by v xs ≡ Ok tt → v ≡ Ok tt
passed_by (Ok _) xs e = refl
passed_by (Err r) xs e = absurd (told_is r xs e)

-- and then the single call's is passed for each
passes : (b : Basis) (xs ks : List Float) (room i : ℕ) → first (many_uses b xs ks room) ≡ Ok tt → i < length xs
    → first (spline_uses b (get_or xs i nan) ks) ≡ Ok tt
passes b xs ks room i e h =
    let p = clear (many_uses b xs ks room) e in
    simp (p 1, p 2, p 3, each_number xs i (p 5) h, p 4)

values_at : (b : Basis) (xs ks : List Float) (i : ℕ) → i < length xs → get_or (values_of b xs ks) i nan ≡ curve_value b (get_or xs i nan) ks
unfolding values_of
values_at b xs ks i h = map_at (λ x. curve_value b x ks) xs i h

values_length : (b : Basis) (xs ks : List Float) → length (values_of b xs ks) ≡ length xs
unfolding values_of
values_length b xs ks = map_length (λ x. curve_value b x ks) xs

written_by : (b : Basis) (xs ks : List Float) (room : ℕ) → many_of b xs ks room ≡ Ok tt → first (many_uses b xs ks room) ≡ Ok tt
unfolding many_of
written_by b xs ks room e = passed_by (first (many_uses b xs ks room)) xs e

module _ (b : Basis) (xs ks out : List Float) (e : many_of b xs ks (length out) ≡ Ok tt) where
  left : leaves b xs ks out ≡ left_by (Ok tt) (values_of b xs ks) out
  left = ap (λ (a : Result ⊤ ManyRefusal). left_by a (values_of b xs ks) out) e

  -- what stands at i is what the single call answers for the i-th
  pub each_value : (i : ℕ) → i < length xs → spline_of b (get_or xs i nan) ks ≡ Ok (get_or (leaves b xs ks out) i nan)
  unfolding spline_of
  each_value i h =
      let n = values_length b xs ks in
      ap (λ (v : Verdict). evaluated v (curve_value b (get_or xs i nan) ks)) (passes b xs ks (length out) i (written_by b xs ks (length out) e) h)
      ∙ ap Ok
      (sym
      (ap (λ (o : List Float). get_or o i nan) left
      ∙ get_or-append (values_of b xs ks) (drop (length (values_of b xs ks)) out) nan i (omega (arith, n, h))
      ∙ values_at b xs ks i h))

  -- places beyond stay
  pub beyond_stays : (i : ℕ) → length xs ≤ i → get_or (leaves b xs ks out) i nan ≡ get_or out i nan
  beyond_stays i h =
      let l = values_of b xs ks in
      let n = values_length b xs ks in
      let j = i - length l in
      let q : i ≡ length l + j = omega (arith, n, h) in
      ap (λ (o : List Float). get_or o i nan) left
      ∙ ap (λ (k : ℕ). get_or (left_by (Ok tt) l out) k nan) q
      ∙ get_or-append-add l (drop (length l) out) j nan
      ∙ get_or-drop (length l) out j nan
      ∙ ap (λ (k : ℕ). get_or out k nan) (sym q)

-- ---- refusals
-- nothing is written
pub refused_stays : (b : Basis) (xs ks out : List Float) → (many_of b xs ks (length out) ≡ Ok tt → Prim.⊥) → leaves b xs ks out ≡ out
refused_stays b xs ks out n = go (many_of b xs ks (length out)) n
  where
    go : (a : Result ⊤ ManyRefusal) → (a ≡ Ok tt → Prim.⊥) → left_by a (values_of b xs ks) out ≡ out
    go (Ok _) h = absurd (h refl)
    go (Err (NotANumberAt i)) h = refl
    go (Err (Refused r)) h = refl

-- 5 tells a parameter that is NaN, and none before it is
which_by : (v : Verdict) (xs : List Float) (i : ℕ) → answer_by v xs ≡ Err (NotANumberAt i)
    → (i ≡ first_nan xs) × ((r : Refusal) → v ≡ Err r → number_of r ≡ 5)
which_by (Ok _) xs i e = never (cc)
which_by (Err r) xs i e = go (eqb (number_of r) 5) refl e
  where
    go : (t : Bool) → eqb (number_of r) 5 ≡ t → cond {A = Result ⊤ ManyRefusal} t (Err (NotANumberAt (first_nan xs))) (Err (Refused r)) ≡ Err (NotANumberAt i)
        → (i ≡ first_nan xs) × ((q : Refusal) → ◌≡◌ {A = Verdict} (Err r) (Err q) → number_of q ≡ 5)
    go true p h = (cc, λ q k. let z : r ≡ q = cc in sym (ap number_of z) ∙ eqb-true (number_of r) 5 p)
    go false p h = never (cc)

five : (b : Basis) (xs ks : List Float) (room : ℕ) (v : Verdict) → v ≡ first (many_uses b xs ks room)
    → ((r : Refusal) → v ≡ Err r → number_of r ≡ 5)
    → (v ≡ Ok tt → Prim.⊥) → some_nan xs ≡ true
five b xs ks room (Ok _) e f n = absurd (n refl)
five b xs ks room (Err r) e f n =
    let a = (first_applies (many_uses b xs ks room) rows r (first_sound rows (many_uses b xs ks room) r (sym e))).0 in
    sym (ap (λ (k : ℕ). applies k (many_uses b xs ks room)) (f r refl)) ∙ a

pub tells_first : (b : Basis) (xs ks : List Float) (room i : ℕ) → many_of b xs ks room ≡ Err (NotANumberAt i)
    → (i ≡ first_nan xs) × (first_nan xs < length xs) × (is_nan (get_or xs (first_nan xs) nan) ≡ true)
    × ((j : ℕ) → j < first_nan xs → is_nan (get_or xs j nan) ≡ false)
unfolding many_of
tells_first b xs ks room i e =
    let w = which_by (first (many_uses b xs ks room)) xs i e in
    let s = five b xs ks room (first (many_uses b xs ks room)) refl w.1 (λ p. passed_not (first (many_uses b xs ks room)) p e) in
    let f = first_nan_is xs s in
    (w.0, f.0, f.1, f.2)
  where
    passed_not : (v : Verdict) → v ≡ Ok tt → answer_by v xs ≡ Err (NotANumberAt i) → Prim.⊥
    passed_not (Ok _) p h = never (cc)
    passed_not (Err r) p h = never (cc)
