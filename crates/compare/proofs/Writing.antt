-- The lines of a comparison as they are written, place by place: what is told so far and what is still to come make the whole list. Assumes
-- nothing.
use mathlib.Core.Path.{◌≡◌, refl, sym, ap, subst, ◌∙◌}
use mathlib.Core.Bool.{Bool, true, false, cond}
use mathlib.Core.List.{List, [], ◌∷◌, ◌++◌, append_assoc, append-nil}
use Prim.Native.Nat.{ℕ, suc, ◌+◌, ◌*◌, ◌≤◌, ◌<◌}
use native.Mathlib.Numerals.{add-one}
use native.Mathlib.Omega.{arith}
use borrow.Author.Tests.{lt-ltb, le-ltb, ltb-true, ltb-false, eq-eqb, ne_eqb}
use lib.Dec.{ltb, eqb}
use lib.ListN.{length, get_or, drop, drop_of_length-le}
use lib.Seq.{drop-cons}
use Rattle.table_span.specs.declared.Table.{Table}
use Rattle.text.specs.Pens.{Writes}
use Rattle.text.specs.declared.pen.Pen.{Pen}
use Rattle.text.proofs.Pens.{written, wrote, nothing, within, chained}
use Rattle.compare.specs.Differences.{Difference, basis, span, knot, only, basis_difference, span_difference, knots_from, differences_of, places_in}
use Rattle.compare.specs.Comparison.{difference_text, lines_text, last_text, comparison_text}
use Rattle.compare.specs.Contract.{at_place, last_line, longest}
use Rattle.compare.proofs.Same.{places_counted}

lines_append : (xs ys : List Difference) → lines_text (xs ++ ys) ≡ lines_text xs ++ lines_text ys
unfolding lines_text
lines_append [] ys = refl
lines_append (d ∷ xs) ys =
    ap (λ (t : List ℕ). difference_text d ++ t) (lines_append xs ys) ∙ sym (append_assoc (difference_text d) (lines_text xs) (lines_text ys))

places_append : (xs ys : List Difference) → places_in (xs ++ ys) ≡ places_in xs + places_in ys
unfolding places_in
places_append [] ys = omega arith
places_append (basis b c ∷ xs) ys = places_append xs ys
places_append (span r s ∷ xs) ys = places_append xs ys
places_append (knot i a b ∷ xs) ys = let e : places_in (xs ++ ys) ≡ places_in xs + places_in ys = places_append xs ys in omega arith
places_append (only i a ∷ xs) ys = let e : places_in (xs ++ ys) ≡ places_in xs + places_in ys = places_append xs ys in omega arith

-- ---- the difference at a place
module _ (i : ℕ) (ks ls : List ℕ) where
  pub place_same : i < length ks → i < length ls → get_or ks i 0 ≡ get_or ls i 0 → at_place i ks ls ≡ []
  place_same h g e = rw (lt-ltb i (length ks) h, lt-ltb i (length ls) g, eq-eqb (get_or ks i 0) (get_or ls i 0) e) refl

  pub place_knot : i < length ks → i < length ls → (get_or ks i 0 ≡ get_or ls i 0 → ⊥) → at_place i ks ls ≡ knot i (get_or ks i 0) (get_or ls i 0) ∷ []
  place_knot h g e = rw (lt-ltb i (length ks) h, lt-ltb i (length ls) g, ne_eqb (get_or ks i 0) (get_or ls i 0) e) refl

  pub place_old : i < length ks → length ls ≤ i → at_place i ks ls ≡ only i (get_or ks i 0) ∷ []
  place_old h g = rw (lt-ltb i (length ks) h, le-ltb i (length ls) g) refl

  pub place_new : length ks ≤ i → at_place i ks ls ≡ only i (get_or ls i 0) ∷ []
  place_new h = rw (le-ltb i (length ks) h) refl

-- what the line of a place cites
pub ruleset places = (place_same, place_knot, place_old, place_new, written, wrote, nothing, append-nil)

module _ (i : ℕ) (ks ls : List ℕ) where
  -- the places from i on are place i and those behind it
  pub place_first : (length ks ≤ i → i < length ls)
      → knots_from i (drop i ks) (drop i ls) ≡ at_place i ks ls ++ knots_from (suc i) (drop (suc i) ks) (drop (suc i) ls)
  unfolding knots_from
  place_first f = old (ltb i (length ks)) refl
    where
      rest : List Difference
      rest = knots_from (suc i) (drop (suc i) ks) (drop (suc i) ls)

      both : (t : Bool) → eqb (get_or ks i 0) (get_or ls i 0) ≡ t
          → cond t rest (knot i (get_or ks i 0) (get_or ls i 0) ∷ rest) ≡ cond t [] (knot i (get_or ks i 0) (get_or ls i 0) ∷ []) ++ rest
      both true e = refl
      both false e = refl

      new : i < length ks → (t : Bool) → ltb i (length ls) ≡ t → knots_from i (drop i ks) (drop i ls) ≡ at_place i ks ls ++ rest
      new h true e =
          rw (lt-ltb i (length ks) h, e, drop-cons ks i 0 h, drop-cons ls i 0 (ltb-true i (length ls) e)) (both (eqb (get_or ks i 0) (get_or ls i 0)) refl)
      new h false e =
          let g : length ls ≤ i = ltb-false i (length ls) e in
          let l : length ls ≤ suc i = omega arith in
          rw (lt-ltb i (length ks) h, e, drop-cons ks i 0 h, drop_of_length-le ls {i = i} g, drop_of_length-le ls {i = suc i} l) refl

      old : (t : Bool) → ltb i (length ks) ≡ t → knots_from i (drop i ks) (drop i ls) ≡ at_place i ks ls ++ rest
      old true e = new (ltb-true i (length ks) e) (ltb i (length ls)) refl
      old false e =
          let g : length ks ≤ i = ltb-false i (length ks) e in
          let l : length ks ≤ suc i = omega arith in
          rw (e, drop_of_length-le ks {i = i} g, drop_of_length-le ks {i = suc i} l, drop-cons ls i 0 (f g)) refl

-- ---- all places
-- the places below i have been told
pub record Upto (p : Pen) (ks ls : List ℕ) (i : ℕ) (q : Pen) (n : ℕ) : Type 0 where
  pub told : List Difference
  pub wrote : Writes p (lines_text told) (44 * i) q
  pub count : n ≡ places_in told
  pub most : n ≤ i
  pub whole : told ++ knots_from i (drop i ks) (drop i ls) ≡ knots_from 0 ks ls

module _ (ks ls : List ℕ) where
  pub upto_none : (p : Pen) → Upto p ks ls 0 p 0
  unfolding places_in lines_text
  upto_none p = record {
    told = [];
    wrote = record {
      text = sym (nothing p);
      short = omega arith;
      room = refl;
    };
    count = refl;
    most = omega arith;
    whole = refl;
  }

  pub upto_more : (i : ℕ) {p q r : Pen} {n₁ n₂ : ℕ} → (length ks ≤ i → i < length ls) → Upto p ks ls i q n₁
      → Writes q (lines_text (at_place i ks ls)) 44 r → n₂ ≡ places_in (at_place i ks ls) → n₂ ≤ 1 → Upto p ks ls (i + 1) r (n₁ + n₂)
  upto_more i {p} {q} {r} {n₁} {n₂} f u w e l = record {
    told = u.told ++ at_place i ks ls;
    wrote = rw (lines_append u.told (at_place i ks ls)) (within (44 * (i + 1)) (chained u.wrote w) (omega arith));
    count = cc (places_append u.told (at_place i ks ls), u.count, e);
    most = omega (arith, u.most);
    whole = rw add-one (
        append_assoc u.told (at_place i ks ls) (knots_from (suc i) (drop (suc i) ks) (drop (suc i) ls))
        ∙ ap (λ (ds : List Difference). u.told ++ ds) (sym (place_first i ks ls f))
        ∙ u.whole);
  }

  pub upto_all : (i : ℕ) {p q : Pen} {n : ℕ} → length ks ≤ i → length ls ≤ i → Upto p ks ls i q n
      → Writes p (lines_text (knots_from 0 ks ls)) (44 * i) q × (n ≡ places_in (knots_from 0 ks ls))
  unfolding knots_from
  upto_all i {p} {q} h g u =
      let e : u.told ≡ knots_from 0 ks ls =
      sym (append-nil u.told)
      ∙ ap (λ (ds : List Difference). u.told ++ ds)
      (sym (ends (drop i ks) (drop i ls) (drop_of_length-le ks {i = i} h) (drop_of_length-le ls {i = i} g))) ∙ u.whole in
      (subst (λ (ds : List Difference). Writes p (lines_text ds) (44 * i) q) e u.wrote, u.count ∙ ap (λ (ds : List Difference). places_in ds) e)
    where
      ends : (a b : List ℕ) → a ≡ [] → b ≡ [] → knots_from i a b ≡ []
      ends a b p q = rw (p, q) refl

-- ---- the whole
-- nothing was written exactly where nothing is listed
some_line : (d : Difference) (ds : List Difference) → 0 < length (lines_text (d ∷ ds))
unfolding lines_text
some_line (basis b c) ds = omega arith
some_line (span r s) ds = omega arith
some_line (knot i a b) ds = omega arith
some_line (only i a) ds = omega arith

pub last_is : (ds : List Difference) (at p n : ℕ) → p ≡ at + length (lines_text ds) → n ≡ places_in ds → last_line (eqb p at) n ≡ last_text ds
unfolding last_text lines_text
last_is [] at p n e f = rw (eq-eqb p at (omega arith)) refl
last_is (d ∷ ds) at p n e f =
    let l : 0 < length (lines_text (d ∷ ds)) = some_line d ds in
    rw (ne_eqb p at (λ (g : p ≡ at). omega arith), f) refl

pub compared : (t : Table) (ks : List ℕ) (u : Table) (ls : List ℕ) (b : Bool) (n : ℕ) {p a s q r : Pen}
    → Writes p (lines_text (basis_difference t.basis u.basis)) 28 a
    → Writes a (lines_text (span_difference t.span u.span)) 27 s
    → Writes s (lines_text (knots_from 0 ks ls)) 180224 q
    → n ≡ places_in (knots_from 0 ks ls)
    → b ≡ eqb q.at p.at
    → Writes q (last_line b n) 5 r
    → Writes p (comparison_text t ks u ls) longest r
unfolding comparison_text differences_of
compared t ks u ls b n {p} {a} {s} {q} {r} w x y c e z =
    let ds : List Difference = differences_of t ks u ls in
    let k : lines_text ds ≡ lines_text (basis_difference t.basis u.basis) ++ lines_text (span_difference t.span u.span) ++ lines_text (knots_from 0 ks ls) =
    lines_append (basis_difference t.basis u.basis ++ span_difference t.span u.span) (knots_from 0 ks ls)
    ∙ ap (λ (v : List ℕ). v ++ lines_text (knots_from 0 ks ls)) (lines_append (basis_difference t.basis u.basis) (span_difference t.span u.span)) in
    let all : Writes p (lines_text ds) 180279 q = rw k (within 180279 (chained (chained w x) y) (omega arith)) in
    let l : last_line b n ≡ last_text ds = rw e (last_is ds p.at q.at n (ap (λ (v : Pen). v.at) all.text) (c ∙ sym (places_counted t ks u ls))) in
    within longest (chained all (subst (λ (v : List ℕ). Writes q v 5 r) l z)) (omega arith)
