-- The library's own evaluation in doubles, over rows of at most 2^19: at the 256ths of its segments it rounds nothing, so that its answers are in order too.
-- Assumes nothing.
use Rattle.std.specs.Prelude.{Ok}
use mathlib.Core.Path.{◌≡◌, refl, sym, ap, ◌∙◌, subst}
use mathlib.Core.Logic.{⊎_elim}
use mathlib.Core.Bool.{Bool, true, false}
use mathlib.Core.List.{List, [], ◌∷◌}
use Prim.Native.Nat.{ℕ, zero, suc, ◌-◌, ◌*◌, ◌^◌, ◌≤◌, ◌<◌}
use native.Mathlib.Nat.{mul-le-mul_right, zero-mul}
use native.Mathlib.Omega.{arith}
use lib.IntN.{ℤ, pos, nat_abs, ◌*ℤ◌}
use lib.Dec.{T, lit≤}
use lib.Pow.{pow_pos}
use lib.ListN.{length, drop, get_or}
use lib.Signed.{◌≤ℤ◌}
use lib.Ieee as ieee
use lib.Ieee.{Float, nan, inf, fin, binary64, round}
use lib.Ieee.Order.{transfer}
use Rattle.doubles.specs.Number.{signed, Number}
use Rattle.doubles.proofs.Order.{Le, of_Le, gone}
use Rattle.doubles.proofs.WholePart.{whole_le}
use Rattle.error.specs.Refusals.{first}
use Rattle.basis.specs.declared.Basis.TheVariants.{Hermite}
use Rattle.basis.specs.Basis.{segments_of, whole_of}
use Rattle.checks.specs.Checks.{curve_length}
use Rattle.spline.specs.Curve.{segment_at, local_at}
use Rattle.spline.specs.Evaluation.{spline_of, spline_segment_of, Evaluation}
use Rattle.spline_exact.specs.Cubic.{at, cubic}
use Rattle.spline_exact.specs.Exact.{twice, exact_of, Answers}
use Rattle.spline_exact.proofs.Call.{doubles_of, knots_met, place_met, segment_answers, curve_answers}
use Rattle.turns_back.specs.Curve.{value_at, coefficient, curve_at}
use Rattle.whole.proofs.Differences.{up, down, Is, itself, opposite, times, le, of_le}
use Rattle.turns_back.proofs.Simpson.{either}
use Rattle.turns_back.proofs.Seams.{value_is}
use Rattle.turns_back.proofs.Everywhere.{NotAfter}
use Rattle.turns_back.proofs.Answer.{before, in_order_everywhere}
use Rattle.monotone.specs.Slope.{slope_at}
use Rattle.whole.specs.Held.{Small}
use Rattle.monotone.specs.Table.{most, table_of}
use Rattle.whole.proofs.Differences.{alike}
use Rattle.monotone.proofs.Sizes.{slope_within}
use Rattle.monotone.proofs.Through.{four, four_0, four_1, four_2, four_3}
use Rattle.turns_back.proofs.InOrder.{InOrder}
use Rattle.monotone.proofs.Kept.{knots_within, lengths_pass, segments_are, in_order_within, never_turns}

-- ---- twice the textbook cubic
twofold : (l : List ℤ) (j : ℕ) → exact_of Hermite l j ≡ cubic (whole_of Hermite) l j *ℤ pos 2
unfolding cubic value_at
twofold l j =
    alike
    (value_is (up (at l 0)) (down (at l 0)) (up (at l 1)) (down (at l 1)) (up (at l 2)) (down (at l 2)) (up (at l 3)) (down (at l 3)) l (itself (at l 0))
    (itself (at l 1))
    (itself (at l 2)) (itself (at l 3)) (twice Hermite) 256 j)
    (times 2
    (value_is (up (at l 0)) (down (at l 0)) (up (at l 1)) (down (at l 1)) (up (at l 2)) (down (at l 2)) (up (at l 3)) (down (at l 3)) l (itself (at l 0))
    (itself (at l 1))
    (itself (at l 2)) (itself (at l 3)) (whole_of Hermite) 256 j))
    (omega arith)

exact_is : (z : List ℤ) (s j : ℕ) → exact_of Hermite (drop (s * 2) z) j ≡ curve_at Hermite z s 256 j *ℤ pos 2
unfolding curve_at coefficient value_at cubic
exact_is z s j = twofold (drop (s * 2) z) j

-- ---- order, another factor on both sides
fewer : (x y : ℤ) → (x *ℤ pos (256 * 256 * 256)) ≤ℤ (y *ℤ pos (256 * 256 * 256)) → (x *ℤ pos 2) ≤ℤ (y *ℤ pos 2)
fewer x y h =
    let l = of_le (times (256 * 256 * 256) (itself x)) (times (256 * 256 * 256) (itself y)) h in
    le (times 2 (itself x)) (times 2 (itself y)) (omega (arith, l))

fewer_by : (t : Bool) (x y : ℤ) → before t (x *ℤ pos (256 * 256 * 256)) (y *ℤ pos (256 * 256 * 256)) → before t (x *ℤ pos 2) (y *ℤ pos 2)
fewer_by true x y h = fewer x y h
fewer_by false x y h = fewer y x h

-- ---- the knots as doubles
doubles_long : (z : List ℤ) → length (doubles_of z) ≡ length z
doubles_long [] = refl
doubles_long (x ∷ z) = ap suc (doubles_long z)

beyond : (z : List ℤ) (i : ℕ) → length z ≤ i → get_or z i (pos 0) ≡ pos 0
beyond [] i h = refl
beyond (x ∷ z) zero h = absurd (omega arith)
beyond (x ∷ z) (suc i) h = beyond z i (omega arith)

-- ---- the order of doubles is that of the numbers that they are
nought_parts : (x de a c dd : ℕ) → 0 < c → x * c ≡ a * de → a ≡ 0 → x * dd ≡ 0
nought_parts x de a c dd C e z =
    let k : x * c ≡ 0 = e ∙ ap (λ (n : ℕ). n * de) z ∙ zero-mul de in
    ap (λ (n : ℕ). n * dd) (gone x c C k) ∙ zero-mul dd

by_sign : (s t : Bool) (x y de dd a b c : ℕ) → 0 < c → x * c ≡ a * de → y * c ≡ b * dd → signed s a ≤ℤ signed t b → Le s (x * dd) t (y * de)
by_sign false false x y de dd a b c C p q h =
    let l = of_le (itself (pos a)) (itself (pos b)) h in
    let k : a ≤ b = omega (arith, l) in
    transfer x y de dd a b c c C C p q (mul-le-mul_right c k)
by_sign false true x y de dd a b c C p q h =
    let l = of_le (itself (pos a)) (opposite (pos b)) h in
    let i : a ≡ 0 = omega (arith, l) in
    let k : b ≡ 0 = omega (arith, l) in
    (nought_parts x de a c dd C p i, nought_parts y dd b c de C q k)
by_sign true false x y de dd a b c C p q h = tt
by_sign true true x y de dd a b c C p q h =
    let l = of_le (opposite (pos a)) (opposite (pos b)) h in
    let k : b ≤ a = omega (arith, l) in
    transfer y x dd de b a c c C C q p (mul-le-mul_right c k)

le_fin : (s t : Bool) (m n : ℕ) (e d : ℤ) (a b c : ℕ) → 0 < c → m * ieee.up e * c ≡ a * ieee.down e → n * ieee.up d * c ≡ b * ieee.down d
    → signed s a ≤ℤ signed t b → T (ieee.le (fin s m e) (fin t n d))
unfolding ieee.le ieee.lt ieee.eq
le_fin s t m n e d a b c C p q h =
    of_Le s (m * ieee.up e * ieee.down d) t (n * ieee.up d * ieee.down e)
    (by_sign s t (m * ieee.up e) (n * ieee.up d) (ieee.down e) (ieee.down d) a b c C p q h)

pub number_le : (x y : Float) {z w : ℤ} (p : ℕ) → Number x z p → Number y w p → z ≤ℤ w → T (ieee.le x y)
number_le nan y p u v h = absurd u.is
number_le (inf s) y p u v h = absurd u.is
number_le (fin s m e) nan p u v h = absurd v.is
number_le (fin s m e) (inf t) p u v h = absurd v.is
number_le (fin s m e) (fin t n d) {z} {w} p u v h =
    le_fin s t m n e d u.size v.size (2 ^ p) (pow_pos p) u.is.1 v.is.1 (both (sym u.same) (sym v.same) u.is.0 v.is.0)
  where
    both : {s' t' : Bool} → z ≡ signed s' u.size → w ≡ signed t' v.size → s ≡ s' → t ≡ t' → signed s u.size ≤ℤ signed t v.size
    both {s'} {t'} i k j l =
        subst (λ (r : Bool). signed r u.size ≤ℤ signed t v.size) (sym j)
        (subst (λ (r : Bool). signed s' u.size ≤ℤ signed r v.size) (sym l)
        (subst (λ (r : ℤ). r ≤ℤ signed t' v.size) i (subst (λ (r : ℤ). z ≤ℤ r) k h)))

-- x before y in a table's direction
abbrev pub in_order : Bool → Float → Float → Type 0
in_order true x y = T (ieee.le x y)
in_order false x y = T (ieee.le y x)

number_order : (t : Bool) (x y : Float) {z w : ℤ} (p : ℕ) → Number x z p → Number y w p → before t z w → in_order t x y
number_order true x y p u v h = number_le x y p u v h
number_order false x y p u v h = number_le y x p v u h

-- two answers of the library, in order
pub record Ordered (t : Bool) (r r' : Evaluation) : Type 0 where
  pub value : Float
  pub value' : Float
  pub told : r ≡ Ok value
  pub told' : r' ≡ Ok value'
  pub order : in_order t value value'

module _ (t : Bool) (z : List ℤ) (m : 2 ≤ length z) (f : length z ≤ 2048) (small : (i : ℕ) → i < length z → nat_abs (get_or z i (pos 0)) ≤ 2 ^ 19)
    (o : InOrder t z) where
  abbrev ks : List Float
  ks = doubles_of (table_of z)

  abbrev pub parts : ℕ
  parts = segments_of Hermite (length ks)

  knots_small : (i : ℕ) → nat_abs (at (table_of z) i) ≤ 2 ^ 20
  knots_small i =
      ⊎_elim (λ (h : length (table_of z) ≤ i). subst (λ (v : ℤ). nat_abs v ≤ 2 ^ 20) (sym (beyond (table_of z) i h)) (lit≤ tt))
      (λ (h : i < length (table_of z)). knots_within z (2 ^ 19) small m (length z) 0 (omega arith) i h) (either (length (table_of z)) i)

  few : Small most z
  few = record { each = λ i h. let l = small i h in omega (arith, l) }

  lengths : first (curve_length Hermite (length ks)) ≡ Ok tt
  lengths = ap (λ (n : ℕ). first (curve_length Hermite n)) (doubles_long (table_of z)) ∙ lengths_pass z m f

  parts_are : parts ≡ segments_of Hermite (length (table_of z))
  parts_are = ap (λ (n : ℕ). segments_of Hermite n) (doubles_long (table_of z))

  answered : (x : Float) (j : ℕ) → Number (local_at parts x) (pos j) 8 → j ≤ 256
      → Answers (spline_of Hermite x ks) (curve_at Hermite (table_of z) (segment_at parts x) 256 j *ℤ pos 2)
  answered x j u h =
      subst (λ (v : ℤ). Answers (spline_of Hermite x ks) v) (exact_is (table_of z) (segment_at parts x) j)
      (curve_answers Hermite tt x ks (table_of z) j lengths (knots_met (table_of z) knots_small) u h)

  pub doubles_in_order : (x x' : Float) (j j' : ℕ) → Number (local_at parts x) (pos j) 8 → j ≤ 256 → Number (local_at parts x') (pos j') 8 → j' ≤ 256
      → NotAfter (segment_at parts x) 256 j (segment_at parts x') 256 j' → Ordered t (spline_of Hermite x ks) (spline_of Hermite x' ks)
  doubles_in_order x x' j j' u h u' h' a =
      let s = segment_at parts x in
      let s' = segment_at parts x' in
      let c = answered x j u h in
      let c' = answered x' j' u' h' in
      record {
        value = c.value;
        value' = c'.value;
        told = c.told;
        told' = c'.told;
        order =
            number_order t c.value c'.value 25 c.exact c'.exact
            (fewer_by t (curve_at Hermite (table_of z) s 256 j) (curve_at Hermite (table_of z) s' 256 j')
            (in_order_everywhere Hermite t (table_of z) (never_turns z m f few t o) s 256 j s' 256 j' (last x') a));
      }
    where
      last : (x : Float) → segment_at parts x < segments_of Hermite (length (table_of z))
      last x = let l = whole_le (parts - 1) _ in below (segment_at parts x) l parts_are (segments_are z m)
        where
          below : (s : ℕ) → s ≤ parts - 1 → parts ≡ segments_of Hermite (length (table_of z)) → segments_of Hermite (length (table_of z)) ≡ length z - 1
              → s < segments_of Hermite (length (table_of z))
          below s l e g = omega arith

-- ---- one segment, whatever the other rows do, at every 256th
-- its four knots
abbrev pub segment_knots : List ℤ → ℕ → List ℤ
segment_knots z s = get_or z s (pos 0) ∷ slope_at z s ∷ get_or z (suc s) (pos 0) ∷ slope_at z (suc s) ∷ []

-- the double of j/256
abbrev pub place_of : ℕ → Float
place_of j = round binary64 false j 256

twice_order : (x y : ℤ) → x ≤ℤ y → (x *ℤ pos 2) ≤ℤ (y *ℤ pos 2)
twice_order x y h = let l = of_le (itself x) (itself y) h in le (times 2 (itself x)) (times 2 (itself y)) (omega (arith, l))

twice_order_by : (t : Bool) (x y : ℤ) → before t x y → before t (x *ℤ pos 2) (y *ℤ pos 2)
twice_order_by true x y h = twice_order x y h
twice_order_by false x y h = twice_order y x h

module _ (t : Bool) (z : List ℤ) (s : ℕ) (h : suc s < length z) (small : (i : ℕ) → i < length z → nat_abs (get_or z i (pos 0)) ≤ 2 ^ 19)
    (o : before t (get_or z s (pos 0)) (get_or z (suc s) (pos 0))) where
  same_cubic : (j : ℕ) → cubic (whole_of Hermite) (segment_knots z s) j ≡ curve_at Hermite (table_of z) s 256 j
  unfolding cubic curve_at coefficient value_at
  same_cubic j =
      let x = get_or z s (pos 0) in
      let a = slope_at z s in
      let y = get_or z (suc s) (pos 0) in
      let b = slope_at z (suc s) in
      alike
      (value_is (up x) (down x) (up a) (down a) (up y) (down y) (up b) (down b) (segment_knots z s) (itself x) (itself a) (itself y) (itself b)
      (whole_of Hermite) 256 j)
      (value_is (up x) (down x) (up a) (down a) (up y) (down y) (up b) (down b) (four z s h) (moved (four_0 z s h)) (moved (four_1 z s h))
      (moved (four_2 z s h)) (moved (four_3 z s h))
      (whole_of Hermite) 256 j)
      refl
    where
      moved : {w c : ℤ} → w ≡ c → Is w (up c) (down c)
      moved {w} {c} q = subst (λ (v : ℤ). Is v (up c) (down c)) (sym q) (itself c)

  knots_few : (i : ℕ) → nat_abs (at (segment_knots z s) i) ≤ 2 ^ 20
  knots_few zero = let l = small s (omega arith) in omega (arith, l)
  knots_few (suc zero) = slope_within z (2 ^ 19) small (omega arith) s (omega arith)
  knots_few (suc (suc zero)) = let l = small (suc s) h in omega (arith, l)
  knots_few (suc (suc (suc zero))) = slope_within z (2 ^ 19) small (omega arith) (suc s) h
  knots_few (suc (suc (suc (suc i)))) = lit≤ tt

  segment_answered : (j : ℕ) → j ≤ 256
      → Answers (spline_segment_of Hermite (place_of j) (doubles_of (segment_knots z s))) (curve_at Hermite (table_of z) s 256 j *ℤ pos 2)
  segment_answered j l =
      subst (λ (v : ℤ). Answers (spline_segment_of Hermite (place_of j) (doubles_of (segment_knots z s))) v)
      (twofold (segment_knots z s) j ∙ ap (λ (v : ℤ). v *ℤ pos 2) (same_cubic j))
      (segment_answers Hermite tt (place_of j) (doubles_of (segment_knots z s)) (segment_knots z s) j refl (knots_met (segment_knots z s) knots_few)
      (place_met j l) l)

  pub segment_doubles_in_order : (j j' : ℕ) → j ≤ j' → j' ≤ 256
      → Ordered t (spline_segment_of Hermite (place_of j) (doubles_of (segment_knots z s))) (spline_segment_of Hermite (place_of j') (doubles_of
      (segment_knots z s)))
  segment_doubles_in_order j j' l m =
      let c = segment_answered j (omega arith) in
      let c' = segment_answered j' m in
      record {
        value = c.value;
        value' = c'.value;
        told = c.told;
        told' = c'.told;
        order =
            number_order t c.value c'.value 25 c.exact c'.exact
            (twice_order_by t (curve_at Hermite (table_of z) s 256 j) (curve_at Hermite (table_of z) s 256 j') (in_order_within t z s h o 256 j j' l m));
      }
