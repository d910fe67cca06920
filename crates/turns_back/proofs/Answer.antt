-- What an answer says of the curve: one that keeps its direction is never on the wrong side at a later place; one that turns in a segment is,
-- at some place in it. Assumes nothing.
use Rattle.turns_back.specs.declared.Turning.{Turning}
use Rattle.turns_back.specs.declared.Turning.TheVariants.{Never, At}
use Rattle.error.specs.declared.Refusal.{Refusal}
use Rattle.std.specs.Prelude.{Result, Ok, Err}
use mathlib.Core.Path.{◌≡◌, refl, sym, ap, ◌∙◌, subst}
use mathlib.Core.Logic.{inl, inr, ⊎_elim}
use mathlib.Core.Bool.{Bool, true, false, cond, ◌&&◌}
use mathlib.Core.List.{List}
use Prim.Native.Nat.{ℕ, zero, suc, ◌+◌, ◌-◌, ◌*◌, ◌≤◌, ◌<◌}
use native.Mathlib.Nat.{mul-lt-mul_of_pos_right, eq-or-lt_of_le, mul-pos}
use native.Mathlib.Omega.{arith}
use borrow.Author.Tests.{ltb-true, ltb-false}
use lib.IntN.{ℤ, pos, neg_ℤ, ◌*ℤ◌}
use lib.Dec.{T, ltb}
use lib.ListN.{length, drop, get_or, get_or-map}
use lib.Seq.{get_or-drop}
use lib.Signed.{◌≤ℤ◌, ◌<ℤ◌}
use Rattle.error.specs.Refusals.{first, Verdict}
use Rattle.error.proofs.First.{never}
use Rattle.basis.specs.declared.Basis.{Basis}
use Rattle.basis.specs.Basis.{step_of, segments_of, whole_of}
use Rattle.turns_back.specs.Curve.{value_at, cubic_never_falls, coefficient, curve_at, starts_no_lower, segment_never_falls, falls_from, first_fall}
use Rattle.whole.specs.Held.{turned_all}
use Rattle.turns_back.specs.Call.{turning_uses, turning, answered, turning_of, turns_back_by_of}
use Rattle.whole.proofs.Differences.{up, down, Is, itself, opposite, equal, times, le, of_le, lt, not_le, of_lt}
use Rattle.turns_back.proofs.Everywhere.{NotAfter, never_lower}
use Rattle.turns_back.proofs.Fall.{Down, falls}
use Rattle.turns_back.proofs.Seams.{value_is}
use Rattle.whole.proofs.Held.{turned_long, same_all}
use Rattle.spline_exact.specs.Cubic.{at, cubic}

-- ---- the first segment that falls: those before it do not
module _ (b : Basis) (z : List ℤ) where
  all_before : (k s i : ℕ) → s + i < falls_from b z s k → T (segment_never_falls b z (s + i))
  unfolding falls_from
  all_before zero s i h = absurd (omega arith)
  all_before (suc k) s i h = go (segment_never_falls b z s) refl h (all_before k (suc s))
    where
      go : (t : Bool) → segment_never_falls b z s ≡ t → s + i < cond t (falls_from b z (suc s) k) s
          → ((i : ℕ) → suc s + i < falls_from b z (suc s) k → T (segment_never_falls b z (suc s + i)))
          → T (segment_never_falls b z (s + i))
      go true e h f =
          ⊎_elim
          (λ (p : 1 ≡ suc i). let q : s ≡ s + i = omega arith in subst (λ (v : ℕ). T (segment_never_falls b z v)) q (subst (λ (t : Bool). T t) (sym e) tt))
          (λ (p : 1 < suc i). let q : suc s + (i - 1) ≡ s + i = omega arith in
          subst (λ (v : ℕ). T (segment_never_falls b z v)) q (f (i - 1) (omega arith)))
          (eq-or-lt_of_le (one_le i))
        where
          one_le : (i : ℕ) → 1 ≤ suc i
          one_le i = omega arith
      go false e h f = absurd (omega arith)

  one_falls : (k s : ℕ) → falls_from b z s k < s + k → segment_never_falls b z (falls_from b z s k) ≡ false
  unfolding falls_from
  one_falls zero s h = absurd (omega arith)
  one_falls (suc k) s h = go (segment_never_falls b z s) refl h (one_falls k (suc s))
    where
      go : (t : Bool) → segment_never_falls b z s ≡ t → cond t (falls_from b z (suc s) k) s < s + suc k
          → (falls_from b z (suc s) k < suc s + k → segment_never_falls b z (falls_from b z (suc s) k) ≡ false)
          → segment_never_falls b z (cond t (falls_from b z (suc s) k) s) ≡ false
      go true e h f = f (omega arith)
      go false e h f = e

-- ---- the answer
told : (v : Verdict) (s k : ℕ) → answered v (turning s k) ≡ Ok Never → k ≤ s
told (Ok _) s k e = go (ltb s k) refl e
  where
    go : (t : Bool) → ltb s k ≡ t → ◌≡◌ {A = Result Turning Refusal} (Ok (cond t (At s) Never)) (Ok Never) → k ≤ s
    go true p q = never (cc)
    go false p q = ltb-false s k p
told (Err r) s k e = never (cc)

told_down : (v : Verdict) (s k r : ℕ) → answered v (turning s k) ≡ Ok (At r) → (s ≡ r) × (s < k)
told_down (Ok _) s k r e = go (ltb s k) refl e
  where
    go : (t : Bool) → ltb s k ≡ t → ◌≡◌ {A = Result Turning Refusal} (Ok (cond t (At s) Never)) (Ok (At r)) → (s ≡ r) × (s < k)
    go true p q = (cc, ltb-true s k p)
    go false p q = never (cc)
told_down (Err r') s k r e = never (cc)

-- ---- a falling table's curve, from that of the numbers with their signs changed
module _ (b : Basis) (z : List ℤ) (s n j : ℕ) where
  at_place : (i : ℕ) → at (drop (s * step_of b) z) i ≡ get_or z (s * step_of b + i) (pos 0)
  at_place i = get_or-drop (s * step_of b) z i (pos 0)

  turned_place : (i : ℕ) → at (drop (s * step_of b) (turned_all false z)) i ≡ neg_ℤ (get_or z (s * step_of b + i) (pos 0))
  turned_place i = get_or-drop (s * step_of b) (turned_all false z) i (pos 0) ∙ get_or-map neg_ℤ z (s * step_of b + i) (pos 0)

  plain : (i : ℕ) → Is (at (drop (s * step_of b) z) i) (up (get_or z (s * step_of b + i) (pos 0))) (down (get_or z (s * step_of b + i) (pos 0)))
  plain i = subst (λ (v : ℤ). Is v (up (get_or z (s * step_of b + i) (pos 0))) (down (get_or z (s * step_of b + i) (pos 0)))) (sym (at_place i))
      (itself (get_or z (s * step_of b + i) (pos 0)))

  turned_is : (i : ℕ) → Is (at (drop (s * step_of b) (turned_all false z)) i) (down (get_or z (s * step_of b + i) (pos 0))) (up (get_or z (s *
      step_of b + i) (pos 0)))
  turned_is i =
      subst (λ (v : ℤ). Is v (down (get_or z (s * step_of b + i) (pos 0))) (up (get_or z (s * step_of b + i) (pos 0)))) (sym (turned_place i))
      (opposite (get_or z (s * step_of b + i) (pos 0)))

  pub curve_turned : curve_at b (turned_all false z) s n j ≡ neg_ℤ (curve_at b z s n j)
  unfolding curve_at coefficient
  curve_turned =
      equal
      (value_is _ _ _ _ _ _ _ _ (drop (s * step_of b) (turned_all false z)) (turned_is 0) (turned_is 1) (turned_is 2) (turned_is 3) (whole_of b) n j)
      (value_is _ _ _ _ _ _ _ _ (drop (s * step_of b) z) (plain 0) (plain 1) (plain 2) (plain 3) (whole_of b) n j)

-- ---- x before y in a table's direction
abbrev pub before : Bool → ℤ → ℤ → Type 0
before true x y = x ≤ℤ y
before false x y = y ≤ℤ x

abbrev pub after : Bool → ℤ → ℤ → Type 0
after true x y = y <ℤ x
after false x y = x <ℤ y

-- x·t and y·u, and their negatives
less_turned : (x y : ℤ) (t u : ℕ) → (neg_ℤ x *ℤ pos t) ≤ℤ (neg_ℤ y *ℤ pos u) → (y *ℤ pos u) ≤ℤ (x *ℤ pos t)
less_turned x y t u h =
    let l = of_le (times t (opposite x)) (times u (opposite y)) h in
    le (times u (itself y)) (times t (itself x)) (omega (arith, l))

lower_turned : (x y : ℤ) (t u : ℕ) → (neg_ℤ x *ℤ pos t) <ℤ (neg_ℤ y *ℤ pos u) → (y *ℤ pos u) <ℤ (x *ℤ pos t)
lower_turned x y t u h =
    let l = of_lt (times t (opposite x)) (times u (opposite y)) h in
    lt (times u (itself y)) (times t (itself x)) (omega (arith, l))

by_direction : (t : Bool) (b : Basis) (z : List ℤ) (s n j s' n' j' u v : ℕ)
    → (curve_at b (turned_all t z) s n j *ℤ pos u) ≤ℤ (curve_at b (turned_all t z) s' n' j' *ℤ pos v)
    → before t (curve_at b z s n j *ℤ pos u) (curve_at b z s' n' j' *ℤ pos v)
by_direction true b z s n j s' n' j' u v h =
    subst (λ (l : List ℤ). (curve_at b l s n j *ℤ pos u) ≤ℤ (curve_at b l s' n' j' *ℤ pos v)) (same_all z) h
by_direction false b z s n j s' n' j' u v h =
    less_turned (curve_at b z s n j) (curve_at b z s' n' j') u v
    (subst (λ (y : ℤ). (neg_ℤ (curve_at b z s n j) *ℤ pos u) ≤ℤ (y *ℤ pos v)) (curve_turned b z s' n' j')
    (subst (λ (y : ℤ). (y *ℤ pos u) ≤ℤ (curve_at b (turned_all false z) s' n' j' *ℤ pos v)) (curve_turned b z s n j) h))

against : (t : Bool) (b : Basis) (z : List ℤ) (s n j s' n' j' u v : ℕ)
    → (curve_at b (turned_all t z) s' n' j' *ℤ pos v) <ℤ (curve_at b (turned_all t z) s n j *ℤ pos u)
    → after t (curve_at b z s n j *ℤ pos u) (curve_at b z s' n' j' *ℤ pos v)
against true b z s n j s' n' j' u v h =
    subst (λ (l : List ℤ). (curve_at b l s' n' j' *ℤ pos v) <ℤ (curve_at b l s n j *ℤ pos u)) (same_all z) h
against false b z s n j s' n' j' u v h =
    lower_turned (curve_at b z s' n' j') (curve_at b z s n j) v u
    (subst (λ (y : ℤ). (neg_ℤ (curve_at b z s' n' j') *ℤ pos v) <ℤ (y *ℤ pos u)) (curve_turned b z s n j)
    (subst (λ (y : ℤ). (y *ℤ pos v) <ℤ (curve_at b (turned_all false z) s n j *ℤ pos u)) (curve_turned b z s' n' j') h))

-- ---- segments up to the first that falls
up_to : (b : Basis) (y : List ℤ) (i : ℕ) → i < first_fall b y → T (segment_never_falls b y i)
unfolding first_fall
up_to b y i h =
    let e : 0 + i ≡ i = omega arith in
    subst (λ (v : ℕ). T (segment_never_falls b y v)) e (all_before b y (segments_of b (length y)) 0 i (omega (arith, h)))

-- ---- it keeps its direction: of two places the later is never on the wrong side of the earlier
pub in_order_everywhere : (b : Basis) (t : Bool) (z : List ℤ) → turns_back_by_of b t z ≡ Ok Never → (s n j s' n' j' : ℕ) → s' < segments_of b (length z)
    → NotAfter s n j s' n' j'
    → before t (curve_at b z s n j *ℤ pos (n' * n' * n')) (curve_at b z s' n' j' *ℤ pos (n * n * n))
unfolding turns_back_by_of turning_of first_fall
in_order_everywhere b t z e s n j s' n' j' l p =
    let k = segments_of b (length z) in
    let h = told (first (turning_uses b z)) (first_fall b (turned_all t z)) k e in
    by_direction t b z s n j s' n' j' (n' * n' * n') (n * n * n)
    (never_lower b (turned_all t z) k (λ i m. up_to b (turned_all t z) i (omega (arith, h, m))) s n j s' n' j' l p)

-- ---- it turns in segment r: in the segments before it, it does not
pub in_order_before : (b : Basis) (t : Bool) (z : List ℤ) (r : ℕ) → turns_back_by_of b t z ≡ Ok (At r) → (s n j s' n' j' : ℕ) → s' < r → NotAfter s n j s' n' j'
    → before t (curve_at b z s n j *ℤ pos (n' * n' * n')) (curve_at b z s' n' j' *ℤ pos (n * n * n))
unfolding turns_back_by_of turning_of
in_order_before b t z r e s n j s' n' j' l p =
    let h = told_down (first (turning_uses b z)) (first_fall b (turned_all t z)) (segments_of b (length z)) r e in
    by_direction t b z s n j s' n' j' (n' * n' * n') (n * n * n)
    (never_lower b (turned_all t z) r (λ i m. up_to b (turned_all t z) i (omega (arith, h, m))) s n j s' n' j' l p)

-- and a later place, in r, is on the wrong side of an earlier one
pub record Against (b : Basis) (t : Bool) (z : List ℤ) (r : ℕ) : Type 0 where
  pub s : ℕ
  pub n : ℕ
  pub j : ℕ
  pub n' : ℕ
  pub j' : ℕ
  pub parts : 0 < n
  pub parts' : 0 < n'
  pub inside : r < segments_of b (length z)
  pub order : NotAfter s n j r n' j'
  pub wrong : after t (curve_at b z s n j *ℤ pos (n' * n' * n')) (curve_at b z r n' j' *ℤ pos (n * n * n))

-- the same of a rising curve, its number of segments apart
pub record Lower (b : Basis) (z : List ℤ) (r : ℕ) : Type 0 where
  pub s : ℕ
  pub n : ℕ
  pub j : ℕ
  pub n' : ℕ
  pub j' : ℕ
  pub parts : 0 < n
  pub parts' : 0 < n'
  pub order : NotAfter s n j r n' j'
  pub lower : (curve_at b z r n' j' *ℤ pos (n * n * n)) <ℤ (curve_at b z s n j *ℤ pos (n' * n' * n'))

scaled : {x y : ℤ} (t : ℕ) → 0 < t → x <ℤ y → (x *ℤ pos t) <ℤ (y *ℤ pos t)
scaled {x} {y} t p h = let l = mul-lt-mul_of_pos_right (of_lt (itself x) (itself y) h) p in lt (times t (itself x)) (times t (itself y)) (omega (arith, l))

within : (b : Basis) (z : List ℤ) (r : ℕ) → Down (coefficient b z r 0) (coefficient b z r 1) (coefficient b z r 2) (coefficient b z r 3) → Lower b z r
unfolding curve_at
within b z r d =
    let n = d.n in
    let h = d.inside in
    let p : 0 < n = omega (arith, h) in
    record {
      s = r;
      n = n;
      j = d.i;
      n' = n;
      j' = d.i + 1;
      parts = p;
      parts' = p;
      order = record { first = omega (arith, h); second = h; order = inr (refl, ordered d.i n) };
      lower = scaled (n * n * n) (mul-pos (mul-pos p p) p) d.lower;
    }
  where
    ordered : (i n : ℕ) → i * n ≤ (i + 1) * n
    ordered i n = omega arith

over_seam : (b : Basis) (z : List ℤ) (r : ℕ) → starts_no_lower b z r ≡ false → Lower b z r
unfolding starts_no_lower
over_seam b z zero e = never (cc)
over_seam b z (suc r) e =
    record {
      s = r;
      n = 1;
      j = 1;
      n' = 1;
      j' = 0;
      parts = omega arith;
      parts' = omega arith;
      order = record { first = omega arith; second = omega arith; order = inl (omega arith) };
      lower = scaled {x = curve_at b z (suc r) 1 0} {y = curve_at b z r 1 1} 1 (omega arith) (not_le e);
    }

lower_in : (b : Basis) (z : List ℤ) (r : ℕ) → segment_never_falls b z r ≡ false → Lower b z r
unfolding segment_never_falls
lower_in b z r e = go (starts_no_lower b z r) refl e
  where
    go : (t : Bool) → starts_no_lower b z r ≡ t → (t && cubic_never_falls (coefficient b z r 0) (coefficient b z r 1) (coefficient b z r 2)) ≡ false
        → Lower b z r
    go true p q = within b z r (falls (coefficient b z r 0) (coefficient b z r 1) (coefficient b z r 2) (coefficient b z r 3) q)
    go false p q = over_seam b z r p

-- the segment that is told does not pass the test
pub falls_at : (b : Basis) (t : Bool) (z : List ℤ) (r : ℕ) → turns_back_by_of b t z ≡ Ok (At r) → segment_never_falls b (turned_all t z) r ≡ false
unfolding turns_back_by_of turning_of first_fall
falls_at b t z r e =
    let k = segments_of b (length z) in
    let y = turned_all t z in
    let h = told_down (first (turning_uses b z)) (first_fall b y) k r e in
    one b y k (ap (λ (m : ℕ). segments_of b m) (sym (turned_long t z))) h.1 r h.0
  where
    one : (b : Basis) (y : List ℤ) (k : ℕ) → k ≡ segments_of b (length y) → first_fall b y < k → (r : ℕ) → first_fall b y ≡ r
        → segment_never_falls b y r ≡ false
    one b y k q h r p =
        let h' : falls_from b y 0 k < 0 + k = subst (λ (m : ℕ). falls_from b y 0 m < 0 + k) (sym q) (omega (arith, h)) in
        let f = one_falls b y k 0 h' in
        subst (λ (v : ℕ). segment_never_falls b y v ≡ false) (ap (λ (m : ℕ). falls_from b y 0 m) q ∙ p) f

pub turns_somewhere : (b : Basis) (t : Bool) (z : List ℤ) (r : ℕ) → turns_back_by_of b t z ≡ Ok (At r) → Against b t z r
unfolding turns_back_by_of turning_of
turns_somewhere b t z r e =
    let h = told_down (first (turning_uses b z)) (first_fall b (turned_all t z)) (segments_of b (length z)) r e in
    let w = lower_in b (turned_all t z) r (falls_at b t z r e) in
    record {
      s = w.s;
      n = w.n;
      j = w.j;
      n' = w.n';
      j' = w.j';
      parts = w.parts;
      parts' = w.parts';
      inside = omega (arith, h);
      order = w.order;
      wrong = against t b z w.s w.n w.j r w.n' w.j' (w.n' * w.n' * w.n') (w.n * w.n * w.n) w.lower;
    }

-- ---- the numbers of the statements
-- 256 parts: the cubic that evaluation comes to without rounding on whole knots
pub textbook : (b : Basis) (z : List ℤ) (s j : ℕ) → curve_at b z s 256 j ≡ cubic (whole_of b) (drop (s * step_of b) z) j
unfolding curve_at coefficient value_at cubic
textbook b z s j = refl
