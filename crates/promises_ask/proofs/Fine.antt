-- A sheet without a fault draws a curve that never turns back: each segment begins at a row, and that row is silent. Assumes nothing.
use Rattle.turns_back.specs.declared.Turning.TheVariants.{Never, Flat}
use Rattle.std.specs.Prelude.{Ok}
use mathlib.Core.Path.{◌≡◌, refl, sym, ap, subst}
use mathlib.Core.Logic.{◌⊎◌, inl, inr}
use mathlib.Core.Bool.{Bool, true, false, not, cond, ◌&&◌, ◌||◌}
use mathlib.Core.List.{List, [], ◌∷◌, ◌++◌}
use Prim.Native.Nat.{ℕ, zero, suc, ◌+◌, ◌-◌, ◌*◌, ◌/◌, ◌%◌, ◌≤◌, ◌<◌}
use native.Mathlib.Nat.{mul-pos, mul-le-mul_right, le_of_mul-le-mul_right}
use native.Mathlib.Omega.{arith}
use borrow.Author.Tests.{ltb-true, ltb-false, le-leb, lt-ltb, eq-eqb, eqb-true, eqb-false}
use lib.Dec.{T, leb, ltb, eqb}
use lib.IntN.{ℤ, pos, ◌*ℤ◌}
use lib.Ieee.{Float}
use lib.ListN.{length, drop, get_or}
use lib.Signed.{lt_z}
use lib.Ieee.Fits.{and_i}
use Rattle.error.specs.Refusals.{first}
use Rattle.error.proofs.First.{never, clear}
use Rattle.basis.specs.declared.Basis.{Basis}
use Rattle.basis.specs.declared.Basis.TheVariants.{Bspline, Bezier, CatmullRom, Hermite, Linear, Power}
use Rattle.basis.specs.Basis.{step_of, segments_of}
use Rattle.whole.specs.Held.{turned_all}
use Rattle.whole.proofs.Held.{turned_long}
use Rattle.whole.proofs.Differences.{up, down, Is, itself, times, of_le, alike}
use Rattle.turns_back.specs.declared.Way.{Way}
use Rattle.turns_back.specs.declared.Way.TheVariants.{Rising, Falling, Level}
use Rattle.turns_back.specs.Curve.{curve_at, cubic_never_falls, coefficient, starts_no_lower, segment_never_falls}
use Rattle.turns_back.specs.Four.{four_never_fall}
use Rattle.turns_back.specs.Call.{turning_uses, start_of, end_of, turning_of, answered, turns_back_by_of, turns_back_of}
use Rattle.turns_back.proofs.Answer.{before, in_order_everywhere}
use Rattle.turns_back.proofs.Everywhere.{NotAfter}
use Rattle.turns_back.proofs.InOrder.{none_turns}
use Rattle.turns_back.proofs.Own.{own_never}
use Rattle.monotone.proofs.Pairs.{table_long}
use Rattle.ask_sheet.specs.declared.Kind.{Kind}
use Rattle.ask_sheet.specs.declared.Kind.TheVariants.{Drawn, Monotone}
use Rattle.ask_sheet.specs.Sheet.{Sheet, unbegun, on, faulty}
use Rattle.ask_verdict.specs.Curve.{basis_of, knots_of, first_row, row_step, suits, doubles_of}
use Rattle.text.specs.Text.{bytes, same}
use Rattle.inverse.specs.declared.Ends.{Ends}
use Rattle.ask_verdict.specs.Faults.{
  Fault,
  twice,
  turns,
  falls,
  flat,
  same_from,
  first_same,
  turns_at,
  falls_at,
  bend_of,
  segments_in,
  bend_at,
  bent_at,
  twice_at,
  faults_to,
  flat_by,
  way_in,
  faults_of,
}
use Rattle.ask_verdict.specs.Told.{number_text, faults_text, ends_in, fine_text, none, told_of, verdict_of, bad, fine, asked_of}

-- ---- no fault in a list is none in its parts
none_left : (a b : List Fault) → none (a ++ b) ≡ true → none a ≡ true
none_left [] b e = refl
none_left (f ∷ a) b e = never (cc)

none_right : (a b : List Fault) → none (a ++ b) ≡ true → none b ≡ true
none_right [] b e = e
none_right (f ∷ a) b e = never (cc)

-- of the rows before n, row i is silent of the curve
row_silent : (k : Kind) (w : Way) (z : List ℤ) (ls : List (List ℕ)) (n i : ℕ) → i < n → none (faults_to k w z ls n) ≡ true → none (bent_at k w z i) ≡ true
unfolding faults_to
row_silent k w z ls zero i h e = absurd (omega arith)
row_silent k w z ls (suc n) i h e =
    go (ltb i n) refl (λ l. row_silent k w z ls n i l (none_left (faults_to k w z ls n) (twice_at ls n ++ bent_at k w z n) e))
    (none_right (twice_at ls n) (bent_at k w z n) (none_right (faults_to k w z ls n) (twice_at ls n ++ bent_at k w z n) e))
  where
    go : (t : Bool) → ltb i n ≡ t → (i < n → none (bent_at k w z i) ≡ true) → none (bent_at k w z n) ≡ true → none (bent_at k w z i) ≡ true
    go true q f g = f (ltb-true i n q)
    go false q f g = subst (λ (m : ℕ). none (bent_at k w z m) ≡ true) (same (ltb-false i n q)) g
      where
        same : n ≤ i → n ≡ i
        same l = omega arith

-- of the rows before n, row i has a label that stood nowhere before
row_once : (k : Kind) (w : Way) (z : List ℤ) (ls : List (List ℕ)) (n i : ℕ) → i < n → none (faults_to k w z ls n) ≡ true → none (twice_at ls i) ≡ true
unfolding faults_to
row_once k w z ls zero i h e = absurd (omega arith)
row_once k w z ls (suc n) i h e =
    go (ltb i n) refl (λ l. row_once k w z ls n i l (none_left (faults_to k w z ls n) (twice_at ls n ++ bent_at k w z n) e))
    (none_left (twice_at ls n) (bent_at k w z n) (none_right (faults_to k w z ls n) (twice_at ls n ++ bent_at k w z n) e))
  where
    go : (t : Bool) → ltb i n ≡ t → (i < n → none (twice_at ls i) ≡ true) → none (twice_at ls n) ≡ true → none (twice_at ls i) ≡ true
    go true q f g = f (ltb-true i n q)
    go false q f g = subst (λ (m : ℕ). none (twice_at ls m) ≡ true) (here (ltb-false i n q)) g
      where
        here : n ≤ i → n ≡ i
        here l = omega arith

-- the search for a label that comes to its end has met none that is the same
none_same : (ls : List (List ℕ)) (l : List ℕ) (j m : ℕ) → j + m ≤ same_from ls l j m → (i : ℕ) → j ≤ i → i < j + m → same (get_or ls i []) l ≡ false
unfolding same_from
none_same ls l j zero h i a b = absurd (omega arith)
none_same ls l j (suc m) h i a b = go (same (get_or ls j []) l) refl h (λ g. none_same ls l (suc j) m g i) (eqb i j) refl
  where
    go : (t : Bool) → same (get_or ls j []) l ≡ t → j + suc m ≤ cond t j (same_from ls l (suc j) m)
        → (suc j + m ≤ same_from ls l (suc j) m → suc j ≤ i → i < suc j + m → same (get_or ls i []) l ≡ false) → (u : Bool) → eqb i j ≡ u
        → same (get_or ls i []) l ≡ false
    go true p h f u q = absurd (omega arith)
    go false p h f true q = subst (λ (n : ℕ). same (get_or ls n []) l ≡ false) (sym (eqb-true i j q)) p
    go false p h f false q = let x = eqb-false i j q in f (omega arith) (omega (arith, a, x)) (omega arith)

once : (ls : List (List ℕ)) (j : ℕ) → none (twice_at ls j) ≡ true → j ≤ first_same ls j
unfolding twice_at
once ls j e = go (ltb (first_same ls j) j) refl e
  where
    go : (t : Bool) → ltb (first_same ls j) j ≡ t → none (cond t (twice (first_same ls j + 2) (j + 2) ∷ []) []) ≡ true → j ≤ first_same ls j
    go true q h = never (cc)
    go false q h = ltb-false (first_same ls j) j q

-- no label of a sheet without a fault stands twice
pub fine_labels_once : (k : Kind) (z : List ℤ) (ls : List (List ℕ)) → none (faults_of k z ls) ≡ true → (i j : ℕ) → i < j → j < length z
    → same (get_or ls i []) (get_or ls j []) ≡ false
unfolding faults_of first_same
fine_labels_once k z ls h i j a b =
    let f = none_left (faults_to k (way_in k z) z ls (length z)) (flat_by (way_in k z)) h in
    let o : j ≤ same_from ls (get_or ls j []) 0 j = once ls j (row_once k (way_in k z) z ls (length z) j b f) in
    none_same ls (get_or ls j []) 0 j (omega (arith, o)) i (omega arith) (omega (arith, a))

-- ---- the row at which a segment begins
pub record Begins (k : Kind) (z : List ℤ) (s i : ℕ) : Type 0 where
  pub row : i < length z
  pub late : leb (first_row k) i ≡ true
  pub whole : eqb ((i - first_row k) % row_step k) 0 ≡ true
  pub segment : (i - first_row k) / row_step k ≡ s

by_ones : (z : List ℤ) (s : ℕ) → 4 ≤ length z → s < (length z - 4) / 1 + 1
    → (suc s < length z) × (leb 1 (suc s) ≡ true) × (eqb ((suc s - 1) % 1) 0 ≡ true) × ((suc s - 1) / 1 ≡ s)
by_ones z s m h = (omega arith, le-leb 1 (suc s) (omega arith), eq-eqb ((suc s - 1) % 1) 0 (omega arith), omega arith)

by_twos : (n s : ℕ) → 4 ≤ n → s < (n - 4) / 2 + 1 → (s * 2 < n) × (eqb ((s * 2 - 0) % 2) 0 ≡ true) × ((s * 2 - 0) / 2 ≡ s)
by_twos n s m h = (omega arith, eq-eqb ((s * 2 - 0) % 2) 0 (omega arith), omega arith)

by_threes : (n s : ℕ) → 4 ≤ n → s < (n - 4) / 3 + 1 → (s * 3 < n) × (eqb ((s * 3 - 0) % 3) 0 ≡ true) × ((s * 3 - 0) / 3 ≡ s)
by_threes n s m h = (omega arith, eq-eqb ((s * 3 - 0) % 3) 0 (omega arith), omega arith)

by_fours : (n s : ℕ) → 4 ≤ n → s < (n - 4) / 4 + 1 → (s * 4 < n) × (eqb ((s * 4 - 0) % 4) 0 ≡ true) × ((s * 4 - 0) / 4 ≡ s)
by_fours n s m h = (omega arith, eq-eqb ((s * 4 - 0) % 4) 0 (omega arith), omega arith)

begins : (k : Kind) (z : List ℤ) (s : ℕ) → 4 ≤ length (knots_of k z) → s < segments_in k z → (i : ℕ) × Begins k z s i
begins (Drawn Bspline) z s m h = let r = by_ones z s m h in (suc s, record { row = r.0; late = r.1; whole = r.2; segment = r.3 })
begins (Drawn Bezier) z s m h = let r = by_threes (length z) s m h
    in (s * 3, record { row = r.0; late = le-leb 0 (s * 3) (omega arith); whole = r.1; segment = r.2 })
begins (Drawn CatmullRom) z s m h = let r = by_ones z s m h in (suc s, record { row = r.0; late = r.1; whole = r.2; segment = r.3 })
begins (Drawn Hermite) z s m h = let r = by_twos (length z) s m h
    in (s * 2, record { row = r.0; late = le-leb 0 (s * 2) (omega arith); whole = r.1; segment = r.2 })
begins (Drawn Linear) z s m h = let r = by_ones z s m h in (suc s, record { row = r.0; late = r.1; whole = r.2; segment = r.3 })
begins (Drawn Power) z s m h = let r = by_fours (length z) s m h
    in (s * 4, record { row = r.0; late = le-leb 0 (s * 4) (omega arith); whole = r.1; segment = r.2 })
begins Monotone z s m h = (
  s,
  record {
    row = omega (arith, table_long z, m, h);
    late = le-leb 0 s (omega arith);
    whole = eq-eqb ((s - 0) % 1) 0 (omega arith);
    segment = omega arith;
  },
)

-- ---- that row is silent: the segment keeps the direction, and the next one starts where it may
not_falls : (k : Kind) (up : Bool) (z : List ℤ) (i s : ℕ) → none (bend_of k up z i s) ≡ true → falls_at (basis_of k) (turned_all up (knots_of k z)) s ≡ false
unfolding bend_of
not_falls k up z i s e = go (turns_at k up z i) (falls_at (basis_of k) (turned_all up (knots_of k z)) s) refl e
  where
    go : (t f : Bool) → falls_at (basis_of k) (turned_all up (knots_of k z)) s ≡ f → none (cond t (turns (i + 2) ∷ []) (cond f (falls (i + 2) ∷ []) [])) ≡ true
        → falls_at (basis_of k) (turned_all up (knots_of k z)) s ≡ false
    go true f q h = never (cc)
    go false true q h = never (cc)
    go false false q h = q

segment_silent : (k : Kind) (up : Bool) (z : List ℤ) (s i : ℕ) → Begins k z s i → s < segments_in k z → none (bend_at k up z i) ≡ true
    → falls_at (basis_of k) (turned_all up (knots_of k z)) s ≡ false
unfolding bend_at
segment_silent k up z s i b h e =
    not_falls k up z i s (rw (b.late, b.whole, b.segment, lt-ltb s (segments_in k z) h) at e)

keeps : (b : Basis) (w : List ℤ) (s : ℕ) → falls_at b w s ≡ false → T (four_never_fall b (drop (s * step_of b) w))
unfolding falls_at
keeps b w s e = go (four_never_fall b (drop (s * step_of b) w)) e
  where
    go : (f : Bool) → (not f || (ltb (suc s) (segments_of b (length w)) && not (starts_no_lower b w (suc s)))) ≡ false → T f
    go true h = tt
    go false h = never (cc)

joins : (b : Basis) (w : List ℤ) (s : ℕ) → falls_at b w s ≡ false → suc s < segments_of b (length w) → T (starts_no_lower b w (suc s))
unfolding falls_at
joins b w s e l = go (four_never_fall b (drop (s * step_of b) w)) (starts_no_lower b w (suc s)) (rw (lt-ltb (suc s) (segments_of b (length w)) l) at e)
  where
    go : (f g : Bool) → (not f || (true && not g)) ≡ false → T g
    go true true h = tt
    go true false h = never (cc)
    go false g h = never (cc)

-- ---- so every segment never goes against the direction
starts : (b : Basis) (w : List ℤ) (s : ℕ) → ((i : ℕ) → i < segments_of b (length w) → falls_at b w i ≡ false) → s < segments_of b (length w)
    → T (starts_no_lower b w s)
unfolding starts_no_lower
starts b w zero f h = tt
starts b w (suc s) f h = joins b w s (f s (omega arith)) h

segment_keeps : (b : Basis) (w : List ℤ) (s : ℕ) → ((i : ℕ) → i < segments_of b (length w) → falls_at b w i ≡ false) → s < segments_of b (length w)
    → T (segment_never_falls b w s)
unfolding segment_never_falls four_never_fall coefficient
segment_keeps b w s f h =
    and_i (starts_no_lower b w s) (cubic_never_falls (coefficient b w s 0) (coefficient b w s 1) (coefficient b w s 2)) (starts b w s f h) (keeps b w s (f s h))

-- ---- asked by the direction in which no row speaks
by_direction : (k : Kind) (up : Bool) (z : List ℤ) → first (turning_uses (basis_of k) (knots_of k z)) ≡ Ok tt → 4 ≤ length (knots_of k z)
    → ((i : ℕ) → i < length z → none (bend_at k up z i) ≡ true) → turns_back_by_of (basis_of k) up (knots_of k z) ≡ Ok Never
by_direction k up z v m f =
    none_turns (basis_of k) up (knots_of k z) v
    (λ s l. segment_keeps (basis_of k) (turned_all up (knots_of k z)) s (λ i j. silent i (subst (λ (n : ℕ). i < segments_of (basis_of k) n) long j))
    (subst (λ (n : ℕ). s < segments_of (basis_of k) n) (sym long) l))
  where
    long : length (turned_all up (knots_of k z)) ≡ length (knots_of k z)
    long = turned_long up (knots_of k z)

    silent : (s : ℕ) → s < segments_in k z → falls_at (basis_of k) (turned_all up (knots_of k z)) s ≡ false
    silent s l = let b = begins k z s m l in segment_silent k up z s b.0 b.1 l (f b.0 b.1.row)

-- ---- a sheet without a fault has a direction, and no row speaks against it
silent_rows : (k : Kind) (z : List ℤ) (ls : List (List ℕ)) → none (faults_of k z ls) ≡ true → (w : Way) → way_in k z ≡ w
    → (none (flat_by w) ≡ true) × ((i : ℕ) → i < length z → none (bent_at k w z i) ≡ true)
unfolding faults_of
silent_rows k z ls h w e =
    let f : none (faults_to k w z ls (length z) ++ flat_by w) ≡ true = rw e at h in (
      none_right (faults_to k w z ls (length z)) (flat_by w) f,
      λ i l. row_silent k w z ls (length z) i l (none_left (faults_to k w z ls (length z)) (flat_by w) f),
    )

-- no fault is told, and `turns_back` takes the table: then it answers that the curve never turns back
pub fine_never_turns : (k : Kind) (z : List ℤ) (ls : List (List ℕ)) → none (faults_of k z ls) ≡ true
    → first (turning_uses (basis_of k) (knots_of k z)) ≡ Ok tt → turns_back_of (basis_of k) (knots_of k z) ≡ Ok Never
unfolding turns_back_of turns_back_by_of way_in
fine_never_turns k z ls h taken =
    go (lt_z (start_of (basis_of k) (knots_of k z)) (end_of (basis_of k) (knots_of k z))) (lt_z (end_of (basis_of k) (knots_of k z)) (start_of
    (basis_of k) (knots_of k z)))
    (silent_rows k z ls h _ refl)
  where
    many : 4 ≤ length (knots_of k z)
    many = ltb-false (length (knots_of k z)) 4 (clear (turning_uses (basis_of k) (knots_of k z)) taken 1)

    go : (c d : Bool)
        → (none (flat_by (cond c Rising (cond d Falling Level))) ≡ true)
        × ((i : ℕ) → i < length z → none (bent_at k (cond c Rising (cond d Falling Level)) z i) ≡ true)
        → answered (first (turning_uses (basis_of k) (knots_of k z)))
        (cond c (turning_of (basis_of k) true (knots_of k z)) (cond d (turning_of (basis_of k) false (knots_of k z)) Flat))
        ≡ Ok Never
    go true d s = by_direction k true z taken many s.1
    go false true s = by_direction k false z taken many s.1
    go false false s = never (cc)

-- so, in one direction, of any two places of it, in whatever segments and parts, the values are in order
pub fine_in_order : (k : Kind) (z : List ℤ) (ls : List (List ℕ)) → none (faults_of k z ls) ≡ true
    → first (turning_uses (basis_of k) (knots_of k z)) ≡ Ok tt
    → (up : Bool)
    × ((s n j s' n' j' : ℕ) → s' < segments_in k z → NotAfter s n j s' n' j'
    → before up (curve_at (basis_of k) (knots_of k z) s n j *ℤ pos (n' * n' * n')) (curve_at (basis_of k) (knots_of k z) s' n' j' *ℤ pos (n * n * n)))
fine_in_order k z ls h taken = let o = own_never (basis_of k) (knots_of k z) (fine_never_turns k z ls h taken)
    in (o.up, in_order_everywhere (basis_of k) o.up (knots_of k z) o.same)

-- ---- so the places of a depth are one stretch of the curve
-- values p, m and q of three places, each as a difference, times the cubes of their parts: where the outer two are one, m is not beyond them
between : (p p' m m' q q' a b c : ℕ) → 0 < b → p * b + q' * a ≡ q * a + p' * b → p * c + m' * a ≤ m * a + p' * c → m * b + q' * c ≤ q * c + m' * b
    → p * c + m' * a ≡ m * a + p' * c
between p p' m m' q q' a b c some e h k =
    let f : (p * b + q' * a) * c ≡ (q * a + p' * b) * c = ap (λ (x : ℕ). x * c) e in
    let g : (m * b + q' * c) * a ≤ (q * c + m' * b) * a = mul-le-mul_right a k in
    let r : (m * a + p' * c) * b ≤ (p * c + m' * a) * b = omega (arith, f, g) in
    omega (arith, h, le_of_mul-le-mul_right r some)

module _ (x y w : ℤ) (a b c : ℕ) (some : 0 < b) (one : x *ℤ pos b ≡ w *ℤ pos a) where
  ends_one : up x * b + down w * a ≡ up w * a + down x * b
  ends_one =
      let i : Is (w *ℤ pos a) (up x * b) (down x * b) = subst (λ (v : ℤ). Is v (up x * b) (down x * b)) one (times b (itself x)) in
      let j : Is (w *ℤ pos a) (up w * a) (down w * a) = times a (itself w) in
      omega (arith, i.is, j.is)

  held : (t : Bool) → before t (x *ℤ pos c) (y *ℤ pos a) → before t (y *ℤ pos b) (w *ℤ pos c) → x *ℤ pos c ≡ y *ℤ pos a
  held true h k =
      alike (times c (itself x)) (times a (itself y))
      (between (up x) (down x) (up y) (down y) (up w) (down w) a b c some ends_one
      (of_le (times c (itself x)) (times a (itself y)) h) (of_le (times b (itself y)) (times c (itself w)) k))
  held false h k =
      let l = of_le (times a (itself y)) (times c (itself x)) h in
      let m = of_le (times c (itself w)) (times b (itself y)) k in
      let e = between (down x) (up x) (down y) (up y) (down w) (up w) a b c some (omega (arith, ends_one)) (omega (arith, l)) (omega (arith, m)) in
      alike (times c (itself x)) (times a (itself y)) (omega (arith, e))

-- where the exact curve has one value at two places, it has that value at every place between them
pub fine_one_stretch : (k : Kind) (z : List ℤ) (ls : List (List ℕ)) → none (faults_of k z ls) ≡ true
    → first (turning_uses (basis_of k) (knots_of k z)) ≡ Ok tt
    → (s n j t m i s' n' j' : ℕ) → 0 < n' → s' < segments_in k z → NotAfter s n j t m i → NotAfter t m i s' n' j'
    → curve_at (basis_of k) (knots_of k z) s n j *ℤ pos (n' * n' * n') ≡ curve_at (basis_of k) (knots_of k z) s' n' j' *ℤ pos (n * n * n)
    → curve_at (basis_of k) (knots_of k z) s n j *ℤ pos (m * m * m) ≡ curve_at (basis_of k) (knots_of k z) t m i *ℤ pos (n * n * n)
fine_one_stretch k z ls h taken s n j t m i s' n' j' some inside p q e =
    let o = fine_in_order k z ls h taken in
    held (curve_at (basis_of k) (knots_of k z) s n j) (curve_at (basis_of k) (knots_of k z) t m i) (curve_at (basis_of k) (knots_of k z) s' n' j') (n * n * n)
    (n' * n' * n') (m * m * m) (cube n' some) e o.0 (o.1 s n j t m i (middle q.order) p) (o.1 t m i s' n' j' inside q)
  where
    cube : (n : ℕ) → 0 < n → 0 < n * n * n
    cube n l = mul-pos (mul-pos l l) l

    middle : (t < s') ⊎ ((t ≡ s') × (i * n' ≤ j' * m)) → t < segments_in k z
    middle (inl l) = omega (arith, l, inside)
    middle (inr l) = omega (arith, l.0, inside)

-- ---- a curve to be asked about there is only where no fault was told: it is that of the sheet, with its labels, and it has no span yet
fine_only : (c d : Bool) (k k' : Kind) (ks ks' : List Float) (ls ls' : List (List ℕ)) (n : ℕ)
    → cond c (cond d (fine k' ks' ls' 0) bad) bad ≡ fine k ks ls n
    → (c ≡ true) × (d ≡ true) × (k' ≡ k) × (ks' ≡ ks) × (ls' ≡ ls) × (0 ≡ n)
fine_only true true k k' ks ks' ls ls' n e = (refl, refl, cc, cc, cc, cc)
fine_only true false k k' ks ks' ls ls' n e = never (cc)
fine_only false d k k' ks ks' ls ls' n e = never (cc)

pub record Drew (s : Sheet) (k : Kind) (ks : List Float) (ls : List (List ℕ)) (span : ℕ) : Type 0 where
  pub rows : List ℤ
  pub sheet : s ≡ on k rows ls
  pub knots : ks ≡ doubles_of k rows
  pub unspanned : span ≡ 0
  pub suited : suits k (length rows) ≡ true
  pub faultless : none (faults_of k rows ls) ≡ true

pub asked_only_fine : (s : Sheet) (k : Kind) (ks : List Float) (ls : List (List ℕ)) (span : ℕ) → asked_of s ≡ fine k ks ls span → Drew s k ks ls span
unfolding asked_of
asked_only_fine unbegun k ks ls span e = never (cc)
asked_only_fine (on k' z ls') k ks ls span e =
    let r = fine_only (suits k' (length z)) (none (faults_of k' z ls')) k k' ks (doubles_of k' z) ls ls' span e in
    go k ls r.2 r.4 r.0 r.1 (sym r.3) (sym r.5)
  where
    go : (k : Kind) (ls : List (List ℕ)) → k' ≡ k → ls' ≡ ls → suits k' (length z) ≡ true → none (faults_of k' z ls') ≡ true → {ks : List Float} {n : ℕ}
        → ks ≡ doubles_of k' z → n ≡ 0 → Drew (on k' z ls') k ks ls n
    go k ls p q s f w n = rw (← p, ← q) (record { rows = z; sheet = refl; knots = w; unspanned = n; suited = s; faultless = f })
asked_only_fine (faulty n y) k ks ls span e = never (cc)

-- ---- and there the verdict says `fine`, with the number of its depths and the curve's ends; elsewhere it never does
pub fine_told : (s : Sheet) (k : Kind) (ks : List Float) (ls : List (List ℕ)) (span : ℕ) (d : Drew s k ks ls span)
    → verdict_of s ≡ fine_text (length d.rows) (ends_in (basis_of k) ks)
unfolding verdict_of
fine_told s k ks ls span d = rw (d.sheet, d.suited, d.faultless, d.knots) refl

byte_at : (i : ℕ) (t u : List ℕ) → t ≡ u → get_or t i 0 ≡ get_or u i 0
byte_at i t u e = ap (λ (w : List ℕ). get_or w i 0) e

fault_not_fine : (f : Fault) (fs : List Fault) (n : ℕ) (x : Ends) → faults_text (f ∷ fs) ≡ fine_text n x → ⊥
unfolding faults_text
fault_not_fine (twice i j) fs n x e = never (omega (arith, byte_at 0 _ _ e))
fault_not_fine (turns i) fs n x e = never (omega (arith, byte_at 0 _ _ e))
fault_not_fine (falls i) fs n x e = never (omega (arith, byte_at 1 _ _ e))
fault_not_fine flat fs n x e = never (omega (arith, byte_at 1 _ _ e))

told_not_fine : (k : Kind) (z : List ℤ) (fs : List Fault) → none fs ≡ false → (n : ℕ) (x : Ends) → told_of k z fs ≡ fine_text n x → ⊥
told_not_fine k z [] h n x e = never (cc)
told_not_fine k z (f ∷ fs) h n x e = fault_not_fine f fs n x e

pub bad_not_fine : (s : Sheet) → asked_of s ≡ bad → (n : ℕ) (x : Ends) → verdict_of s ≡ fine_text n x → ⊥
unfolding asked_of verdict_of
bad_not_fine unbegun h n x e = never (omega (arith, byte_at 0 _ _ e))
bad_not_fine (faulty i r) h n x e = never (omega (arith, byte_at 0 _ _ e))
bad_not_fine (on k z ls) h n x e = go (suits k (length z)) (none (faults_of k z ls)) refl h e
  where
    go : (c d : Bool) → none (faults_of k z ls) ≡ d → cond c (cond d (fine k (doubles_of k z) ls 0) bad) bad ≡ bad
        → cond c (told_of k z (faults_of k z ls)) (number_text (bytes "length\t") (length z)) ≡ fine_text n x → ⊥
    go true true q h e = never (cc)
    go true false q h e = told_not_fine k z (faults_of k z ls) q n x e
    go false d q h e = never (omega (arith, byte_at 0 _ _ e))
