-- Faults or none: what is told, and what may be asked after it. Assumes nothing.
use mathlib.Core.Path.{◌≡◌, refl, ap, ◌∙◌, subst}
use mathlib.Core.Bool.{Bool, true, false, ◌&&◌}
use mathlib.Core.List.{List, [], ◌∷◌, map}
use Prim.Native.Nat.{ℕ, suc, ◌+◌, ◌*◌, ◌≤◌, ◌<◌}
use native.Mathlib.Omega.{arith}
use borrow.Author.Tests.{leb-true}
use lib.Dec.{leb}
use lib.IntN.{ℤ, pos, nat_abs}
use lib.Ieee.{Float}
use lib.ListN.{length, take, drop, get_or, length-take}
use lib.Seq.{take_at}
use Rattle.basis.specs.declared.Basis.{Basis}
use Rattle.basis.specs.Basis.{segments_of, regular}
use Rattle.inverse.specs.declared.Ends.{Ends}
use Rattle.inverse.specs.EndRule.{curve_rule}
use Rattle.spline.specs.Segment.{segment_of}
use Rattle.text.specs.Pens.{Writes}
use Rattle.text.specs.declared.pen.Pen.{Pen}
use Rattle.text.proofs.Pens.{within, chained}
use Rattle.whole.specs.Held.{held_all, Small}
use Rattle.whole.proofs.Held.{back, small_all}
use Rattle.turns_back.specs.Call as turns
use Rattle.monotone.specs.Table as monotone
use Rattle.monotone.specs.Table.{table_of, left_of}
use Rattle.monotone.proofs.Verdicts.{passes}
use Rattle.monotone.proofs.Pairs.{table_long}
use Rattle.monotone.proofs.Kept.{knots_within}
use Rattle.ask_sheet.specs.declared.Kind.{Kind}
use Rattle.ask_sheet.specs.declared.Kind.TheVariants.{Drawn, Monotone}
use Rattle.ask_sheet.specs.declared.Reason.{Reason}
use Rattle.ask_sheet.specs.declared.Reason.TheVariants.{Missing}
use Rattle.ask_sheet.specs.Sheet.{unbegun, on, faulty}
use Rattle.text.specs.Text.{bytes}
use Rattle.ask_verdict.specs.Curve.{basis_of, knots_of, suits, double_of, doubles_of}
use Rattle.ask_verdict.specs.Faults.{faults_of}
use Rattle.ask_verdict.specs.Told.{faults_text, none, ends_in, fine_text, number_text, line_text, told_of, verdict_of, asked_by, asked_of, Asked, bad, fine}
use Rattle.ask_verdict.specs.Contract.{Drawing, Asks}
use Rattle.ask_verdict.proofs.Texts.{as_told, none_is, some_is}

empty : (l : List ℕ) → length l ≡ 0 → l ≡ []
empty [] e = refl
empty (a ∷ l) e = absurd (omega arith)

module _ (k : Kind) (z : List ℤ) (ls : List (List ℕ)) {p q : Pen} {m : ℕ} (w : Writes p (faults_text (faults_of k z ls)) m q) where
  next : q.at ≡ p.at + length (faults_text (faults_of k z ls))
  next = ap (λ (x : Pen). x.at) w.text

  module _ (h : p.at < q.at) where
    some : none (faults_of k z ls) ≡ false
    some = some_is (faults_of k z ls) (omega (arith, next))

    pub faults_told : Writes p (told_of k z (faults_of k z ls)) m q
    faults_told = rw some w

    pub not_asked : bad ≡ asked_by k z ls
    not_asked = rw some refl

  module _ (h : q.at ≤ p.at) where
    nil : length (faults_text (faults_of k z ls)) ≡ 0
    nil = omega (arith, next)

    no_fault : none (faults_of k z ls) ≡ true
    no_fault = none_is (faults_of k z ls) nil

    unwritten : Writes p [] 0 q
    unwritten = record { text = (as_told (empty (faults_text (faults_of k z ls)) nil) w).text; short = omega arith; room = w.room }

    pub fine_told : {r : Pen} {n f : ℕ} {e : Ends} → n ≡ length z → e ≡ ends_in (basis_of k) (doubles_of k z) → Writes q (fine_text n e) f r
        → Writes p (told_of k z (faults_of k z ls)) f r
    fine_told {r} {n} {f} {e} b g v =
        rw no_fault (as_told (ap (λ (m : ℕ). fine_text m e) b ∙ ap (λ (x : Ends). fine_text (length z) x) g) (within f (chained unwritten v) (omega arith)))

    pub may_be_asked : {ks : List Float} → ks ≡ doubles_of k z → fine k ks ls 0 ≡ asked_by k z ls
    may_be_asked q = rw no_fault (ap (λ (l : List Float). fine k l ls 0) q)

-- ---- the ends of the doubles
pub ends_are : (k : Kind) (z w : List ℤ) {b : Basis} {ks : List Float} {n : ℕ} {e : Ends} → w ≡ knots_of k z → b ≡ basis_of k → ks ≡ map double_of w
    → n ≡ segments_of b (length ks) → e ≡ (curve_rule (segment_of b ks) n).ends → e ≡ ends_in (basis_of k) (doubles_of k z)
ends_are k z w {b} {ks} {n} {e} is p q m f =
    f ∙ ap (λ (x : ℕ). (curve_rule (segment_of b ks) x).ends) m ∙ ap (λ (c : Basis). ends_in c ks) p
    ∙ ap (λ (l : List Float). ends_in (basis_of k) l) (q ∙ ap (λ (y : List ℤ). map double_of y) is)

-- ---- the curves that the verdict looks at
both_so : (a b : Bool) → (a && b) ≡ true → a ≡ true
both_so true b e = refl
both_so false b e = e

right_so : (a b : Bool) → (a && b) ≡ true → b ≡ true
right_so true b e = e
right_so false b e = absurd (let w : ◌≡◌ {A = Bool} false true = e in let q : ◌≡◌ {A = ℕ} 0 1 = cc in omega arith)

pub drawing_drawn : (b : Basis) (z : List ℤ) → length z ≤ 4096 → suits (Drawn b) (length z) ≡ true → Small turns.most z → Drawing (Drawn b) z z
drawing_drawn b z h s m = record {
  is = refl;
  rows = h;
  enough = leb-true 4 (length z) (both_so (leb 4 (length z)) (regular b (length z)) s);
  few = h;
  small = m;
}

pub monotone_few : (n : ℕ) → suits Monotone n ≡ true → n ≤ 2048
monotone_few n s = leb-true n 2048 (right_so (leb 2 n) (leb n 2048) s)

module _ (z : List ℤ) (s : suits Monotone (length z) ≡ true) (m : Small monotone.most z) where
  two : 2 ≤ length z
  two = leb-true 2 (length z) (both_so (leb 2 (length z)) (leb (length z) 2048) s)

  pub thousands : length z ≤ 2048
  thousands = leb-true (length z) 2048 (right_so (leb 2 (length z)) (leb (length z) 2048) s)

  table_small : Small turns.most (table_of z)
  table_small = record { each = λ i h. knots_within z 500000000000 m.each two (length z) 0 (omega arith) i h }

  pub drawing_monotone : (w : List ℤ) → w ≡ table_of z → Drawing Monotone z w
  drawing_monotone w e = rw e (record {
    is = refl;
    rows = omega (arith, thousands);
    enough = omega (arith, table_long z, two);
    few = omega (arith, table_long z, thousands);
    small = table_small;
  })

  -- the first places of the lent slice, after the call
  pub table_there : (old new : List ℤ) → length old ≡ 4096 → new ≡ left_of z old → held_all (take (2 * length z) new) ≡ table_of z
  unfolding left_of
  table_there old new h e =
      let p = passes z (length old) two thousands (omega (arith, thousands)) (small_all monotone.most z m.each) in
      let t : take (2 * length z) new ≡ table_of z =
      rw (e, ← p) (take_at (table_of z) (drop (length (table_of z)) old) (2 * length z) (table_long z)) in
      rw t (held_table (table_of z) table_small)
    where
      held_table : (l : List ℤ) → Small turns.most l → held_all l ≡ l
      held_table l s = held_all_small l s.each
        where
          held_all_small : (l : List ℤ) → ((i : ℕ) → i < length l → nat_abs (get_or l i (pos 0)) ≤ turns.most) → held_all l ≡ l
          held_all_small [] f = refl
          held_all_small (x ∷ l) f =
              cons (back x turns.most (f 0 (omega arith)) (omega arith)) (held_all_small l (λ i h. f (suc i) (omega arith)))
            where
              cons : {x y : ℤ} {l m : List ℤ} → x ≡ y → l ≡ m → (x ∷ l) ≡ (y ∷ m)
              cons p q = cc

-- ---- what may be asked of such a curve, before a span was given
pub may_ask : (k : Kind) (z w : List ℤ) → Drawing k z w → {r n : ℕ} → length z ≡ r → length w ≡ n → Asks r n 0
may_ask k z w d {r} {n} p q = record {
  few_rows = omega (arith, p, d.rows);
  enough = omega (arith, q, d.enough);
  few = omega (arith, q, d.few);
  short = omega arith;
}

-- ---- lengths in lent slices
pub there_room : (m : ℕ) (l : List ℤ) → length (take m l) ≡ m → m ≤ length l
there_room m l e = omega (arith, e, length-take m l)

-- ---- a sheet that draws a curve, or none
module _ (k : Kind) (z : List ℤ) (ls : List (List ℕ)) (n : ℕ) (many : length z ≡ n) where
  module _ (s : suits k n ≡ true) where
    suited : suits k (length z) ≡ true
    suited = ap (suits k) many ∙ s

    pub suited_text : told_of k z (faults_of k z ls) ≡ verdict_of (on k z ls)
    unfolding verdict_of
    suited_text = rw suited refl

    pub suited_asked : {a : Asked} → a ≡ asked_by k z ls → a ≡ asked_of (on k z ls)
    unfolding asked_of
    suited_asked e = rw suited e

  module _ (s : suits k n ≡ false) where
    unsuited : suits k (length z) ≡ false
    unsuited = ap (suits k) many ∙ s

    pub unsuited_text : number_text (bytes "length\t") n ≡ verdict_of (on k z ls)
    unfolding verdict_of
    unsuited_text = rw (unsuited, many) refl

    pub unsuited_asked : bad ≡ asked_of (on k z ls)
    unfolding asked_of
    unsuited_asked = rw unsuited refl

pub missing_text : line_text 1 Missing ≡ verdict_of unbegun
unfolding verdict_of
missing_text = refl

pub missing_asked : bad ≡ asked_of unbegun
unfolding asked_of
missing_asked = refl

pub faulty_text : (n : ℕ) (y : Reason) → line_text n y ≡ verdict_of (faulty n y)
unfolding verdict_of
faulty_text n y = refl

pub faulty_asked : (n : ℕ) (y : Reason) → bad ≡ asked_of (faulty n y)
unfolding asked_of
faulty_asked n y = refl
