-- A sheet's lines, case by case. Assumes nothing.
use Rattle.basis.specs.declared.Basis.{Basis}
use Rattle.std.specs.Prelude.{Option, Some, None, Bool, ℕ}
use mathlib.Core.Path.{◌≡◌, refl, sym, ap, ◌∙◌}
use mathlib.Core.Bool.{Bool, true, false}
use mathlib.Core.List.{List, [], ◌∷◌, ◌++◌}
use Prim.Native.Nat.{ℕ, zero, suc, ◌+◌, ◌-◌, ◌≤◌, ◌<◌}
use native.Mathlib.Numerals.{add-one}
use native.Mathlib.Omega.{arith}
use borrow.Author.Tests.{le-leb, lt-leb, lt-ltb, le-ltb}
use lib.IntN.{ℤ, pos, neg_ℤ, nat_abs}
use lib.ListN.{length, take, set}
use lib.Seq.{take-suc-set, length-take-le}
use Rattle.whole.specs.Held.{held, held_all}
use Rattle.whole.proofs.Held.{back, long}
use Rattle.text.specs.Text.{bytes, same, tab_of}
use Rattle.lines_record.specs.Record.{named_of}
use Rattle.lines_machine.specs.Program.{widest, Line, so, over}
use Rattle.sheet.specs.Sheet.{most, depth_line}
use Rattle.ask_sheet.specs.declared.Kind.{Kind}
use Rattle.ask_sheet.specs.declared.Kind.TheVariants.{Monotone}
use Rattle.ask_sheet.specs.declared.Reason.{Reason}
use Rattle.ask_sheet.specs.declared.Reason.TheVariants.{Long, NoLabel, NoDepth, Many}
use Rattle.ask_sheet.specs.Sheet.{Sheet, unbegun, on, faulty, drawn, kind_of, named, whole_of, most_in, added, grown, after_of}

-- ---- a number as it is held
neg_size : (n : ℕ) → nat_abs (neg_ℤ (pos n)) ≡ n
neg_size zero = refl
neg_size (suc n) = refl

pub whole_size : (minus : Bool) (n : ℕ) → nat_abs (whole_of minus n) ≡ n
whole_size true n = neg_size n
whole_size false n = refl

pub whole_held : (minus : Bool) (n : ℕ) → n ≤ 1000000000000 → held (whole_of minus n) ≡ whole_of minus n
whole_held minus n h = back (whole_of minus n) n (rw (whole_size minus n) (omega arith)) (omega arith)

map_append : (x y : List ℤ) → held_all (x ++ y) ≡ held_all x ++ held_all y
map_append [] y = refl
map_append (a ∷ x) y = ap (λ (l : List ℤ). held a ∷ l) (map_append x y)

-- ---- the first line
module _ (l : List ℕ) {r : Bool} (is : r ≡ same l (bytes "Monotone")) where
  pub is_monotone : r ≡ true → Some Monotone ≡ kind_of l
  unfolding kind_of
  is_monotone e = rw (sym is ∙ e) refl

  pub is_drawn : r ≡ false → {n : Option Basis} {k : Option Kind} → n ≡ named_of l → k ≡ drawn n → k ≡ kind_of l
  unfolding kind_of
  is_drawn e {n} {k} p q = rw (sym is ∙ e) (q ∙ ap drawn p)

-- ---- a depth line
module _ (k : Kind) (n : ℕ) (rows : List ℤ) (few : n ≤ most) (full : length rows ≡ most) (ls : List (List ℕ)) (l : List ℕ) (t : ℕ) (is : t ≡ tab_of l) where
  abbrev z : List ℤ
  z = held_all (take n rows)

  many : length z ≡ n
  many = long (take n rows) ∙ length-take-le n rows (omega arith)

  pub no_label : t < 1 → faulty (n + 2) NoLabel ≡ grown k z ls l
  unfolding grown
  no_label h = rw (← is, lt-leb 1 t h, many) refl

  pub long_label : 1 ≤ t → 16 < t → faulty (n + 2) NoLabel ≡ grown k z ls l
  unfolding grown
  long_label h g = rw (← is, le-leb 1 t h, lt-leb t 16 g, many) refl

  module _ (h : 1 ≤ t) (g : t ≤ 16) where
    labelled : added k z ls (take t l) (depth_line l) ≡ grown k z ls l
    unfolding grown
    labelled = rw (← is, le-leb 1 t h, le-leb t 16 g) refl

    pub no_depth : {d : Option (Bool × ℕ)} → d ≡ depth_line l → d ≡ None → faulty (n + 2) NoDepth ≡ grown k z ls l
    no_depth {d} p q = let w : depth_line l ≡ None = sym p ∙ q in rw (← labelled, w, many) refl

    module _ (minus : Bool) (m : ℕ) {d : Option (Bool × ℕ)} (p : d ≡ depth_line l) (q : d ≡ Some (minus, m)) where
      said : depth_line l ≡ Some (minus, m)
      said = sym p ∙ q

      pub too_large : most_in k < m → faulty (n + 2) NoDepth ≡ grown k z ls l
      too_large r = rw (← labelled, said, lt-ltb (most_in k) m r, many) refl

      pub too_many : m ≤ most_in k → most ≤ n → faulty (n + 2) Many ≡ grown k z ls l
      too_many r o = rw (← labelled, said, le-ltb (most_in k) m r, many, le-ltb n most o) refl

      pub one_more : m ≤ most_in k → m ≤ 1000000000000 → n < most → {x : ℤ} {ls' : List (List ℕ)} → x ≡ whole_of minus m → ls' ≡ ls ++ (take (t - 0) l ∷ [])
          → on k (held_all (take (n + 1) (set rows n x))) ls' ≡ grown k z ls l
      one_more r b o {x} {ls'} e f =
          let rowed : held_all (take (n + 1) (set rows n x)) ≡ z ++ (whole_of minus m ∷ []) =
          rw (add-one n, take-suc-set rows n x (omega arith)) (map_append (take n rows) (x ∷ [])
          ∙ ap (λ (y : ℤ). z ++ (y ∷ [])) (ap held e ∙ whole_held minus m b)) in
          let u : t - 0 ≡ t = omega arith in
          rw (← labelled, said, le-ltb (most_in k) m r, many, lt-ltb n most o, rowed, f, u) refl

-- ---- a line as it is held
pub named_line : (l : List ℕ) {s : Sheet} → s ≡ named (kind_of l) → s ≡ after_of unbegun (so l)
unfolding after_of
named_line l e = e

pub grown_line : (k : Kind) (z : List ℤ) (ls : List (List ℕ)) (l : List ℕ) {s : Sheet} → s ≡ grown k z ls l → s ≡ after_of (on k z ls) (so l)
unfolding after_of
grown_line k z ls l e = e

pub over_first : faulty 1 Long ≡ after_of unbegun over
unfolding after_of
over_first = refl

pub over_later : (k : Kind) (m : ℕ) (rows : List ℤ) (ls : List (List ℕ)) → m ≤ most → length rows ≡ most
    → faulty (m + 2) Long ≡ after_of (on k (held_all (take m rows)) ls) over
unfolding after_of
over_later k m rows ls few full =
    let z : length (held_all (take m rows)) ≡ m = long (take m rows) ∙ length-take-le m rows (omega arith) in
    rw z refl

pub still_faulty : (n : ℕ) (r : Reason) (o : Line) → faulty n r ≡ after_of (faulty n r) o
unfolding after_of
still_faulty n r (so l) = refl
still_faulty n r over = refl
