-- What is said of a row by the depths, case by case. Assumes nothing.
use mathlib.Core.Path.{◌≡◌, refl, sym, ap, ◌∙◌}
use mathlib.Core.Bool.{Bool, true, false, not}
use mathlib.Core.List.{List, []}
use Prim.Native.Nat.{ℕ, suc, ◌+◌, ◌-◌, ◌*◌, ◌/◌, ◌%◌, ◌≤◌, ◌<◌}
use native.Mathlib.Numerals.{add-one}
use borrow.Author.Tests.{le-leb, lt-leb, lt-ltb, le-ltb, eq-eqb, ne_eqb}
use lib.IntN.{ℤ, pos}
use lib.ListN.{length, drop, get_or}
use Rattle.basis.specs.declared.Basis.{Basis}
use Rattle.basis.specs.Basis.{step_of, segments_of}
use Rattle.text.specs.Text.{bytes}
use Rattle.whole.specs.Held.{held, held_all, turned_all}
use Rattle.whole.proofs.Held.{long, knot}
use Rattle.turns_back.specs.Curve.{starts_no_lower}
use Rattle.turns_back.specs.Four.{four_never_fall}
use Rattle.ask_sheet.specs.declared.Kind.{Kind}
use Rattle.ask_verdict.specs.Curve.{basis_of, knots_of, first_row, row_step, through_rows}
use Rattle.turns_back.specs.declared.Way.{Way}
use Rattle.turns_back.specs.Call.{start_of, end_of, way_of}
use Rattle.ask_verdict.specs.Faults.{turns, falls, against, turns_at, falls_at, bend_of, bend_at, segments_in, way_in}
use Rattle.ask_verdict.specs.Told.{number_text, faults_text}
use Rattle.ask_verdict.proofs.Texts.{one_text, no_text}

-- ---- rows that turn
module _ (k : Kind) (up : Bool) (rows : List ℤ) (i : ℕ) {t : Bool} (is : t ≡ through_rows k) where
  pub not_through : t ≡ false → false ≡ turns_at k up (held_all rows) i
  unfolding turns_at
  not_through e = rw (sym is ∙ e) refl

  pub last_row : t ≡ true → length rows ≤ i + 1 → false ≡ turns_at k up (held_all rows) i
  unfolding turns_at
  last_row e h = rw (sym is ∙ e, le-ltb (suc i) (length (held_all rows)) (rw (long rows, ← add-one i) h)) refl

  pub row_turns : t ≡ true → i + 1 < length rows
      → against up (held (get_or rows i (pos 0))) (held (get_or rows (i + 1) (pos 0))) ≡ turns_at k up (held_all rows) i
  unfolding turns_at
  row_turns e h =
      rw (sym is ∙ e, lt-ltb (suc i) (length (held_all rows)) (rw (long rows, ← add-one i) h), knot rows i, knot rows (suc i))
      (ap (λ (m : ℕ). against up (held (get_or rows i (pos 0))) (held (get_or rows m (pos 0)))) (add-one i))

-- ---- segments that fall
module _ (b : Basis) (z : List ℤ) (s : ℕ) {f : Bool} (is : f ≡ four_never_fall b (drop (s * step_of b) z)) where
  pub here : f ≡ false → true ≡ falls_at b z s
  unfolding falls_at
  here e = rw (sym is ∙ e) refl

  pub at_the_seam : f ≡ true → s + 1 < segments_of b (length z) → {g : Bool} → g ≡ starts_no_lower b z (s + 1) → not g ≡ falls_at b z s
  unfolding falls_at
  at_the_seam e h {g} q = rw (sym is ∙ e, lt-ltb (suc s) (segments_of b (length z)) (rw (← add-one s) h)) (ap not (q ∙ ap (starts_no_lower b z) (add-one s)))

  pub nowhere : f ≡ true → segments_of b (length z) ≤ s + 1 → false ≡ falls_at b z s
  unfolding falls_at
  nowhere e h = rw (sym is ∙ e, le-ltb (suc s) (segments_of b (length z)) (rw (← add-one s) h)) refl

-- ---- of one segment
module _ (k : Kind) (up : Bool) (z w : List ℤ) (i s : ℕ) (is : w ≡ knots_of k z) {t : Bool} (turn : t ≡ turns_at k up z i) where
  pub says_turns : t ≡ true → number_text (bytes "turns\t") (i + 2) ≡ faults_text (bend_of k up z i s)
  unfolding bend_of
  says_turns e = rw (sym turn ∙ e) (one_text (turns (i + 2)))

  module _ {b : Basis} {f : Bool} (basis : b ≡ basis_of k) (fall : f ≡ falls_at b (turned_all up w) s) where
    there : f ≡ falls_at (basis_of k) (turned_all up (knots_of k z)) s
    there = fall ∙ ap (λ (c : Basis). falls_at c (turned_all up w) s) basis ∙ ap (λ (y : List ℤ). falls_at (basis_of k) (turned_all up y) s) is

    pub says_falls : t ≡ false → f ≡ true → number_text (bytes "falls\t") (i + 2) ≡ faults_text (bend_of k up z i s)
    unfolding bend_of
    says_falls e g = rw (sym turn ∙ e, sym there ∙ g) (one_text (falls (i + 2)))

    pub says_nothing : t ≡ false → f ≡ false → [] ≡ faults_text (bend_of k up z i s)
    unfolding bend_of
    says_nothing e g = rw (sym turn ∙ e, sym there ∙ g) no_text

-- ---- of a row
module _ (k : Kind) (up : Bool) (z w : List ℤ) (i : ℕ) (is : w ≡ knots_of k z) {first : ℕ} (f : first ≡ first_row k) where
  pub before_first : i < first → [] ≡ faults_text (bend_at k up z i)
  unfolding bend_at
  before_first h = rw (← f, lt-leb first i h) no_text

  module _ {step : ℕ} (e : step ≡ row_step k) (h : first ≤ i) where
    pub between_rows : ((i - first) % step ≡ 0 → ⊥) → [] ≡ faults_text (bend_at k up z i)
    unfolding bend_at
    between_rows g = rw (← f, ← e, le-leb first i h, ne_eqb ((i - first) % step) 0 g) no_text

    module _ (g : (i - first) % step ≡ 0) {n : ℕ} (many : n ≡ segments_of (basis_of k) (length w)) where
      segments : n ≡ segments_in k z
      segments = many ∙ ap (λ (y : List ℤ). segments_of (basis_of k) (length y)) is

      pub past_last : n ≤ (i - first) / step → [] ≡ faults_text (bend_at k up z i)
      unfolding bend_at
      past_last q = rw (← f, ← e, le-leb first i h, eq-eqb ((i - first) % step) 0 g, ← segments, le-ltb ((i - first) / step) n q) no_text

      pub begins : (i - first) / step < n → faults_text (bend_of k up z i ((i - first) / step)) ≡ faults_text (bend_at k up z i)
      unfolding bend_at
      begins q = rw (← f, ← e, le-leb first i h, eq-eqb ((i - first) % step) 0 g, ← segments, lt-ltb ((i - first) / step) n q) refl

-- ---- the direction
pub way_there : (k : Kind) (z w : List ℤ) {b : Basis} {y : Way} → w ≡ knots_of k z → b ≡ basis_of k → y ≡ way_of (start_of b w) (end_of b w) → y ≡ way_in k z
unfolding way_in
way_there k z w {b} {y} is e f =
    f ∙ ap (λ (c : Basis). way_of (start_of c w) (end_of c w)) e ∙ ap (λ (v : List ℤ). way_of (start_of (basis_of k) v) (end_of (basis_of k) v)) is
