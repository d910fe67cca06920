-- A knot, a span and a whole line, as the listing takes them. Assumes nothing.
use Rattle.error.specs.Refusals.{Verdict}
use mathlib.Core.Path.{◌≡◌, refl, sym, ap, subst, ◌∙◌}
use mathlib.Core.Bool.{true, false}
use mathlib.Core.List.{List}
use Prim.Native.Nat.{ℕ, ◌≤◌}
use lib.ListN.{take}
use Rattle.error.specs.declared.Refusal.TheVariants.{TooMany, BadSpan}
use Rattle.table_span.specs.declared.Table.{Table}
use Rattle.table_span.specs.Second.{good_span}
use Rattle.std.specs.Prelude.{Option, Some, None, is_some, Ok, Err}
use Rattle.keeper.specs.Contract.{Keeps, count_after}
use Rattle.keeper.specs.Table.{places}
use Rattle.lines_machine.specs.Program.{Line}
use Rattle.compare_lines.specs.declared.CompareRecord.{CompareRecord}
use Rattle.compare_lines.specs.declared.CompareRecord.TheVariants.{Span, Knot}
use Rattle.compare_lines.specs.declared.TakeResult.{TakeResult}
use Rattle.compare_lines.specs.CompareRecord.{is_other}
use Rattle.compare_lines.specs.Listings.{
  Listing,
  none,
  on,
  heard,
  entered,
  Both,
  before,
  parted,
  verdict_of,
  after_of,
  verdict_text,
  says,
  compare_program,
}
use Rattle.compare_lines.specs.Contract.{both_of, Takes}

module _ (t : Table) (n x : ℕ) (knots : List ℕ) {k : Option ℕ} {knots' : List ℕ} (h : Keeps x n knots k knots') where
  pub knot_held : (c : ℕ) → count_after n k ≡ c → (on t (take c knots') ≡ entered (on t (take n knots)) (Knot x)) × (c ≤ places)
  unfolding entered
  knot_held c e = (ap (λ (j : ℕ). on t (take j knots')) (sym e) ∙ ap (on t) h.numbers, subst (λ (j : ℕ). j ≤ places) e h.few)

  pub knot_taken : (c : ℕ) → k ≡ Some c → Ok tt ≡ heard (on t (take n knots)) (Knot x)
  unfolding heard
  knot_taken c e = rw (sym h.taken ∙ ap is_some e) refl

  pub knot_dropped : k ≡ None → Err TooMany ≡ heard (on t (take n knots)) (Knot x)
  unfolding heard
  knot_dropped e = rw (sym h.taken ∙ ap is_some e) refl

module _ (t : Table) (n x : ℕ) (knots : List ℕ) where
  pub span_taken : good_span x ≡ true
      → (on (record { basis = t.basis; span = x }) (take n knots) ≡ entered (on t (take n knots)) (Span x)) × (Ok tt ≡ heard (on t (take n knots)) (Span x))
  unfolding entered heard
  span_taken e = (rw e refl, rw e refl)

  pub span_refused : good_span x ≡ false
      → (on t (take n knots) ≡ entered (on t (take n knots)) (Span x)) × (Err BadSpan ≡ heard (on t (take n knots)) (Span x))
  unfolding entered heard
  span_refused e = (rw e refl, rw e refl)

-- ---- both listings
pub parting : (l : Listing) (s : CompareRecord) → is_other s ≡ true → (parted l none ≡ after_of (before l) s) × (Ok tt ≡ verdict_of (before l) s)
unfolding after_of verdict_of
parting l s e = (rw e refl, rw e refl)

pub entering : (l : Listing) (s : CompareRecord) → is_other s ≡ false → (before (entered l s) ≡ after_of (before l) s) × (heard l s ≡ verdict_of (before l) s)
unfolding after_of verdict_of
entering l s e = (rw e refl, rw e refl)

pub second : (k l : Listing) (s : CompareRecord) → (parted k (entered l s) ≡ after_of (parted k l) s) × (heard l s ≡ verdict_of (parted k l) s)
unfolding after_of verdict_of
second k l s = (refl, refl)

-- ---- a line
module _ {b : Both} {s : CompareRecord} {t : TakeResult} {old new : List ℕ} (o : Line) (e : s ≡ says o) (h : Takes b s t old new) where
  pub line_state : both_of t.held old new ≡ compare_program.after b o
  line_state = h.held ∙ ap (after_of b) e

  pub line_tells : verdict_text t.verdict ≡ compare_program.tells b o
  line_tells = ap verdict_text (h.told ∙ ap (verdict_of b) e)
