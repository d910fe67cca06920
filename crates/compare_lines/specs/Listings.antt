-- Two listings on one input, parted by `other`, and what they print. Definitions only.
use Rattle.error.specs.Refusals.{Verdict}
use Rattle.std.specs.Prelude.{cond, List, [], ℕ, Ok, Err}
use Rattle.basis.specs.declared.Basis.{Basis}
use Rattle.error.specs.declared.Refusal.TheVariants.{TooMany, BadSpan, BadLine, NoComparison}
use Rattle.keeper.specs.Table as table
use Rattle.keeper.specs.Table.{has_room, kept}
use Rattle.table_span.specs.declared.Table.{Table}
use Rattle.table_span.specs.Second.{good_span}
use Rattle.lines_reply.specs.Reply.{refused_text}
use Rattle.lines_machine.specs.Program.{Line, so, over, Program}
use Rattle.compare.specs.Comparison.{comparison_text}
use Rattle.compare_lines.specs.declared.CompareRecord.{CompareRecord}
use Rattle.compare_lines.specs.declared.CompareRecord.TheVariants.{Curve, Span, Knot, Other, Bad}
use Rattle.compare_lines.specs.CompareRecord.{said_of, is_other}

-- ---- one listing: none before its `curve`, then a table and the bits of its knots
pub data Listing : Type 0 where
  none : Listing
  on : Table → List ℕ → Listing

abbrev pub places : ℕ
places = table.places

-- a basis without a span
abbrev pub bare : Basis → Table
bare b = record { basis = b; span = 0 }

-- whether a record is refused there: 12 without a `curve`; 14, a span out of range; 3, a knot beyond the last place
unfoldable pub heard : Listing → CompareRecord → Verdict
heard none (Curve b) = Ok tt
heard none (Span s) = Err BadLine
heard none (Knot n) = Err BadLine
heard none Other = Err BadLine
heard none Bad = Err BadLine
heard (on t ks) (Curve b) = Ok tt
heard (on t ks) (Span s) = cond (good_span s) (Ok tt) (Err BadSpan)
heard (on t ks) (Knot n) = cond (has_room ks) (Ok tt) (Err TooMany)
heard (on t ks) Other = Err BadLine
heard (on t ks) Bad = Err BadLine

-- the listing after it: `curve` clears knots and span, so the last one counts; `span` replaces the one before
unfoldable pub entered : Listing → CompareRecord → Listing
entered none (Curve b) = on (bare b) []
entered none (Span s) = none
entered none (Knot n) = none
entered none Other = none
entered none Bad = none
entered (on t ks) (Curve b) = on (bare b) []
entered (on t ks) (Span s) = cond (good_span s) (on (record { basis = t.basis; span = s }) ks) (on t ks)
entered (on t ks) (Knot n) = on t (kept ks n)
entered (on t ks) Other = on t ks
entered (on t ks) Bad = on t ks

-- ---- both: the first alone, then the first and the second
pub data Both : Type 0 where
  before : Listing → Both
  parted : Listing → Listing → Both

-- the first `other` parts the two, and the second begins with none; any other `other` is a bad line
unfoldable pub verdict_of : Both → CompareRecord → Verdict
verdict_of (before l) s = cond (is_other s) (Ok tt) (heard l s)
verdict_of (parted k l) s = heard l s

unfoldable pub after_of : Both → CompareRecord → Both
after_of (before l) s = cond (is_other s) (parted l none) (before (entered l s))
after_of (parted k l) s = parted k (entered l s)

-- ---- what is printed
abbrev pub verdict_text : Verdict → List ℕ
verdict_text (Ok _) = []
verdict_text (Err r) = refused_text r

-- at the end the comparison, or 20 in its place
unfoldable pub ends_of : Both → List ℕ
ends_of (before l) = refused_text NoComparison
ends_of (parted none l) = refused_text NoComparison
ends_of (parted (on t ks) none) = refused_text NoComparison
ends_of (parted (on t ks) (on u ls)) = comparison_text t ks u ls

-- what a line says; one that is too long says nothing
unfoldable pub says : Line → CompareRecord
says (so l) = said_of l
says over = Bad

abbrev pub compare_program : Program Both
compare_program = record { tells = λ b o. verdict_text (verdict_of b (says o)); after = λ b o. after_of b (says o); ends = λ b. ends_of b }
