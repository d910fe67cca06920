-- The line program and the comparison read a listing alike: whatever a line is, its record of a listing is the same to both, a knot being the double of the
-- bits that the comparison keeps; and after any lines both hold the same table. The words are tested in the same order. Assumes nothing.
use Rattle.basis.specs.declared.Basis.{Basis}
use Rattle.std.specs.Prelude.{Some, None, Option, ℕ}
use mathlib.Core.Path.{◌≡◌, refl, sym, ap, ◌∙◌, subst}
use mathlib.Core.Bool.{Bool, true, false, cond}
use mathlib.Core.List.{List, [], ◌∷◌, ◌++◌, map}
use Prim.Native.Nat.{ℕ, suc}
use lib.Dec.{ltb}
use lib.ListN.{length}
use lib.Ieee.{Float}
use Rattle.table_span.specs.declared.Table.{Table}
use Rattle.table_span.specs.Second.{good_span}
use Rattle.text.specs.Text.{bytes, same, fields_of, hex_of, double_of}
use Rattle.text_decimals.specs.Decimals.{number_in}
use Rattle.inverse_order.specs.declared.EndsBy.{EndsBy}
use Rattle.lines_record.specs.declared.Word.TheVariants as W
use Rattle.lines_record.specs.declared.Record.{Record}
use Rattle.lines_record.specs.declared.Record.TheVariants as R
use Rattle.lines_record.specs.Record.{word_of, named_of, ends_of, with_basis, with_ends, with_number, with_double, meaning_of, of_fields, record_of}
use Rattle.lines_answer.specs.Answer as curve
use Rattle.lines_machine.specs.Program.{Line, so, over, line_of}
use Rattle.lines.specs.Lines as line
use Rattle.lines.proofs.Replies.{curve_after}
use Rattle.claims.specs.Claims.{of_table}
use Rattle.compare_lines.specs.declared.CompareRecord.{CompareRecord}
use Rattle.compare_lines.specs.declared.CompareRecord.TheVariants as C
use Rattle.compare_lines.specs.CompareRecord as compared
use Rattle.compare_lines.specs.Listings as listing
use Rattle.compare_lines.specs.Inputs.{listed}

-- ---- one grammar
-- what the comparison takes for a record, as the line program has it; `other` is none of its own
abbrev pub as_record : CompareRecord → Record
as_record (C.Curve b) = R.Curve b
as_record (C.Span n) = R.Span n
as_record (C.Knot n) = R.Knot (double_of n)
as_record C.Other = R.Bad
as_record C.Bad = R.Bad

by_basis : (n : Option Basis) → of_table (with_basis (λ b. R.Curve b) n) ≡ as_record (compared.curve_said n)
by_basis (Some b) = refl
by_basis None = refl

by_span : (n : Option ℕ) → of_table (with_number (λ s. R.Span s) n) ≡ as_record (compared.span_said n)
by_span (Some n) = refl
by_span None = refl

by_knot : (n : Option ℕ) → of_table (with_double (λ x. R.Knot x) n) ≡ as_record (compared.knot_said n)
by_knot (Some n) = refl
by_knot None = refl

-- no other word begins a record of a listing
ends_none : (n : Option EndsBy) → of_table (with_ends (λ m. R.Ends m) n) ≡ R.Bad
ends_none (Some m) = refl
ends_none None = refl

double_none : (f : Float → Record) → ((x : Float) → of_table (f x) ≡ R.Bad) → (n : Option ℕ) → of_table (with_double f n) ≡ R.Bad
double_none f h (Some n) = h (double_of n)
double_none f h None = refl

turn_none : (n : Option Basis) → of_table (with_basis (λ b. R.Turn b) n) ≡ R.Bad
turn_none (Some b) = refl
turn_none None = refl

other_words : (s : List ℕ) (a b c d : Bool)
    → of_table (meaning_of (cond a W.Ends (cond b W.At (cond c W.Find (cond d W.Turn W.Other)))) s) ≡ R.Bad
unfolding meaning_of
other_words s true b c d = ends_none (ends_of s)
other_words s false true c d = double_none (λ x. R.At x) (λ x. refl) (hex_of s)
other_words s false false true d = double_none (λ x. R.Find x) (λ x. refl) (hex_of s)
other_words s false false false true = turn_none (named_of s)
other_words s false false false false = refl

two_fields : (w s : List ℕ) → of_table (meaning_of (word_of w) s) ≡ as_record (compared.meaning_of w s)
unfolding word_of meaning_of compared.meaning_of
two_fields w s = go (same w (bytes "curve")) (same w (bytes "span")) (same w (bytes "knot"))
  where
    go : (a b c : Bool)
        → of_table
        (meaning_of
        (cond a W.Curve
        (cond b W.Span
        (cond c W.Knot
        (cond (same w (bytes "ends")) W.Ends
        (cond (same w (bytes "at")) W.At (cond (same w (bytes "find")) W.Find (cond (same w (bytes "turn")) W.Turn W.Other)))))))
        s)
        ≡ as_record
        (cond a (compared.curve_said (named_of s)) (cond b (compared.span_said (number_in 5 s)) (cond c (compared.knot_said (hex_of s)) C.Bad)))
    go true b c = by_basis (named_of s)
    go false true c = by_span (number_in 5 s)
    go false false true = by_knot (hex_of s)
    go false false false = other_words s (same w (bytes "ends")) (same w (bytes "at")) (same w (bytes "find")) (same w (bytes "turn"))

one_field : (t : Bool) → R.Bad ≡ as_record (cond t C.Other C.Bad)
one_field true = refl
one_field false = refl

fields_alike : (fs : List (List ℕ)) → of_table (of_fields fs) ≡ as_record (compared.of_fields fs)
unfolding of_fields compared.of_fields
fields_alike [] = refl
fields_alike (w ∷ []) = one_field (same w (bytes "other"))
fields_alike (w ∷ s ∷ []) = two_fields w s
fields_alike (w ∷ s ∷ t ∷ ts) = refl

-- of every line
pub said_alike : (o : Line) → of_table (line.says o) ≡ as_record (listing.says o)
unfolding line.says listing.says record_of compared.said_of
said_alike (so l) = fields_alike (fields_of l)
said_alike over = refl

-- ---- what one holds the other holds: the same basis and span, and knots that are the doubles of the bits
abbrev pub Alike : listing.Listing → curve.Curve → Type 0
Alike listing.none curve.none = Unit
Alike listing.none (curve.on u m ls) = ⊥
Alike (listing.on t ks) curve.none = ⊥
Alike (listing.on t ks) (curve.on u m ls) = (t ≡ u) × (map double_of ks ≡ ls)

as_long : (ks : List ℕ) → length (map double_of ks) ≡ length ks
as_long [] = refl
as_long (k ∷ ks) = ap suc (as_long ks)

one_more : (ks : List ℕ) (n : ℕ) → map double_of (ks ++ (n ∷ [])) ≡ map double_of ks ++ (double_of n ∷ [])
one_more [] n = refl
one_more (k ∷ ks) n = ap (λ (l : List Float). double_of k ∷ l) (one_more ks n)

entered_alike : (h : listing.Listing) (c : curve.Curve) (s : CompareRecord) → Alike h c → Alike (listing.entered h s) (curve.after_of c (as_record s))
unfolding listing.entered curve.after_of
entered_alike listing.none curve.none (C.Curve b) a = (refl, refl)
entered_alike listing.none curve.none (C.Span n) a = tt
entered_alike listing.none curve.none (C.Knot n) a = tt
entered_alike listing.none curve.none C.Other a = tt
entered_alike listing.none curve.none C.Bad a = tt
entered_alike listing.none (curve.on u m ls) s a = absurd a
entered_alike (listing.on t ks) curve.none s a = absurd a
entered_alike (listing.on t ks) (curve.on u m ls) (C.Curve b) a = (refl, refl)
entered_alike (listing.on t ks) (curve.on u m ls) (C.Span n) a = go (good_span n)
  where
    go : (g : Bool)
        → Alike (cond g (listing.on (record { basis = t.basis; span = n }) ks) (listing.on t ks))
        (cond g (curve.on (record { basis = u.basis; span = n }) m ls) (curve.on u m ls))
    go true = (ap (λ (x : Table). record { basis = x.basis; span = n }) a.0, a.1)
    go false = a
entered_alike (listing.on t ks) (curve.on u m ls) (C.Knot n) a =
    subst
    (λ (k : ℕ). Alike (listing.on t (cond (ltb (length ks) listing.places) (ks ++ (n ∷ [])) ks))
    (curve.on u m (cond (ltb k curve.places) (ls ++ (double_of n ∷ [])) ls))) (sym (as_long ks) ∙ ap length a.1)
    (go (ltb (length ks) listing.places))
  where
    go : (g : Bool)
        → Alike (listing.on t (cond g (ks ++ (n ∷ [])) ks)) (curve.on u m (cond g (ls ++ (double_of n ∷ [])) ls))
    go true = (a.0, one_more ks n ∙ ap (λ (l : List Float). l ++ (double_of n ∷ [])) a.1)
    go false = a
entered_alike (listing.on t ks) (curve.on u m ls) C.Other a = a
entered_alike (listing.on t ks) (curve.on u m ls) C.Bad a = a

-- the ends, and what is asked of a table, leave what it holds
ends_aside : (h : listing.Listing) (t : Table) (ks : List Float) (m k : EndsBy) → Alike h (curve.on t m ks) → Alike h (curve.on t k ks)
ends_aside listing.none t ks m k a = a
ends_aside (listing.on u ls) t ks m k a = a

asked_aside : (h : listing.Listing) (c : curve.Curve) (r : Record) → Alike h (curve.after_of c (of_table r)) → Alike h (curve.after_of c r)
unfolding curve.after_of
asked_aside h c (R.Curve b) a = a
asked_aside h c (R.Span n) a = a
asked_aside h c (R.Knot x) a = a
asked_aside h curve.none (R.Ends k) a = a
asked_aside h (curve.on t m ks) (R.Ends k) a = ends_aside h t ks m k a
asked_aside h curve.none (R.At x) a = a
asked_aside h (curve.on t m ks) (R.At x) a = a
asked_aside h curve.none (R.Find y) a = a
asked_aside h (curve.on t m ks) (R.Find y) a = a
asked_aside h curve.none (R.Turn b) a = a
asked_aside h (curve.on t m ks) (R.Turn b) a = a
asked_aside h c R.Bad a = a

lines_alike : (h : listing.Listing) (c : curve.Curve) (ls : List (List ℕ)) → Alike h c → Alike (listed h ls) (curve_after c ls)
unfolding listed curve_after
lines_alike h c [] a = a
lines_alike h c (l ∷ ls) a =
    let s = listing.says (line_of l) in
    let r = line.says (line_of l) in
    lines_alike (listing.entered h s) (curve.after_of c r) ls
    (asked_aside (listing.entered h s) c r
    (subst (λ (x : Record). Alike (listing.entered h s) (curve.after_of c x)) (sym (said_alike (line_of l))) (entered_alike h c s a)))

-- after any lines
pub held_alike : (ls : List (List ℕ)) → Alike (listed listing.none ls) (curve_after curve.none ls)
held_alike ls = lines_alike listing.none curve.none ls tt
