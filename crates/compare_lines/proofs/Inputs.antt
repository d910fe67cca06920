-- Two listings of which no line is refused, parted by `other`, print the comparison of the two tables that they hold; those are tables that a
-- printed comparison is read back for. Assumes nothing.
use Rattle.std.specs.Prelude.{Ok, Err, Some, None, Option, ℕ}
use mathlib.Core.Path.{◌≡◌, refl, sym, ap, subst, ◌∙◌}
use mathlib.Core.Logic.{◌⊎◌, inl, inr}
use mathlib.Core.Bool.{Bool, true, false, cond, ◌&&◌}
use mathlib.Core.List.{List, [], ◌∷◌, ◌++◌, append_assoc, append-nil, Memᴰ}
use Prim.Native.Nat.{ℕ, ◌+◌, ◌≤◌, ◌<◌, ◌^◌}
use native.Mathlib.Omega.{arith}
use borrow.Author.Tests.{lt-ltb, ltb-true, leb-true, leb-false, le-leb}
use lib.Dec.{ltb, leb}
use lib.ListN.{length, length-append}
use Rattle.basis.specs.declared.Basis.{Basis}
use Rattle.basis.specs.declared.Basis.TheVariants.{Bspline, Bezier, CatmullRom, Hermite, Linear, Power}
use Rattle.error.proofs.First.{never}
use Rattle.error.specs.Refusals.{Verdict}
use Rattle.error.specs.declared.Refusal.{Refusal}
use Rattle.error.specs.declared.Refusal.TheVariants.{NoComparison}
use Rattle.table_span.specs.declared.Table.{Table}
use Rattle.table_span.specs.Second.{day, good_span, spans_of}
use Rattle.text.specs.Text.{bytes, same, LF, TAB, onto, fields_of, hex_of, hex_text, dec_text}
use Rattle.text.proofs.ReadBack.{length_hex, parse_print, read_small}
use Rattle.text_decimals.specs.Decimals.{number_in}
use Rattle.text_decimals.proofs.ReadBack.{number_back, dec_length}
use Rattle.lines_record.specs.Record.{name_of, named_of}
use Rattle.lines_machine.specs.Program.{lines_of, widest, Line, so, over, line_of, prints_of, output_of}
use Rattle.lines_machine.proofs.Breaking.{Free, free_append, freeb, free_of, free_hex, free_dec, field_last, broken}
use Rattle.lines_reply.specs.Reply.{refused_text, spans_text}
use Rattle.compare.specs.Differences.{Difference, differences_of}
use Rattle.compare.specs.Comparison.{comparison_text}
use Rattle.compare.specs.Printed.{tells, said_in, read_of, tells_all, last_said, rebuilt_table}
use Rattle.compare.proofs.Listed.{Differs}
use Rattle.compare.proofs.ReadBack.{last_line, Small, Held, comparison_back}
use Rattle.compare.proofs.Printed.{all_printed, once_printed, nothing_else_printed, rebuilds_from_print}
use Rattle.compare_lines.specs.declared.CompareRecord.{CompareRecord}
use Rattle.compare_lines.specs.declared.CompareRecord.TheVariants.{Curve, Span, Knot, Other, Bad}
use Rattle.compare_lines.specs.CompareRecord.{curve_said, span_said, knot_said, meaning_of, of_fields, said_of, is_other}
use Rattle.compare_lines.specs.Listings.{
  Listing,
  none,
  on,
  places,
  bare,
  heard,
  entered,
  before,
  parted,
  verdict_of,
  after_of,
  verdict_text,
  ends_of,
  says,
  compare_program,
}
use Rattle.compare_lines.specs.Inputs.{listed, refusals_of, NoOther, Heard, knots_text, listing_text}
use Rattle.compare_lines.proofs.Entering.{entering}

-- ---- what the lines print
first_lines : (l : Listing) (xs rest : List (List ℕ)) → NoOther xs
    → prints_of compare_program (before l) (xs ++ rest) ≡ refusals_of l xs ++ prints_of compare_program (before (listed l xs)) rest
unfolding prints_of listed refusals_of
first_lines l [] rest h = refl
first_lines l (x ∷ xs) rest h =
    let s : CompareRecord = says (line_of x) in
    let e = entering l s h.0 in
    let told : List ℕ = verdict_text (heard l s) in
    rw (← e.0, ← e.1)
    (ap (λ (t : List ℕ). told ++ t) (first_lines (entered l s) xs rest h.1)
    ∙ sym (append_assoc told (refusals_of (entered l s) xs) (prints_of compare_program (before (listed (entered l s) xs)) rest)))

second_lines : (k l : Listing) (ys : List (List ℕ))
    → prints_of compare_program (parted k l) ys ≡ refusals_of l ys ++ ends_of (parted k (listed l ys))
unfolding prints_of listed refusals_of verdict_of after_of
second_lines k l [] = refl
second_lines k l (y ∷ ys) =
    let s : CompareRecord = says (line_of y) in
    let told : List ℕ = verdict_text (heard l s) in
    ap (λ (t : List ℕ). told ++ t) (second_lines k (entered l s) ys)
    ∙ sym (append_assoc told (refusals_of (entered l s) ys) (ends_of (parted k (listed (entered l s) ys))))

other_line : (l : Listing) (ys : List (List ℕ)) → prints_of compare_program (before l) (bytes "other" ∷ ys) ≡ prints_of compare_program (parted l none) ys
unfolding prints_of verdict_of after_of says said_of of_fields fields_of onto same
other_line l ys = refl

-- ---- where no line is refused
failed : {A : Type 0} {r : Refusal} → ◌≡◌ {A = Verdict} (Err r) (Ok tt) → A
failed e = never (cc)

not_other : (l : Listing) (s : CompareRecord) → heard l s ≡ Ok tt → is_other s ≡ false
unfolding heard
not_other l (Curve b) e = refl
not_other l (Span n) e = refl
not_other l (Knot n) e = refl
not_other none Other e = failed e
not_other (on t ks) Other e = failed e
not_other l Bad e = refl

-- none is `other`, and nothing is told
heard_no_other : (l : Listing) (xs : List (List ℕ)) → Heard l xs → NoOther xs
heard_no_other l [] h = tt
heard_no_other l (x ∷ xs) h = (not_other l (says (line_of x)) h.0, heard_no_other (entered l (says (line_of x))) xs h.1)

heard_silent : (l : Listing) (xs : List (List ℕ)) → Heard l xs → refusals_of l xs ≡ []
unfolding refusals_of
heard_silent l [] h = refl
heard_silent l (x ∷ xs) h = rw h.0 (heard_silent (entered l (says (line_of x))) xs h.1)

-- ---- what a listing holds
abbrev HeldIn : Listing → Type 0
HeldIn none = Unit
HeldIn (on t ks) = Held t ks

-- a knot that is read has 64 bits
abbrev Sized : CompareRecord → Type 0
Sized (Curve b) = Unit
Sized (Span n) = Unit
Sized (Knot n) = n < 2 ^ 64
Sized Other = Unit
Sized Bad = Unit

curve_sized : (r : Option Basis) → Sized (curve_said r)
curve_sized (Some b) = tt
curve_sized None = tt

span_sized : (r : Option ℕ) → Sized (span_said r)
span_sized (Some n) = tt
span_sized None = tt

knot_sized : (s : List ℕ) (r : Option ℕ) → hex_of s ≡ r → Sized (knot_said r)
knot_sized s (Some n) e = read_small s n e
knot_sized s None e = tt

meaning_sized : (w s : List ℕ) → Sized (meaning_of w s)
unfolding meaning_of
meaning_sized w s = go (same w (bytes "curve")) (same w (bytes "span")) (same w (bytes "knot"))
  where
    go : (p q r : Bool) → Sized (cond p (curve_said (named_of s)) (cond q (span_said (number_in 5 s)) (cond r (knot_said (hex_of s)) Bad)))
    go true q r = curve_sized (named_of s)
    go false true r = span_sized (number_in 5 s)
    go false false true = knot_sized s (hex_of s) refl
    go false false false = tt

fields_sized : (fs : List (List ℕ)) → Sized (of_fields fs)
unfolding of_fields
fields_sized [] = tt
fields_sized (w ∷ []) = go (same w (bytes "other"))
  where
    go : (p : Bool) → Sized (cond p Other Bad)
    go true = tt
    go false = tt
fields_sized (w ∷ s ∷ []) = meaning_sized w s
fields_sized (w ∷ s ∷ t ∷ ts) = tt

says_sized : (o : Line) → Sized (says o)
unfolding says said_of
says_sized (so l) = fields_sized (fields_of l)
says_sized over = tt

small_append : (ks : List ℕ) (n : ℕ) → Small ks → n < 2 ^ 64 → Small (ks ++ (n ∷ []))
small_append [] n p h = (h, tt)
small_append (a ∷ ks) n p h = (p.0, small_append ks n p.1 h)

-- a good span is at most a day
good_day : (s : ℕ) → good_span s ≡ true → s ≤ day
good_day s e = go (leb 1 s) (leb s day) refl e
  where
    go : (p q : Bool) → leb s day ≡ q → (p && q) ≡ true → s ≤ day
    go p true f k = leb-true s day f
    go true false f k = never (cc)
    go false false f k = never (cc)

entered_held : (l : Listing) (r : CompareRecord) → HeldIn l → Sized r → HeldIn (entered l r)
unfolding entered
entered_held none (Curve b) h z = record { span = omega arith; few = omega arith; bits = tt }
entered_held none (Span n) h z = tt
entered_held none (Knot n) h z = tt
entered_held none Other h z = tt
entered_held none Bad h z = tt
entered_held (on t ks) (Curve b) h z = record { span = omega arith; few = omega arith; bits = tt }
entered_held (on t ks) (Span n) h z = go (good_span n) refl
  where
    go : (p : Bool) → good_span n ≡ p → HeldIn (cond p (on (record { basis = t.basis; span = n }) ks) (on t ks))
    go true e = record { span = omega (arith, good_day n e); few = h.few; bits = h.bits }
    go false e = h
entered_held (on t ks) (Knot n) h z = go (ltb (length ks) places) refl
  where
    go : (p : Bool) → ltb (length ks) places ≡ p → HeldIn (on t (cond p (ks ++ (n ∷ [])) ks))
    go true e = record { span = h.span; few = simp length-append (omega (arith, ltb-true (length ks) places e)); bits = small_append ks n h.bits z }
    go false e = h
entered_held (on t ks) Other h z = h
entered_held (on t ks) Bad h z = h

listed_held : (l : Listing) (ys : List (List ℕ)) → HeldIn l → HeldIn (listed l ys)
unfolding listed
listed_held l [] h = h
listed_held l (b ∷ ys) h = listed_held (entered l (says (line_of b))) ys (entered_held l (says (line_of b)) h (says_sized (line_of b)))

-- whatever the lines, refused or not: a table that a listing holds has a span below 2^32, at most 4,096 knots, and 64 bits in each
pub listing_held : (ys : List (List ℕ)) (t : Table) (ks : List ℕ) → listed none ys ≡ on t ks → Held t ks
listing_held ys t ks e = subst HeldIn e (listed_held none ys tt)

-- ---- the whole program
-- an input whose lines are some without `other`, then `other`, then any: their refusals as they come, then the end of the two listings
pub prints_both : (x : List ℕ) (xs ys : List (List ℕ)) → lines_of x ≡ xs ++ (bytes "other" ∷ ys) → NoOther xs
    → output_of compare_program (before none) x ≡ refusals_of none xs ++ (refusals_of none ys ++ ends_of (parted (listed none xs) (listed none ys)))
unfolding output_of
prints_both x xs ys e h =
    ap (prints_of compare_program (before none)) e
    ∙ first_lines none xs (bytes "other" ∷ ys) h
    ∙ ap (λ (t : List ℕ). refusals_of none xs ++ t) (other_line (listed none xs) ys ∙ second_lines (listed none xs) none ys)

-- without an `other`, or with a listing that has no `curve`, 20 stands in the comparison's place, after every line was read
pub prints_no_other : (x : List ℕ) → NoOther (lines_of x)
    → output_of compare_program (before none) x ≡ refusals_of none (lines_of x) ++ refused_text NoComparison
unfolding output_of prints_of ends_of
prints_no_other x h = ap (prints_of compare_program (before none)) (sym (append-nil (lines_of x))) ∙ first_lines none (lines_of x) [] h

ends_missing : (k l : Listing) → (k ≡ none) ⊎ (l ≡ none) → ends_of (parted k l) ≡ refused_text NoComparison
unfolding ends_of
ends_missing none l w = refl
ends_missing (on t ks) none w = refl
ends_missing (on t ks) (on u ls) (inl e) = never (cc)
ends_missing (on t ks) (on u ls) (inr e) = never (cc)

pub prints_no_curve : (x : List ℕ) (xs ys : List (List ℕ)) → lines_of x ≡ xs ++ (bytes "other" ∷ ys) → NoOther xs
    → (listed none xs ≡ none) ⊎ (listed none ys ≡ none)
    → output_of compare_program (before none) x ≡ refusals_of none xs ++ (refusals_of none ys ++ refused_text NoComparison)
prints_no_curve x xs ys e h w =
    prints_both x xs ys e h
    ∙ ap (λ (t : List ℕ). refusals_of none xs ++ (refusals_of none ys ++ t)) (ends_missing (listed none xs) (listed none ys) w)

module _ (x : List ℕ) (xs ys : List (List ℕ)) (t : Table) (ks : List ℕ) (u : Table) (ls : List ℕ)
    (e : lines_of x ≡ xs ++ (bytes "other" ∷ ys)) (h : Heard none xs) (g : Heard none ys) (p : listed none xs ≡ on t ks) (q : listed none ys ≡ on u ls) where
  -- where no line is refused, the comparison of the two tables that the listings hold, and nothing else
  pub prints_comparison : output_of compare_program (before none) x ≡ comparison_text t ks u ls
  unfolding ends_of
  prints_comparison = prints_both x xs ys e (heard_no_other none xs h) ∙ rw (heard_silent none xs h, heard_silent none ys g, p, q) refl

  -- what is printed, read line by line, says the differences of the two tables in order, then the last line, and nothing else
  pub output_back : read_of (output_of compare_program (before none) x) ≡ tells_all (differences_of t ks u ls) ++ (last_said (differences_of t ks u ls) ∷ [])
  output_back = ap (λ (y : List ℕ). read_of y) prints_comparison ∙ comparison_back t ks u ls (listing_held xs t ks p) (listing_held ys u ls q)

  -- the second table, from the first's knots, its own basis, span and length, and what the program printed
  pub output_rebuilds : rebuilt_table ks u.basis u.span (length ls) (output_of compare_program (before none) x) ≡ (u, ls)
  output_rebuilds =
      ap (rebuilt_table ks u.basis u.span (length ls)) prints_comparison
      ∙ rebuilds_from_print t ks u ls (listing_held xs t ks p) (listing_held ys u ls q)

  -- every difference has a line in what the program printed, no other line says it again, and each line but the last says one
  pub output_all : (d : Difference) → Differs t ks u ls d
      → (l : List ℕ) × Memᴰ l (lines_of (output_of compare_program (before none) x)) × (said_in l ≡ tells d)
  output_all d r = rw prints_comparison (all_printed t ks u ls (listing_held xs t ks p) (listing_held ys u ls q) d r)

  pub output_once : (before_it behind_it : List (List ℕ)) (l m : List ℕ) (d : Difference)
      → lines_of (output_of compare_program (before none) x) ≡ before_it ++ (l ∷ behind_it) → said_in l ≡ tells d
      → Memᴰ m before_it ⊎ Memᴰ m behind_it → said_in m ≡ tells d → ⊥
  output_once v w l m d f =
      once_printed t ks u ls (listing_held xs t ks p) (listing_held ys u ls q) v w l m d (ap lines_of (sym prints_comparison) ∙ f)

  pub output_nothing_else : (l : List ℕ) → Memᴰ l (lines_of (output_of compare_program (before none) x))
      → ((d : Difference) × (said_in l ≡ tells d) × Differs t ks u ls d) ⊎ (l ≡ last_line (differences_of t ks u ls))
  output_nothing_else l m =
      nothing_else_printed t ks u ls (listing_held xs t ks p) (listing_held ys u ls q) l
      (subst (λ (y : List ℕ). Memᴰ l (lines_of y)) prints_comparison m)

-- ---- tables written as listings
abbrev curve_line : Basis → List ℕ
curve_line b = bytes "curve\t" ++ name_of b

abbrev span_line : ℕ → List ℕ
span_line s = bytes "span\t" ++ dec_text 9 s

abbrev knot_line : ℕ → List ℕ
knot_line n = bytes "knot\t" ++ hex_text 16 n

unfoldable knot_lines : List ℕ → List (List ℕ)
knot_lines [] = []
knot_lines (n ∷ ks) = knot_line n ∷ knot_lines ks

abbrev span_lines : List ℕ → List (List ℕ)
span_lines [] = []
span_lines (s ∷ ss) = span_line s ∷ span_lines ss

curve_plain : (b : Basis) → Free LF (curve_line b)
unfolding freeb
curve_plain Bspline = free_of LF (curve_line Bspline) tt
curve_plain Bezier = free_of LF (curve_line Bezier) tt
curve_plain CatmullRom = free_of LF (curve_line CatmullRom) tt
curve_plain Hermite = free_of LF (curve_line Hermite) tt
curve_plain Linear = free_of LF (curve_line Linear) tt
curve_plain Power = free_of LF (curve_line Power) tt

span_plain : (s : ℕ) → Free LF (span_line s)
unfolding freeb
span_plain s = free_append LF (bytes "span\t") (dec_text 9 s) (free_of LF (bytes "span\t") tt) (free_dec LF 9 s (omega arith))

knot_plain : (n : ℕ) → Free LF (knot_line n)
unfolding freeb
knot_plain n = free_append LF (bytes "knot\t") (hex_text 16 n) (free_of LF (bytes "knot\t") tt) (free_hex LF 16 n (omega arith))

says_curve : (b : Basis) → says (line_of (curve_line b)) ≡ Curve b
unfolding says said_of of_fields fields_of onto same meaning_of named_of
says_curve Bspline = refl
says_curve Bezier = refl
says_curve CatmullRom = refl
says_curve Hermite = refl
says_curve Linear = refl
says_curve Power = refl

says_span : (s : ℕ) → s ≤ day → says (line_of (span_line s)) ≡ Span s
unfolding says said_of of_fields fields_of onto same meaning_of
says_span s h =
    let small : s < 10 ^ 5 = omega arith in
    let few : length (dec_text 9 s) ≤ 5 = dec_length 9 4 s small in
    let short : length (span_line s) ≤ widest = omega arith in
    rw (le-leb (length (span_line s)) widest short, field_last (dec_text 9 s) (free_dec TAB 9 s (omega arith)), number_back 9 4 s (omega arith) small) refl

says_knot : (n : ℕ) → n < 2 ^ 64 → says (line_of (knot_line n)) ≡ Knot n
unfolding says said_of of_fields fields_of onto same meaning_of
says_knot n h =
    let few : length (hex_text 16 n) ≡ 16 = length_hex 16 n in
    let short : length (knot_line n) ≤ widest = omega arith in
    rw (le-leb (length (knot_line n)) widest short, field_last (hex_text 16 n) (free_hex TAB 16 n (omega arith)), parse_print n h) refl

-- ---- the lines of a listing, and what follows it
knots_lines : (ks y : List ℕ) → lines_of (knots_text ks ++ y) ≡ knot_lines ks ++ lines_of y
unfolding knots_text knot_lines
knots_lines [] y = refl
knots_lines (n ∷ ks) y =
    ap lines_of (append_assoc (knot_line n ++ (LF ∷ [])) (knots_text ks) y)
    ∙ broken (knot_line n) (knots_text ks ++ y) (knot_plain n)
    ∙ ap (λ (l : List (List ℕ)). knot_line n ∷ l) (knots_lines ks y)

spans_lines : (ss y : List ℕ) → lines_of (spans_text ss ++ y) ≡ span_lines ss ++ lines_of y
spans_lines [] y = refl
spans_lines (s ∷ ss) y =
    ap lines_of (append_assoc (span_line s ++ (LF ∷ [])) (spans_text ss) y)
    ∙ broken (span_line s) (spans_text ss ++ y) (span_plain s)
    ∙ ap (λ (l : List (List ℕ)). span_line s ∷ l) (spans_lines ss y)

unfoldable listing_lines : Table → List ℕ → List (List ℕ)
listing_lines t ks = curve_line t.basis ∷ (span_lines (spans_of t.span) ++ knot_lines ks)

listing_lines_lem : (t : Table) (ks y : List ℕ) → lines_of (listing_text t ks ++ y) ≡ listing_lines t ks ++ lines_of y
unfolding listing_text listing_lines
listing_lines_lem t ks y =
    let c = curve_line t.basis in
    let ss = spans_of t.span in
    ap lines_of
    (append_assoc (c ++ (LF ∷ []) ++ spans_text ss) (knots_text ks) y ∙ append_assoc (c ++ (LF ∷ [])) (spans_text ss) (knots_text ks ++ y))
    ∙ broken c (spans_text ss ++ (knots_text ks ++ y)) (curve_plain t.basis)
    ∙ ap (λ (l : List (List ℕ)). c ∷ l)
    (spans_lines ss (knots_text ks ++ y)
    ∙ ap (λ (l : List (List ℕ)). span_lines ss ++ l) (knots_lines ks y)
    ∙ sym (append_assoc (span_lines ss) (knot_lines ks) (lines_of y)))

-- ---- what they hold
abbrev Holds : Listing → List (List ℕ) → Listing → Type 0
Holds h xs l = Heard h xs × (listed h xs ≡ l)

-- a line, and those after it
then_holds : (h k l : Listing) (r : CompareRecord) (x : List ℕ) (xs : List (List ℕ)) → says (line_of x) ≡ r → heard h r ≡ Ok tt → entered h r ≡ k
    → Holds k xs l → Holds h (x ∷ xs) l
unfolding listed
then_holds h k l r x xs e p q s =
    let f : entered h (says (line_of x)) ≡ k = ap (entered h) e ∙ q in
    ((ap (heard h) e ∙ p, subst (λ (m : Listing). Heard m xs) (sym f) s.0), ap (λ (m : Listing). listed m xs) f ∙ s.1)

knots_hold : (t : Table) (ks ms : List ℕ) → Small ms → length ks + length ms ≤ places → Holds (on t ks) (knot_lines ms) (on t (ks ++ ms))
unfolding knot_lines listed heard entered
knots_hold t ks [] p h = (tt, ap (on t) (sym (append-nil ks)))
knots_hold t ks (n ∷ ms) p h =
    let more : length (ks ++ (n ∷ [])) + length ms ≤ places = simp length-append (omega arith) in
    let r = knots_hold t (ks ++ (n ∷ [])) ms p.1 more in
    let f : ltb (length ks) places ≡ true = lt-ltb (length ks) places (omega arith) in
    then_holds (on t ks) (on t (ks ++ (n ∷ []))) (on t (ks ++ (n ∷ ms))) (Knot n) (knot_line n) (knot_lines ms) (says_knot n p.0) (rw f refl) (rw f refl)
    (r.0, r.1 ∙ ap (on t) (append_assoc ks (n ∷ []) ms))

-- no span in range is bad but 0
bad_nought : (s : ℕ) → s ≤ day → good_span s ≡ false → s ≡ 0
bad_nought s h e = go (leb 1 s) refl e
  where
    go : (p : Bool) → leb 1 s ≡ p → good_span s ≡ false → s ≡ 0
    go true f k = let z : true ≡ false = rw (f, le-leb s day h) at k in never (cc)
    go false f k = omega (arith, leb-false 1 s f)

span_holds : (b : Basis) (s : ℕ) (ms : List ℕ) → s ≤ day → Small ms → length ms ≤ places
    → Holds (on (bare b) []) (span_lines (spans_of s) ++ knot_lines ms) (on (record { basis = b; span = s }) ms)
unfolding heard entered
span_holds b s ms small p h = go (good_span s) refl
  where
    go : (g : Bool) → good_span s ≡ g
        → Holds (on (bare b) []) (span_lines (cond g (s ∷ []) []) ++ knot_lines ms) (on (record { basis = b; span = s }) ms)
    go true e =
        let u : Table = record { basis = b; span = s } in
        then_holds (on (bare b) []) (on u []) (on u ms) (Span s) (span_line s) (knot_lines ms) (says_span s small) (rw e refl) (rw e refl)
        (knots_hold u [] ms p (omega arith))
    go false e =
        let r = knots_hold (bare b) [] ms p (omega arith) in
        (r.0, r.1 ∙ ap (λ (n : ℕ). on (record { basis = b; span = n }) ms) (sym (bad_nought s small e)))

listing_holds : (t : Table) (ks : List ℕ) → t.span ≤ day → Small ks → length ks ≤ places → Holds none (listing_lines t ks) (on t ks)
unfolding listing_lines heard entered
listing_holds t ks small p h =
    then_holds none (on (bare t.basis) []) (on t ks) (Curve t.basis) (curve_line t.basis) (span_lines (spans_of t.span) ++ knot_lines ks)
    (says_curve t.basis) refl refl (span_holds t.basis t.span ks small p h)

-- two tables, written as listings with `other` between them, print their comparison, and nothing else
pub tables_compared : (t : Table) (ks : List ℕ) (u : Table) (ls : List ℕ) → t.span ≤ day → u.span ≤ day → Small ks → Small ls
    → length ks ≤ places → length ls ≤ places
    → output_of compare_program (before none) (listing_text t ks ++ bytes "other\n" ++ listing_text u ls) ≡ comparison_text t ks u ls
unfolding lines_of onto
tables_compared t ks u ls a b c d f g =
    let first = listing_holds t ks a c f in
    let second = listing_holds u ls b d g in
    let lines : lines_of (listing_text t ks ++ bytes "other\n" ++ listing_text u ls) ≡ listing_lines t ks ++ (bytes "other" ∷ listing_lines u ls) =
    ap lines_of (append_assoc (listing_text t ks) (bytes "other\n") (listing_text u ls))
    ∙ listing_lines_lem t ks (bytes "other\n" ++ listing_text u ls)
    ∙ ap (λ (l : List (List ℕ)). listing_lines t ks ++ (bytes "other" ∷ l))
    (ap lines_of (sym (append-nil (listing_text u ls))) ∙ listing_lines_lem u ls [] ∙ append-nil (listing_lines u ls)) in
    prints_comparison (listing_text t ks ++ bytes "other\n" ++ listing_text u ls) (listing_lines t ks) (listing_lines u ls) t ks u ls lines first.0
    second.0 first.1 second.1
