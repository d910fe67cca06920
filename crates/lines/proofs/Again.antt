-- What `turn` tells is a listing: read again, it is the table that was told, its span included. Assumes nothing.
use mathlib.Core.Path.{◌≡◌, refl, sym, ap, ◌∙◌}
use mathlib.Core.Bool.{Bool, true, false, cond}
use mathlib.Core.List.{List, [], ◌∷◌, ◌++◌, append_assoc, append-nil}
use Prim.Native.Nat.{ℕ, ◌+◌, ◌≤◌, ◌<◌, ◌^◌}
use native.Mathlib.Omega.{arith}
use borrow.Author.Tests.{le-leb, leb-false}
use lib.Dec.{T, leb}
use lib.ListN.{length, length-append}
use lib.Ieee.{Float, fits, to_bits, binary64}
use Rattle.lines_answer.specs.Answer.{places, Curve, on, bare, after_of}
use Rattle.lines_answer.proofs.Records.{ends_before, curve_silent, span_silent, knot_silent}
use Rattle.basis.specs.declared.Basis.{Basis}
use Rattle.error.proofs.First.{never}
use Rattle.basis.specs.declared.Basis.TheVariants.{Bspline, Bezier, CatmullRom, Hermite, Linear, Power}
use Rattle.text_decimals.proofs.ReadBack.{number_back, dec_length}
use Rattle.inverse_order.specs.declared.EndsBy.{EndsBy}
use Rattle.lines_record.specs.declared.Record.{Record}
use Rattle.lines_record.specs.declared.Record.TheVariants.{Curve as CurveOf, Span, Knot}
use Rattle.lines_record.specs.Record.{name_of, word_of, named_of, meaning_of, of_fields, record_of}
use Rattle.lines_reply.specs.Reply.{spans_text, knots_text, curve, text_of}
use Rattle.table_span.specs.declared.Table.{Table}
use Rattle.table_span.specs.Second.{day, good_span, spans_of}
use Rattle.text.specs.Text.{bytes, same, LF, TAB, onto, fields_of, dec_text, double_text}
use Rattle.text.proofs.ReadBack.{length_hex, hex_out_in}
use Rattle.lines_machine.specs.Program.{lines_of, widest}
use Rattle.lines_machine.proofs.Breaking.{Free, free_append, freeb, free_of, free_hex, free_dec, field_last, broken}
use Rattle.lines.specs.Lines.{says}
use Rattle.lines.proofs.Replies.{says_of, curve_after}

-- ---- a line of each kind
abbrev knot_line : Float → List ℕ
knot_line x = bytes "knot\t" ++ double_text x

says_knot : (x : Float) → T (fits binary64 x) → says_of (knot_line x) ≡ Knot x
unfolding says record_of fields_of onto of_fields word_of same meaning_of
says_knot x h =
    let n : length (double_text x) ≡ 16 = length_hex 16 (to_bits binary64 x) in
    let short : length (bytes "knot\t" ++ double_text x) ≤ widest = omega arith in
    let one : fields_of (double_text x) ≡ double_text x ∷ [] =
    field_last (double_text x) (free_hex TAB 16 (to_bits binary64 x) (omega arith)) in
    let back = hex_out_in x h in
    rw (le-leb (length (bytes "knot\t" ++ double_text x)) widest short, one, back.0, back.1) refl

abbrev span_line : ℕ → List ℕ
span_line s = bytes "span\t" ++ dec_text 9 s

says_span : (s : ℕ) → s ≤ day → says_of (span_line s) ≡ Span s
unfolding says record_of fields_of onto of_fields word_of same meaning_of
says_span s h =
    let small : s < 10 ^ 5 = omega arith in
    let few : length (dec_text 9 s) ≤ 5 = dec_length 9 4 s small in
    let short : length (bytes "span\t" ++ dec_text 9 s) ≤ widest = omega arith in
    let one : fields_of (dec_text 9 s) ≡ dec_text 9 s ∷ [] = field_last (dec_text 9 s) (free_dec TAB 9 s (omega arith)) in
    rw (le-leb (length (bytes "span\t" ++ dec_text 9 s)) widest short, one, number_back 9 4 s (omega arith) small) refl

says_curve : (b : Basis) → says_of (bytes "curve\t" ++ name_of b) ≡ CurveOf b
unfolding says record_of fields_of onto of_fields word_of same meaning_of named_of
says_curve Bspline = refl
says_curve Bezier = refl
says_curve CatmullRom = refl
says_curve Hermite = refl
says_curve Linear = refl
says_curve Power = refl

-- ---- the lines of a told curve
curve_plain : (b : Basis) → Free LF (bytes "curve\t" ++ name_of b)
unfolding freeb
curve_plain Bspline = free_of LF (bytes "curve\t" ++ name_of Bspline) tt
curve_plain Bezier = free_of LF (bytes "curve\t" ++ name_of Bezier) tt
curve_plain CatmullRom = free_of LF (bytes "curve\t" ++ name_of CatmullRom) tt
curve_plain Hermite = free_of LF (bytes "curve\t" ++ name_of Hermite) tt
curve_plain Linear = free_of LF (bytes "curve\t" ++ name_of Linear) tt
curve_plain Power = free_of LF (bytes "curve\t" ++ name_of Power) tt

knot_plain : (x : Float) → Free LF (knot_line x)
unfolding freeb
knot_plain x = free_append LF (bytes "knot\t") (double_text x) (free_of LF (bytes "knot\t") tt) (free_hex LF 16 (to_bits binary64 x) (omega arith))

span_plain : (s : ℕ) → Free LF (span_line s)
unfolding freeb
span_plain s = free_append LF (bytes "span\t") (dec_text 9 s) (free_of LF (bytes "span\t") tt) (free_dec LF 9 s (omega arith))

-- doubles that the format holds, as each that the program computes
abbrev pub Fit : List Float → Type 0
Fit [] = Unit
Fit (x ∷ l) = T (fits binary64 x) × Fit l

knots_again : (t : Table) (m : EndsBy) (l ks : List Float) → Fit l → length ks + length l ≤ places
    → curve_after (on t m ks) (lines_of (knots_text l)) ≡ on t m (ks ++ l)
unfolding knots_text lines_of curve_after
knots_again t m [] ks p h = ap (on t m) (sym (append-nil ks))
knots_again t m (x ∷ l) ks p h =
    let k = knot_silent t m ks x (omega arith) in
    let more : length (ks ++ (x ∷ [])) + length l ≤ places = simp length-append (omega arith) in
    ap (curve_after (on t m ks)) (broken (knot_line x) (knots_text l) (knot_plain x))
    ∙ ap (λ (r : Record). curve_after (after_of (on t m ks) r) (lines_of (knots_text l))) (says_knot x p.0)
    ∙ ap (λ (c : Curve). curve_after c (lines_of (knots_text l))) k.1
    ∙ knots_again t m l (ks ++ (x ∷ [])) p.1 more
    ∙ ap (on t m) (append_assoc ks (x ∷ []) l)

-- no span in range is bad but 0
bad_nought : (s : ℕ) → s ≤ day → good_span s ≡ false → s ≡ 0
bad_nought s h e = go (leb 1 s) refl e
  where
    go : (p : Bool) → leb 1 s ≡ p → good_span s ≡ false → s ≡ 0
    go true f k = let z : true ≡ false = rw (f, le-leb s day h) at k in never (cc)
    go false f k = omega (arith, leb-false 1 s f)

-- a told span, and the knots after it
span_again : (b : Basis) (m : EndsBy) (s : ℕ) (l : List Float) → s ≤ day → Fit l → length l ≤ places
    → curve_after (on (bare b) m []) (lines_of (spans_text (spans_of s) ++ knots_text l)) ≡ on (record { basis = b; span = s }) m l
unfolding curve_after
span_again b m s l small p h = go (good_span s) refl
  where
    go : (g : Bool) → good_span s ≡ g
        → curve_after (on (bare b) m []) (lines_of (spans_text (cond g (s ∷ []) []) ++ knots_text l)) ≡ on (record { basis = b; span = s }) m l
    go true e =
        ap (λ (t : List ℕ). curve_after (on (bare b) m []) (lines_of (t ++ knots_text l))) (append-nil (span_line s ++ (LF ∷ [])))
        ∙ ap (curve_after (on (bare b) m [])) (broken (span_line s) (knots_text l) (span_plain s))
        ∙ ap (λ (r : Record). curve_after (after_of (on (bare b) m []) r) (lines_of (knots_text l))) (says_span s small)
        ∙ ap (λ (c : Curve). curve_after c (lines_of (knots_text l))) (span_silent (bare b) m [] s e).1
        ∙ knots_again (record { basis = b; span = s }) m l [] p (omega arith)
    go false e = knots_again (bare b) m l [] p (omega arith) ∙ ap (λ (n : ℕ). on (record { basis = b; span = n }) m l) (sym (bad_nought s small e))

-- a told table, read after whatever came before, is that table, its span included; the ends stay
pub turn_again : (c : Curve) (b : Basis) (s : ℕ) (l : List Float) → s ≤ day → Fit l → length l ≤ places
    → curve_after c (lines_of (text_of (curve b (spans_of s) l))) ≡ on (record { basis = b; span = s }) (ends_before c) l
unfolding text_of curve_after
turn_again c b s l small p h =
    let line = bytes "curve\t" ++ name_of b in
    let rest = spans_text (spans_of s) ++ knots_text l in
    ap (λ (t : List ℕ). curve_after c (lines_of t)) (append_assoc (line ++ (LF ∷ [])) (spans_text (spans_of s)) (knots_text l))
    ∙ ap (curve_after c) (broken line rest (curve_plain b))
    ∙ ap (λ (r : Record). curve_after (after_of c r) (lines_of rest)) (says_curve b)
    ∙ ap (λ (d : Curve). curve_after d (lines_of rest)) (curve_silent c b).1
    ∙ span_again b (ends_before c) s l small p h
