-- What the line program and the checker of claims print is what the calls answer: `at`, `find` and `turn` by the library's own calls, `find` with a span by
-- the call on the table, a claim by the check; and so the second that is printed is the largest, and a knot that is printed is the first. A record asks
-- the definition that is the call's contract, so each is one equation. Assumes nothing.
use Rattle.inverse_segment.specs.declared.Miss.{Miss}
use Rattle.inverse_segment.specs.Inversion.{Inversion}
use Rattle.inverse_segment.specs.declared.Miss.TheVariants.{Refused, OffCurve}
use Rattle.std.specs.Prelude.{Ok, Err, Result, ℕ}
use mathlib.Core.Path.{◌≡◌, refl, sym, ap, ◌∙◌}
use mathlib.Core.Bool.{Bool, true, false, cond}
use mathlib.Core.List.{List, [], ◌∷◌, ◌++◌, append-nil}
use Prim.Native.Nat.{ℕ}
use lib.Dec.{ltb}
use lib.ListN.{length}
use lib.Ieee.{Float}
use Rattle.error.specs.declared.Refusal.{Refusal}
use Rattle.error.specs.declared.Refusal.TheVariants.{TooMany, BadSpan, BadKnot, TurnsBack, OffCurve}
use Rattle.error.specs.Refusals.{rows}
use Rattle.error.proofs.First.{never, first_applies}
use Rattle.basis.specs.declared.Basis.{Basis}
use Rattle.spline.specs.Evaluation.{spline_uses, spline_of, Evaluation}
use Rattle.spline.proofs.spline.Reads as spline
use Rattle.inverse_segment.specs.declared.Place.{Place}
use Rattle.inverse_segment.specs.Answer.{default_limit, default_precision}
use Rattle.inverse_segment.specs.declared.Method.TheVariants.{AsCrate}
use Rattle.inverse_order.specs.declared.EndsBy.{EndsBy}
use Rattle.inverse.specs.Inverse.{inverse_uses}
use Rattle.inverse.proofs.Refusing.{inverse_refused_only}
use Rattle.inverse.proofs.spline_inverse_by.Reads as spline_inverse_by
use Rattle.convert.specs.Conversion.{Conversion, gives, refuses, convert_uses, converted_of}
use Rattle.convert.specs.Buffer.{answer_of}
use Rattle.claim.specs.Claim.{claim_of}
use Rattle.claim.proofs.check_claim.Reads as check_claim
use Rattle.table_span.specs.declared.Table.{Table}
use Rattle.table_span.specs.Second.{good_span, elapsed, second_of}
use Rattle.table_span.proofs.Largest.{Largest}
use Rattle.table.specs.Calls.{timed_of, table_inverse_by}
use Rattle.table.proofs.Spans.{inverse_base}
use Rattle.table.proofs.table_spline_inverse_by.Reads as table_spline_inverse_by
use Rattle.text.specs.Text.{bytes, LF, dec_text}
use Rattle.lines_record.specs.declared.Record.{Record}
use Rattle.lines_record.specs.declared.Record.TheVariants.{Curve as CurveOf, Span, Knot, Ends, At, Find, Turn, Bad}
use Rattle.lines_reply.specs.Reply.{silence, refused, refused_text, place_text, text_of}
use Rattle.lines_answer.specs.Answer.{places, on, value_reply, found_of, place_reply, curve_reply, reply_to}
use Rattle.lines_machine.specs.Program.{Line}
use Rattle.lines.specs.Lines.{says, line_program}
use Rattle.claims.specs.declared.ClaimRecord.TheVariants.{Claim}
use Rattle.claims.specs.Claims.{says as says_claim, claim_text, check_text, tells_of, claims_program}
use Rattle.calls.specs.Calls.{Keeps}
use Rattle.promises.proofs.Knots.{FirstBad, knot_first}
use Rattle.promises.proofs.KnotsBeyond.{FirstTurn, turn_first, check_claim_first_bad}
use Rattle.promises.proofs.Refusing.{value_refused, conversion_refused}
use Rattle.promises.proofs.Seconds.{second_is_largest}

-- ---- the text of an answer of the call on a table
abbrev pub timed_text : Result (Place × ℕ) Miss → List ℕ
timed_text (Ok (p, s)) = place_text p.parameter p.ground p.count (s ∷ [])
timed_text (Err (OffCurve n)) = refused_text OffCurve
timed_text (Err (Refused r)) = refused_text r

timed_told : (s : ℕ) (i : Inversion) → good_span s ≡ true → text_of (place_reply s i) ≡ timed_text (timed_of s i)
unfolding text_of
timed_told s (Ok p) g = rw g refl
timed_told s (Err (OffCurve n)) g = refl
timed_told s (Err (Refused r)) g = refl

-- what a line that says `find` prints, upon a table with a good span, is what the call on that table answers with the defaults and the order check
pub find_with_span : Keeps table_spline_inverse_by.Learnt
    (λ κs a z e. (o : Line) → says o ≡ Find a.1.1.0 → good_span a.1.0.span ≡ true → a.0.method ≡ AsCrate → a.0.check ≡ true
    → a.0.limit ≡ default_limit → a.0.precision ≡ default_precision
    → line_program.tells (on a.1.0 a.0.ends a.1.1.1.0.now) o ≡ timed_text z)
unfolding reply_to
find_with_span κs a z e p o f g q0 q1 q2 q3 =
    let t = a.1.0 in
    let ks = a.1.1.1.0.now in
    let i = found_of a.0.ends t.basis a.1.1.0 ks in
    let call : z ≡ table_inverse_by a.0.ends AsCrate t a.1.1.0 ks true default_limit default_precision = p ∙ rw (q0, q1, q2, q3) refl in
    ap (λ (r : Record). text_of (reply_to (on t a.0.ends ks) r)) f
    ∙ timed_told t.span i g
    ∙ ap timed_text (sym (call ∙ inverse_base a.0.ends AsCrate t a.1.1.0 ks true default_limit default_precision g))

-- so the second that is printed is the largest whole number not above parameter × span, and at most the span
pub second_printed : (t : Table) (m : EndsBy) (ks : List Float) (y : Float) (o : Line) → says o ≡ Find y → good_span t.span ≡ true
    → (p : Place) → found_of m t.basis y ks ≡ Ok p
    → (s : ℕ) × (line_program.tells (on t m ks) o ≡ place_text p.parameter p.ground p.count (s ∷ []))
    × Largest t.span (elapsed t.span p.parameter) s
unfolding reply_to
second_printed t m ks y o f g p h =
    let s = second_of t.span p.parameter in
    let found : table_inverse_by m AsCrate t y ks true default_limit default_precision ≡ Ok (p, s) =
    inverse_base m AsCrate t y ks true default_limit default_precision g ∙ ap (timed_of t.span) h in
    let told = ap (λ (r : Record). text_of (reply_to (on t m ks) r)) f ∙ timed_told t.span (found_of m t.basis y ks) g ∙ ap
    (λ (i : Inversion). timed_text (timed_of t.span i)) h in
    (s, told, second_is_largest m AsCrate t y ks true default_limit default_precision p s found)

-- ---- `at` and `find` print what the library's calls answer
pub at_prints : Keeps spline.Learnt
    (λ κs a z e. (t : Table) (m : EndsBy) (o : Line) → t.basis ≡ a.0 → says o ≡ At a.1.0
    → line_program.tells (on t m a.1.1.0.now) o ≡ text_of (value_reply z))
unfolding reply_to
at_prints κs a z e p t m o q f =
    ap (λ (r : Record). text_of (reply_to (on t m a.1.1.0.now) r)) f
    ∙ ap (λ (b : Basis). text_of (value_reply (spline_of b a.1.0 a.1.1.0.now))) q
    ∙ ap (λ (v : Evaluation). text_of (value_reply v)) (sym p)

pub find_prints : Keeps spline_inverse_by.Learnt
    (λ κs a z e. (t : Table) (o : Line) → t.basis ≡ a.1.0 → says o ≡ Find a.1.1.0 → a.0.method ≡ AsCrate → a.0.check ≡ true
    → a.0.limit ≡ default_limit → a.0.precision ≡ default_precision
    → line_program.tells (on t a.0.ends a.1.1.1.0.now) o ≡ text_of (place_reply t.span z))
unfolding reply_to
find_prints κs a z e p t o q f q0 q1 q2 q3 =
    let ks = a.1.1.1.0.now in
    let call : z ≡ found_of a.0.ends a.1.0 a.1.1.0 ks = p ∙ rw (q0, q1, q2, q3) refl in
    ap (λ (r : Record). text_of (reply_to (on t a.0.ends ks) r)) f
    ∙ ap (λ (b : Basis). text_of (place_reply t.span (found_of a.0.ends b a.1.1.0 ks))) q
    ∙ ap (λ (i : Inversion). text_of (place_reply t.span i)) (sym call)

-- a claim prints what the check answers
pub claim_prints : Keeps check_claim.Learnt
    (λ κs a z e. (t : Table) (m : EndsBy) (o : Line) → t.basis ≡ a.0 → says_claim o ≡ Claim a.1.0 a.1.1.0 a.1.1.1.0 a.1.1.1.1.0
    → claims_program.tells (on t m a.1.1.1.1.1.0.now) o ≡ claim_text z)
unfolding tells_of check_text
claim_prints κs a z e p t m o q f =
    let ks = a.1.1.1.1.1.0.now in
    ap (tells_of (on t m ks)) f
    ∙ ap (λ (b : Basis). claim_text (claim_of b a.1.0 a.1.1.0 a.1.1.1.0 a.1.1.1.1.0 ks)) q
    ∙ ap claim_text (sym p)

-- ---- the knot that a line's refusal tells
value_refused_by : (v : Evaluation) (r : Refusal) → value_reply v ≡ refused r → v ≡ Err r
value_refused_by (Ok x) r h = never (cc)
value_refused_by (Err q) r h = let s : q ≡ r = cc in ap Err s

place_refused_by : (s : ℕ) (i : Inversion) (r : Refusal) → (OffCurve ≡ r → ⊥) → place_reply s i ≡ refused r → i ≡ Err (Refused r)
place_refused_by s (Ok p) r n h = never (cc)
place_refused_by s (Err (OffCurve c)) r n h = absurd (n (let q : OffCurve ≡ r = cc in q))
place_refused_by s (Err (Refused q)) r n h = let e : q ≡ r = cc in ap (λ a. Err (Refused a)) e

curve_refused_by : (s : ℕ) (c : Basis) (x : Conversion) (r : Refusal) → curve_reply s c x ≡ refused r → answer_of x ≡ Err r
curve_refused_by s c (gives l) r h = never (cc)
curve_refused_by s c (refuses q) r h = let e : q ≡ r = cc in ap Err e

no_span : (g : Bool) (r : Refusal) → (BadSpan ≡ r → ⊥) → cond g silence (refused BadSpan) ≡ refused r → ⊥
no_span true r n h = never (cc)
no_span false r n h = n (let q : BadSpan ≡ r = cc in q)

no_knot : (g : Bool) (r : Refusal) → (TooMany ≡ r → ⊥) → cond g silence (refused TooMany) ≡ refused r → ⊥
no_knot true r n h = never (cc)
no_knot false r n h = n (let q : TooMany ≡ r = cc in q)

module _ (t : Table) (m : EndsBy) (ks : List Float) (i : ℕ) where
  -- 4 tells the first knot out of range, whatever the record
  pub reply_first_bad : (r : Record) → reply_to (on t m ks) r ≡ refused (BadKnot i) → FirstBad ks i
  unfolding reply_to
  reply_first_bad (CurveOf c) h = never (cc)
  reply_first_bad (Span s) h = absurd (no_span (good_span s) (BadKnot i) (λ q. never (cc)) h)
  reply_first_bad (Knot x) h = absurd (no_knot (ltb (length ks) places) (BadKnot i) (λ q. never (cc)) h)
  reply_first_bad (Ends k) h = never (cc)
  reply_first_bad (At x) h =
      knot_first (spline_uses t.basis x ks) ks i refl refl
      ((value_refused t.basis x ks (BadKnot i)).0 (value_refused_by (spline_of t.basis x ks) (BadKnot i) h))
  reply_first_bad (Find y) h =
      knot_first (inverse_uses t.basis y ks true default_limit default_precision) ks i refl refl
      (inverse_refused_only m AsCrate t.basis y ks true default_limit default_precision (BadKnot i)
      (place_refused_by t.span (found_of m t.basis y ks) (BadKnot i) (λ q. never (cc)) h))
  reply_first_bad (Turn c) h =
      knot_first (convert_uses t.basis c ks places) ks i refl refl
      ((conversion_refused t.basis c ks places (BadKnot i)).0 (curve_refused_by t.span c (converted_of t.basis c ks places) (BadKnot i) h))
  reply_first_bad Bad h = never (cc)

  -- 10 the first step against the direction; `find` alone gives it
  pub reply_first_turn : (r : Record) → reply_to (on t m ks) r ≡ refused (TurnsBack i) → FirstTurn true ks i
  unfolding reply_to
  reply_first_turn (CurveOf c) h = never (cc)
  reply_first_turn (Span s) h = absurd (no_span (good_span s) (TurnsBack i) (λ q. never (cc)) h)
  reply_first_turn (Knot x) h = absurd (no_knot (ltb (length ks) places) (TurnsBack i) (λ q. never (cc)) h)
  reply_first_turn (Ends k) h = never (cc)
  reply_first_turn (At x) h =
      let f = first_applies (spline_uses t.basis x ks) rows (TurnsBack i)
      ((value_refused t.basis x ks (TurnsBack i)).0 (value_refused_by (spline_of t.basis x ks) (TurnsBack i) h)) in
      let n : false ≡ true = f.0 in never (cc)
  reply_first_turn (Find y) h =
      turn_first (inverse_uses t.basis y ks true default_limit default_precision) true ks i refl refl
      (inverse_refused_only m AsCrate t.basis y ks true default_limit default_precision (TurnsBack i)
      (place_refused_by t.span (found_of m t.basis y ks) (TurnsBack i) (λ q. never (cc)) h))
  reply_first_turn (Turn c) h =
      let f =
      first_applies (convert_uses t.basis c ks places) rows (TurnsBack i)
      ((conversion_refused t.basis c ks places (TurnsBack i)).0 (curve_refused_by t.span c (converted_of t.basis c ks places) (TurnsBack i) h)) in
      let n : false ≡ true = f.0 in never (cc)
  reply_first_turn Bad h = never (cc)

-- ---- the line that tells it: `refused`, the number, the knot's number
four : dec_text 2 4 ≡ bytes "4"
unfolding dec_text
four = refl

ten : dec_text 2 10 ≡ bytes "10"
unfolding dec_text
ten = refl

pub four_text : (i : ℕ) → refused_text (BadKnot i) ≡ bytes "refused\t4\t" ++ dec_text 4 i ++ (LF ∷ [])
four_text i = rw (four, append-nil (dec_text 4 i)) refl

pub ten_text : (i : ℕ) → refused_text (TurnsBack i) ≡ bytes "refused\t10\t" ++ dec_text 4 i ++ (LF ∷ [])
ten_text i = rw (ten, append-nil (dec_text 4 i)) refl

module _ (t : Table) (m : EndsBy) (ks : List Float) (o : Line) (i : ℕ) where
  pub line_first_bad : reply_to (on t m ks) (says o) ≡ refused (BadKnot i)
      → FirstBad ks i × (line_program.tells (on t m ks) o ≡ bytes "refused\t4\t" ++ dec_text 4 i ++ (LF ∷ []))
  unfolding text_of
  line_first_bad h = (reply_first_bad t m ks i (says o) h, ap text_of h ∙ four_text i)

  pub line_first_turn : reply_to (on t m ks) (says o) ≡ refused (TurnsBack i)
      → FirstTurn true ks i × (line_program.tells (on t m ks) o ≡ bytes "refused\t10\t" ++ dec_text 4 i ++ (LF ∷ []))
  unfolding text_of
  line_first_turn h = (reply_first_turn t m ks i (says o) h, ap text_of h ∙ ten_text i)

-- of a claim that the checker reads: its knots are the table's
pub claim_line_first_bad : Keeps check_claim.Learnt
    (λ κs a z e. (t : Table) (m : EndsBy) (o : Line) (i : ℕ) → t.basis ≡ a.0
    → says_claim o ≡ Claim a.1.0 a.1.1.0 a.1.1.1.0 a.1.1.1.1.0 → z ≡ Err (BadKnot i)
    → FirstBad a.1.1.1.1.1.0.now i
    × (claims_program.tells (on t m a.1.1.1.1.1.0.now) o ≡ bytes "refused\t4\t" ++ dec_text 4 i ++ (LF ∷ [])))
claim_line_first_bad κs a z e p t m o i q f h =
    (check_claim_first_bad κs a z e p i h, claim_prints κs a z e p t m o q f ∙ ap claim_text h ∙ four_text i)
