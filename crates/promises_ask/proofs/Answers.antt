-- What each question about a fine sheet prints. Its knots are in range and their number suits, so that no question is refused by them: `at` within the span
-- tells the curve's value, and `find` what the depth says of a stopped job. Assumes nothing.
use Rattle.inverse_segment.specs.declared.Miss.TheVariants.{Refused}
use Rattle.std.specs.Prelude.{Ok, Some, None, Option, ℕ, Bool, Err}
use mathlib.Core.Path.{◌≡◌, refl, sym, ap, ◌∙◌, subst}
use mathlib.Core.Bool.{Bool, true, false, cond, ◌&&◌}
use mathlib.Core.List.{List, [], ◌∷◌, ◌++◌, map, append_assoc, append-nil}
use Prim.Native.Nat.{ℕ, zero, suc, ◌+◌, ◌*◌, ◌^◌, ◌≤◌, ◌<◌}
use native.Mathlib.Nat.{le_trans, mul-le-mul_right, mul-pos, mul-one}
use native.Mathlib.Omega.{arith}
use borrow.Author.Tests.{leb-true, le-leb, lt-leb, le-ltb, eqb-true, not-false}
use lib.Dec.{leb, ltb, eqb, lit≤, lit<}
use lib.IntN.{ℤ, pos, negsuc, nat_abs}
use lib.Ieee.{Float, nan, inf, fin, up, down, binary64, round, div, neg, le, lt, eq, is_nan, of_int, of_bits, unlike, Format, prec, low, emax, odd, units}
use lib.Ieee.Exact.{HasValue}
use lib.Ieee.Back.{round_whole}
use lib.Ieee.Bits.{is_false, is_true}
use lib.Ieee.Fits.{and_i, down_pos}
use lib.ListN.{length, take, drop, length-map}
use Rattle.doubles.specs.Numbers.{nought}
use Rattle.doubles.specs.Whole.{double}
use Rattle.doubles.proofs.Order.{Le, of_Le, ne_itself}
use Rattle.doubles.proofs.Bounds.{Size, round_size, within_number}
use Rattle.error.specs.declared.Refusal.{Refusal}
use Rattle.error.specs.declared.Refusal.TheVariants.{BadSpan, BadLine}
use Rattle.error.specs.Refusals.{first, rows, Verdict}
use Rattle.error.proofs.First.{never, clear, first_complete}
use Rattle.basis.specs.declared.Basis.{Basis}
use Rattle.basis.specs.Basis.{regular}
use Rattle.checks.specs.Checks.{curve_length, bound, in_range, all_in_range, precise}
use Rattle.spline.specs.Curve.{curve_value}
use Rattle.spline.specs.Evaluation.{evaluated, spline_of}
use Rattle.spline.proofs.Verdicts.{curve_passes}
use Rattle.sheet.specs.Sheet.{depth_in}
use Rattle.sheet_depth.specs.Depth.{depth_of}
use Rattle.text.specs.Text.{bytes, same, tab_of}
use Rattle.text_decimals.specs.Decimals.{number_in}
use Rattle.whole.specs.Held.{Small}
use Rattle.turns_back.specs.Call.{turning_uses}
use Rattle.turns_back.proofs.Verdicts.{passed}
use Rattle.inverse_segment.specs.Answer.{default_precision}
use Rattle.stopped.specs.Stopped.{stopped_uses, stopped_of}
use Rattle.stopped.proofs.Which.{Passes, said_only}
use Rattle.table_span.specs.declared.Table.{Table}
use Rattle.table_span.specs.Second.{day, good_span, bad_span}
use Rattle.lines_reply.specs.Reply.{refused_text, curve, text_of}
use Rattle.lines_machine.specs.Program.{Line, so, over}
use Rattle.ask_sheet.specs.declared.Kind.{Kind}
use Rattle.ask_verdict.specs.Curve.{basis_of, double_of}
use Rattle.ask_answers.specs.declared.Question.{Question}
use Rattle.ask_answers.specs.declared.Question.TheVariants as Q
use Rattle.ask_answers.specs.Question.{by_number, numbered, sought, by_word, question_of}
use Rattle.ask_answers.specs.Answers.{
  curve_seconds,
  parameter_at,
  value_text,
  moment_by,
  moment_text,
  multiples_text,
  multiples_below,
  job_text,
  table_by,
  text_by,
  span_by,
  answer_text,
  span_after,
}
use Rattle.ask_answers.proofs.Told.{told_below}

-- ---- a whole knot as a double is in range
in_range_lem : (x : Float) → Size 40 x → in_range x ≡ true
unfolding in_range le lt eq neg
in_range_lem nan h = absurd h
in_range_lem (inf s) h = absurd h
in_range_lem (fin s m e) h =
    is_true (in_range (fin s m e))
    (and_i (le (neg bound) (fin s m e)) (le (fin s m e) bound) (of_Le true (1 * 2 ^ 40 * down e) s (m * up e * 1) (least s))
    (of_Le s (m * up e * 1) false (1 * 2 ^ 40 * down e) (greatest s)))
  where
    least : (s : Bool) → Le true (1 * 2 ^ 40 * down e) s (m * up e * 1)
    least false = tt
    least true = omega (arith, h)

    greatest : (s : Bool) → Le s (m * up e * 1) false (1 * 2 ^ 40 * down e)
    greatest false = omega (arith, h)
    greatest true = tt

depth_in_lem : (minus : Bool) (n : ℕ) → n ≤ 1000000000000 → in_range (depth_of minus n) ≡ true
unfolding depth_of in_range le lt eq neg
depth_in_lem minus n h = go (eqb n 0)
  where
    go : (t : Bool) → in_range (cond t nought (round binary64 minus n 1000)) ≡ true
    go true = refl
    go false = in_range_lem (round binary64 minus n 1000) (round_size binary64 minus n 1000 40 (lit< tt) (lit≤ tt) (omega arith))

double_in : (z : ℤ) → nat_abs z ≤ 1000000000000 → in_range (double_of z) ≡ true
double_in (pos n) h = depth_in_lem false n h
double_in (negsuc n) h = depth_in_lem true (suc n) h

pub doubles_in : (w : List ℤ) → Small 1000000000000 w → all_in_range (map double_of w) ≡ true
unfolding all_in_range
doubles_in [] s = refl
doubles_in (z ∷ w) s =
    rw (double_in z (s.each 0 (omega arith))) (doubles_in w (record { each = λ i h. s.each (suc i) (omega arith) }))

-- ---- second / span: a number
share_size : (x y : Float) (n s : ℕ) → n ≤ s → 0 < s → HasValue x false n 1 → HasValue y false s 1 → Size 0 (div binary64 x y)
unfolding div
share_size nan y n s h p v w = absurd v
share_size (inf t) y n s h p v w = absurd v
share_size (fin t m e) nan n s h p v w = absurd w
share_size (fin t m e) (inf u) n s h p v w = absurd w
share_size (fin t m e) (fin u k d) n s h p v w = go (eqb k 0) refl
  where
    go : (z : Bool) → eqb k 0 ≡ z
        → Size 0 (cond z (cond (eqb m 0) nan (inf (unlike t u))) (round binary64 (unlike t u) (m * up e * down d) (k * up d * down e)))
    go true q = absurd (omega (arith, eqb-true k 0 q, w.1, mul-pos p (down_pos d), ap (λ (i : ℕ). i * up d) (eqb-true k 0 q)))
    go false q =
        let a : m * up e * down d ≡ n * down e * down d = ap (λ (i : ℕ). i * down d) (sym (mul-one (m * up e)) ∙ v.1) in
        let b : k * up d * down e ≡ s * down d * down e = ap (λ (i : ℕ). i * down e) (sym (mul-one (k * up d)) ∙ w.1) in
        let c : n * (down e * down d) ≤ s * (down e * down d) = mul-le-mul_right (down e * down d) h in
        let f : 0 < s * down d * down e = mul-pos (mul-pos p (down_pos d)) (down_pos e) in
        round_size binary64 (unlike t u) (m * up e * down d) (k * up d * down e) 0 (omega (arith, b, f)) (lit≤ tt) (omega (arith, a, b, c))

whole_value : (n : ℕ) → n ≤ day → HasValue (double n) false n 1
unfolding of_int
whole_value n h = round_whole binary64 false n (le_trans h (lit≤ tt))

share_number : (span n : ℕ) → 0 < span → span ≤ day → n ≤ span → is_nan (parameter_at span n) ≡ false
share_number span n p h l =
    is_false (is_nan (parameter_at span n)) (within_number {a = 0}
    (record { held = share_size (double n) (double span) n span l p (whole_value n (le_trans l h)) (whole_value span h) }))

-- ---- a depth that is asked for is a number
odd_number : (d : ℕ) (s : Bool) (q k l : ℕ) → is_nan (odd d s q k l) ≡ false
unfolding odd is_nan
odd_number d s zero k l = refl
odd_number d s (suc q) k l = refl

units_number : (f : Format) (s : Bool) (q k : ℕ) → is_nan (units f s q k) ≡ false
unfolding units is_nan
units_number f s q k = go (ltb (q * 2 ^ k) (2 ^ (low f + suc (emax f))))
  where
    go : (t : Bool) → is_nan (cond t (odd (suc (prec f)) s q k (low f)) (inf s)) ≡ false
    go true = odd_number (suc (prec f)) s q k (low f)
    go false = refl

round_number : (f : Format) (s : Bool) (a c : ℕ) → is_nan (round f s a c) ≡ false
unfolding round
round_number f s a c = units_number f s _ _

depth_number : (minus : Bool) (n : ℕ) → is_nan (depth_of minus n) ≡ false
unfolding depth_of is_nan
depth_number minus n = go (eqb n 0)
  where
    go : (t : Bool) → is_nan (cond t nought (round binary64 minus n 1000)) ≡ false
    go true = refl
    go false = round_number binary64 minus n 1000

abbrev Sane : Question → Type 0
Sane Q.Table = Unit
Sane (Q.Row n) = Unit
Sane (Q.Find y) = is_nan y ≡ false
Sane (Q.At n) = Unit
Sane (Q.Every n) = Unit
Sane Q.Nothing = Unit

sane_sought : (d : Option (Bool × ℕ)) → Sane (sought d)
sane_sought (Some (minus, n)) = depth_number minus n
sane_sought None = tt

sane_number : (w : List ℕ) (n : ℕ) → Sane (by_number w n)
unfolding by_number
sane_number w n = go (same w (bytes "row")) (same w (bytes "at")) (same w (bytes "every"))
  where
    go : (a b c : Bool) → Sane (cond a (Q.Row n) (cond b (Q.At n) (cond c (Q.Every n) Q.Nothing)))
    go true b c = tt
    go false true c = tt
    go false false true = tt
    go false false false = tt

sane_numbered : (w : List ℕ) (h : Option ℕ) → Sane (numbered w h)
sane_numbered w (Some n) = sane_number w n
sane_numbered w None = tt

sane_word : (w s : List ℕ) → Sane (by_word w s)
unfolding by_word
sane_word w s = go (same w (bytes "find"))
  where
    go : (t : Bool) → Sane (cond t (sought (depth_in s)) (numbered w (number_in 5 s)))
    go true = sane_sought (depth_in s)
    go false = sane_numbered w (number_in 5 s)

sane : (o : Line) → Sane (question_of o)
unfolding question_of
sane (so l) = go (same l (bytes "table")) (ltb (tab_of l) (length l))
  where
    go : (t u : Bool) → Sane (cond t Q.Table (cond u (by_word (take (tab_of l) l) (drop (suc (tab_of l)) l)) Q.Nothing))
    go true u = tt
    go false true = sane_word (take (tab_of l) l) (drop (suc (tab_of l)) l)
    go false false = tt
sane over = tt

found_number : (o : Line) (y : Float) → question_of o ≡ Q.Find y → is_nan y ≡ false
found_number o y e = subst Sane e (sane o)

-- ---- what a fine sheet's knots are to the calls over doubles
pub record Taken (b : Basis) (ks : List Float) : Type 0 where
  pub many : 4 ≤ length ks
  pub whole : regular b (length ks) ≡ true
  pub few : length ks ≤ 4096
  pub range : all_in_range ks ≡ true

pub taken_by : (b : Basis) (w : List ℤ) → first (turning_uses b w) ≡ Ok tt → Taken b (map double_of w)
taken_by b w e =
    let p = passed b w e in
    let l : length (map double_of w) ≡ length w = length-map w double_of in
    record {
      many = omega (arith, l, p.many);
      whole = ap (regular b) l ∙ not-false (regular b (length w)) (clear (turning_uses b w) e 2);
      few = omega (arith, l, p.few);
      range = doubles_in w p.small;
    }

sharp : precise default_precision ≡ true
unfolding precise of_bits lt
sharp = refl

module _ (b : Basis) (ks : List Float) (k : Taken b ks) where
  lengths : first (curve_length b (length ks)) ≡ Ok tt
  lengths = simp (le-ltb (length ks) 4 k.many, k.whole, le-ltb 4096 (length ks) k.few)

  -- a curve has a value at every parameter that is a number
  value_is : (x : Float) → is_nan x ≡ false → spline_of b x ks ≡ Ok (curve_value b x ks)
  unfolding spline_of
  value_is x h =
      ap (λ (v : Verdict). evaluated v (curve_value b x ks)) (sym (curve_passes b x ks {l = Ok tt} (sym lengths) refl (ne_itself x ∙ h) k.range))

  moment_is : (span n : ℕ) → 0 < span → span ≤ day → n ≤ span → moment_text b ks span n ≡ value_text n (curve_value b (parameter_at span n) ks)
  unfolding moment_text
  moment_is span n p h l = ap (moment_by n) (value_is (parameter_at span n) (share_number span n p h l))

  -- no row applies to a depth that is a number, on a table with a good span
  no_row : (t : Table) (y : Float) → t.basis ≡ b → good_span t.span ≡ true → is_nan y ≡ false → Passes t y ks false
  no_row t y e g h =
      rw e (simp (g, le-ltb (length ks) 4 k.many, k.whole, le-ltb 4096 (length ks) k.few, h, sharp, k.range))

-- ---- the seconds that `every` tells: the first i multiples of n, each once and in order
unfoldable pub multiples : ℕ → ℕ → List ℕ
multiples n zero = []
multiples n (suc i) = multiples n i ++ (i * n ∷ [])

-- a line `at` for each of some seconds
unfoldable pub values_text : Basis → List Float → ℕ → List ℕ → List ℕ
values_text b ks span [] = []
values_text b ks span (n ∷ ns) = value_text n (curve_value b (parameter_at span n) ks) ++ values_text b ks span ns

values_more : (b : Basis) (ks : List Float) (span : ℕ) (ns : List ℕ) (n : ℕ)
    → values_text b ks span ns ++ value_text n (curve_value b (parameter_at span n) ks) ≡ values_text b ks span (ns ++ (n ∷ []))
unfolding values_text
values_more b ks span [] n = sym (append-nil (value_text n (curve_value b (parameter_at span n) ks)))
values_more b ks span (m ∷ ns) n =
    append_assoc (value_text m (curve_value b (parameter_at span m) ks)) (values_text b ks span ns) (value_text n (curve_value b (parameter_at span n) ks))
    ∙ ap (λ (t : List ℕ). value_text m (curve_value b (parameter_at span m) ks) ++ t) (values_more b ks span ns n)

multiples_text_lem : (b : Basis) (ks : List Float) → Taken b ks → (span n : ℕ) → 0 < n → 0 < span → span ≤ day
    → (i : ℕ) → i ≤ multiples_below span n → multiples_text b ks span n i ≡ values_text b ks span (multiples n i)
unfolding multiples_text multiples values_text
multiples_text_lem b ks k span n p q h zero l = refl
multiples_text_lem b ks k span n p q h (suc i) l =
    let m : i * n < span = (told_below span n i q p).0 l in
    ap (λ (t : List ℕ). t ++ moment_text b ks span (i * n)) (multiples_text_lem b ks k span n p q h i (omega arith))
    ∙ ap (λ (t : List ℕ). values_text b ks span (multiples n i) ++ t) (moment_is b ks k span (i * n) q h (omega (arith, m)))
    ∙ values_more b ks span (multiples n i) (i * n)

-- ---- each question
module _ (k : Kind) (ks : List Float) (ls : List (List ℕ)) (span : ℕ) (o : Line) where
  text_by_lem : (q : Question) → question_of o ≡ q → answer_text k ks ls span o ≡ text_by k ks ls span q
  unfolding answer_text
  text_by_lem q e = ap (text_by k ks ls span) e

  span_by_lem : (q : Question) → question_of o ≡ q → span_after k ks span o ≡ span_by k ks span q
  unfolding span_after
  span_by_lem q e = ap (span_by k ks span) e

  -- `row`: silent, and the span is that many seconds for each segment; or 14, and the span stays
  pub row_taken : (n : ℕ) → question_of o ≡ Q.Row n → good_span (curve_seconds k ks n) ≡ true
      → (answer_text k ks ls span o ≡ []) × (span_after k ks span o ≡ curve_seconds k ks n)
  unfolding text_by span_by
  row_taken n q g = (text_by_lem (Q.Row n) q ∙ (rw g refl), span_by_lem (Q.Row n) q ∙ (rw g refl))

  pub row_refused : (n : ℕ) → question_of o ≡ Q.Row n → good_span (curve_seconds k ks n) ≡ false
      → (answer_text k ks ls span o ≡ refused_text BadSpan) × (span_after k ks span o ≡ span)
  unfolding text_by span_by
  row_refused n q g = (text_by_lem (Q.Row n) q ∙ (rw g refl), span_by_lem (Q.Row n) q ∙ (rw g refl))

  -- nothing else changes the span
  pub span_stays : ((n : ℕ) → question_of o ≡ Q.Row n → ⊥) → span_after k ks span o ≡ span
  unfolding span_by
  span_stays h = go (question_of o) refl
    where
      go : (q : Question) → question_of o ≡ q → span_after k ks span o ≡ span
      go Q.Table e = span_by_lem Q.Table e
      go (Q.Row n) e = absurd (h n e)
      go (Q.Find y) e = span_by_lem (Q.Find y) e
      go (Q.At n) e = span_by_lem (Q.At n) e
      go (Q.Every n) e = span_by_lem (Q.Every n) e
      go Q.Nothing e = span_by_lem Q.Nothing e

  -- and it never passes a day
  pub span_few : span ≤ day → span_after k ks span o ≤ day
  unfolding span_by
  span_few h = go (question_of o) refl
    where
      row : (n : ℕ) (t : Bool) → leb n day ≡ t → (u : Bool) → cond (u && t) n span ≤ day
      row n true e true = leb-true n day e
      row n true e false = h
      row n false e true = h
      row n false e false = h

      go : (q : Question) → question_of o ≡ q → span_after k ks span o ≤ day
      go Q.Table e = rw (span_by_lem Q.Table e) h
      go (Q.Row n) e = rw (span_by_lem (Q.Row n) e) (row (curve_seconds k ks n) (leb (curve_seconds k ks n) day) refl (leb 1 (curve_seconds k ks n)))
      go (Q.Find y) e = rw (span_by_lem (Q.Find y) e) h
      go (Q.At n) e = rw (span_by_lem (Q.At n) e) h
      go (Q.Every n) e = rw (span_by_lem (Q.Every n) e) h
      go Q.Nothing e = rw (span_by_lem Q.Nothing e) h

  -- `table`: the records that would enter it; a line that asks nothing: 12
  pub table_told : question_of o ≡ Q.Table → answer_text k ks ls span o ≡ text_of (curve (basis_of k) [] ks)
  unfolding text_by
  table_told q = text_by_lem Q.Table q

  pub nothing_told : question_of o ≡ Q.Nothing → answer_text k ks ls span o ≡ refused_text BadLine
  unfolding text_by
  nothing_told q = text_by_lem Q.Nothing q

  -- `at` without a span, or beyond it: 14
  pub at_refused : (n : ℕ) → question_of o ≡ Q.At n → (leb 1 span && leb n span) ≡ false → answer_text k ks ls span o ≡ refused_text BadSpan
  unfolding text_by
  at_refused n q g = text_by_lem (Q.At n) q ∙ (rw g refl)

  -- `every` below a minute: 12; without a span: 14
  pub every_short : (n : ℕ) → question_of o ≡ Q.Every n → n < 60 → answer_text k ks ls span o ≡ refused_text BadLine
  unfolding text_by
  every_short n q g = text_by_lem (Q.Every n) q ∙ (rw (lt-leb 60 n g) refl)

  pub every_unspanned : (n : ℕ) → question_of o ≡ Q.Every n → 60 ≤ n → span ≡ 0 → answer_text k ks ls span o ≡ refused_text BadSpan
  unfolding text_by
  every_unspanned n q g z = text_by_lem (Q.Every n) q ∙ (rw (le-leb 60 n g, z) refl)

  -- of a table that the calls take, by a span that may be held
  module _ (taken : Taken (basis_of k) ks) (few : span ≤ day) where
    -- `at` within the span: the curve's value at second / span
    pub at_told : (n : ℕ) → question_of o ≡ Q.At n → 0 < span → n ≤ span
        → answer_text k ks ls span o ≡ value_text n (curve_value (basis_of k) (parameter_at span n) ks)
    unfolding text_by
    at_told n q p l =
        text_by_lem (Q.At n) q ∙ (rw (le-leb 1 span p, le-leb n span l) (moment_is (basis_of k) ks taken span n p few l))

    -- `every`: so at each multiple below the span, and at the span
    pub every_told : (n : ℕ) → question_of o ≡ Q.Every n → 60 ≤ n → 0 < span
        → answer_text k ks ls span o ≡ values_text (basis_of k) ks span (multiples n (multiples_below span n) ++ (span ∷ []))
    unfolding text_by
    every_told n q g p =
        text_by_lem (Q.Every n) q ∙ (rw (le-leb 60 n g, le-leb 1 span p) (told n g p))
      where
        told : (n : ℕ) → 60 ≤ n → 0 < span
            → multiples_text (basis_of k) ks span n (multiples_below span n) ++ moment_text (basis_of k) ks span span
            ≡ values_text (basis_of k) ks span (multiples n (multiples_below span n) ++ (span ∷ []))
        told n g p =
            ap (λ (t : List ℕ). t ++ moment_text (basis_of k) ks span span)
            (multiples_text_lem (basis_of k) ks taken span n (omega (arith, g)) p few (multiples_below span n) (omega arith))
            ∙ ap (λ (t : List ℕ). values_text (basis_of k) ks span (multiples n (multiples_below span n)) ++ t)
            (moment_is (basis_of k) ks taken span span p few (omega arith))
            ∙ values_more (basis_of k) ks span (multiples n (multiples_below span n)) span

    -- `find`: what the depth says of a job that stopped there
    pub find_told : (y : Float) → question_of o ≡ Q.Find y → answer_text k ks ls span o ≡ job_text k ls span y (stopped_of (table_by k span) y ks false)
    unfolding text_by
    find_told y q = text_by_lem (Q.Find y) q

    good : good_span (table_by k span).span ≡ true
    good = go (leb 1 span) refl
      where
        go : (t : Bool) → leb 1 span ≡ t → good_span (cond t span 1) ≡ true
        go true e = rw (e, le-leb span day few) refl
        go false e = refl

    -- which is never a refusal by a row of the table; between the ends it may be 11 alone
    pub find_not_refused : (y : Float) → question_of o ≡ Q.Find y → (r : Refusal) → stopped_of (table_by k span) y ks false ≡ Err (Refused r) → ⊥
    find_not_refused y q r e =
        let p = no_row (basis_of k) ks taken (table_by k span) y refl good (found_number o y q) in
        let f = first_complete rows (bad_span (table_by k span).span ∷ stopped_uses (table_by k span) y ks false) r
        (said_only (table_by k span) y ks false (Err (Refused r)) (sym e)) in
        never (cc)
