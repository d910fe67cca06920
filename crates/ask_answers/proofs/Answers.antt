-- The answer to a question, case by case. Assumes nothing.
use Rattle.std.specs.Prelude.{Ok, Err}
use mathlib.Core.Path.{◌≡◌, refl, sym, ap, ◌∙◌}
use mathlib.Core.Bool.{Bool, true, false, cond}
use mathlib.Core.List.{List, [], ◌∷◌, ◌++◌}
use Prim.Native.Nat.{ℕ, zero, suc, min, ◌+◌, ◌-◌, ◌*◌, ◌≤◌, ◌<◌}
use native.Mathlib.Nat.{le_trans, mul-le-mul_left}
use native.Mathlib.Omega.{arith}
use native.Mathlib.Numerals.{add-one}
use borrow.Author.Tests.{le-leb, lt-leb}
use lib.Ieee.{Float}
use lib.Dec.{leb}
use lib.ListN.{length, take, drop, get_or, length-take, length-append, get_or-eq_default}
use Rattle.basis.specs.declared.Basis.{Basis}
use Rattle.error.specs.declared.Refusal.{Refusal}
use Rattle.error.specs.declared.Refusal.TheVariants.{BadSpan, BadLine}
use Rattle.spline.specs.Evaluation.{spline_of, Evaluation}
use Rattle.spline.proofs.Parts.{inside}
use Rattle.table_span.specs.declared.Table.{Table}
use Rattle.table_span.specs.Second.{day, good_span}
use Rattle.lines_reply.specs.Reply.{refused_text}
use Rattle.ask_sheet.specs.declared.Kind.{Kind}
use Rattle.ask_sheet.specs.Contract.{label_at, labels_to}
use Rattle.ask_verdict.specs.Curve.{first_row, row_step}
use Rattle.ask_answers.specs.declared.Question.TheVariants as Q
use Rattle.ask_answers.specs.Answers.{
  curve_seconds,
  row_text,
  parameter_at,
  value_text,
  moment_text,
  at_text,
  multiples_text,
  multiples_below,
  every_text,
  row_of,
  table_by,
  span_by,
}

-- ---- row
module _ (k : Kind) (ks : List Float) (m t : ℕ) (is : t ≡ curve_seconds k ks m) {g : Bool} (good : g ≡ good_span t) where
  pub row_good : g ≡ true → [] ≡ row_text k ks m
  row_good p = rw (← is, sym good ∙ p) refl

  pub row_bad : g ≡ false → refused_text BadSpan ≡ row_text k ks m
  row_bad p = rw (← is, sym good ∙ p) refl

  pub span_good : (span : ℕ) → g ≡ true → t ≡ span_by k ks span (Q.Row m)
  unfolding span_by
  span_good span p = rw (← is, sym good ∙ p) refl

  pub span_kept : (span : ℕ) → g ≡ false → span ≡ span_by k ks span (Q.Row m)
  unfolding span_by
  span_kept span p = rw (← is, sym good ∙ p) refl

-- ---- at
module _ (b : Basis) (ks : List Float) (span n : ℕ) where
  module _ {e : Evaluation} (is : e ≡ spline_of b (parameter_at span n) ks) where
    pub moment_value : (y : Float) → e ≡ Ok y → value_text n y ≡ moment_text b ks span n
    unfolding moment_text
    moment_value y p = rw (sym is ∙ p) refl

    pub moment_refused : (r : Refusal) → e ≡ Err r → refused_text r ≡ moment_text b ks span n
    unfolding moment_text
    moment_refused r p = rw (sym is ∙ p) refl

  pub at_none : span < 1 → refused_text BadSpan ≡ at_text b ks span n
  at_none h = rw (lt-leb 1 span h) refl

  pub at_beyond : 1 ≤ span → span < n → refused_text BadSpan ≡ at_text b ks span n
  at_beyond h g = rw (le-leb 1 span h, lt-leb n span g) refl

  pub at_told : 1 ≤ span → n ≤ span → moment_text b ks span n ≡ at_text b ks span n
  at_told h g = rw (le-leb 1 span h, le-leb n span g) refl

  -- ---- every
  pub no_multiples : [] ≡ multiples_text b ks span n 0
  unfolding multiples_text
  no_multiples = refl

  pub multiple_more : (i : ℕ) → multiples_text b ks span n i ++ moment_text b ks span (i * n) ≡ multiples_text b ks span n (i + 1)
  unfolding multiples_text
  multiple_more i = rw (add-one i) refl

  pub every_short : n < 60 → refused_text BadLine ≡ every_text b ks span n
  every_short h = rw (lt-leb 60 n h) refl

  pub every_none : 60 ≤ n → span < 1 → refused_text BadSpan ≡ every_text b ks span n
  every_none h g = rw (le-leb 60 n h, lt-leb 1 span g) refl

  pub every_told : 60 ≤ n → 1 ≤ span
      → multiples_text b ks span n (multiples_below span n) ++ moment_text b ks span span ≡ every_text b ks span n
  every_told h g = rw (le-leb 60 n h, le-leb 1 span g) refl

-- a multiple that is below the span, and how few of them there are
pub multiple_below : (span n i : ℕ) → i < multiples_below span n → i * n ≤ span - 1
multiple_below span n i h = inside i n (span - 1) (omega arith)

pub multiples_few : (span n i : ℕ) → span ≤ day → 60 ≤ n → i < multiples_below span n → i * 60 ≤ 86399
multiples_few span n i short step h = le_trans (mul-le-mul_left i step) (le_trans (multiple_below span n i h) (omega arith))

-- ---- labels
labels_long : (s : List ℕ) (n : ℕ) → length (labels_to s n) ≡ n
unfolding labels_to
labels_long s zero = refl
labels_long s (suc n) = length-append (labels_to s n) (label_at s n ∷ []) ∙ ap (λ (m : ℕ). m + 1) (labels_long s n) ∙ add-one n

pub no_label : (s : List ℕ) (n i : ℕ) → n ≤ i → [] ≡ get_or (labels_to s n) i []
no_label s n i h = sym (get_or-eq_default (labels_to s n) [] (rw (labels_long s n) h))

pub label_short : (s : List ℕ) (i : ℕ) {k : ℕ} → k ≡ min (get_or s (17 * i) 0) 16 → length (take ((17 * i + 1 + k) - (17 * i + 1)) (drop (17 * i + 1) s)) ≤ 16
label_short s i e = rw (length-take) (omega (arith, e))

-- ---- find
pub row_is : (k : Kind) (s : ℕ) {f g : ℕ} → f ≡ first_row k → g ≡ row_step k → f + s * g ≡ row_of k s
row_is k s p q = rw (p, q) refl

pub table_short : (k : Kind) (span : ℕ) {t : Table} → span ≤ day → t ≡ table_by k span → t.span ≤ day
table_short k span h e = rw e (go (leb 1 span))
  where
    go : (b : Bool) → cond b span 1 ≤ day
    go true = h
    go false = omega arith
