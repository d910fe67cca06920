-- With a good span a call on a table is the base's, plus the second; without one it is refused by its length, or by 14. Assumes nothing.
use Rattle.inverse_segment.specs.declared.Miss.TheVariants.{Refused}
use Rattle.inverse_segment.specs.Inversion.{Inversion}
use Rattle.std.specs.Prelude.{Ok, Err, Result, ℕ}
use mathlib.Core.Path.{◌≡◌, refl, sym, ap, ◌∙◌}
use mathlib.Core.Bool.{Bool, true, false, not}
use mathlib.Core.List.{List, [], ◌∷◌, ◌++◌}
use Prim.Native.Nat.{ℕ}
use lib.Dec.{ltb}
use lib.ListN.{length}
use lib.Ieee.{Float}
use Rattle.basis.specs.declared.Basis.{Basis}
use Rattle.basis.specs.Basis.{regular}
use Rattle.convert.specs.Conversion.{Conversion, refuses, unless, convert_uses, converted_of}
use Rattle.convert.specs.Buffer.{answer_of, buffer_of}
use Rattle.convert_strict.specs.Strict.{strict_uses, strict_of}
use Rattle.error.specs.declared.Refusal.{Refusal}
use Rattle.error.specs.declared.Refusal.TheVariants.{TooFew, BadPattern, TooMany, BadSpan}
use Rattle.error.specs.Refusals.{Uses, applies, first, Verdict}
use Rattle.error.proofs.Orders.{order_of}
use Rattle.inverse_order.specs.declared.EndsBy.{EndsBy}
use Rattle.inverse.specs.Inverse.{inverse_uses, inverse_by}
use Rattle.inverse_segment.specs.Answer.{inverted}
use Rattle.inverse_segment.specs.declared.Method.{Method}
use Rattle.spline.specs.Evaluation.{evaluated, spline_uses, spline_of}
use Rattle.checks.specs.Checks.{curve_length}
use Rattle.table_span.specs.declared.Table.{Table}
use Rattle.table_span.specs.Second.{good_span, bad_span}
use Rattle.table.specs.Calls.{
  verdict_of,
  value_unless,
  table_spline_of,
  timed_of,
  timed_unless,
  table_inverse_by,
  conversion_unless,
  table_converted_of,
  table_strict_of,
  handed_of,
}

-- ---- 14 beside the rows of a call that has no other use for it
same_rows : (us : Uses) → applies 14 us ≡ false → first ((BadSpan, false) ∷ us) ≡ first us
same_rows us h = rw h refl

pub good_verdict : (t : Table) (us : Uses) → applies 14 us ≡ false → good_span t.span ≡ true → verdict_of t us ≡ first us
good_verdict t us h g = rw g (same_rows us h)

-- without a span every row after the lengths is out of reach
length_first : (b : Basis) (n : ℕ) (us : Uses) → first ((BadSpan, true) ∷ (curve_length b n ++ us)) ≡ first ((BadSpan, true) ∷ curve_length b n)
length_first b n us = go (ltb n 4) (regular b n) (ltb 4096 n)
  where
    go : (few whole many : Bool)
        → first ((BadSpan, true) ∷ (TooFew, few) ∷ (BadPattern, not whole) ∷ (TooMany, many) ∷ us)
        ≡ first ((BadSpan, true) ∷ (TooFew, few) ∷ (BadPattern, not whole) ∷ (TooMany, many) ∷ [])
    go true whole many = refl
    go false false many = refl
    go false true true = refl
    go false true false = refl

module _ (t : Table) (n : ℕ) (us : Uses) (r : Refusal) (g : good_span t.span ≡ false) (e : Err r ≡ first ((BadSpan, true) ∷ curve_length t.basis n))
  where
    pub bad_verdict : verdict_of t (curve_length t.basis n ++ us) ≡ Err r
    bad_verdict = rw g (length_first t.basis n us ∙ sym e)

-- ---- evaluation
value_again : (v : Verdict) (x : Float) → value_unless v (evaluated v x) ≡ evaluated v x
value_again (Ok _) x = refl
value_again (Err r) x = refl

pub spline_base : (t : Table) (x : Float) (ks : List Float) → good_span t.span ≡ true → table_spline_of t x ks ≡ spline_of t.basis x ks
unfolding table_spline_of spline_of
spline_base t x ks g = rw (good_verdict t (spline_uses t.basis x ks) refl g) (value_again (first (spline_uses t.basis x ks)) _)

pub spline_spanless : (t : Table) (x : Float) (ks : List Float) (r : Refusal) → good_span t.span ≡ false
    → Err r ≡ first ((BadSpan, true) ∷ curve_length t.basis (length ks)) → Err r ≡ table_spline_of t x ks
unfolding table_spline_of
spline_spanless t x ks r g e = rw (bad_verdict t (length ks) _ r g e) refl

-- ---- inversion
timed_again : (v : Verdict) (s : ℕ) (a : Inversion) → timed_unless v (timed_of s (inverted v a)) ≡ timed_of s (inverted v a)
timed_again (Ok _) s a = refl
timed_again (Err r) s a = refl

module _ (m : EndsBy) (how : Method) (t : Table) (y : Float) (ks : List Float) (check : Bool) (limit : ℕ) (ε : Float) where
  pub inverse_base : good_span t.span ≡ true → table_inverse_by m how t y ks check limit ε ≡ timed_of t.span (inverse_by m how t.basis y ks check limit ε)
  unfolding table_inverse_by inverse_by
  inverse_base g =
      rw (good_verdict t (inverse_uses t.basis y ks check limit ε) refl g) (timed_again (first (inverse_uses t.basis y ks check limit ε)) t.span _)

  pub inverse_spanless : (r : Refusal) → good_span t.span ≡ false → Err r ≡ first ((BadSpan, true) ∷ curve_length t.basis (length ks))
      → Err (Refused r) ≡ table_inverse_by m how t y ks check limit ε
  unfolding table_inverse_by
  inverse_spanless r g e = rw (bad_verdict t (length ks) _ r g e) refl

-- ---- conversion: of any rows that have no use for 14, and any doubles
conversion_again : (v : Verdict) (l : List Float) → conversion_unless v (unless v l) ≡ unless v l
conversion_again (Ok _) l = refl
conversion_again (Err r) l = refl

module _ (t : Table) where
  same_conversion : (us : Uses) (l : List Float) → applies 14 us ≡ false → good_span t.span ≡ true
      → conversion_unless (verdict_of t us) (unless (first us) l) ≡ unless (first us) l
  same_conversion us l h g = ap (λ (v : Verdict). conversion_unless v (unless (first us) l)) (good_verdict t us h g) ∙ conversion_again (first us) l

module _ (t : Table) (to : Basis) (ks : List Float) (room : ℕ) where
  pub converted_base : good_span t.span ≡ true → table_converted_of t to ks room ≡ converted_of t.basis to ks room
  unfolding table_converted_of converted_of
  converted_base g = same_conversion t (convert_uses t.basis to ks room) _ refl g

  pub converted_spanless : (r : Refusal) → good_span t.span ≡ false → Err r ≡ first ((BadSpan, true) ∷ curve_length t.basis (length ks))
      → table_converted_of t to ks room ≡ refuses r
  unfolding table_converted_of
  converted_spanless r g e = rw (bad_verdict t (length ks) _ r g e) refl

module _ (t : Table) (to : Basis) (ks : List Float) (allowance : Float) (room : ℕ) where
  pub strict_base : good_span t.span ≡ true → table_strict_of t to ks allowance room ≡ strict_of t.basis to ks allowance room
  unfolding table_strict_of strict_of
  strict_base g = same_conversion t (strict_uses t.basis to ks allowance room) _ refl g

  pub strict_spanless : (r : Refusal) → good_span t.span ≡ false → Err r ≡ first ((BadSpan, true) ∷ curve_length t.basis (length ks))
      → table_strict_of t to ks allowance room ≡ refuses r
  unfolding table_strict_of
  strict_spanless r g e = rw (bad_verdict t (length ks) _ r g e) refl

-- what both conversions tell: the base's answer handed on, and its buffer; or the refusal, and the buffer as it was
module _ (span : ℕ) (to : Basis) (out : List Float) (x : Conversion) where
  abbrev Tells : Result (Table × ℕ) Refusal → List Float → Type 0
  Tells a o = (a ≡ handed_of span to (answer_of x)) × (o ≡ buffer_of x out)

  pub tells_base : (y : Conversion) {c : Result ℕ Refusal} {a : Result (Table × ℕ) Refusal} {o : List Float} → x ≡ y → a ≡ handed_of span to c → c ≡ answer_of y
      → o ≡ buffer_of y out
      → Tells a o
  tells_base y e p q b = (p ∙ ap (handed_of span to) (q ∙ ap answer_of (sym e)), b ∙ ap (λ (c : Conversion). buffer_of c out) (sym e))

  pub tells_refusal : (r : Refusal) → x ≡ refuses r → Tells (Err r) out
  tells_refusal r e = (ap (λ (c : Conversion). handed_of span to (answer_of c)) (sym e), ap (λ (c : Conversion). buffer_of c out) (sym e))

-- ---- the rows of each call, in the order in which they are told
pub spline_order : (t : Table) (x : Float) (ks : List Float) → order_of (bad_span t.span ∷ spline_uses t.basis x ks) ≡ 1 ∷ 2 ∷ 3 ∷ 14 ∷ 5 ∷ 4 ∷ []
spline_order t x ks = refl

pub inverse_order : (t : Table) (y : Float) (ks : List Float) (check : Bool) (limit : ℕ) (ε : Float)
    → order_of (bad_span t.span ∷ inverse_uses t.basis y ks check limit ε) ≡ 1 ∷ 2 ∷ 3 ∷ 14 ∷ 5 ∷ 6 ∷ 7 ∷ 4 ∷ 10 ∷ []
inverse_order t y ks check limit ε = refl

pub convert_order : (t : Table) (to : Basis) (ks : List Float) (room : ℕ)
    → order_of (bad_span t.span ∷ convert_uses t.basis to ks room) ≡ 1 ∷ 2 ∷ 3 ∷ 14 ∷ 8 ∷ 9 ∷ 4 ∷ []
convert_order t to ks room = refl

pub strict_order : (t : Table) (to : Basis) (ks : List Float) (allowance : Float) (room : ℕ)
    → order_of (bad_span t.span ∷ strict_uses t.basis to ks allowance room) ≡ 1 ∷ 2 ∷ 3 ∷ 14 ∷ 8 ∷ 17 ∷ 9 ∷ 4 ∷ 15 ∷ []
strict_order t to ks allowance room = refl
