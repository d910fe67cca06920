-- What the calls on a table with a span promise: with a good span they are the base's, with the second beside a place and the span handed on; they refuse
-- exactly by the first row that applies, 14 among them; and the second is the largest whole number not above parameter × span. Assumes nothing.
use Rattle.inverse_segment.specs.declared.Miss.{Miss}
use Rattle.inverse_segment.specs.Inversion.{Inversion}
use Rattle.inverse_segment.specs.declared.Miss.TheVariants.{Refused, OffCurve}
use Rattle.std.specs.Prelude.{Ok, Err, Result, ℕ}
use mathlib.Core.Path.{◌≡◌, refl, sym, ap, subst, ◌∙◌}
use mathlib.Core.Bool.{Bool, true, false}
use mathlib.Core.List.{List, ◌∷◌}
use Prim.Native.Nat.{ℕ}
use borrow.Author.Tests.{not-false}
use lib.ListN.{length}
use lib.Ieee.{Float}
use Rattle.error.specs.declared.Refusal.{Refusal}
use Rattle.error.specs.Refusals.{Uses, rows, applies, first, Verdict}
use Rattle.error.proofs.First.{never, First, clear, first_sound, first_complete}
use Rattle.basis.specs.declared.Basis.{Basis}
use Rattle.spline.specs.Evaluation.{spline_uses, spline_of, Evaluation}
use Rattle.inverse_segment.specs.declared.Place.{Place}
use Rattle.inverse_segment.specs.Answer.{default_limit, default_precision}
use Rattle.inverse_segment.specs.declared.Method.{Method}
use Rattle.inverse_segment.specs.declared.Method.TheVariants.{AsCrate}
use Rattle.inverse_order.specs.declared.EndsBy.{EndsBy}
use Rattle.inverse_order.specs.declared.EndsBy.TheVariants.{Knots}
use Rattle.inverse.specs.Inverse.{inverse_uses, inverse_by}
use Rattle.inverse.proofs.Facts.{AtPlace, Proper}
use Rattle.inverse.proofs.Promises.{inverse_proper}
use Rattle.inverse.proofs.Refusing.{inverse_refused_only}
use Rattle.convert.specs.Conversion.{Conversion, gives, refuses, unless, convert_uses, converted_of}
use Rattle.convert.specs.Buffer.{answer_of, buffer_of}
use Rattle.convert_strict.specs.Strict.{strict_uses, strict_of}
use Rattle.table_span.specs.declared.Table.{Table}
use Rattle.table_span.specs.Second.{good_span, bad_span, elapsed, second_of}
use Rattle.table.specs.Calls.{
  verdict_of,
  value_unless,
  table_spline_of,
  timed_of,
  timed_unless,
  table_inverse_by,
  conversion_unless,
  table_converted_of,
  table_strict_of,
  handed_of,
}
use Rattle.table_span.proofs.Spans.{good_least}
use Rattle.table.proofs.Spans.{good_verdict, spline_base, inverse_base, converted_base}
use Rattle.table_span.proofs.Largest.{Largest, second_largest}
use Rattle.table.proofs.table_spline.Reads as table_spline
use Rattle.table.proofs.table_spline_inverse_by.Reads as table_spline_inverse_by
use Rattle.table.proofs.table_spline_inverse.Reads as table_spline_inverse
use Rattle.table.proofs.table_convert_spline.Reads as table_convert_spline
use Rattle.calls.specs.Calls.{AsksNothing, Keeps, OneReply, Exactly}
use Rattle.promises.proofs.Refusing.{value_refused}

-- ---- no call asks anything of its caller
pub table_spline_asks_nothing : AsksNothing table_spline.Asked
table_spline_asks_nothing κs a = tt

pub table_spline_inverse_by_asks_nothing : AsksNothing table_spline_inverse_by.Asked
table_spline_inverse_by_asks_nothing κs a = tt

pub table_spline_inverse_asks_nothing : AsksNothing table_spline_inverse.Asked
table_spline_inverse_asks_nothing κs a = tt

pub table_convert_spline_asks_nothing : AsksNothing table_convert_spline.Asked
table_convert_spline_asks_nothing κs a = tt

-- ---- no second reply fits
one : {A : Type 0} {d x x' : A} → x ≡ d → x' ≡ d → x ≡ x'
one p q = p ∙ sym q

pub table_spline_one_reply : OneReply table_spline.Learnt (λ κs z e z' e'. z ≡ z')
table_spline_one_reply κs a z z' e e' p q = one p q

pub table_spline_inverse_by_one_reply : OneReply table_spline_inverse_by.Learnt (λ κs z e z' e'. z ≡ z')
table_spline_inverse_by_one_reply κs a z z' e e' p q = one p q

pub table_spline_inverse_one_reply : OneReply table_spline_inverse.Learnt (λ κs z e z' e'. z ≡ z')
table_spline_inverse_one_reply κs a z z' e e' p q = one p q

pub table_convert_spline_one_reply : OneReply table_convert_spline.Learnt (λ κs z e z' e'. (z ≡ z') × (e.1.1.1.0.now ≡ e'.1.1.1.0.now))
table_convert_spline_one_reply κs a z z' e e' p q = (one p.0 q.0, one p.1 q.1)

-- ---- with a good span: the base's call
pub table_spline_base : Keeps table_spline.Learnt (λ κs a z e. good_span a.0.span ≡ true → z ≡ spline_of a.0.basis a.1.0 a.1.1.0.now)
table_spline_base κs a z e p g = p ∙ spline_base a.0 a.1.0 a.1.1.0.now g

pub table_spline_inverse_by_base : Keeps table_spline_inverse_by.Learnt
    (λ κs a z e. good_span a.1.0.span ≡ true
    → z ≡ timed_of a.1.0.span
    (inverse_by a.0.ends a.0.method a.1.0.basis a.1.1.0 a.1.1.1.0.now a.0.check a.0.limit a.0.precision))
table_spline_inverse_by_base κs a z e p g =
    p ∙ inverse_base a.0.ends a.0.method a.1.0 a.1.1.0 a.1.1.1.0.now a.0.check a.0.limit a.0.precision g

pub table_spline_inverse_base : Keeps table_spline_inverse.Learnt
    (λ κs a z e. good_span a.0.span ≡ true
    → z ≡ timed_of a.0.span (inverse_by Knots AsCrate a.0.basis a.1.0 a.1.1.0.now a.1.1.1.0 default_limit default_precision))
table_spline_inverse_base κs a z e p g = p ∙ inverse_base Knots AsCrate a.0 a.1.0 a.1.1.0.now a.1.1.1.0 default_limit default_precision g

-- reply and buffer; the new table has the old one's span
pub table_convert_spline_base : Keeps table_convert_spline.Learnt
    (λ κs a z e. good_span a.0.span ≡ true
    → (z ≡ handed_of a.0.span a.1.0 (answer_of (converted_of a.0.basis a.1.0 a.1.1.0.now (length a.1.1.1.0.now))))
    × (e.1.1.1.0.now ≡ buffer_of (converted_of a.0.basis a.1.0 a.1.1.0.now (length a.1.1.1.0.now)) a.1.1.1.0.now))
table_convert_spline_base κs a z e p g =
    let same = converted_base a.0 a.1.0 a.1.1.0.now (length a.1.1.1.0.now) g in
    (p.0 ∙ ap (λ (c : Conversion). handed_of a.0.span a.1.0 (answer_of c)) same, p.1 ∙ ap (λ (c : Conversion). buffer_of c a.1.1.1.0.now) same)

-- ---- refused exactly by the first row that applies, 14 among them
by_first : (us : Uses) (r : Refusal) → Exactly (first us ≡ Err r) (First us rows r)
by_first us r = (first_sound rows us r, first_complete rows us r)

two_ways : {P Q R : Type 0} → Exactly P Q → Exactly Q R → Exactly P R
two_ways x y = (λ p. y.0 (x.0 p), λ r. x.1 (y.1 r))

pub carried : {Z : Type 0} {z d t : Z} {Q : Type 0} → z ≡ d → Exactly (d ≡ t) Q → Exactly (z ≡ t) Q
carried e x = (λ p. x.0 (sym e ∙ p), λ q. e ∙ x.1 q)

-- a base's call that passes with the span refuses nothing
passes : (t : Table) (us : Uses) → verdict_of t us ≡ Ok tt → good_span t.span ≡ true
passes t us e = not-false (good_span t.span) (clear (bad_span t.span ∷ us) e 14)

by_value : (v : Verdict) (a : Evaluation) (r : Refusal) → (v ≡ Ok tt → a ≡ Err r → ⊥) → Exactly (value_unless v a ≡ Err r) (v ≡ Err r)
by_value (Ok _) a r k = (λ p. absurd (k refl p), λ p. never (cc))
by_value (Err q) a r k = (λ p. let s : q ≡ r = cc in ap Err s, λ p. let s : q ≡ r = cc in ap Err s)

by_timed : (v : Verdict) (a : Result (Place × ℕ) Miss) (r : Refusal) → (v ≡ Ok tt → a ≡ Err (Refused r) → ⊥)
    → Exactly (timed_unless v a ≡ Err (Refused r)) (v ≡ Err r)
by_timed (Ok _) a r k = (λ p. absurd (k refl p), λ p. never (cc))
by_timed (Err q) a r k = (λ p. let s : q ≡ r = cc in ap Err s, λ p. let s : q ≡ r = cc in ap (λ a. Err (Refused a)) s)

by_handed : (s : ℕ) (to : Basis) (v : Verdict) (c : Conversion) (r : Refusal) → (v ≡ Ok tt → answer_of c ≡ Err r → ⊥)
    → Exactly (handed_of s to (answer_of (conversion_unless v c)) ≡ Err r) (v ≡ Err r)
by_handed s to (Ok _) (gives l) r k = (λ p. never (cc), λ p. never (cc))
by_handed s to (Ok _) (refuses q) r k = (λ p. let z : q ≡ r = cc in absurd (k refl (ap Err z)), λ p. never (cc))
by_handed s to (Err q) c r k = (λ p. let z : q ≡ r = cc in ap Err z, λ p. let z : q ≡ r = cc in ap Err z)

failed_passed : {A : Type 0} {v : Verdict} {r : Refusal} → v ≡ Err r → v ≡ Ok tt → A
failed_passed p q = never (cc)

-- where no row applies the base's call refuses nothing
module _ (t : Table) (r : Refusal) where
  value_past : (x : Float) (ks : List Float) → verdict_of t (spline_uses t.basis x ks) ≡ Ok tt → spline_of t.basis x ks ≡ Err r → ⊥
  value_past x ks e h =
      let us = spline_uses t.basis x ks in
      failed_passed (first_complete rows us r ((value_refused t.basis x ks r).0 h)) (sym (good_verdict t us refl (passes t us e)) ∙ e)

  pub table_value_refused : (x : Float) (ks : List Float)
      → Exactly (table_spline_of t x ks ≡ Err r) (First (bad_span t.span ∷ spline_uses t.basis x ks) rows r)
  unfolding table_spline_of
  table_value_refused x ks =
      two_ways (by_value (verdict_of t (spline_uses t.basis x ks)) (spline_of t.basis x ks) r (value_past x ks))
      (by_first (bad_span t.span ∷ spline_uses t.basis x ks) r)

  timed_refused : (s : ℕ) (i : Inversion) → timed_of s i ≡ Err (Refused r) → i ≡ Err (Refused r)
  timed_refused s (Err (Refused q)) h = let z : q ≡ r = cc in ap (λ a. Err (Refused a)) z
  timed_refused s (Err (OffCurve n)) h = never (cc)
  timed_refused s (Ok p) h = never (cc)

  module _ (m : EndsBy) (how : Method) (y : Float) (ks : List Float) (check : Bool) (limit : ℕ) (ε : Float) where
    place_past : verdict_of t (inverse_uses t.basis y ks check limit ε) ≡ Ok tt
        → timed_of t.span (inverse_by m how t.basis y ks check limit ε) ≡ Err (Refused r) → ⊥
    place_past e h =
        let us = inverse_uses t.basis y ks check limit ε in
        let f = inverse_refused_only m how t.basis y ks check limit ε r (timed_refused t.span (inverse_by m how t.basis y ks check limit ε) h) in
        failed_passed (first_complete rows us r f) (sym (good_verdict t us refl (passes t us e)) ∙ e)

    pub table_place_refused : Exactly (table_inverse_by m how t y ks check limit ε ≡ Err (Refused r))
        (First (bad_span t.span ∷ inverse_uses t.basis y ks check limit ε) rows r)
    unfolding table_inverse_by
    table_place_refused =
        two_ways (by_timed (verdict_of t (inverse_uses t.basis y ks check limit ε)) (timed_of t.span (inverse_by m how t.basis y ks check limit ε)) r
        place_past)
        (by_first (bad_span t.span ∷ inverse_uses t.basis y ks check limit ε) r)

  -- of any rows that have no use for 14, and any doubles
  module _ (to : Basis) (us : Uses) (h : applies 14 us ≡ false) (l : List Float) where
    conversion_past : verdict_of t us ≡ Ok tt → answer_of (unless (first us) l) ≡ Err r → ⊥
    conversion_past e = subst (λ (v : Verdict). answer_of (unless v l) ≡ Err r → ⊥) (sym e ∙ good_verdict t us h (passes t us e)) (λ p. never (cc))

    pub handed_refused : Exactly (handed_of t.span to (answer_of (conversion_unless (verdict_of t us) (unless (first us) l))) ≡ Err r)
        (First (bad_span t.span ∷ us) rows r)
    handed_refused = two_ways (by_handed t.span to (verdict_of t us) (unless (first us) l) r conversion_past) (by_first (bad_span t.span ∷ us) r)

  pub table_conversion_refused : (to : Basis) (ks : List Float) (room : ℕ)
      → Exactly (handed_of t.span to (answer_of (table_converted_of t to ks room)) ≡ Err r)
      (First (bad_span t.span ∷ convert_uses t.basis to ks room) rows r)
  unfolding table_converted_of converted_of
  table_conversion_refused to ks room = handed_refused to (convert_uses t.basis to ks room) refl _

  pub table_strict_refused : (to : Basis) (ks : List Float) (allowance : Float) (room : ℕ)
      → Exactly (handed_of t.span to (answer_of (table_strict_of t to ks allowance room)) ≡ Err r)
      (First (bad_span t.span ∷ strict_uses t.basis to ks allowance room) rows r)
  unfolding table_strict_of strict_of
  table_strict_refused to ks allowance room = handed_refused to (strict_uses t.basis to ks allowance room) refl _

pub table_spline_refuses : Keeps table_spline.Learnt
    (λ κs a z e. (r : Refusal) → Exactly (z ≡ Err r) (First (bad_span a.0.span ∷ spline_uses a.0.basis a.1.0 a.1.1.0.now) rows r))
table_spline_refuses κs a z e p r = carried p (table_value_refused a.0 r a.1.0 a.1.1.0.now)

pub table_spline_inverse_by_refuses : Keeps table_spline_inverse_by.Learnt
    (λ κs a z e. (r : Refusal)
    → Exactly (z ≡ Err (Refused r))
    (First (bad_span a.1.0.span ∷ inverse_uses a.1.0.basis a.1.1.0 a.1.1.1.0.now a.0.check a.0.limit a.0.precision)
    rows r))
table_spline_inverse_by_refuses κs a z e p r =
    carried p (table_place_refused a.1.0 r a.0.ends a.0.method a.1.1.0 a.1.1.1.0.now a.0.check a.0.limit a.0.precision)

pub table_spline_inverse_refuses : Keeps table_spline_inverse.Learnt
    (λ κs a z e. (r : Refusal)
    → Exactly (z ≡ Err (Refused r))
    (First (bad_span a.0.span ∷ inverse_uses a.0.basis a.1.0 a.1.1.0.now a.1.1.1.0 default_limit default_precision) rows r))
table_spline_inverse_refuses κs a z e p r =
    carried p (table_place_refused a.0 r Knots AsCrate a.1.0 a.1.1.0.now a.1.1.1.0 default_limit default_precision)

pub table_convert_spline_refuses : Keeps table_convert_spline.Learnt
    (λ κs a z e. (r : Refusal)
    → Exactly (z ≡ Err r)
    (First (bad_span a.0.span ∷ convert_uses a.0.basis a.1.0 a.1.1.0.now (length a.1.1.1.0.now)) rows r))
table_convert_spline_refuses κs a z e p r = carried p.0 (table_conversion_refused a.0 r a.1.0 a.1.1.0.now (length a.1.1.1.0.now))

-- ---- a refusal writes nothing
pub kept : (s : ℕ) (to : Basis) (c : Conversion) (out : List Float) (r : Refusal) → handed_of s to (answer_of c) ≡ Err r → buffer_of c out ≡ out
kept s to (gives l) out r p = never (cc)
kept s to (refuses q) out r p = refl

pub table_convert_spline_writes_nothing : Keeps table_convert_spline.Learnt
    (λ κs a z e. (r : Refusal) → z ≡ Err r → e.1.1.1.0.now ≡ a.1.1.1.0.now)
table_convert_spline_writes_nothing κs a z e p r h =
    p.1
    ∙ kept a.0.span a.1.0 (table_converted_of a.0 a.1.0 a.1.1.0.now (length a.1.1.1.0.now)) a.1.1.1.0.now r
    (sym p.0 ∙ h)

-- ---- the second that is told
pub at_second : (s : ℕ) (i : Inversion) (p : Place) (n : ℕ) → timed_of s i ≡ Ok (p, n) → (i ≡ Ok p) × (n ≡ second_of s p.parameter)
at_second s (Err (Refused r)) p n h = never (cc)
at_second s (Err (OffCurve m)) p n h = never (cc)
at_second s (Ok q) p n h =
    let k : ◌≡◌ {A = Place × ℕ} (q, second_of s q.parameter) (p, n) = cc in
    let e : q ≡ p = ap (λ (x : Place × ℕ). x.0) k in
    let f : second_of s q.parameter ≡ n = ap (λ (x : Place × ℕ). x.1) k in
    (ap Ok e, sym f ∙ ap (λ (x : Place). second_of s x.parameter) e)

pub past : (v : Verdict) (a : Result (Place × ℕ) Miss) (p : Place) (n : ℕ) → timed_unless v a ≡ Ok (p, n) → (v ≡ Ok tt) × (a ≡ Ok (p, n))
past (Ok _) a p n h = (refl, h)
past (Err r) a p n h = never (cc)

module _ (m : EndsBy) (how : Method) (t : Table) (y : Float) (ks : List Float) (check : Bool) (limit : ℕ) (ε : Float) where
  -- of a place that is told with the second n
  pub second_is_largest : (p : Place) (n : ℕ) → table_inverse_by m how t y ks check limit ε ≡ Ok (p, n) → Largest t.span (elapsed t.span p.parameter) n
  unfolding table_inverse_by
  second_is_largest p n h =
      let us = inverse_uses t.basis y ks check limit ε in
      let w = past (verdict_of t us) (timed_of t.span (inverse_by m how t.basis y ks check limit ε)) p n h in
      let s = at_second t.span (inverse_by m how t.basis y ks check limit ε) p n w.1 in
      let proper : Proper p = subst (AtPlace Proper) s.0 (inverse_proper m how t.basis y ks check limit ε) in
      subst (λ (k : ℕ). Largest t.span (elapsed t.span p.parameter) k) (sym s.1)
      (second_largest t.span p.parameter (good_least t.span (passes t us w.0)).1 proper.parameter)

pub table_spline_inverse_by_second : Keeps table_spline_inverse_by.Learnt
    (λ κs a z e. (p : Place) (n : ℕ) → z ≡ Ok (p, n) → Largest a.1.0.span (elapsed a.1.0.span p.parameter) n)
table_spline_inverse_by_second κs a z e p q n h =
    second_is_largest a.0.ends a.0.method a.1.0 a.1.1.0 a.1.1.1.0.now a.0.check a.0.limit a.0.precision q n (sym p ∙ h)

pub table_spline_inverse_second : Keeps table_spline_inverse.Learnt
    (λ κs a z e. (p : Place) (n : ℕ) → z ≡ Ok (p, n) → Largest a.0.span (elapsed a.0.span p.parameter) n)
table_spline_inverse_second κs a z e p q n h =
    second_is_largest Knots AsCrate a.0 a.1.0 a.1.1.0.now a.1.1.1.0 default_limit default_precision q n (sym p ∙ h)
