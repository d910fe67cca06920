-- What the records do: which are silent, which are refused, and what a refused one leaves alone. Assumes nothing.
use Rattle.inverse_segment.specs.Inversion.{Inversion}
use Rattle.inverse_segment.specs.declared.Miss.TheVariants.{Refused, OffCurve}
use Rattle.std.specs.Prelude.{Ok, Err}
use mathlib.Core.Path.{◌≡◌, refl, ap}
use mathlib.Core.Bool.{Bool, true, false, cond}
use mathlib.Core.List.{List, [], ◌∷◌, ◌++◌}
use Prim.Native.Nat.{ℕ, ◌≤◌, ◌<◌}
use native.Mathlib.Omega.{arith}
use borrow.Author.Tests.{lt-ltb, le-ltb}
use lib.Dec.{T, ltb}
use lib.ListN.{length}
use lib.Ieee.{Float}
use lib.Ieee.Scale.{finite}
use Rattle.basis.specs.declared.Basis.{Basis}
use Rattle.convert.specs.Conversion.{Conversion, gives, refuses, converted_of}
use Rattle.error.specs.declared.Refusal.{Refusal}
use Rattle.error.specs.declared.Refusal.TheVariants.{TooMany, BadSpan}
use Rattle.error.proofs.First.{never}
use Rattle.inverse_order.specs.declared.EndsBy.{EndsBy}
use Rattle.inverse_order.specs.declared.EndsBy.TheVariants.{Knots}
use Rattle.lines_record.specs.declared.Record.{Record}
use Rattle.lines_record.specs.declared.Record.TheVariants.{Curve as CurveOf, Span, Knot, Ends, At, Find, Turn, Bad}
use Rattle.lines_reply.specs.Reply.{silence, refused, value}
use Rattle.spline.specs.Evaluation.{spline_of, Evaluation}
use Rattle.spline.proofs.Values.{spline_finite}
use Rattle.table_span.specs.declared.Table.{Table}
use Rattle.table_span.specs.Second.{day, good_span}
use Rattle.table_span.proofs.Spans.{good_least}
use Rattle.lines_answer.specs.Answer.{places, Curve, none, on, bare, value_reply, found_of, place_reply, curve_reply, reply_to, after_of}

-- a refused record changes neither table nor knots
pub refused_changes_nothing : (c : Curve) (r : Record) (e : Refusal) → reply_to c r ≡ refused e → after_of c r ≡ c
unfolding reply_to after_of
refused_changes_nothing none (CurveOf b) e h = never (cc)
refused_changes_nothing none (Span s) e h = refl
refused_changes_nothing none (Knot x) e h = refl
refused_changes_nothing none (Ends k) e h = refl
refused_changes_nothing none (At x) e h = refl
refused_changes_nothing none (Find y) e h = refl
refused_changes_nothing none (Turn b) e h = refl
refused_changes_nothing none Bad e h = refl
refused_changes_nothing (on t m ks) (CurveOf c) e h = never (cc)
refused_changes_nothing (on t m ks) (Span s) e h = go (good_span s) h
  where
    go : (g : Bool) → cond g silence (refused BadSpan) ≡ refused e → cond g (on (record { basis = t.basis; span = s }) m ks) (on t m ks) ≡ on t m ks
    go true h = never (cc)
    go false h = refl
refused_changes_nothing (on t m ks) (Knot x) e h = go (ltb (length ks) places) h
  where
    go : (g : Bool) → cond g silence (refused TooMany) ≡ refused e → on t m (cond g (ks ++ (x ∷ [])) ks) ≡ on t m ks
    go true h = never (cc)
    go false h = refl
refused_changes_nothing (on t m ks) (Ends k) e h = never (cc)
refused_changes_nothing (on t m ks) (At x) e h = refl
refused_changes_nothing (on t m ks) (Find y) e h = refl
refused_changes_nothing (on t m ks) (Turn c) e h = refl
refused_changes_nothing (on t m ks) Bad e h = refl

-- ---- the ends, and what `curve` keeps of what came before
abbrev pub ends_before : Curve → EndsBy
ends_before none = Knots
ends_before (on t m ks) = m

-- `curve` prints nothing, clears the knots and the span, and keeps the ends
pub curve_silent : (c : Curve) (b : Basis) → (reply_to c (CurveOf b) ≡ silence) × (after_of c (CurveOf b) ≡ on (bare b) (ends_before c) [])
unfolding reply_to after_of
curve_silent none b = (refl, refl)
curve_silent (on t m ks) b = (refl, refl)

-- a good span prints nothing, and takes the place of the one before
pub span_silent : (t : Table) (m : EndsBy) (ks : List Float) (s : ℕ) → good_span s ≡ true
    → (reply_to (on t m ks) (Span s) ≡ silence) × (after_of (on t m ks) (Span s) ≡ on (record { basis = t.basis; span = s }) m ks)
unfolding reply_to after_of
span_silent t m ks s h = (rw h refl, rw h refl)

-- one out of range is refused, and changes nothing
pub span_refused : (t : Table) (m : EndsBy) (ks : List Float) (s : ℕ) → good_span s ≡ false
    → (reply_to (on t m ks) (Span s) ≡ refused BadSpan) × (after_of (on t m ks) (Span s) ≡ on t m ks)
unfolding reply_to after_of
span_refused t m ks s h = (rw h refl, rw h refl)

-- a knot that finds a place prints nothing
pub knot_silent : (t : Table) (m : EndsBy) (ks : List Float) (x : Float) → length ks < places
    → (reply_to (on t m ks) (Knot x) ≡ silence) × (after_of (on t m ks) (Knot x) ≡ on t m (ks ++ (x ∷ [])))
unfolding reply_to after_of
knot_silent t m ks x h = (rw (lt-ltb (length ks) places h) refl, rw (lt-ltb (length ks) places h) refl)

-- a further knot is refused and dropped
pub knot_refused : (t : Table) (m : EndsBy) (ks : List Float) (x : Float) → places ≤ length ks
    → (reply_to (on t m ks) (Knot x) ≡ refused TooMany) × (after_of (on t m ks) (Knot x) ≡ on t m ks)
unfolding reply_to after_of
knot_refused t m ks x h = (rw (le-ltb (length ks) places h) refl, rw (le-ltb (length ks) places h) refl)

-- ---- the ends touch `find` only: every other record is answered alike
pub ends_only_find : (t : Table) (m k : EndsBy) (ks : List Float) (r : Record) → ((y : Float) → r ≡ Find y → ⊥)
    → reply_to (on t m ks) r ≡ reply_to (on t k ks) r
unfolding reply_to
ends_only_find t m k ks (CurveOf c) h = refl
ends_only_find t m k ks (Span s) h = refl
ends_only_find t m k ks (Knot x) h = refl
ends_only_find t m k ks (Ends j) h = refl
ends_only_find t m k ks (At x) h = refl
ends_only_find t m k ks (Find y) h = absurd (h y refl)
ends_only_find t m k ks (Turn c) h = refl
ends_only_find t m k ks Bad h = refl

-- ---- the span that is held is in range, or none
abbrev pub SpanHeld : Curve → Type 0
SpanHeld none = Unit
SpanHeld (on t m ks) = t.span ≤ day

pub held_after : (c : Curve) (r : Record) → SpanHeld c → SpanHeld (after_of c r)
unfolding after_of
held_after none (CurveOf b) h = omega arith
held_after none (Span s) h = tt
held_after none (Knot x) h = tt
held_after none (Ends k) h = tt
held_after none (At x) h = tt
held_after none (Find y) h = tt
held_after none (Turn b) h = tt
held_after none Bad h = tt
held_after (on t m ks) (CurveOf c) h = omega arith
held_after (on t m ks) (Span s) h = go (good_span s) refl
  where
    go : (g : Bool) → good_span s ≡ g → SpanHeld (cond g (on (record { basis = t.basis; span = s }) m ks) (on t m ks))
    go true e = (good_least s e).1
    go false e = h
held_after (on t m ks) (Knot x) h = h
held_after (on t m ks) (Ends k) h = h
held_after (on t m ks) (At x) h = h
held_after (on t m ks) (Find y) h = h
held_after (on t m ks) (Turn c) h = h
held_after (on t m ks) Bad h = h

-- ---- what is told is finite, so its bits are told exactly
value_of : (e : Evaluation) (v : Float) → value_reply e ≡ value v → e ≡ Ok v
value_of (Ok x) v h = let k : x ≡ v = cc in ap (λ (z : Float). Ok z) k
value_of (Err r) v h = never (cc)

place_no_value : (s : ℕ) (i : Inversion) (v : Float) → place_reply s i ≡ value v → ⊥
place_no_value s (Err (Refused r)) v h = never (cc)
place_no_value s (Err (OffCurve n)) v h = never (cc)
place_no_value s (Ok p) v h = never (cc)

curve_no_value : (s : ℕ) (c : Basis) (t : Conversion) (v : Float) → curve_reply s c t ≡ value v → ⊥
curve_no_value s c (gives l) v h = never (cc)
curve_no_value s c (refuses r) v h = never (cc)

-- only `at` tells a value, and it is finite
pub value_finite : (c : Curve) (r : Record) (v : Float) → reply_to c r ≡ value v → T (finite v)
unfolding reply_to
value_finite none (CurveOf b) v h = never (cc)
value_finite none (Span s) v h = never (cc)
value_finite none (Knot x) v h = never (cc)
value_finite none (Ends k) v h = never (cc)
value_finite none (At x) v h = never (cc)
value_finite none (Find y) v h = never (cc)
value_finite none (Turn b) v h = never (cc)
value_finite none Bad v h = never (cc)
value_finite (on t m ks) (CurveOf c) v h = never (cc)
value_finite (on t m ks) (Span s) v h = go (good_span s) h
  where
    go : (g : Bool) → cond g silence (refused BadSpan) ≡ value v → T (finite v)
    go true h = never (cc)
    go false h = never (cc)
value_finite (on t m ks) (Knot x) v h = go (ltb (length ks) places) h
  where
    go : (g : Bool) → cond g silence (refused TooMany) ≡ value v → T (finite v)
    go true h = never (cc)
    go false h = never (cc)
value_finite (on t m ks) (Ends k) v h = never (cc)
value_finite (on t m ks) (At x) v h = spline_finite t.basis x ks v (value_of (spline_of t.basis x ks) v h)
value_finite (on t m ks) (Find y) v h = absurd (place_no_value t.span (found_of m t.basis y ks) v h)
value_finite (on t m ks) (Turn c) v h = absurd (curve_no_value t.span c (converted_of t.basis c ks places) v h)
value_finite (on t m ks) Bad v h = never (cc)
