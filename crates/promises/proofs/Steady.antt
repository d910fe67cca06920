-- The calls by the steady method with its defaults: never spent, few evaluations, and all that is promised of an inversion by any method; of one segment, of a
-- curve,
-- of a table with a span, and what others link of them. Assumes nothing.
use Rattle.inverse_segment.specs.declared.Miss.{Miss}
use Rattle.inverse_segment.specs.Inversion.{Inversion}
use Rattle.inverse_segment.specs.declared.Miss.TheVariants.{Refused, OffCurve}
use Rattle.std.specs.Prelude.{Ok, Err, Some, Result, ℕ}
use mathlib.Core.Path.{◌≡◌, refl, sym, subst, ◌∙◌}
use mathlib.Core.Bool.{Bool, true, not}
use mathlib.Core.List.{List, ◌∷◌}
use Prim.Native.Nat.{ℕ, ◌≤◌}
use native.Mathlib.Nat.{le_trans}
use native.Mathlib.Omega.{arith}
use lib.Dec.{T, lit<}
use lib.ListN.{length}
use lib.Ieee.{Float}
use Rattle.error.specs.declared.Refusal.{Refusal}
use Rattle.error.specs.declared.Refusal.TheVariants.{BadKnot, TurnsBack}
use Rattle.error.specs.Refusals.{rows, Verdict}
use Rattle.error.proofs.First.{First}
use Rattle.basis.specs.declared.Basis.{Basis}
use Rattle.basis.specs.Basis.{segments_of}
use Rattle.inverse_segment.specs.declared.Place.{Place}
use Rattle.inverse_segment.specs.Answer.{count_told, inverse_segment_uses, default_precision}
use Rattle.inverse_segment.specs.declared.Method.{Method}
use Rattle.inverse_segment.specs.declared.Method.TheVariants.{Steady}
use Rattle.inverse_segment.specs.Method.{steady_limit, steady_segment_of}
use Rattle.inverse_segment.specs.Steady.{steady}
use Rattle.inverse_segment.proofs.Ending.{is_spent}
use Rattle.inverse_segment.proofs.Times.{default_enough}
use Rattle.inverse_segment.proofs.Timely.{NeverSpent, segment_timely}
use Rattle.inverse_segment.proofs.spline_inverse_segment_steady.Reads as spline_inverse_segment_steady
use Rattle.inverse_search.specs.Bound.{bound_of}
use Rattle.inverse_order.specs.declared.EndsBy.{EndsBy}
use Rattle.inverse_order.specs.declared.EndsBy.TheVariants.{Knots}
use Rattle.inverse.specs.Inverse.{inverse_uses, steady_of}
use Rattle.inverse.proofs.Fewer.{Fewer, twice}
use Rattle.inverse.proofs.Promises.{Promised, reply_promised}
use Rattle.inverse.proofs.Refusing.{inverse_refused_only, inverse_refused_where, inverse_turns_back}
use Rattle.inverse.proofs.Timely.{timely}
use Rattle.inverse_order.proofs.TurnsBack.{AgainstAt}
use Rattle.inverse.proofs.spline_inverse_steady.Reads as spline_inverse_steady
use Rattle.table_span.specs.declared.Table.{Table}
use Rattle.table_span.specs.Second.{good_span, bad_span, elapsed}
use Rattle.table.specs.Calls.{verdict_of, timed_of, timed_unless, table_inverse_by, table_steady_of}
use Rattle.table.proofs.Spans.{inverse_base}
use Rattle.table_span.proofs.Largest.{Largest}
use Rattle.table.proofs.table_spline_inverse_steady.Reads as table_spline_inverse_steady
use Rattle.exports_reply.specs.Replies.{chosen_of}
use Rattle.exports_table.specs.Tables.{table_of}
use Rattle.simmerstoat.proofs.steady.simmerstoat_spline_inverse_steady.Reads as c_spline_inverse_steady
use Rattle.simmerstoat.proofs.steady.simmerstoat_spline_inverse_segment_steady.Reads as c_spline_inverse_segment_steady
use Rattle.simmerstoat.proofs.steady.simmerstoat_table_spline_inverse_steady.Reads as c_table_spline_inverse_steady
use Rattle.calls.specs.Calls.{AsksNothing, Keeps, OneReply, Exactly}
use Rattle.promises.specs.Numbers.{timed_number}
use Rattle.promises.proofs.Eleven.{Eleven, by_eleven}
use Rattle.promises.proofs.Exports.{NotZero, place_kept, whole_kept}
use Rattle.promises.proofs.Fewer.{reply_fewer}
use Rattle.promises.proofs.Inverting.{SegmentPromised, segment_promised}
use Rattle.promises.proofs.Knots.{FirstBad, knot_first}
use Rattle.promises.proofs.Numbers.{InverseNumber, inverts, by_places}
use Rattle.promises.proofs.NumbersBeyond.{TableInversionNumber, timed_owed}
use Rattle.promises.proofs.Refusing.{carried, segment_place_refused}
use Rattle.promises.proofs.Seconds.{table_place_refused, second_is_largest}
use Rattle.promises.proofs.Spans as timed

one : {A : Type 0} {d x x' : A} → x ≡ d → x' ≡ d → x ≡ x'
one p q = p ∙ sym q

-- ---- one segment: never spent, and at most 41 evaluations
pub spline_inverse_segment_steady_timely : Keeps spline_inverse_segment_steady.Learnt (λ κs a z e. NeverSpent z × (count_told z ≤ 41))
spline_inverse_segment_steady_timely κs a z e p =
    let r = segment_timely steady_limit a.0 a.1.0 a.1.1.0.now default_precision 39 default_enough in
    subst (λ (i : Inversion). NeverSpent i × (count_told i ≤ 41)) (sym p) (r.0 (lit< tt), r.1)

pub spline_inverse_segment_steady_promised : Keeps spline_inverse_segment_steady.Learnt
    (λ κs a z e. SegmentPromised Steady a.0 a.1.0 a.1.1.0.now steady_limit default_precision z)
spline_inverse_segment_steady_promised κs a z e p = segment_promised Steady a.0 a.1.0 a.1.1.0.now steady_limit default_precision z p

pub spline_inverse_segment_steady_asks_nothing : AsksNothing spline_inverse_segment_steady.Asked
spline_inverse_segment_steady_asks_nothing κs a = tt

pub spline_inverse_segment_steady_one_reply : OneReply spline_inverse_segment_steady.Learnt (λ κs z e z' e'. z ≡ z')
spline_inverse_segment_steady_one_reply κs a z z' e e' p q = one p q

pub spline_inverse_segment_steady_refuses : Keeps spline_inverse_segment_steady.Learnt
    (λ κs a z e. (r : Refusal) → Exactly (z ≡ Err (Refused r)) (First (inverse_segment_uses a.1.0 a.1.1.0.now steady_limit default_precision) rows r))
spline_inverse_segment_steady_refuses κs a z e p r = carried p (segment_place_refused steady a.0 a.1.0 a.1.1.0.now steady_limit default_precision r)

pub spline_inverse_segment_steady_number : Keeps spline_inverse_segment_steady.Learnt
    (λ κs a z e. InverseNumber (inverse_segment_uses a.1.0 a.1.1.0.now steady_limit default_precision) z)
spline_inverse_segment_steady_number κs a z e p = inverts _ z refl refl (spline_inverse_segment_steady_refuses κs a z e p)

pub spline_inverse_segment_steady_first_bad : Keeps spline_inverse_segment_steady.Learnt
    (λ κs a z e. (i : ℕ) → z ≡ Err (Refused (BadKnot i)) → FirstBad a.1.1.0.now i)
spline_inverse_segment_steady_first_bad κs a z e p i h =
    knot_first (inverse_segment_uses a.1.0 a.1.1.0.now steady_limit default_precision) a.1.1.0.now i refl refl
    ((spline_inverse_segment_steady_refuses κs a z e p (BadKnot i)).0 h)

-- ---- a curve: never spent, and at most 39 + 24 evaluations, or 39 + 2b + 4
abbrev pub SteadyWithin : Basis → List Float → Inversion → Type 0
SteadyWithin b ks z = NeverSpent z × (count_told z ≤ bound_of (segments_of b (length ks)) 39)

steady_timely : (b : Basis) (y : Float) (ks : List Float) (check : Bool) → SteadyWithin b ks (steady_of b y ks check)
steady_timely b y ks check = let r = timely Knots b ks steady_limit y check default_precision 39 default_enough in (r.0 (lit< tt), le_trans r.1 (omega arith))

pub spline_inverse_steady_timely : Keeps spline_inverse_steady.Learnt (λ κs a z e. SteadyWithin a.0 a.1.1.0.now z)
spline_inverse_steady_timely κs a z e p =
    subst (SteadyWithin a.0 a.1.1.0.now) (sym p) (steady_timely a.0 a.1.0 a.1.1.0.now a.1.1.1.0)

pub spline_inverse_steady_promised : Keeps spline_inverse_steady.Learnt
    (λ κs a z e. Promised Knots Steady a.0 a.1.0 a.1.1.0.now a.1.1.1.0 steady_limit default_precision z)
spline_inverse_steady_promised κs a z e p = reply_promised Knots Steady a.0 a.1.0 a.1.1.0.now a.1.1.1.0 steady_limit default_precision z p

pub spline_inverse_steady_fewer : Keeps spline_inverse_steady.Learnt
    (λ κs a z e. Fewer 2 z (twice Knots Steady a.0 a.1.0 a.1.1.0.now a.1.1.1.0 steady_limit default_precision))
spline_inverse_steady_fewer κs a z e p = reply_fewer Knots Steady a.0 a.1.0 a.1.1.0.now a.1.1.1.0 steady_limit default_precision z p

pub spline_inverse_steady_asks_nothing : AsksNothing spline_inverse_steady.Asked
spline_inverse_steady_asks_nothing κs a = tt

pub spline_inverse_steady_one_reply : OneReply spline_inverse_steady.Learnt (λ κs z e z' e'. z ≡ z')
spline_inverse_steady_one_reply κs a z z' e e' p q = one p q

pub spline_inverse_steady_refuses : Keeps spline_inverse_steady.Learnt
    (λ κs a z e. (r : Refusal)
    → Exactly (z ≡ Err (Refused r)) (First (inverse_uses a.0 a.1.0 a.1.1.0.now a.1.1.1.0 steady_limit default_precision) rows r))
spline_inverse_steady_refuses κs a z e p r =
    carried p (
      inverse_refused_only Knots Steady a.0 a.1.0 a.1.1.0.now a.1.1.1.0 steady_limit default_precision r,
      inverse_refused_where Knots Steady a.0 a.1.0 a.1.1.0.now a.1.1.1.0 steady_limit default_precision r,
    )

pub spline_inverse_steady_number : Keeps spline_inverse_steady.Learnt
    (λ κs a z e. InverseNumber (inverse_uses a.0 a.1.0 a.1.1.0.now a.1.1.1.0 steady_limit default_precision) z)
spline_inverse_steady_number κs a z e p = inverts _ z refl refl (spline_inverse_steady_refuses κs a z e p)

pub spline_inverse_steady_eleven : Keeps spline_inverse_steady.Learnt
    (λ κs a z e. Eleven Knots Steady a.0 a.1.0 a.1.1.0.now a.1.1.1.0 steady_limit default_precision z)
spline_inverse_steady_eleven κs a z e p =
    by_eleven Knots Steady a.0 a.1.0 a.1.1.0.now a.1.1.1.0 steady_limit default_precision z (spline_inverse_steady_number κs a z e p)
    (spline_inverse_steady_promised κs a z e p)

pub spline_inverse_steady_first_bad : Keeps spline_inverse_steady.Learnt (λ κs a z e. (i : ℕ) → z ≡ Err (Refused (BadKnot i)) → FirstBad a.1.1.0.now i)
spline_inverse_steady_first_bad κs a z e p i h =
    knot_first (inverse_uses a.0 a.1.0 a.1.1.0.now a.1.1.1.0 steady_limit default_precision) a.1.1.0.now i refl refl
    ((spline_inverse_steady_refuses κs a z e p (BadKnot i)).0 h)

pub spline_inverse_steady_first_turn : Keeps spline_inverse_steady.Learnt
    (λ κs a z e. (i : ℕ) → z ≡ Err (Refused (TurnsBack i))
    → T a.1.1.1.0 × AgainstAt a.1.1.0.now i × ((j : ℕ) → AgainstAt a.1.1.0.now j → i ≤ j))
spline_inverse_steady_first_turn κs a z e p i h =
    inverse_turns_back Knots Steady a.0 a.1.0 a.1.1.0.now a.1.1.1.0 steady_limit default_precision i (sym p ∙ h)

-- ---- a table with a span: a place is never spent, and it and 11 tell at most as many evaluations
abbrev pub TableSteadyWithin : Basis → List Float → Result (Place × ℕ) Miss → Type 0
TableSteadyWithin b ks (Ok (p, n)) = T (not (is_spent p.ground)) × (p.count ≤ bound_of (segments_of b (length ks)) 39)
TableSteadyWithin b ks (Err (OffCurve n)) = n ≤ bound_of (segments_of b (length ks)) 39
TableSteadyWithin b ks (Err (Refused r)) = Unit

timed_within : (b : Basis) (ks : List Float) (s : ℕ) (v : Verdict) (i : Inversion) → SteadyWithin b ks i
    → TableSteadyWithin b ks (timed_unless v (timed_of s i))
timed_within b ks s (Ok _) (Ok p) h = h
timed_within b ks s (Ok _) (Err (OffCurve n)) h = h.1
timed_within b ks s (Ok _) (Err (Refused r)) h = tt
timed_within b ks s (Err r) i h = tt

table_timely : (t : Table) (y : Float) (ks : List Float) (check : Bool) → TableSteadyWithin t.basis ks (table_steady_of t y ks check)
unfolding table_inverse_by
table_timely t y ks check =
    timed_within t.basis ks t.span (verdict_of t (inverse_uses t.basis y ks check steady_limit default_precision)) (steady_of t.basis y ks check)
    (steady_timely t.basis y ks check)

pub table_spline_inverse_steady_timely : Keeps table_spline_inverse_steady.Learnt (λ κs a z e. TableSteadyWithin a.0.basis a.1.1.0.now z)
table_spline_inverse_steady_timely κs a z e q =
    subst (TableSteadyWithin a.0.basis a.1.1.0.now) (sym q) (table_timely a.0 a.1.0 a.1.1.0.now a.1.1.1.0)

pub table_spline_inverse_steady_asks_nothing : AsksNothing table_spline_inverse_steady.Asked
table_spline_inverse_steady_asks_nothing κs a = tt

pub table_spline_inverse_steady_one_reply : OneReply table_spline_inverse_steady.Learnt (λ κs z e z' e'. z ≡ z')
table_spline_inverse_steady_one_reply κs a z z' e e' p q = one p q

-- with a good span: the base's call
pub table_spline_inverse_steady_base : Keeps table_spline_inverse_steady.Learnt
    (λ κs a z e. good_span a.0.span ≡ true → z ≡ timed_of a.0.span (steady_of a.0.basis a.1.0 a.1.1.0.now a.1.1.1.0))
table_spline_inverse_steady_base κs a z e p g = p ∙ inverse_base Knots Steady a.0 a.1.0 a.1.1.0.now a.1.1.1.0 steady_limit default_precision g

pub table_spline_inverse_steady_refuses : Keeps table_spline_inverse_steady.Learnt
    (λ κs a z e. (r : Refusal)
    → Exactly (z ≡ Err (Refused r))
    (First (bad_span a.0.span ∷ inverse_uses a.0.basis a.1.0 a.1.1.0.now a.1.1.1.0 steady_limit default_precision) rows r))
table_spline_inverse_steady_refuses κs a z e p r =
    carried p (table_place_refused a.0 r Knots Steady a.1.0 a.1.1.0.now a.1.1.1.0 steady_limit default_precision)

pub table_spline_inverse_steady_number : Keeps table_spline_inverse_steady.Learnt
    (λ κs a z e. TableInversionNumber
    (bad_span a.0.span ∷ inverse_uses a.0.basis a.1.0 a.1.1.0.now a.1.1.1.0 steady_limit default_precision) z)
table_spline_inverse_steady_number κs a z e p =
    by_places timed_number (λ a. Err (Refused a)) (λ a. Err (OffCurve a)) timed_owed _ z refl refl (table_spline_inverse_steady_refuses κs a z e p)

pub table_spline_inverse_steady_second : Keeps table_spline_inverse_steady.Learnt
    (λ κs a z e. (p : Place) (n : ℕ) → z ≡ Ok (p, n) → Largest a.0.span (elapsed a.0.span p.parameter) n)
table_spline_inverse_steady_second κs a z e p q n h =
    second_is_largest Knots Steady a.0 a.1.0 a.1.1.0.now a.1.1.1.0 steady_limit default_precision q n (sym p ∙ h)

-- ---- what others link
pub c_spline_inverse_steady_asks_nothing : AsksNothing c_spline_inverse_steady.Asked
c_spline_inverse_steady_asks_nothing κs a = tt

pub c_spline_inverse_segment_steady_asks_nothing : AsksNothing c_spline_inverse_segment_steady.Asked
c_spline_inverse_segment_steady_asks_nothing κs a = tt

pub c_table_spline_inverse_steady_asks_nothing : AsksNothing c_table_spline_inverse_steady.Asked
c_table_spline_inverse_steady_asks_nothing κs a = tt

pub c_spline_inverse_steady_one_reply : OneReply c_spline_inverse_steady.Learnt
    (λ κs z e z' e'. (z ≡ z') × (e.1.1.1.1.0.now ≡ e'.1.1.1.1.0.now) × (e.1.1.1.1.1.0.now ≡ e'.1.1.1.1.1.0.now))
c_spline_inverse_steady_one_reply κs a z z' e e' p q = (one p.0 q.0, one p.1.0 q.1.0, one p.1.1 q.1.1)

pub c_spline_inverse_segment_steady_one_reply : OneReply c_spline_inverse_segment_steady.Learnt
    (λ κs z e z' e'. (z ≡ z') × (e.1.1.1.0.now ≡ e'.1.1.1.0.now) × (e.1.1.1.1.0.now ≡ e'.1.1.1.1.0.now))
c_spline_inverse_segment_steady_one_reply κs a z z' e e' p q = (one p.0 q.0, one p.1.0 q.1.0, one p.1.1 q.1.1)

pub c_table_spline_inverse_steady_one_reply : OneReply c_table_spline_inverse_steady.Learnt
    (λ κs z e z' e'. (z ≡ z') × (e.1.1.1.1.1.0.now ≡ e'.1.1.1.1.1.0.now) × (e.1.1.1.1.1.1.0.now ≡ e'.1.1.1.1.1.1.0.now))
c_table_spline_inverse_steady_one_reply κs a z z' e e' p q = (one p.0 q.0, one p.1.0 q.1.0, one p.1.1 q.1.1)

pub c_spline_inverse_steady_writes_nothing : Keeps c_spline_inverse_steady.Learnt
    (λ κs a z e. NotZero z → (e.1.1.1.1.0.now ≡ a.1.1.1.1.0.now) × ((z ≡ 11 → ⊥) → e.1.1.1.1.1.0.now ≡ a.1.1.1.1.1.0.now))
c_spline_inverse_steady_writes_nothing κs a z e p h =
    let f : Basis → Inversion = λ b. steady_of b a.1.0 a.1.1.0.now a.1.1.1.0 in
    let c = chosen_of a.0 in (
      p.1.0 ∙ place_kept c f a.1.1.1.1.0.now (λ w. h (p.0 ∙ w)),
      λ g. p.1.1
          ∙ whole_kept c f a.1.1.1.1.1.0.now (λ w. h (p.0 ∙ w)) (λ w. g (p.0 ∙ w)),
    )

pub c_spline_inverse_segment_steady_writes_nothing : Keeps c_spline_inverse_segment_steady.Learnt
    (λ κs a z e. NotZero z → (e.1.1.1.0.now ≡ a.1.1.1.0.now) × ((z ≡ 11 → ⊥) → e.1.1.1.1.0.now ≡ a.1.1.1.1.0.now))
c_spline_inverse_segment_steady_writes_nothing κs a z e p h =
    let f : Basis → Inversion = λ b. steady_segment_of b a.1.0 a.1.1.0.now in
    let c = chosen_of a.0 in (
      p.1.0 ∙ place_kept c f a.1.1.1.0.now (λ w. h (p.0 ∙ w)),
      λ g. p.1.1
          ∙ whole_kept c f a.1.1.1.1.0.now (λ w. h (p.0 ∙ w)) (λ w. g (p.0 ∙ w)),
    )

pub c_table_spline_inverse_steady_writes_nothing : Keeps c_table_spline_inverse_steady.Learnt
    (λ κs a z e. NotZero z
    → (e.1.1.1.1.1.0.now ≡ a.1.1.1.1.1.0.now) × ((z ≡ 11 → ⊥) → e.1.1.1.1.1.1.0.now ≡ a.1.1.1.1.1.1.0.now))
c_table_spline_inverse_steady_writes_nothing κs a z e p h =
    let f : Basis → EndsBy → Method → Result (Place × ℕ) Miss =
    λ b n m. table_inverse_by n m (table_of a.1.0 b) a.1.1.0 a.1.1.1.0.now a.1.1.1.1.0 steady_limit default_precision in
    let c = chosen_of a.0 in
    let w = Some (Knots, Steady) in (
      p.1.0 ∙ timed.place_kept c w f a.1.1.1.1.1.0.now (λ q. h (p.0 ∙ q)),
      λ g. p.1.1
          ∙ timed.whole_kept c w f a.1.1.1.1.1.1.0.now (λ q. h (p.0 ∙ q)) (λ q. g (p.0 ∙ q)),
    )
