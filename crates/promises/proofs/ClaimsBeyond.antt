-- A place of a table with a span, or the one that a depth at a time carries, is the place of an inversion, and so is accepted where that is. And an answer by
-- `spent` that is not: 0, 0, 1, 1 over Linear, one round, where the midpoint 1/4 is told for the target 5/16. Assumes nothing.
use Rattle.uneven.specs.declared.DepthMiss.{DepthMiss}
use Rattle.uneven.specs.declared.DepthMiss.TheVariants.{Refused, OffCurve}
use Rattle.inverse_segment.specs.Inversion.{Inversion}
use Rattle.inverse_segment.specs.declared.Miss.TheVariants.{Refused, OffCurve}
use Rattle.spline.specs.Evaluation.{Evaluation}
use Rattle.std.specs.Prelude.{Ok, Err, false, Result}
use mathlib.Core.Path.{◌≡◌, refl, sym, ap, ◌∙◌}
use mathlib.Core.Bool.{Bool, true, false}
use mathlib.Core.List.{List, [], ◌∷◌}
use Prim.Native.Nat.{ℕ}
use lib.Count.{count_leading_zeros}
use lib.Dec.{T}
use lib.IntN.{negsuc}
use lib.ListN.{length}
use lib.Ieee.{Float, fin, binary64, of_bits, of_int, round, fits, add, sub, mul, div, lt, le, eq, neg, is_nan}
use Rattle.error.specs.Refusals.{first, Verdict}
use Rattle.error.proofs.First.{never}
use Rattle.basis.specs.declared.Basis.{Basis}
use Rattle.basis.specs.declared.Basis.TheVariants.{Linear}
use Rattle.basis.specs.Basis.{matrix_of}
use Rattle.doubles.specs.Numbers.{nought, one, half, magnitude_of}
use Rattle.doubles.specs.Lerp.{lerp_of}
use Rattle.checks.specs.Checks.{in_range, all_in_range, first_bad, precise}
use Rattle.inverse_segment.specs.declared.Place.{Place}
use Rattle.inverse_segment.specs.declared.Ground.TheVariants.{Spent}
use Rattle.inverse_segment.specs.Answer.{default_limit, default_precision}
use Rattle.inverse_segment.specs.Round.{narrow, halving, weighed, chord, kept, fraction, moved, settled, probed, round_of}
use Rattle.inverse_segment.specs.Rounds.{rounds}
use Rattle.inverse_segment.specs.Segment.{entered, enter}
use Rattle.inverse_segment.specs.declared.Method.{Method}
use Rattle.inverse_segment.specs.declared.Method.TheVariants.{AsCrate, Steady}
use Rattle.inverse_segment.specs.Method.{steady_limit}
use Rattle.inverse_search.specs.Bound.{bits_of}
use Rattle.inverse_search.specs.Search.{tries, last, halve, find}
use Rattle.inverse_order.specs.declared.EndsBy.{EndsBy}
use Rattle.inverse_order.specs.declared.EndsBy.TheVariants.{Knots}
use Rattle.inverse_order.specs.Order.{ordered, turns_at}
use Rattle.inverse.specs.Curve.{parameter_of, located}
use Rattle.inverse.specs.Inverse.{inverse_uses, inverse_by, inverse_of}
use Rattle.inverse.proofs.spline_inverse_with.Reads as spline_inverse_with
use Rattle.claim.specs.Claim.{claim_of}
use Rattle.claim.proofs.Own.{Settled, own_accepted}
use Rattle.claim.proofs.check_claim.Reads as check_claim
use Rattle.table_span.specs.declared.Table.{Table}
use Rattle.table.specs.Calls.{verdict_of, timed_of, table_inverse_by}
use Rattle.table.proofs.table_spline_inverse_by.Reads as table_spline_inverse_by
use Rattle.table.proofs.table_spline_inverse.Reads as table_spline_inverse
use Rattle.table.proofs.table_spline_inverse_steady.Reads as table_spline_inverse_steady
use Rattle.uneven.specs.declared.Depth.{Depth}
use Rattle.uneven.specs.Uneven.{depth_at, sounded, depth_uses, depth_of}
use Rattle.uneven.proofs.depth_at.Reads as depth_at
use Rattle.calls.specs.Calls.{Keeps}
use Rattle.promises.proofs.Claims.{Accepts, accepting, default_fits}
use Rattle.promises.proofs.Seconds.{past, at_second}

-- ---- a place by `value` or `edge`, claimed with its own segment, local place and precision
abbrev pub PlaceHolds : Basis → Float → Float → List Float → Place → Type 0
PlaceHolds b y ε ks p = Settled p.ground → Accepts b y p.segment p.local ε ks

place_holds : (m : EndsBy) (how : Method) (b : Basis) (y : Float) (ks : List Float) (check : Bool) (limit : ℕ) (ε : Float) (p : Place)
    → T (fits binary64 ε) → inverse_by m how b y ks check limit ε ≡ Ok p → PlaceHolds b y ε ks p
place_holds m how b y ks check limit ε p f e t = accepting b y p.segment p.local ε ks (own_accepted m how b y ks check limit ε f p e t)

-- ---- a table with a span
timed_holds : (m : EndsBy) (how : Method) (t : Table) (y : Float) (ks : List Float) (check : Bool) (limit : ℕ) (ε : Float) (p : Place) (n : ℕ)
    → T (fits binary64 ε) → table_inverse_by m how t y ks check limit ε ≡ Ok (p, n) → PlaceHolds t.basis y ε ks p
unfolding table_inverse_by
timed_holds m how t y ks check limit ε p n f h =
    let i = inverse_by m how t.basis y ks check limit ε in
    let w = past (verdict_of t (inverse_uses t.basis y ks check limit ε)) (timed_of t.span i) p n h in
    place_holds m how t.basis y ks check limit ε p f (at_second t.span i p n w.1).0

pub table_spline_inverse_by_own : Keeps table_spline_inverse_by.Learnt
    (λ κs a z e. T (fits binary64 a.0.precision)
    → (p : Place) (n : ℕ) → z ≡ Ok (p, n) → PlaceHolds a.1.0.basis a.1.1.0 a.0.precision a.1.1.1.0.now p)
table_spline_inverse_by_own κs a z e q f p n h =
    timed_holds a.0.ends a.0.method a.1.0 a.1.1.0 a.1.1.1.0.now a.0.check a.0.limit a.0.precision p n f (sym q ∙ h)

pub table_spline_inverse_own : Keeps table_spline_inverse.Learnt
    (λ κs a z e. (p : Place) (n : ℕ) → z ≡ Ok (p, n) → PlaceHolds a.0.basis a.1.0 default_precision a.1.1.0.now p)
table_spline_inverse_own κs a z e q p n h =
    timed_holds Knots AsCrate a.0 a.1.0 a.1.1.0.now a.1.1.1.0 default_limit default_precision p n default_fits (sym q ∙ h)

pub table_spline_inverse_steady_own : Keeps table_spline_inverse_steady.Learnt
    (λ κs a z e. (p : Place) (n : ℕ) → z ≡ Ok (p, n) → PlaceHolds a.0.basis a.1.0 default_precision a.1.1.0.now p)
table_spline_inverse_steady_own κs a z e q p n h =
    timed_holds Knots Steady a.0 a.1.0 a.1.1.0.now a.1.1.1.0 steady_limit default_precision p n default_fits (sym q ∙ h)

-- ---- a depth at a time: the place of the times
-- the place that an answer carries; any other one where it carries none
abbrev place_in : Result Depth DepthMiss → Place → Place
place_in (Ok d) p = d.place
place_in (Err (OffCurve n)) p = p
place_in (Err (Refused t r)) p = p

sounded_place : (v : Verdict) (i : Inversion) (f : Float → Evaluation) (d : Depth) → sounded v i f ≡ Ok d → i ≡ Ok d.place
sounded_place (Ok _) (Err (Refused r)) f d h = never (cc)
sounded_place (Ok _) (Err (OffCurve n)) f d h = never (cc)
sounded_place (Ok _) (Ok p) f d h = go (f p.parameter) h
  where
    go : (x : Evaluation) → depth_at p x ≡ Ok d → ◌≡◌ {A = Inversion} (Ok p) (Ok d.place)
    go (Ok v) k = ap Ok (ap (λ (s : Result Depth DepthMiss). place_in s p) k)
    go (Err r) k = never (cc)
sounded_place (Err q) (Err (Refused r)) f d h = never (cc)
sounded_place (Err q) (Err (OffCurve n)) f d h = never (cc)
sounded_place (Err q) (Ok p) f d h = never (cc)

pub depth_at_own : Keeps depth_at.Learnt
    (λ κs a z e. T (fits binary64 a.1.1.1.1.1.1.0)
    → (d : Depth) → z ≡ Ok d → PlaceHolds a.0 a.1.1.1.1.0 a.1.1.1.1.1.1.0 a.1.0.now d.place)
unfolding depth_of
depth_at_own κs a z e q f d h =
    let ts = a.1.0.now in
    place_holds Knots AsCrate a.0 a.1.1.1.1.0 ts true a.1.1.1.1.1.0 a.1.1.1.1.1.1.0 d.place f
    (sounded_place (first (depth_uses a.0 (length ts) a.1.1.0 a.1.1.1.0.now)) _ _ d (sym q ∙ h))

-- ---- an answer by `spent` may fail
abbrev quarter : Float
quarter = fin false 1 (negsuc 1)

abbrev pub five_sixteenths : Float
five_sixteenths = fin false 5 (negsuc 3)

-- 2^-10
abbrev pub fine : Float
fine = fin false 1 (negsuc 9)

abbrev pub ramp : List Float
ramp = nought ∷ nought ∷ one ∷ one ∷ []

abbrev pub spent_place : Place
spent_place = record { parameter = quarter; ground = Spent; segment = 0; local = quarter; lower = nought; upper = half; count = 3 }

is_spent_lem : inverse_of Linear five_sixteenths ramp false 1 fine ≡ Ok spent_place
unfolding inverse_by located find tries last halve bits_of enter entered rounds round_of probed settled moved fraction kept weighed halving chord narrow
    ordered turns_at precise parameter_of in_range all_in_range first_bad magnitude_of lerp_of matrix_of of_bits of_int round add sub mul div lt le
    eq neg is_nan
    count_leading_zeros
is_spent_lem = refl

is_far : claim_of Linear five_sixteenths 0 quarter fine ramp ≡ Ok false
unfolding claim_of in_range all_in_range first_bad precise magnitude_of matrix_of of_bits of_int round add sub mul div lt le eq neg is_nan
is_far = refl

-- the call, asked with one round, answers that place by `spent` ..
pub spent_told : Keeps spline_inverse_with.Learnt
    (λ κs a z e. a.0 ≡ Linear → a.1.0 ≡ five_sixteenths → a.1.1.0.now ≡ ramp → a.1.1.1.0 ≡ false → a.1.1.1.1.0 ≡ 1
    → a.1.1.1.1.1.0 ≡ fine → z ≡ Ok spent_place)
spent_told κs a z e p q0 q1 q2 q3 q4 q5 = p ∙ rw (q0, q1, q2, q3, q4, q5) is_spent_lem

-- .. which, claimed with its own segment, local place and precision, differs
pub spent_differs : Keeps check_claim.Learnt
    (λ κs a z e. a.0 ≡ Linear → a.1.0 ≡ five_sixteenths → a.1.1.0 ≡ spent_place.segment → a.1.1.1.0 ≡ spent_place.local
    → a.1.1.1.1.0 ≡ fine → a.1.1.1.1.1.0.now ≡ ramp → z ≡ Ok false)
spent_differs κs a z e p q0 q1 q2 q3 q4 q5 = p ∙ rw (q0, q1, q2, q3, q4, q5) is_far
