-- What others link writes exactly one whole number where it returns 11: the count of the call's answer, at place 2; every other stays. A row never gives 11,
-- since no call has use for it, so such a reply is the case that carries the count. Assumes nothing.
use Rattle.uneven.specs.declared.DepthMiss.{DepthMiss}
use Rattle.uneven.specs.declared.Depth.{Depth}
use Rattle.uneven.specs.declared.DepthMiss.TheVariants.{Refused, OffCurve}
use Rattle.inverse_segment.specs.declared.Miss.{Miss}
use Rattle.inverse_segment.specs.declared.Place.{Place}
use Rattle.inverse_segment.specs.Inversion.{Inversion}
use Rattle.inverse_segment.specs.declared.Miss.TheVariants.{Refused, OffCurve}
use Rattle.std.specs.Prelude.{Some, None, Option, Ok, Err, Result, ℕ}
use mathlib.Core.Path.{◌≡◌, refl, sym, ap, ◌∙◌, subst}
use mathlib.Core.Bool.{Bool, true, false}
use mathlib.Core.List.{List, ◌∷◌}
use Prim.Native.Nat.{ℕ, ◌%◌}
use native.Mathlib.Omega.{arith}
use lib.ListN.{set}
use lib.Ieee.{Float}
use Rattle.error.specs.declared.Refusal.{Refusal}
use Rattle.error.specs.Refusals.{number_of, reply_of, Uses, rows, applies}
use Rattle.error.proofs.First.{never, First, first_applies}
use Rattle.error.proofs.Numbers.{reply_number}
use Rattle.basis.specs.declared.Basis.{Basis}
use Rattle.inverse_segment.specs.Answer.{inverse_segment_uses, inverse_segment_by, inverse_segment_of, default_limit, default_precision}
use Rattle.inverse_segment.specs.declared.Method.{Method}
use Rattle.inverse_segment.specs.declared.Method.TheVariants.{AsCrate, Steady}
use Rattle.inverse_segment.specs.Method.{rule_of, steady_limit, steady_segment_of}
use Rattle.inverse_order.specs.declared.EndsBy.{EndsBy}
use Rattle.inverse_order.specs.declared.EndsBy.TheVariants.{Knots}
use Rattle.inverse.specs.Inverse.{inverse_uses, inverse_by, inverse_of, steady_of}
use Rattle.inverse.proofs.Refusing.{inverse_refused_only}
use Rattle.table_span.specs.Second.{bad_span}
use Rattle.table.specs.Calls.{table_inverse_by, table_steady_of}
use Rattle.uneven.specs.declared.WhichTable.TheVariants.{Times, Depths}
use Rattle.uneven.specs.Uneven.{depth_of}
use Rattle.uneven.proofs.Call.{times_only}
use Rattle.exports_reply.specs.Replies.{chosen_of, no_basis, chosen, inverted_reply, whole_left}
use Rattle.exports_reply.specs.Options.{way_of, way}
use Rattle.exports_table.specs.Tables.{table_of, timed_reply, timed_whole}
use Rattle.exports_value.specs.Uneven.{sounded_reply, depth_whole_left}
use Rattle.simmerstoat.proofs.simmerstoat_spline_inverse.Reads as spline_inverse
use Rattle.simmerstoat.proofs.simmerstoat_spline_inverse_with.Reads as spline_inverse_with
use Rattle.simmerstoat.proofs.simmerstoat_spline_inverse_segment.Reads as spline_inverse_segment
use Rattle.simmerstoat.proofs.simmerstoat_spline_inverse_segment_with.Reads as spline_inverse_segment_with
use Rattle.simmerstoat.proofs.options.simmerstoat_spline_inverse_by.Reads as spline_inverse_by
use Rattle.simmerstoat.proofs.options.simmerstoat_spline_inverse_segment_by.Reads as spline_inverse_segment_by
use Rattle.simmerstoat.proofs.steady.simmerstoat_spline_inverse_steady.Reads as spline_inverse_steady
use Rattle.simmerstoat.proofs.steady.simmerstoat_spline_inverse_segment_steady.Reads as spline_inverse_segment_steady
use Rattle.simmerstoat.proofs.steady.simmerstoat_table_spline_inverse_steady.Reads as table_spline_inverse_steady
use Rattle.simmerstoat.proofs.spans.simmerstoat_table_spline_inverse.Reads as table_spline_inverse
use Rattle.simmerstoat.proofs.spans.simmerstoat_table_spline_inverse_by.Reads as table_spline_inverse_by
use Rattle.simmerstoat.proofs.hours.simmerstoat_depth_at.Reads as depth_at
use Rattle.calls.specs.Calls.{Keeps}
use Rattle.promises.proofs.Refusing.{segment_place_refused}
use Rattle.promises.proofs.Seconds.{table_place_refused}

-- ---- a row never replies 11
no_eleven : (us : Uses) (r : Refusal) → applies 11 us ≡ false → First us rows r → reply_of r ≡ 11 → ⊥
no_eleven us r u f e =
    let q : number_of r ≡ 11 = sym (reply_number r) ∙ ap (λ (n : ℕ). n % 256) e in
    let t : applies 11 us ≡ true = subst (λ (n : ℕ). applies n us ≡ true) q (first_applies us rows r f).0 in
    never (cc)

-- ---- one count is left: says n is that the answer is the case with the count n
abbrev pub OneCount : (ℕ → Type 0) → List ℕ → List ℕ → Type 0
OneCount says old new = (n : ℕ) × says n × (new ≡ set old 2 n)

inverted_count : (us : Uses) (i : Inversion) → applies 11 us ≡ false → ((r : Refusal) → i ≡ Err (Refused r) → First us rows r) → (old : List ℕ)
    → inverted_reply i ≡ 11 → OneCount (λ n. i ≡ Err (OffCurve n)) old (whole_left i old)
inverted_count us (Ok p) u f old h = never (let z : ◌≡◌ {A = ℕ} 0 1 = omega (arith, h) in z)
inverted_count us (Err (OffCurve n)) u f old h = (n, refl, refl)
inverted_count us (Err (Refused r)) u f old h = absurd (no_eleven us r u (f r refl) h)

timed_count : (us : Uses) (i : Result (Place × ℕ) Miss) → applies 11 us ≡ false → ((r : Refusal) → i ≡ Err (Refused r) → First us rows r) → (old : List ℕ)
    → timed_reply i ≡ 11 → OneCount (λ n. i ≡ Err (OffCurve n)) old (timed_whole i old)
timed_count us (Ok (p, s)) u f old h = never (let z : ◌≡◌ {A = ℕ} 0 1 = omega (arith, h) in z)
timed_count us (Err (OffCurve n)) u f old h = (n, refl, refl)
timed_count us (Err (Refused r)) u f old h = absurd (no_eleven us r u (f r refl) h)

-- ---- by a basis, and by a way
module _ {Z : Type 0} (reply : Z → ℕ) (left : Z → List ℕ → List ℕ) (off : ℕ → Z) (old : List ℕ) where
  abbrev Counted : Z → Type 0
  Counted z = reply z ≡ 11 → OneCount (λ n. z ≡ off n) old (left z old)

  by_basis : (c : Option Basis) (f : Basis → Z) → ((b : Basis) → Counted (f b)) → chosen c no_basis (λ b. reply (f b)) ≡ 11
      → OneCount (λ n. chosen c ⊥ (λ b. f b ≡ off n)) old (chosen c old (λ b. left (f b) old))
  by_basis None f k h = never (let z : ◌≡◌ {A = ℕ} 0 1 = omega (arith, h) in z)
  by_basis (Some b) f k h = k b h

  by_way_lem : (c : Option Basis) (w : Option (EndsBy × Method)) (f : Basis → EndsBy → Method → Z) → ((b : Basis) (e : EndsBy) (m : Method) → Counted (f b e m))
      → chosen c no_basis (λ b. way w no_basis (λ e m. reply (f b e m))) ≡ 11
      → OneCount (λ n. chosen c ⊥ (λ b. way w ⊥ (λ e m. f b e m ≡ off n))) old (chosen c old (λ b. way w old (λ e m. left (f b e m) old)))
  by_way_lem None w f k h = never (let z : ◌≡◌ {A = ℕ} 0 1 = omega (arith, h) in z)
  by_way_lem (Some b) None f k h = never (let z : ◌≡◌ {A = ℕ} 0 1 = omega (arith, h) in z)
  by_way_lem (Some b) (Some (e, m)) f k h = k b e m h

-- the reply and what is left are the definition's
carried : {Says : ℕ → Type 0} (old : List ℕ) {new d : List ℕ} {z r : ℕ} → z ≡ r → new ≡ d → (r ≡ 11 → OneCount Says old d) → z ≡ 11 → OneCount Says old new
carried old e l k h = let c = k (sym e ∙ h) in (c.0, c.1, l ∙ c.2)

-- ---- a curve
module _ (y : Float) (ks : List Float) (check : Bool) (limit : ℕ) (ε : Float) (old : List ℕ) where
  curve_count : (b : Basis) (e : EndsBy) (m : Method) → Counted inverted_reply whole_left (λ a. Err (OffCurve a)) old (inverse_by e m b y ks check limit ε)
  curve_count b e m =
      inverted_count (inverse_uses b y ks check limit ε) (inverse_by e m b y ks check limit ε) refl (inverse_refused_only e m b y ks check limit ε) old

  table_count : (span : ℕ) (b : Basis) (e : EndsBy) (m : Method)
      → Counted timed_reply timed_whole (λ a. Err (OffCurve a)) old (table_inverse_by e m (table_of span b) y ks check limit ε)
  table_count span b e m =
      timed_count (bad_span span ∷ inverse_uses b y ks check limit ε) (table_inverse_by e m (table_of span b) y ks check limit ε) refl
      (λ r h. (table_place_refused (table_of span b) r e m y ks check limit ε).0 h) old

pub c_spline_inverse_one_count : Keeps spline_inverse.Learnt
    (λ κs a z e. z ≡ 11
    → OneCount (λ n. chosen (chosen_of a.0) ⊥
    (λ b. inverse_of b a.1.0 a.1.1.0.now a.1.1.1.0 default_limit default_precision ≡ Err (OffCurve n))) a.1.1.1.1.1.0.now
    e.1.1.1.1.1.0.now)
c_spline_inverse_one_count κs a z e p =
    let old = a.1.1.1.1.1.0.now in
    let f : Basis → Inversion = λ b. inverse_of b a.1.0 a.1.1.0.now a.1.1.1.0 default_limit default_precision in
    carried old p.0 p.1.1
    (by_basis inverted_reply whole_left (λ a. Err (OffCurve a)) old (chosen_of a.0) f
    (λ b. curve_count a.1.0 a.1.1.0.now a.1.1.1.0 default_limit default_precision old b Knots AsCrate))

pub c_spline_inverse_with_one_count : Keeps spline_inverse_with.Learnt
    (λ κs a z e. z ≡ 11
    → OneCount (λ n. chosen (chosen_of a.0) ⊥
    (λ b. inverse_of b a.1.0 a.1.1.0.now a.1.1.1.0 a.1.1.1.1.0 a.1.1.1.1.1.0 ≡ Err (OffCurve n)))
    a.1.1.1.1.1.1.1.0.now e.1.1.1.1.1.1.1.0.now)
c_spline_inverse_with_one_count κs a z e p =
    let old = a.1.1.1.1.1.1.1.0.now in
    let f : Basis → Inversion = λ b. inverse_of b a.1.0 a.1.1.0.now a.1.1.1.0 a.1.1.1.1.0 a.1.1.1.1.1.0 in
    carried old p.0 p.1.1
    (by_basis inverted_reply whole_left (λ a. Err (OffCurve a)) old (chosen_of a.0) f
    (λ b. curve_count a.1.0 a.1.1.0.now a.1.1.1.0 a.1.1.1.1.0 a.1.1.1.1.1.0 old b Knots AsCrate))

pub c_spline_inverse_steady_one_count : Keeps spline_inverse_steady.Learnt
    (λ κs a z e. z ≡ 11
    → OneCount (λ n. chosen (chosen_of a.0) ⊥ (λ b. steady_of b a.1.0 a.1.1.0.now a.1.1.1.0 ≡ Err (OffCurve n)))
    a.1.1.1.1.1.0.now e.1.1.1.1.1.0.now)
c_spline_inverse_steady_one_count κs a z e p =
    let old = a.1.1.1.1.1.0.now in
    let f : Basis → Inversion = λ b. steady_of b a.1.0 a.1.1.0.now a.1.1.1.0 in
    carried old p.0 p.1.1
    (by_basis inverted_reply whole_left (λ a. Err (OffCurve a)) old (chosen_of a.0) f
    (λ b. curve_count a.1.0 a.1.1.0.now a.1.1.1.0 steady_limit default_precision old b Knots Steady))

pub c_spline_inverse_by_one_count : Keeps spline_inverse_by.Learnt
    (λ κs a z e. z ≡ 11
    → OneCount (λ n. chosen (chosen_of a.0) ⊥
    (λ b. way (way_of a.1.1.1.1.1.1.0 a.1.1.1.1.1.1.1.0) ⊥
    (λ k m. inverse_by k m b a.1.0 a.1.1.0.now a.1.1.1.0 a.1.1.1.1.0 a.1.1.1.1.1.0 ≡ Err (OffCurve n))))
    a.1.1.1.1.1.1.1.1.1.0.now e.1.1.1.1.1.1.1.1.1.0.now)
c_spline_inverse_by_one_count κs a z e p =
    let old = a.1.1.1.1.1.1.1.1.1.0.now in
    let f : Basis → EndsBy → Method → Inversion =
    λ b k m. inverse_by k m b a.1.0 a.1.1.0.now a.1.1.1.0 a.1.1.1.1.0 a.1.1.1.1.1.0 in
    carried old p.0 p.1.1
    (by_way_lem inverted_reply whole_left (λ a. Err (OffCurve a)) old (chosen_of a.0) (way_of a.1.1.1.1.1.1.0 a.1.1.1.1.1.1.1.0) f
    (curve_count a.1.0 a.1.1.0.now a.1.1.1.0 a.1.1.1.1.0 a.1.1.1.1.1.0 old))

-- ---- one segment
segment_count : (y : Float) (cv : List Float) (limit : ℕ) (ε : Float) (old : List ℕ) (b : Basis) (m : Method)
    → Counted inverted_reply whole_left (λ a. Err (OffCurve a)) old (inverse_segment_by (rule_of m) b y cv limit ε)
segment_count y cv limit ε old b m =
    inverted_count (inverse_segment_uses y cv limit ε) (inverse_segment_by (rule_of m) b y cv limit ε) refl
    (λ r h. (segment_place_refused (rule_of m) b y cv limit ε r).0 h) old

pub c_spline_inverse_segment_one_count : Keeps spline_inverse_segment.Learnt
    (λ κs a z e. z ≡ 11
    → OneCount (λ n. chosen (chosen_of a.0) ⊥
    (λ b. inverse_segment_of b a.1.0 a.1.1.0.now default_limit default_precision ≡ Err (OffCurve n)))
    a.1.1.1.1.0.now e.1.1.1.1.0.now)
c_spline_inverse_segment_one_count κs a z e p =
    let old = a.1.1.1.1.0.now in
    let f : Basis → Inversion = λ b. inverse_segment_of b a.1.0 a.1.1.0.now default_limit default_precision in
    carried old p.0 p.1.1
    (by_basis inverted_reply whole_left (λ a. Err (OffCurve a)) old (chosen_of a.0) f
    (λ b. segment_count a.1.0 a.1.1.0.now default_limit default_precision old b AsCrate))

pub c_spline_inverse_segment_with_one_count : Keeps spline_inverse_segment_with.Learnt
    (λ κs a z e. z ≡ 11
    → OneCount (λ n. chosen (chosen_of a.0) ⊥
    (λ b. inverse_segment_of b a.1.0 a.1.1.0.now a.1.1.1.0 a.1.1.1.1.0 ≡ Err (OffCurve n)))
    a.1.1.1.1.1.1.0.now e.1.1.1.1.1.1.0.now)
c_spline_inverse_segment_with_one_count κs a z e p =
    let old = a.1.1.1.1.1.1.0.now in
    let f : Basis → Inversion = λ b. inverse_segment_of b a.1.0 a.1.1.0.now a.1.1.1.0 a.1.1.1.1.0 in
    carried old p.0 p.1.1
    (by_basis inverted_reply whole_left (λ a. Err (OffCurve a)) old (chosen_of a.0) f
    (λ b. segment_count a.1.0 a.1.1.0.now a.1.1.1.0 a.1.1.1.1.0 old b AsCrate))

pub c_spline_inverse_segment_steady_one_count : Keeps spline_inverse_segment_steady.Learnt
    (λ κs a z e. z ≡ 11
    → OneCount (λ n. chosen (chosen_of a.0) ⊥ (λ b. steady_segment_of b a.1.0 a.1.1.0.now ≡ Err (OffCurve n)))
    a.1.1.1.1.0.now e.1.1.1.1.0.now)
c_spline_inverse_segment_steady_one_count κs a z e p =
    let old = a.1.1.1.1.0.now in
    let f : Basis → Inversion = λ b. steady_segment_of b a.1.0 a.1.1.0.now in
    carried old p.0 p.1.1
    (by_basis inverted_reply whole_left (λ a. Err (OffCurve a)) old (chosen_of a.0) f
    (λ b. segment_count a.1.0 a.1.1.0.now steady_limit default_precision old b Steady))

pub c_spline_inverse_segment_by_one_count : Keeps spline_inverse_segment_by.Learnt
    (λ κs a z e. z ≡ 11
    → OneCount (λ n. chosen (chosen_of a.0) ⊥
    (λ b. way (way_of 0 a.1.1.1.1.1.0) ⊥
    (λ k m. inverse_segment_by (rule_of m) b a.1.0 a.1.1.0.now a.1.1.1.0 a.1.1.1.1.0 ≡ Err (OffCurve n))))
    a.1.1.1.1.1.1.1.0.now e.1.1.1.1.1.1.1.0.now)
c_spline_inverse_segment_by_one_count κs a z e p =
    let old = a.1.1.1.1.1.1.1.0.now in
    let f : Basis → EndsBy → Method → Inversion = λ b k m. inverse_segment_by (rule_of m) b a.1.0 a.1.1.0.now a.1.1.1.0 a.1.1.1.1.0 in
    carried old p.0 p.1.1
    (by_way_lem inverted_reply whole_left (λ a. Err (OffCurve a)) old (chosen_of a.0) (way_of 0 a.1.1.1.1.1.0) f
    (λ b k m. segment_count a.1.0 a.1.1.0.now a.1.1.1.0 a.1.1.1.1.0 old b m))

-- ---- a table with a span
pub c_table_spline_inverse_one_count : Keeps table_spline_inverse.Learnt
    (λ κs a z e. z ≡ 11
    → OneCount (λ n. chosen (chosen_of a.0) ⊥
    (λ b. table_inverse_by Knots AsCrate (table_of a.1.0 b) a.1.1.0 a.1.1.1.0.now a.1.1.1.1.0 default_limit default_precision
    ≡ Err (OffCurve n))) a.1.1.1.1.1.1.0.now e.1.1.1.1.1.1.0.now)
c_table_spline_inverse_one_count κs a z e p =
    let old = a.1.1.1.1.1.1.0.now in
    let f : Basis → Result (Place × ℕ) Miss =
    λ b. table_inverse_by Knots AsCrate (table_of a.1.0 b) a.1.1.0 a.1.1.1.0.now a.1.1.1.1.0 default_limit default_precision in
    carried old p.0 p.1.1
    (by_basis timed_reply timed_whole (λ a. Err (OffCurve a)) old (chosen_of a.0) f
    (λ b. table_count a.1.1.0 a.1.1.1.0.now a.1.1.1.1.0 default_limit default_precision old a.1.0 b Knots AsCrate))

pub c_table_spline_inverse_steady_one_count : Keeps table_spline_inverse_steady.Learnt
    (λ κs a z e. z ≡ 11
    → OneCount (λ n. chosen (chosen_of a.0) ⊥
    (λ b. table_steady_of (table_of a.1.0 b) a.1.1.0 a.1.1.1.0.now a.1.1.1.1.0 ≡ Err (OffCurve n)))
    a.1.1.1.1.1.1.0.now e.1.1.1.1.1.1.0.now)
c_table_spline_inverse_steady_one_count κs a z e p =
    let old = a.1.1.1.1.1.1.0.now in
    let f : Basis → Result (Place × ℕ) Miss = λ b. table_steady_of (table_of a.1.0 b) a.1.1.0 a.1.1.1.0.now a.1.1.1.1.0 in
    carried old p.0 p.1.1
    (by_basis timed_reply timed_whole (λ a. Err (OffCurve a)) old (chosen_of a.0) f
    (λ b. table_count a.1.1.0 a.1.1.1.0.now a.1.1.1.1.0 steady_limit default_precision old a.1.0 b Knots Steady))

pub c_table_spline_inverse_by_one_count : Keeps table_spline_inverse_by.Learnt
    (λ κs a z e. z ≡ 11
    → OneCount (λ n. chosen (chosen_of a.0) ⊥
    (λ b. way (way_of a.1.1.1.1.1.1.1.0 a.1.1.1.1.1.1.1.1.0) ⊥
    (λ k m. table_inverse_by k m (table_of a.1.0 b) a.1.1.0 a.1.1.1.0.now a.1.1.1.1.0 a.1.1.1.1.1.0 a.1.1.1.1.1.1.0
    ≡ Err (OffCurve n)))) a.1.1.1.1.1.1.1.1.1.1.0.now e.1.1.1.1.1.1.1.1.1.1.0.now)
c_table_spline_inverse_by_one_count κs a z e p =
    let old = a.1.1.1.1.1.1.1.1.1.1.0.now in
    let f : Basis → EndsBy → Method → Result (Place × ℕ) Miss =
    λ b k m. table_inverse_by k m (table_of a.1.0 b) a.1.1.0 a.1.1.1.0.now a.1.1.1.1.0 a.1.1.1.1.1.0
    a.1.1.1.1.1.1.0 in
    carried old p.0 p.1.1
    (by_way_lem timed_reply timed_whole (λ a. Err (OffCurve a)) old (chosen_of a.0) (way_of a.1.1.1.1.1.1.1.0 a.1.1.1.1.1.1.1.1.0) f
    (table_count a.1.1.0 a.1.1.1.0.now a.1.1.1.1.0 a.1.1.1.1.1.0 a.1.1.1.1.1.1.0 old a.1.0))

-- ---- the depth at a time: the count of the inversion
depth_count : (us : Uses) (s : Result Depth DepthMiss) → applies 11 us ≡ false → ((r : Refusal) → s ≡ Err (Refused Times r) → First us rows r) → (old : List ℕ)
    → sounded_reply s ≡ 11 → OneCount (λ n. s ≡ Err (OffCurve n)) old (depth_whole_left s old)
depth_count us (Ok d) u f old h = never (let z : ◌≡◌ {A = ℕ} 0 1 = omega (arith, h) in z)
depth_count us (Err (OffCurve n)) u f old h = (n, refl, refl)
depth_count us (Err (Refused Times r)) u f old h = absurd (no_eleven us r u (f r refl) h)
depth_count us (Err (Refused Depths r)) u f old h = never (let z : ◌≡◌ {A = ℕ} 0 1 = omega (arith, h) in z)

pub c_depth_at_one_count : Keeps depth_at.Learnt
    (λ κs a z e. z ≡ 11
    → OneCount (λ n. chosen (chosen_of a.0) ⊥
    (λ t. chosen (chosen_of a.1.1.0) ⊥
    (λ d. depth_of t a.1.0.now d a.1.1.1.0.now a.1.1.1.1.0 a.1.1.1.1.1.0 a.1.1.1.1.1.1.0 ≡ Err (OffCurve n))))
    a.1.1.1.1.1.1.1.1.1.0.now e.1.1.1.1.1.1.1.1.1.0.now)
c_depth_at_one_count κs a z e p =
    let old = a.1.1.1.1.1.1.1.1.1.0.now in
    carried old p.0 p.1.1.1 (go (chosen_of a.0) (chosen_of a.1.1.0) old)
  where
    f : Basis → Basis → Result Depth DepthMiss
    f t d = depth_of t a.1.0.now d a.1.1.1.0.now a.1.1.1.1.0 a.1.1.1.1.1.0 a.1.1.1.1.1.1.0

    go : (c d : Option Basis) (old : List ℕ) → chosen c no_basis (λ t. chosen d no_basis (λ u. sounded_reply (f t u))) ≡ 11
        → OneCount (λ n. chosen c ⊥ (λ t. chosen d ⊥ (λ u. f t u ≡ Err (OffCurve n)))) old
        (chosen c old (λ t. chosen d old (λ u. depth_whole_left (f t u) old)))
    go None d old h = never (let z : ◌≡◌ {A = ℕ} 0 1 = omega (arith, h) in z)
    go (Some t) None old h = never (let z : ◌≡◌ {A = ℕ} 0 1 = omega (arith, h) in z)
    go (Some t) (Some u) old h =
        depth_count (inverse_uses t a.1.1.1.1.0 a.1.0.now true a.1.1.1.1.1.0 a.1.1.1.1.1.1.0) (f t u) refl
        (times_only t a.1.0.now u a.1.1.1.0.now a.1.1.1.1.0 a.1.1.1.1.1.0 a.1.1.1.1.1.1.0) old h
