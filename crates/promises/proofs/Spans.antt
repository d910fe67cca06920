-- What others link of the calls on a table with a span asks nothing, allows one reply, and where it does not return 0 leaves what stood behind each pointer,
-- but 11 its count. Assumes nothing.
use Rattle.table_span.specs.declared.Table.{Table}
use Rattle.error.specs.declared.Refusal.{Refusal}
use Rattle.inverse_segment.specs.declared.Miss.{Miss}
use Rattle.inverse_segment.specs.declared.Place.{Place}
use Rattle.inverse_segment.specs.declared.Miss.TheVariants.{Refused, OffCurve}
use Rattle.spline.specs.Evaluation.{Evaluation}
use Rattle.std.specs.Prelude.{Ok, Err, Some, None, Option, Result, ℕ}
use mathlib.Core.Path.{◌≡◌, refl, sym, ◌∙◌}
use mathlib.Core.List.{List}
use Prim.Native.Nat.{ℕ}
use lib.ListN.{length}
use lib.Ieee.{Float}
use Rattle.basis.specs.declared.Basis.{Basis}
use Rattle.convert.specs.Conversion.{Conversion, gives, refuses}
use Rattle.convert.specs.Buffer.{answer_of, buffer_of}
use Rattle.inverse_segment.specs.Answer.{default_limit, default_precision}
use Rattle.inverse_segment.specs.declared.Method.{Method}
use Rattle.inverse_segment.specs.declared.Method.TheVariants.{AsCrate}
use Rattle.inverse_order.specs.declared.EndsBy.{EndsBy}
use Rattle.inverse_order.specs.declared.EndsBy.TheVariants.{Knots}
use Rattle.table.specs.Calls.{table_spline_of, table_inverse_by, table_converted_of, table_strict_of, handed_of}
use Rattle.exports_reply.specs.Replies.{chosen_of, no_basis, chosen, evaluated_reply, value_left}
use Rattle.exports_reply.specs.Options.{way_of, way}
use Rattle.exports_table.specs.Tables.{table_of, timed_reply, timed_place, timed_whole, handed_reply, handed_span, handed_length}
use Rattle.simmerstoat.proofs.spans.simmerstoat_table_spline.Reads as table_spline
use Rattle.simmerstoat.proofs.spans.simmerstoat_table_spline_inverse.Reads as table_spline_inverse
use Rattle.simmerstoat.proofs.spans.simmerstoat_table_spline_inverse_by.Reads as table_spline_inverse_by
use Rattle.simmerstoat.proofs.spans.simmerstoat_table_convert_spline.Reads as table_convert_spline
use Rattle.simmerstoat.proofs.spans.simmerstoat_table_convert_spline_strict.Reads as table_convert_spline_strict
use Rattle.calls.specs.Calls.{AsksNothing, Keeps, OneReply}
use Rattle.promises.proofs.Exports.{NotZero}

-- ---- none asks anything of its caller
pub c_table_spline_asks_nothing : AsksNothing table_spline.Asked
c_table_spline_asks_nothing κs a = tt

pub c_table_spline_inverse_asks_nothing : AsksNothing table_spline_inverse.Asked
c_table_spline_inverse_asks_nothing κs a = tt

pub c_table_spline_inverse_by_asks_nothing : AsksNothing table_spline_inverse_by.Asked
c_table_spline_inverse_by_asks_nothing κs a = tt

pub c_table_convert_spline_asks_nothing : AsksNothing table_convert_spline.Asked
c_table_convert_spline_asks_nothing κs a = tt

pub c_table_strict_asks_nothing : AsksNothing table_convert_spline_strict.Asked
c_table_strict_asks_nothing κs a = tt

-- ---- no second reply fits
one : {A : Type 0} {d x x' : A} → x ≡ d → x' ≡ d → x ≡ x'
one p q = p ∙ sym q

pub c_table_spline_one_reply : OneReply table_spline.Learnt (λ κs z e z' e'. (z ≡ z') × (e.1.1.1.1.0.now ≡ e'.1.1.1.1.0.now))
c_table_spline_one_reply κs a z z' e e' p q = (one p.0 q.0, one p.1 q.1)

pub c_table_spline_inverse_one_reply : OneReply table_spline_inverse.Learnt
    (λ κs z e z' e'. (z ≡ z') × (e.1.1.1.1.1.0.now ≡ e'.1.1.1.1.1.0.now) × (e.1.1.1.1.1.1.0.now ≡ e'.1.1.1.1.1.1.0.now))
c_table_spline_inverse_one_reply κs a z z' e e' p q = (one p.0 q.0, one p.1.0 q.1.0, one p.1.1 q.1.1)

pub c_table_spline_inverse_by_one_reply : OneReply table_spline_inverse_by.Learnt
    (λ κs z e z' e'. (z ≡ z') × (e.1.1.1.1.1.1.1.1.1.0.now ≡ e'.1.1.1.1.1.1.1.1.1.0.now)
    × (e.1.1.1.1.1.1.1.1.1.1.0.now ≡ e'.1.1.1.1.1.1.1.1.1.1.0.now))
c_table_spline_inverse_by_one_reply κs a z z' e e' p q = (one p.0 q.0, one p.1.0 q.1.0, one p.1.1 q.1.1)

pub c_table_convert_spline_one_reply : OneReply table_convert_spline.Learnt
    (λ κs z e z' e'. (z ≡ z') × (e.1.1.1.1.1.0.now ≡ e'.1.1.1.1.1.0.now) × (e.1.1.1.1.1.1.0.now ≡ e'.1.1.1.1.1.1.0.now)
    × (e.1.1.1.1.0.now ≡ e'.1.1.1.1.0.now))
c_table_convert_spline_one_reply κs a z z' e e' p q = (one p.0 q.0, one p.1.0 q.1.0, one p.1.1.0 q.1.1.0, one p.1.1.1 q.1.1.1)

pub c_table_strict_one_reply : OneReply table_convert_spline_strict.Learnt
    (λ κs z e z' e'. (z ≡ z') × (e.1.1.1.1.1.1.0.now ≡ e'.1.1.1.1.1.1.0.now)
    × (e.1.1.1.1.1.1.1.0.now ≡ e'.1.1.1.1.1.1.1.0.now) × (e.1.1.1.1.1.0.now ≡ e'.1.1.1.1.1.0.now))
c_table_strict_one_reply κs a z z' e e' p q = (one p.0 q.0, one p.1.0 q.1.0, one p.1.1.0 q.1.1.0, one p.1.1.1 q.1.1.1)

-- ---- what is left where the reply is not 0
value_kept : (c : Option Basis) (f : Basis → Evaluation) (old : Float) → NotZero (chosen c no_basis (λ b. evaluated_reply (f b)))
    → chosen c old (λ b. value_left (f b) old) ≡ old
value_kept None f old h = refl
value_kept (Some b) f old h = go (f b) h
  where
    go : (v : Evaluation) → NotZero (evaluated_reply v) → value_left v old ≡ old
    go (Ok x) h = absurd (h refl)
    go (Err r) h = refl

pub c_table_spline_writes_nothing : Keeps table_spline.Learnt (λ κs a z e. NotZero z → e.1.1.1.1.0.now ≡ a.1.1.1.1.0.now)
c_table_spline_writes_nothing κs a z e p h =
    p.1
    ∙ value_kept (chosen_of a.0) (λ b. table_spline_of (table_of a.1.0 b) a.1.1.0 a.1.1.1.0.now) a.1.1.1.1.0.now
    (λ w. h (p.0 ∙ w))

-- the four doubles, and but for 11 the four whole numbers
timed_place_kept : (t : Result (Place × ℕ) Miss) (old : List Float) → NotZero (timed_reply t) → timed_place t old ≡ old
timed_place_kept (Ok (p, s)) old h = absurd (h refl)
timed_place_kept (Err (OffCurve n)) old h = refl
timed_place_kept (Err (Refused r)) old h = refl

timed_whole_kept : (t : Result (Place × ℕ) Miss) (old : List ℕ) → NotZero (timed_reply t) → (timed_reply t ≡ 11 → ⊥) → timed_whole t old ≡ old
timed_whole_kept (Ok (p, s)) old h g = absurd (h refl)
timed_whole_kept (Err (OffCurve n)) old h g = absurd (g refl)
timed_whole_kept (Err (Refused r)) old h g = refl

pub place_kept : (c : Option Basis) (w : Option (EndsBy × Method)) (f : Basis → EndsBy → Method → Result (Place × ℕ) Miss) (old : List Float)
    → NotZero (chosen c no_basis (λ b. way w no_basis (λ e m. timed_reply (f b e m)))) → chosen c old (λ b. way w old (λ e m. timed_place (f b e m) old)) ≡ old
place_kept None w f old h = refl
place_kept (Some b) None f old h = refl
place_kept (Some b) (Some (e, m)) f old h = timed_place_kept (f b e m) old h

pub whole_kept : (c : Option Basis) (w : Option (EndsBy × Method)) (f : Basis → EndsBy → Method → Result (Place × ℕ) Miss) (old : List ℕ)
    → NotZero (chosen c no_basis (λ b. way w no_basis (λ e m. timed_reply (f b e m))))
    → (chosen c no_basis (λ b. way w no_basis (λ e m. timed_reply (f b e m))) ≡ 11 → ⊥)
    → chosen c old (λ b. way w old (λ e m. timed_whole (f b e m) old)) ≡ old
whole_kept None w f old h g = refl
whole_kept (Some b) None f old h g = refl
whole_kept (Some b) (Some (e, m)) f old h g = timed_whole_kept (f b e m) old h g

pub c_table_spline_inverse_by_writes_nothing : Keeps table_spline_inverse_by.Learnt
    (λ κs a z e. NotZero z
    → (e.1.1.1.1.1.1.1.1.1.0.now ≡ a.1.1.1.1.1.1.1.1.1.0.now)
    × ((z ≡ 11 → ⊥) → e.1.1.1.1.1.1.1.1.1.1.0.now ≡ a.1.1.1.1.1.1.1.1.1.1.0.now))
c_table_spline_inverse_by_writes_nothing κs a z e p h =
    let f : Basis → EndsBy → Method → Result (Place × ℕ) Miss =
    λ b n m. table_inverse_by n m (table_of a.1.0 b) a.1.1.0 a.1.1.1.0.now a.1.1.1.1.0 a.1.1.1.1.1.0
    a.1.1.1.1.1.1.0 in
    let c = chosen_of a.0 in
    let w = way_of a.1.1.1.1.1.1.1.0 a.1.1.1.1.1.1.1.1.0 in (
      p.1.0 ∙ place_kept c w f a.1.1.1.1.1.1.1.1.1.0.now (λ q. h (p.0 ∙ q)),
      λ g. p.1.1
          ∙ whole_kept c w f a.1.1.1.1.1.1.1.1.1.1.0.now (λ q. h (p.0 ∙ q)) (λ q. g (p.0 ∙ q)),
    )

-- by the crate's way
pub c_table_spline_inverse_writes_nothing : Keeps table_spline_inverse.Learnt
    (λ κs a z e. NotZero z
    → (e.1.1.1.1.1.0.now ≡ a.1.1.1.1.1.0.now) × ((z ≡ 11 → ⊥) → e.1.1.1.1.1.1.0.now ≡ a.1.1.1.1.1.1.0.now))
c_table_spline_inverse_writes_nothing κs a z e p h =
    let f : Basis → EndsBy → Method → Result (Place × ℕ) Miss =
    λ b n m. table_inverse_by n m (table_of a.1.0 b) a.1.1.0 a.1.1.1.0.now a.1.1.1.1.0 default_limit default_precision in
    let c = chosen_of a.0 in
    let w = Some (Knots, AsCrate) in (
      p.1.0 ∙ place_kept c w f a.1.1.1.1.1.0.now (λ q. h (p.0 ∙ q)),
      λ g. p.1.1
          ∙ whole_kept c w f a.1.1.1.1.1.1.0.now (λ q. h (p.0 ∙ q)) (λ q. g (p.0 ∙ q)),
    )

-- the span, the length and the whole buffer
module _ (span : ℕ) (g : Basis → Basis → Conversion) where
  abbrev handed_by : Basis → Basis → Result (Table × ℕ) Refusal
  handed_by f t = handed_of span t (answer_of (g f t))

  abbrev reply : Option Basis → Option Basis → ℕ
  reply c d = chosen c no_basis (λ f. chosen d no_basis (λ t. handed_reply (handed_by f t)))

  span_kept : (c d : Option Basis) (old : ℕ) → NotZero (reply c d) → chosen c old (λ f. chosen d old (λ t. handed_span (handed_by f t) old)) ≡ old
  span_kept None d old h = refl
  span_kept (Some f) None old h = refl
  span_kept (Some f) (Some t) old h = go (g f t) h
    where
      go : (z : Conversion) → NotZero (handed_reply (handed_of span t (answer_of z))) → handed_span (handed_of span t (answer_of z)) old ≡ old
      go (gives l) h = absurd (h refl)
      go (refuses r) h = refl

  length_kept : (c d : Option Basis) (old : ℕ) → NotZero (reply c d) → chosen c old (λ f. chosen d old (λ t. handed_length (handed_by f t) old)) ≡ old
  length_kept None d old h = refl
  length_kept (Some f) None old h = refl
  length_kept (Some f) (Some t) old h = go (g f t) h
    where
      go : (z : Conversion) → NotZero (handed_reply (handed_of span t (answer_of z))) → handed_length (handed_of span t (answer_of z)) old ≡ old
      go (gives l) h = absurd (h refl)
      go (refuses r) h = refl

  buffer_kept : (c d : Option Basis) (old : List Float) → NotZero (reply c d) → chosen c old (λ f. chosen d old (λ t. buffer_of (g f t) old)) ≡ old
  buffer_kept None d old h = refl
  buffer_kept (Some f) None old h = refl
  buffer_kept (Some f) (Some t) old h = go (g f t) h
    where
      go : (z : Conversion) → NotZero (handed_reply (handed_of span t (answer_of z))) → buffer_of z old ≡ old
      go (gives l) h = absurd (h refl)
      go (refuses r) h = refl

pub c_table_convert_spline_writes_nothing : Keeps table_convert_spline.Learnt
    (λ κs a z e. NotZero z
    → (e.1.1.1.1.1.0.now ≡ a.1.1.1.1.1.0.now) × (e.1.1.1.1.1.1.0.now ≡ a.1.1.1.1.1.1.0.now)
    × (e.1.1.1.1.0.now ≡ a.1.1.1.1.0.now))
c_table_convert_spline_writes_nothing κs a z e p h =
    let g : Basis → Basis → Conversion = λ f t. table_converted_of (table_of a.1.0 f) t a.1.1.1.0.now (length a.1.1.1.1.0.now) in
    let c = chosen_of a.0 in
    let d = chosen_of a.1.1.0 in
    let n : NotZero (reply a.1.0 g c d) = λ w. h (p.0 ∙ w) in (
      p.1.0 ∙ span_kept a.1.0 g c d a.1.1.1.1.1.0.now n,
      p.1.1.0 ∙ length_kept a.1.0 g c d a.1.1.1.1.1.1.0.now n,
      p.1.1.1 ∙ buffer_kept a.1.0 g c d a.1.1.1.1.0.now n,
    )

pub c_table_strict_writes_nothing : Keeps table_convert_spline_strict.Learnt
    (λ κs a z e. NotZero z
    → (e.1.1.1.1.1.1.0.now ≡ a.1.1.1.1.1.1.0.now) × (e.1.1.1.1.1.1.1.0.now ≡ a.1.1.1.1.1.1.1.0.now)
    × (e.1.1.1.1.1.0.now ≡ a.1.1.1.1.1.0.now))
c_table_strict_writes_nothing κs a z e p h =
    let g : Basis → Basis → Conversion =
    λ f t. table_strict_of (table_of a.1.0 f) t a.1.1.1.0.now a.1.1.1.1.0 (length a.1.1.1.1.1.0.now) in
    let c = chosen_of a.0 in
    let d = chosen_of a.1.1.0 in
    let n : NotZero (reply a.1.0 g c d) = λ w. h (p.0 ∙ w) in (
      p.1.0 ∙ span_kept a.1.0 g c d a.1.1.1.1.1.1.0.now n,
      p.1.1.0 ∙ length_kept a.1.0 g c d a.1.1.1.1.1.1.1.0.now n,
      p.1.1.1 ∙ buffer_kept a.1.0 g c d a.1.1.1.1.1.0.now n,
    )
