-- What others link asks nothing either, and where it does not return 0 it leaves what stood behind each pointer; but 11 leaves its count. Assumes nothing.
use Rattle.inverse_segment.specs.Inversion.{Inversion}
use Rattle.inverse_segment.specs.declared.Miss.TheVariants.{Refused, OffCurve}
use Rattle.std.specs.Prelude.{Ok, Err, Some, None, Option}
use mathlib.Core.Path.{◌≡◌, refl, ◌∙◌}
use mathlib.Core.List.{List}
use Prim.Native.Nat.{ℕ}
use lib.ListN.{length}
use lib.Ieee.{Float}
use Rattle.basis.specs.declared.Basis.{Basis}
use Rattle.spline.specs.Evaluation.{spline_of, spline_segment_of, Evaluation}
use Rattle.inverse_segment.specs.Answer.{inverse_segment_of, default_limit, default_precision}
use Rattle.inverse.specs.Inverse.{inverse_of}
use Rattle.convert.specs.Conversion.{Conversion, gives, refuses, converted_of, converted_segment_of}
use Rattle.convert.specs.Buffer.{answer_of, buffer_of}
use Rattle.exports_reply.specs.Replies.{
  chosen_of,
  no_basis,
  chosen,
  evaluated_reply,
  value_left,
  inverted_reply,
  place_left,
  whole_left,
  converted_reply,
  length_left,
}
use Rattle.simmerstoat.proofs.version.simmerstoat_version.Reads as version
use Rattle.simmerstoat.proofs.simmerstoat_is_len_ok.Reads as is_len_ok
use Rattle.simmerstoat.proofs.simmerstoat_spline.Reads as spline
use Rattle.simmerstoat.proofs.simmerstoat_spline_segment.Reads as spline_segment
use Rattle.simmerstoat.proofs.simmerstoat_spline_inverse.Reads as spline_inverse
use Rattle.simmerstoat.proofs.simmerstoat_spline_inverse_with.Reads as spline_inverse_with
use Rattle.simmerstoat.proofs.simmerstoat_spline_inverse_segment.Reads as spline_inverse_segment
use Rattle.simmerstoat.proofs.simmerstoat_spline_inverse_segment_with.Reads as spline_inverse_segment_with
use Rattle.simmerstoat.proofs.simmerstoat_convert_segment.Reads as convert_segment
use Rattle.simmerstoat.proofs.simmerstoat_convert_spline.Reads as convert_spline
use Rattle.calls.specs.Calls.{AsksNothing, Keeps}

-- ---- no export asks anything of its caller
pub version_asks_nothing : AsksNothing version.Asked
version_asks_nothing κs a = tt

pub is_len_ok_asks_nothing : AsksNothing is_len_ok.Asked
is_len_ok_asks_nothing κs a = tt

pub spline_asks_nothing : AsksNothing spline.Asked
spline_asks_nothing κs a = tt

pub spline_segment_asks_nothing : AsksNothing spline_segment.Asked
spline_segment_asks_nothing κs a = tt

pub spline_inverse_asks_nothing : AsksNothing spline_inverse.Asked
spline_inverse_asks_nothing κs a = tt

pub spline_inverse_with_asks_nothing : AsksNothing spline_inverse_with.Asked
spline_inverse_with_asks_nothing κs a = tt

pub spline_inverse_segment_asks_nothing : AsksNothing spline_inverse_segment.Asked
spline_inverse_segment_asks_nothing κs a = tt

pub spline_inverse_segment_with_asks_nothing : AsksNothing spline_inverse_segment_with.Asked
spline_inverse_segment_with_asks_nothing κs a = tt

pub convert_segment_asks_nothing : AsksNothing convert_segment.Asked
convert_segment_asks_nothing κs a = tt

pub convert_spline_asks_nothing : AsksNothing convert_spline.Asked
convert_spline_asks_nothing κs a = tt

-- ---- what is left where the reply is not 0
abbrev pub NotZero : ℕ → Type 0
NotZero n = n ≡ 0 → ⊥

value_kept : (c : Option Basis) (f : Basis → Evaluation) (old : Float) → NotZero (chosen c no_basis (λ b. evaluated_reply (f b)))
    → chosen c old (λ b. value_left (f b) old) ≡ old
value_kept None f old h = refl
value_kept (Some b) f old h = go (f b) h
  where
    go : (v : Evaluation) → NotZero (evaluated_reply v) → value_left v old ≡ old
    go (Ok x) h = absurd (h refl)
    go (Err r) h = refl

pub spline_writes_nothing : Keeps spline.Learnt (λ κs a z e. NotZero z → e.1.1.1.0.now ≡ a.1.1.1.0.now)
spline_writes_nothing κs a z e p h =
    p.1 ∙ value_kept (chosen_of a.0) (λ b. spline_of b a.1.0 a.1.1.0.now) a.1.1.1.0.now (λ w. h (p.0 ∙ w))

pub spline_segment_writes_nothing : Keeps spline_segment.Learnt (λ κs a z e. NotZero z → e.1.1.1.0.now ≡ a.1.1.1.0.now)
spline_segment_writes_nothing κs a z e p h =
    p.1 ∙ value_kept (chosen_of a.0) (λ b. spline_segment_of b a.1.0 a.1.1.0.now) a.1.1.1.0.now (λ w. h (p.0 ∙ w))

-- of an inversion: the four doubles, and but for 11 the three whole numbers
pub place_kept : (c : Option Basis) (f : Basis → Inversion) (old : List Float) → NotZero (chosen c no_basis (λ b. inverted_reply (f b)))
    → chosen c old (λ b. place_left (f b) old) ≡ old
place_kept None f old h = refl
place_kept (Some b) f old h = go (f b) h
  where
    go : (i : Inversion) → NotZero (inverted_reply i) → place_left i old ≡ old
    go (Ok p) h = absurd (h refl)
    go (Err (OffCurve n)) h = refl
    go (Err (Refused r)) h = refl

pub whole_kept : (c : Option Basis) (f : Basis → Inversion) (old : List ℕ) → NotZero (chosen c no_basis (λ b. inverted_reply (f b)))
    → (chosen c no_basis (λ b. inverted_reply (f b)) ≡ 11 → ⊥) → chosen c old (λ b. whole_left (f b) old) ≡ old
whole_kept None f old h g = refl
whole_kept (Some b) f old h g = go (f b) h g
  where
    go : (i : Inversion) → NotZero (inverted_reply i) → (inverted_reply i ≡ 11 → ⊥) → whole_left i old ≡ old
    go (Ok p) h g = absurd (h refl)
    go (Err (OffCurve n)) h g = absurd (g refl)
    go (Err (Refused r)) h g = refl

pub spline_inverse_writes_nothing : Keeps spline_inverse.Learnt
    (λ κs a z e. NotZero z → (e.1.1.1.1.0.now ≡ a.1.1.1.1.0.now) × ((z ≡ 11 → ⊥) → e.1.1.1.1.1.0.now ≡ a.1.1.1.1.1.0.now))
spline_inverse_writes_nothing κs a z e p h =
    let f : Basis → Inversion = λ b. inverse_of b a.1.0 a.1.1.0.now a.1.1.1.0 default_limit default_precision in
    let c = chosen_of a.0 in (
      p.1.0 ∙ place_kept c f a.1.1.1.1.0.now (λ w. h (p.0 ∙ w)),
      λ g. p.1.1
          ∙ whole_kept c f a.1.1.1.1.1.0.now (λ w. h (p.0 ∙ w)) (λ w. g (p.0 ∙ w)),
    )

pub spline_inverse_with_writes_nothing : Keeps spline_inverse_with.Learnt
    (λ κs a z e. NotZero z
    → (e.1.1.1.1.1.1.0.now ≡ a.1.1.1.1.1.1.0.now)
    × ((z ≡ 11 → ⊥) → e.1.1.1.1.1.1.1.0.now ≡ a.1.1.1.1.1.1.1.0.now))
spline_inverse_with_writes_nothing κs a z e p h =
    let f : Basis → Inversion = λ b. inverse_of b a.1.0 a.1.1.0.now a.1.1.1.0 a.1.1.1.1.0 a.1.1.1.1.1.0 in
    let c = chosen_of a.0 in (
      p.1.0 ∙ place_kept c f a.1.1.1.1.1.1.0.now (λ w. h (p.0 ∙ w)),
      λ g. p.1.1
          ∙ whole_kept c f a.1.1.1.1.1.1.1.0.now (λ w. h (p.0 ∙ w)) (λ w. g (p.0 ∙ w)),
    )

pub spline_inverse_segment_writes_nothing : Keeps spline_inverse_segment.Learnt
    (λ κs a z e. NotZero z → (e.1.1.1.0.now ≡ a.1.1.1.0.now) × ((z ≡ 11 → ⊥) → e.1.1.1.1.0.now ≡ a.1.1.1.1.0.now))
spline_inverse_segment_writes_nothing κs a z e p h =
    let f : Basis → Inversion = λ b. inverse_segment_of b a.1.0 a.1.1.0.now default_limit default_precision in
    let c = chosen_of a.0 in (
      p.1.0 ∙ place_kept c f a.1.1.1.0.now (λ w. h (p.0 ∙ w)),
      λ g. p.1.1
          ∙ whole_kept c f a.1.1.1.1.0.now (λ w. h (p.0 ∙ w)) (λ w. g (p.0 ∙ w)),
    )

pub spline_inverse_segment_with_writes_nothing : Keeps spline_inverse_segment_with.Learnt
    (λ κs a z e. NotZero z
    → (e.1.1.1.1.1.0.now ≡ a.1.1.1.1.1.0.now) × ((z ≡ 11 → ⊥) → e.1.1.1.1.1.1.0.now ≡ a.1.1.1.1.1.1.0.now))
spline_inverse_segment_with_writes_nothing κs a z e p h =
    let f : Basis → Inversion = λ b. inverse_segment_of b a.1.0 a.1.1.0.now a.1.1.1.0 a.1.1.1.1.0 in
    let c = chosen_of a.0 in (
      p.1.0 ∙ place_kept c f a.1.1.1.1.1.0.now (λ w. h (p.0 ∙ w)),
      λ g. p.1.1
          ∙ whole_kept c f a.1.1.1.1.1.1.0.now (λ w. h (p.0 ∙ w)) (λ w. g (p.0 ∙ w)),
    )

-- of a conversion: the buffer, and the length
pub out_kept : (f t : Option Basis) (g : Basis → Basis → Conversion) (out : List Float)
    → NotZero (chosen f no_basis (λ b. chosen t no_basis (λ c. converted_reply (answer_of (g b c)))))
    → chosen f out (λ b. chosen t out (λ c. buffer_of (g b c) out)) ≡ out
out_kept None t g out h = refl
out_kept (Some b) None g out h = refl
out_kept (Some b) (Some c) g out h = go (g b c) h
  where
    go : (x : Conversion) → NotZero (converted_reply (answer_of x)) → buffer_of x out ≡ out
    go (gives l) h = absurd (h refl)
    go (refuses r) h = refl

pub length_kept : (f t : Option Basis) (g : Basis → Basis → Conversion) (old : ℕ)
    → NotZero (chosen f no_basis (λ b. chosen t no_basis (λ c. converted_reply (answer_of (g b c)))))
    → chosen f old (λ b. chosen t old (λ c. length_left (answer_of (g b c)) old)) ≡ old
length_kept None t g old h = refl
length_kept (Some b) None g old h = refl
length_kept (Some b) (Some c) g old h = go (g b c) h
  where
    go : (x : Conversion) → NotZero (converted_reply (answer_of x)) → length_left (answer_of x) old ≡ old
    go (gives l) h = absurd (h refl)
    go (refuses r) h = refl

pub convert_segment_writes_nothing : Keeps convert_segment.Learnt (λ κs a z e. NotZero z → e.1.1.1.0.now ≡ a.1.1.1.0.now)
convert_segment_writes_nothing κs a z e p h =
    p.1
    ∙ out_kept (chosen_of a.0) (chosen_of a.1.0) (λ b c. converted_segment_of b c a.1.1.0.now (length a.1.1.1.0.now))
    a.1.1.1.0.now (λ w. h (p.0 ∙ w))

pub convert_spline_writes_nothing : Keeps convert_spline.Learnt
    (λ κs a z e. NotZero z → (e.1.1.1.0.now ≡ a.1.1.1.0.now) × (e.1.1.1.1.0.now ≡ a.1.1.1.1.0.now))
convert_spline_writes_nothing κs a z e p h =
    let g : Basis → Basis → Conversion = λ b c. converted_of b c a.1.1.0.now (length a.1.1.1.0.now) in
    let f = chosen_of a.0 in
    let t = chosen_of a.1.0 in
    (p.1.1 ∙ out_kept f t g a.1.1.1.0.now (λ w. h (p.0 ∙ w)), p.1.0 ∙ length_kept f t g a.1.1.1.1.0.now (λ w. h (p.0 ∙ w)))
