-- What others link with every option asks nothing, allows one reply, and where it does not return 0 leaves what stood behind each pointer, but 11 its count.
-- Assumes nothing.
use Rattle.inverse_segment.specs.Inversion.{Inversion}
use Rattle.inverse_segment.specs.declared.Miss.TheVariants.{Refused, OffCurve}
use Rattle.std.specs.Prelude.{Some, None, Option, Ok, Err}
use mathlib.Core.Path.{◌≡◌, refl, sym, ◌∙◌}
use mathlib.Core.List.{List}
use Prim.Native.Nat.{ℕ}
use lib.Ieee.{Float}
use Rattle.basis.specs.declared.Basis.{Basis}
use Rattle.inverse_segment.specs.Answer.{inverse_segment_by}
use Rattle.inverse_segment.specs.declared.Method.{Method}
use Rattle.inverse_segment.specs.Method.{rule_of}
use Rattle.inverse_order.specs.declared.EndsBy.{EndsBy}
use Rattle.inverse.specs.Inverse.{inverse_by}
use Rattle.exports_reply.specs.Replies.{chosen_of, no_basis, chosen, inverted_reply, place_left, whole_left}
use Rattle.exports_reply.specs.Options.{way_of, way}
use Rattle.simmerstoat.proofs.options.simmerstoat_spline_inverse_by.Reads as spline_inverse_by
use Rattle.simmerstoat.proofs.options.simmerstoat_spline_inverse_segment_by.Reads as spline_inverse_segment_by
use Rattle.calls.specs.Calls.{AsksNothing, Keeps, OneReply}
use Rattle.promises.proofs.Exports.{NotZero}

-- ---- neither asks anything of its caller
pub c_spline_inverse_by_asks_nothing : AsksNothing spline_inverse_by.Asked
c_spline_inverse_by_asks_nothing κs a = tt

pub c_spline_inverse_segment_by_asks_nothing : AsksNothing spline_inverse_segment_by.Asked
c_spline_inverse_segment_by_asks_nothing κs a = tt

-- ---- no second reply fits
one : {A : Type 0} {d x x' : A} → x ≡ d → x' ≡ d → x ≡ x'
one p q = p ∙ sym q

pub c_spline_inverse_by_one_reply : OneReply spline_inverse_by.Learnt
    (λ κs z e z' e'. (z ≡ z') × (e.1.1.1.1.1.1.1.1.0.now ≡ e'.1.1.1.1.1.1.1.1.0.now)
    × (e.1.1.1.1.1.1.1.1.1.0.now ≡ e'.1.1.1.1.1.1.1.1.1.0.now))
c_spline_inverse_by_one_reply κs a z z' e e' p q = (one p.0 q.0, one p.1.0 q.1.0, one p.1.1 q.1.1)

pub c_spline_inverse_segment_by_one_reply : OneReply spline_inverse_segment_by.Learnt
    (λ κs z e z' e'. (z ≡ z') × (e.1.1.1.1.1.1.0.now ≡ e'.1.1.1.1.1.1.0.now)
    × (e.1.1.1.1.1.1.1.0.now ≡ e'.1.1.1.1.1.1.1.0.now))
c_spline_inverse_segment_by_one_reply κs a z z' e e' p q = (one p.0 q.0, one p.1.0 q.1.0, one p.1.1 q.1.1)

-- ---- what is left where the reply is not 0: the four doubles, and but for 11 the three whole numbers
abbrev reply : Option Basis → Option (EndsBy × Method) → (Basis → EndsBy → Method → Inversion) → ℕ
reply c w f = chosen c no_basis (λ b. way w no_basis (λ e m. inverted_reply (f b e m)))

place_kept : (c : Option Basis) (w : Option (EndsBy × Method)) (f : Basis → EndsBy → Method → Inversion) (old : List Float) → NotZero (reply c w f)
    → chosen c old (λ b. way w old (λ e m. place_left (f b e m) old)) ≡ old
place_kept None w f old h = refl
place_kept (Some b) None f old h = refl
place_kept (Some b) (Some (e, m)) f old h = go (f b e m) h
  where
    go : (i : Inversion) → NotZero (inverted_reply i) → place_left i old ≡ old
    go (Ok p) h = absurd (h refl)
    go (Err (OffCurve n)) h = refl
    go (Err (Refused r)) h = refl

whole_kept : (c : Option Basis) (w : Option (EndsBy × Method)) (f : Basis → EndsBy → Method → Inversion) (old : List ℕ) → NotZero (reply c w f)
    → (reply c w f ≡ 11 → ⊥)
    → chosen c old (λ b. way w old (λ e m. whole_left (f b e m) old)) ≡ old
whole_kept None w f old h g = refl
whole_kept (Some b) None f old h g = refl
whole_kept (Some b) (Some (e, m)) f old h g = go (f b e m) h g
  where
    go : (i : Inversion) → NotZero (inverted_reply i) → (inverted_reply i ≡ 11 → ⊥) → whole_left i old ≡ old
    go (Ok p) h g = absurd (h refl)
    go (Err (OffCurve n)) h g = absurd (g refl)
    go (Err (Refused r)) h g = refl

pub c_spline_inverse_by_writes_nothing : Keeps spline_inverse_by.Learnt
    (λ κs a z e. NotZero z
    → (e.1.1.1.1.1.1.1.1.0.now ≡ a.1.1.1.1.1.1.1.1.0.now)
    × ((z ≡ 11 → ⊥) → e.1.1.1.1.1.1.1.1.1.0.now ≡ a.1.1.1.1.1.1.1.1.1.0.now))
c_spline_inverse_by_writes_nothing κs a z e p h =
    let f : Basis → EndsBy → Method → Inversion =
    λ b n m. inverse_by n m b a.1.0 a.1.1.0.now a.1.1.1.0 a.1.1.1.1.0 a.1.1.1.1.1.0 in
    let c = chosen_of a.0 in
    let w = way_of a.1.1.1.1.1.1.0 a.1.1.1.1.1.1.1.0 in (
      p.1.0 ∙ place_kept c w f a.1.1.1.1.1.1.1.1.0.now (λ q. h (p.0 ∙ q)),
      λ g. p.1.1
          ∙ whole_kept c w f a.1.1.1.1.1.1.1.1.1.0.now (λ q. h (p.0 ∙ q)) (λ q. g (p.0 ∙ q)),
    )

pub c_spline_inverse_segment_by_writes_nothing : Keeps spline_inverse_segment_by.Learnt
    (λ κs a z e. NotZero z
    → (e.1.1.1.1.1.1.0.now ≡ a.1.1.1.1.1.1.0.now)
    × ((z ≡ 11 → ⊥) → e.1.1.1.1.1.1.1.0.now ≡ a.1.1.1.1.1.1.1.0.now))
c_spline_inverse_segment_by_writes_nothing κs a z e p h =
    let f : Basis → EndsBy → Method → Inversion = λ b n m. inverse_segment_by (rule_of m) b a.1.0 a.1.1.0.now a.1.1.1.0 a.1.1.1.1.0 in
    let c = chosen_of a.0 in
    let w = way_of 0 a.1.1.1.1.1.0 in (
      p.1.0 ∙ place_kept c w f a.1.1.1.1.1.1.0.now (λ q. h (p.0 ∙ q)),
      λ g. p.1.1
          ∙ whole_kept c w f a.1.1.1.1.1.1.1.0.now (λ q. h (p.0 ∙ q)) (λ q. g (p.0 ∙ q)),
    )
