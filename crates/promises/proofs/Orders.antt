-- The order in which each call tells its rows comes out of the one table, and no test of a call stands in the shadow of another. Both are computed
-- from the call's list of uses, whatever the arguments. Assumes nothing.
use mathlib.Core.Path.{◌≡◌, refl}
use mathlib.Core.Bool.{Bool, true}
use mathlib.Core.List.{List, [], ◌∷◌}
use Prim.Native.Nat.{ℕ}
use lib.Ieee.{Float}
use Rattle.error.specs.Refusals.{Uses}
use Rattle.error.proofs.Orders.{order_of, named, once}
use Rattle.basis.specs.declared.Basis.{Basis}
use Rattle.spline.specs.Evaluation.{spline_uses, spline_segment_uses}
use Rattle.inverse_segment.specs.Answer.{inverse_segment_uses}
use Rattle.inverse.specs.Inverse.{inverse_uses}
use Rattle.convert.specs.Conversion.{convert_segment_uses, convert_uses}
use Rattle.table_span.specs.declared.Table.{Table}
use Rattle.table_span.specs.Second.{bad_span}
use Rattle.table.proofs.Spans.{spline_order, inverse_order, convert_order}

-- these rows, in this order, and each named once
abbrev pub Ordered : Uses → List ℕ → Type 0
Ordered us ns = (order_of us ≡ ns) × (once (named us) ≡ true)

pub spline_ordered : (b : Basis) (x : Float) (ks : List Float) → Ordered (spline_uses b x ks) (1 ∷ 2 ∷ 3 ∷ 5 ∷ 4 ∷ [])
spline_ordered b x ks = (refl, refl)

pub spline_segment_ordered : (x : Float) (cv : List Float) → Ordered (spline_segment_uses x cv) (1 ∷ 2 ∷ 5 ∷ 4 ∷ [])
spline_segment_ordered x cv = (refl, refl)

-- 11 comes after them all, where the search has found nothing
pub inverse_segment_ordered : (y : Float) (cv : List Float) (limit : ℕ) (ε : Float) → Ordered (inverse_segment_uses y cv limit ε) (1 ∷ 2 ∷ 5 ∷ 6 ∷ 7 ∷ 4 ∷ [])
inverse_segment_ordered y cv limit ε = (refl, refl)

pub inverse_ordered : (b : Basis) (y : Float) (ks : List Float) (check : Bool) (limit : ℕ) (ε : Float)
    → Ordered (inverse_uses b y ks check limit ε) (1 ∷ 2 ∷ 3 ∷ 5 ∷ 6 ∷ 7 ∷ 4 ∷ 10 ∷ [])
inverse_ordered b y ks check limit ε = (refl, refl)

pub convert_segment_ordered : (to : Basis) (cv : List Float) (room : ℕ) → Ordered (convert_segment_uses to cv room) (1 ∷ 2 ∷ 8 ∷ 9 ∷ 4 ∷ [])
convert_segment_ordered to cv room = (refl, refl)

pub convert_ordered : (from to : Basis) (ks : List Float) (room : ℕ) → Ordered (convert_uses from to ks room) (1 ∷ 2 ∷ 3 ∷ 8 ∷ 9 ∷ 4 ∷ [])
convert_ordered from to ks room = (refl, refl)

-- on a table with a span: 14 after the lengths
pub table_spline_ordered : (t : Table) (x : Float) (ks : List Float)
    → Ordered (bad_span t.span ∷ spline_uses t.basis x ks) (1 ∷ 2 ∷ 3 ∷ 14 ∷ 5 ∷ 4 ∷ [])
table_spline_ordered t x ks = (spline_order t x ks, refl)

pub table_inverse_ordered : (t : Table) (y : Float) (ks : List Float) (check : Bool) (limit : ℕ) (ε : Float)
    → Ordered (bad_span t.span ∷ inverse_uses t.basis y ks check limit ε) (1 ∷ 2 ∷ 3 ∷ 14 ∷ 5 ∷ 6 ∷ 7 ∷ 4 ∷ 10 ∷ [])
table_inverse_ordered t y ks check limit ε = (inverse_order t y ks check limit ε, refl)

pub table_convert_ordered : (t : Table) (to : Basis) (ks : List Float) (room : ℕ)
    → Ordered (bad_span t.span ∷ convert_uses t.basis to ks room) (1 ∷ 2 ∷ 3 ∷ 14 ∷ 8 ∷ 9 ∷ 4 ∷ [])
table_convert_ordered t to ks room = (convert_order t to ks room, refl)
