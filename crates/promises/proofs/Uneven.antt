-- What the depth at a time promises, of its call: which table refuses and by which row, the bound of both tables' evaluations, and that where both
-- tables pass it is the inversion and then the evaluation, which never refuses. Assumes nothing.
use Rattle.uneven.specs.declared.DepthMiss.{DepthMiss}
use Rattle.uneven.specs.declared.Depth.{Depth}
use Rattle.uneven.specs.declared.DepthMiss.TheVariants.{Refused, OffCurve}
use Rattle.inverse_segment.specs.declared.Miss.TheVariants.{OffCurve}
use Rattle.std.specs.Prelude.{Ok, Some, None, Option, Err, Result}
use mathlib.Core.Path.{◌≡◌, refl, sym, subst, ◌∙◌}
use mathlib.Core.Bool.{true}
use mathlib.Core.List.{List, [], ◌∷◌}
use Prim.Native.Nat.{ℕ, ◌+◌, ◌*◌, ◌≤◌, ◌<◌}
use lib.ListN.{length}
use lib.Ieee.{Float}
use Rattle.error.specs.declared.Refusal.{Refusal}
use Rattle.error.specs.Refusals.{rows, first}
use Rattle.error.proofs.First.{First}
use Rattle.basis.specs.declared.Basis.{Basis}
use Rattle.basis.specs.Basis.{segments_of}
use Rattle.spline.specs.Curve.{curve_value}
use Rattle.spline.specs.Evaluation.{spline_of}
use Rattle.inverse_segment.specs.declared.Place.{Place}
use Rattle.inverse_search.specs.Bound.{bits_of}
use Rattle.inverse.specs.Inverse.{inverse_uses, inverse_of, inverse_evaluations}
use Rattle.uneven.specs.declared.WhichTable.TheVariants.{Times, Depths}
use Rattle.uneven.specs.Uneven.{depth_uses, depth_of}
use Rattle.uneven.proofs.Call.{
  count_of,
  depth_told,
  times_only,
  times_where,
  depths_only,
  depths_where,
  off_only,
  off_where,
  in_turn,
  few_bounded,
  many_bounded,
  off_count,
  found_count,
}
use Rattle.uneven.proofs.depth_at.Reads as depth_at
use Rattle.exports_reply.specs.Replies.{chosen_of, no_basis, chosen}
use Rattle.exports_value.specs.Uneven.{sounded_reply, depth_left, depth_place_left, depth_whole_left}
use Rattle.simmerstoat.proofs.hours.simmerstoat_depth_at.Reads as c_depth_at
use Rattle.calls.specs.Calls.{AsksNothing, Keeps, OneReply, Exactly}
use Rattle.promises.proofs.Orders.{Ordered}
use Rattle.promises.proofs.Exports.{NotZero}

pub depth_at_asks_nothing : AsksNothing depth_at.Asked
depth_at_asks_nothing κs a = tt

pub depth_at_one_reply : OneReply depth_at.Learnt (λ κs z e z' e'. z ≡ z')
depth_at_one_reply κs a z z' e e' p q = p ∙ sym q

-- the depths' rows in their order; the times' are those of an inversion
pub depths_ordered : (tb : Basis) (n : ℕ) (db : Basis) (ds : List Float) → Ordered (depth_uses tb n db ds) (1 ∷ 2 ∷ 3 ∷ 4 ∷ 18 ∷ [])
depths_ordered tb n db ds = (refl, refl)

-- ---- the arguments: both bases and tables, the target, the limit and the precision
module _ (tb : Basis) (ts : List Float) (db : Basis) (ds : List Float) (y : Float) (limit : ℕ) (ε : Float) (z : Result Depth DepthMiss) where
  -- what a reply promises
  pub record Sounds : Type 0 where
    -- the times refuse exactly where one of their rows applies, by the first
    pub times : (r : Refusal) → Exactly (z ≡ Err (Refused Times r)) (First (inverse_uses tb y ts true limit ε) rows r)
    -- the depths exactly where no row of the times applies and one of theirs does, by the first
    pub depths : (r : Refusal)
        → Exactly (z ≡ Err (Refused Depths r)) ((first (inverse_uses tb y ts true limit ε) ≡ Ok tt) × First (depth_uses tb (length ts) db ds) rows r)
    -- 11 exactly where no row of the depths applies and the inversion says it, with its count
    pub off : (n : ℕ) → Exactly (z ≡ Err (OffCurve n)) ((first (depth_uses tb (length ts) db ds) ≡ Ok tt)
        × (inverse_of tb y ts true limit ε ≡ Err (OffCurve n)))
    pub off_made : (n : ℕ) → z ≡ Err (OffCurve n) → n ≡ length (inverse_evaluations tb y ts true limit ε)
    -- where both tables pass and the inversion finds a place: its record, the depths' value at its parameter, which is never refused, and one evaluation more
    pub both_calls : first (depth_uses tb (length ts) db ds) ≡ Ok tt → (p : Place) → inverse_of tb y ts true limit ε ≡ Ok p
        → (spline_of db p.parameter ds ≡ Ok (curve_value db p.parameter ds))
        × (z ≡ Ok (record { depth = curve_value db p.parameter ds; place = p; count = p.count + 1 }))
        × (p.count ≡ length (inverse_evaluations tb y ts true limit ε))
    -- the bound of an inversion, and 1
    pub few : segments_of tb (length ts) ≤ 12 → count_of z ≤ limit + 25
    pub many : 12 < segments_of tb (length ts) → count_of z ≤ limit + 2 * bits_of (segments_of tb (length ts)) + 5

  sounds : z ≡ depth_of tb ts db ds y limit ε → Sounds
  sounds e =
      record {
        times = λ r. (λ h. times_only tb ts db ds y limit ε r (sym e ∙ h), λ f. e ∙ times_where tb ts db ds y limit ε r f);
        depths = λ r. (λ h. depths_only tb ts db ds y limit ε r (sym e ∙ h), λ f. e ∙ depths_where tb ts db ds y limit ε r f);
        off = λ n. (λ h. off_only tb ts db ds y limit ε n (sym e ∙ h), λ f. e ∙ off_where tb ts db ds y limit ε n f);
        off_made = λ n h. off_count tb ts db ds y limit ε n (off_only tb ts db ds y limit ε n (sym e ∙ h)).1;
        both_calls = λ d p f. (depth_told tb ts db ds y limit ε d p f, e ∙ in_turn tb ts db ds y limit ε d p f, found_count tb ts db ds y limit ε p f);
        few = λ h. subst (λ (s : Result Depth DepthMiss). count_of s ≤ limit + 25) (sym e) (few_bounded tb ts db ds y limit ε h);
        many = λ h. subst (λ (s : Result Depth DepthMiss). count_of s ≤ limit + 2 * bits_of (segments_of tb (length ts)) + 5) (sym e) (many_bounded tb ts db ds
            y limit ε h);
      }

pub depth_at_sounds : Keeps depth_at.Learnt
    (λ κs a z e. Sounds a.0 a.1.0.now a.1.1.0 a.1.1.1.0.now a.1.1.1.1.0 a.1.1.1.1.1.0 a.1.1.1.1.1.1.0 z)
depth_at_sounds κs a z e p =
    sounds a.0 a.1.0.now a.1.1.0 a.1.1.1.0.now a.1.1.1.1.0 a.1.1.1.1.1.0 a.1.1.1.1.1.1.0 z p

-- ---- what others link
pub c_depth_at_asks_nothing : AsksNothing c_depth_at.Asked
c_depth_at_asks_nothing κs a = tt

pub c_depth_at_one_reply : OneReply c_depth_at.Learnt
    (λ κs z e z' e'.
    (z ≡ z')
    × (e.1.1.1.1.1.1.1.0.now ≡ e'.1.1.1.1.1.1.1.0.now)
    × (e.1.1.1.1.1.1.1.1.0.now ≡ e'.1.1.1.1.1.1.1.1.0.now)
    × (e.1.1.1.1.1.1.1.1.1.0.now ≡ e'.1.1.1.1.1.1.1.1.1.0.now))
c_depth_at_one_reply κs a z z' e e' p q = (p.0 ∙ sym q.0, p.1.0 ∙ sym q.1.0, p.1.1.0 ∙ sym q.1.1.0, p.1.1.1 ∙ sym q.1.1.1)

-- what stays where the reply is such that Q holds of it
stays : {A : Type 0} (Q : ℕ → Type 0) (c d : Option Basis) (g : Basis → Basis → Result Depth DepthMiss) (left : Result Depth DepthMiss → A → A) (old : A)
    → ((s : Result Depth DepthMiss) → Q (sounded_reply s) → left s old ≡ old)
    → Q (chosen c no_basis (λ t. chosen d no_basis (λ u. sounded_reply (g t u)))) → chosen c old (λ t. chosen d old (λ u. left (g t u) old)) ≡ old
stays Q None d g left old h n = refl
stays Q (Some b) None g left old h n = refl
stays Q (Some b) (Some c) g left old h n = h (g b c) n

depth_stays : (old : Float) (s : Result Depth DepthMiss) → NotZero (sounded_reply s) → depth_left s old ≡ old
depth_stays old (Ok d) h = absurd (h refl)
depth_stays old (Err (OffCurve n)) h = refl
depth_stays old (Err (Refused t r)) h = refl

place_stays : (old : List Float) (s : Result Depth DepthMiss) → NotZero (sounded_reply s) → depth_place_left s old ≡ old
place_stays old (Ok d) h = absurd (h refl)
place_stays old (Err (OffCurve n)) h = refl
place_stays old (Err (Refused t r)) h = refl

-- neither 0 nor 11
abbrev NotOff : ℕ → Type 0
NotOff n = NotZero n × (n ≡ 11 → ⊥)

whole_stays : (old : List ℕ) (s : Result Depth DepthMiss) → NotOff (sounded_reply s) → depth_whole_left s old ≡ old
whole_stays old (Ok d) h = absurd (h.0 refl)
whole_stays old (Err (OffCurve n)) h = absurd (h.1 refl)
whole_stays old (Err (Refused t r)) h = refl

pub c_depth_at_writes_nothing : Keeps c_depth_at.Learnt
    (λ κs a z e.
    NotZero z
    → (e.1.1.1.1.1.1.1.0.now ≡ a.1.1.1.1.1.1.1.0.now)
    × (e.1.1.1.1.1.1.1.1.0.now ≡ a.1.1.1.1.1.1.1.1.0.now)
    × ((z ≡ 11 → ⊥) → e.1.1.1.1.1.1.1.1.1.0.now ≡ a.1.1.1.1.1.1.1.1.1.0.now))
c_depth_at_writes_nothing κs a z e p h =
    let g : Basis → Basis → Result Depth DepthMiss =
    λ t d. depth_of t a.1.0.now d a.1.1.1.0.now a.1.1.1.1.0 a.1.1.1.1.1.0 a.1.1.1.1.1.1.0 in
    let c = chosen_of a.0 in
    let d = chosen_of a.1.1.0 in
    let depth = a.1.1.1.1.1.1.1.0.now in
    let place = a.1.1.1.1.1.1.1.1.0.now in
    let whole = a.1.1.1.1.1.1.1.1.1.0.now in (
      p.1.0 ∙ stays NotZero c d g depth_left depth (depth_stays depth) (λ w. h (p.0 ∙ w)),
      p.1.1.0 ∙ stays NotZero c d g depth_place_left place (place_stays place) (λ w. h (p.0 ∙ w)),
      λ o. p.1.1.1 ∙ stays NotOff c d g depth_whole_left whole (whole_stays whole) (λ w. h (p.0 ∙ w), λ w. o (p.0 ∙ w)),
    )
