-- What the call `stopped` promises of whatever it replies: which of the eight answers is given, exactly; what holds of a job that is under way; the evaluations
-- that it makes. Assumes nothing.
use Rattle.stopped.specs.declared.Job.{Job}
use Rattle.inverse_segment.specs.declared.Miss.{Miss}
use Rattle.stopped.specs.declared.Job.TheVariants.{Flat, Before, Start, UnderWay, End, Beyond}
use Rattle.inverse_segment.specs.declared.Miss.TheVariants.{OffCurve, Refused}
use Rattle.std.specs.Prelude.{Err, Ok, Result}
use mathlib.Core.Path.{◌≡◌, sym, ◌∙◌}
use mathlib.Core.Bool.{Bool, not}
use mathlib.Core.List.{List, ◌∷◌}
use mathlib.Core.Logic.{◌⊎◌, inl, inr}
use Prim.Native.Nat.{ℕ, ◌+◌, ◌≤◌}
use lib.Dec.{T}
use lib.ListN.{length}
use lib.Ieee.{Float, eq}
use Rattle.basis.specs.Basis.{segments_of}
use Rattle.calls.specs.Calls.{AsksNothing, Keeps, OneReply, Exactly}
use Rattle.error.specs.declared.Refusal.{Refusal}
use Rattle.error.specs.Refusals.{rows}
use Rattle.error.proofs.First.{never, First, first_complete}
use Rattle.inverse.specs.EndRule.{curve_rule}
use Rattle.inverse.proofs.Promises.{Promised}
use Rattle.inverse_segment.specs.declared.Method.TheVariants.{Steady}
use Rattle.inverse_segment.specs.Method.{steady_limit}
use Rattle.inverse_order.specs.declared.EndsBy.TheVariants.{Curve}
use Rattle.inverse_search.specs.Bound.{bound_of}
use Rattle.inverse_segment.specs.declared.Place.{Place}
use Rattle.inverse_segment.specs.Agreed.{Agreed}
use Rattle.inverse_segment.specs.Answer.{default_precision}
use Rattle.spline.specs.Segment.{segment_of}
use Rattle.stopped.specs.Stopped.{is_before, is_beyond, stopped_uses, stopped_of}
use Rattle.stopped.proofs.Between.{is_between}
use Rattle.stopped.proofs.Stops.{Kept, listed, under_way_kept, off_kept, two_alone, one_answer}
use Rattle.stopped.proofs.Which.{Passes, ends, inversion, Says, said_only, said_where}
use Rattle.stopped.proofs.stopped.Reads as stopped
use Rattle.table_span.specs.declared.Table.{Table}
use Rattle.table_span.specs.Second.{bad_span}

pub stopped_asks_nothing : AsksNothing stopped.Asked
stopped_asks_nothing κs a = tt

pub stopped_one_reply : OneReply stopped.Learnt (λ κs z e z' e'. z ≡ z')
stopped_one_reply κs a z z' e e' p q = p ∙ sym q

-- ---- which is given when; "no row applies" is `Passes`, 14 among the rows
module _ (t : Table) (y : Float) (ks : List Float) (check : Bool) where
  abbrev pub flat : Bool
  flat = eq (ends t y ks check).low (ends t y ks check).high

  pub record Which (z : Result Job Miss) : Type 0 where
    pub refused : (r : Refusal) → Exactly (z ≡ Err (Refused r)) (First (bad_span t.span ∷ stopped_uses t y ks check) rows r)
    pub off : (n : ℕ) → Exactly (z ≡ Err (OffCurve n)) (Passes t y ks check × T (is_between (ends t y ks check) y)
        × (inversion t y ks check ≡ Err (OffCurve n)))
    pub is_flat : Exactly (z ≡ Ok Flat) (Passes t y ks check × T flat)
    pub before : Exactly (z ≡ Ok Before) (Passes t y ks check × T (not flat) × T (is_before (ends t y ks check) y))
    pub start : Exactly (z ≡ Ok Start) (Passes t y ks check × T (not flat) × T (eq y (ends t y ks check).low))
    pub under_way : (s : ℕ) (p : Place)
        → Exactly (z ≡ Ok (UnderWay s p)) (Passes t y ks check × T (is_between (ends t y ks check) y) × (inversion t y ks check ≡ Ok (p, s)))
    pub end : Exactly (z ≡ Ok End) (Passes t y ks check × T (not flat) × T (eq y (ends t y ks check).high))
    pub beyond : Exactly (z ≡ Ok Beyond) (Passes t y ks check × T (not flat) × T (is_beyond (ends t y ks check) y))

  exact : (z w : Result Job Miss) → z ≡ stopped_of t y ks check → Exactly (z ≡ w) (Says t y ks check w)
  exact z w p = (λ h. said_only t y ks check w (sym h ∙ p), λ h. p ∙ said_where t y ks check w h)

  which : (z : Result Job Miss) → z ≡ stopped_of t y ks check → Which z
  which z p =
      record {
        refused = λ r. exact z (Err (Refused r)) p;
        off = λ n. exact z (Err (OffCurve n)) p;
        is_flat = exact z (Ok Flat) p;
        before = exact z (Ok Before) p;
        start = exact z (Ok Start) p;
        under_way = λ s q. exact z (Ok (UnderWay s q)) p;
        end = exact z (Ok End) p;
        beyond = exact z (Ok Beyond) p;
      }

pub stopped_which : Keeps stopped.Learnt (λ κs a z e. Which a.0 a.1.0 a.1.1.0.now a.1.1.1.0 z)
stopped_which κs a z e p = which a.0 a.1.0 a.1.1.0.now a.1.1.1.0 z p

-- ---- where a row applies the job is never said to be before its start or at it
row_passes : (t : Table) (y : Float) (ks : List Float) (check : Bool) (r : Refusal) → First (bad_span t.span ∷ stopped_uses t y ks check) rows r
    → Passes t y ks check → ⊥
row_passes t y ks check r f e = let g = first_complete rows (bad_span t.span ∷ stopped_uses t y ks check) r f in never (cc)

pub stopped_never_begins_refused : Keeps stopped.Learnt
    (λ κs a z e. (r : Refusal)
    → First (bad_span a.0.span ∷ stopped_uses a.0 a.1.0 a.1.1.0.now a.1.1.1.0) rows r
    → (z ≡ Ok Before) ⊎ (z ≡ Ok Start) → ⊥)
stopped_never_begins_refused κs a z e p r f (inl h) =
    row_passes a.0 a.1.0 a.1.1.0.now a.1.1.1.0 r f ((stopped_which κs a z e p).before.0 h).0
stopped_never_begins_refused κs a z e p r f (inr h) =
    row_passes a.0 a.1.0 a.1.1.0.now a.1.1.1.0 r f ((stopped_which κs a z e p).start.0 h).0

-- ---- under way: strictly between the ends, with every promise of the inversion
pub stopped_under_way : Keeps stopped.Learnt
    (λ κs a z e. (s : ℕ) (p : Place) → z ≡ Ok (UnderWay s p)
    → T (is_between (ends a.0 a.1.0 a.1.1.0.now a.1.1.1.0) a.1.0)
    × Kept a.0 a.1.0 a.1.1.0.now a.1.1.1.0 s p)
stopped_under_way κs a z e q s p h =
    let w = ((stopped_which κs a z e q).under_way s p).0 h in
    (w.1, under_way_kept a.0 a.1.0 a.1.1.0.now a.1.1.1.0 w.0 w.1 s p w.2)

-- ---- not on the curve: what the inversion promises of that, and the bound on its count
pub stopped_off : Keeps stopped.Learnt
    (λ κs a z e. (n : ℕ) → z ≡ Err (OffCurve n)
    → Promised Curve Steady a.0.basis a.1.0 a.1.1.0.now a.1.1.1.0 steady_limit default_precision (Err (OffCurve n))
    × (n ≤ 2 + bound_of (segments_of a.0.basis (length a.1.1.0.now)) 39))
stopped_off κs a z e q n h = let w = ((stopped_which κs a z e q).off n).0 h
    in off_kept a.0 a.1.0 a.1.1.0.now a.1.1.1.0 w.0 n w.2

-- ---- the evaluations: where no row applies and the depth is not strictly between, the curve's two ends alone
pub stopped_two_ends : Keeps stopped.Learnt
    (λ κs a z e. Passes a.0 a.1.0 a.1.1.0.now a.1.1.1.0
    → T (not (is_between (ends a.0 a.1.0 a.1.1.0.now a.1.1.1.0) a.1.0))
    → listed a.0 a.1.0 a.1.1.0.now a.1.1.1.0
    ≡ (curve_rule (segment_of a.0.basis a.1.1.0.now) (segments_of a.0.basis (length a.1.1.0.now))).made)
stopped_two_ends κs a z e q f w = two_alone a.0 a.1.0 a.1.1.0.now a.1.1.1.0 f w

-- a second table, as long and refused by no row either, that agrees at every listed evaluation gets this answer
pub stopped_unlisted : Keeps stopped.Learnt
    (λ κs a z e. (ls : List Float) → Passes a.0 a.1.0 a.1.1.0.now a.1.1.1.0 → Passes a.0 a.1.0 ls a.1.1.1.0
    → length a.1.1.0.now ≡ length ls
    → Agreed (segment_of a.0.basis a.1.1.0.now) (segment_of a.0.basis ls) (listed a.0 a.1.0 a.1.1.0.now a.1.1.1.0)
    → z ≡ stopped_of a.0 a.1.0 ls a.1.1.1.0)
stopped_unlisted κs a z e q ls f g l c = q ∙ one_answer a.0 a.1.0 a.1.1.0.now ls a.1.1.1.0 f g l c
