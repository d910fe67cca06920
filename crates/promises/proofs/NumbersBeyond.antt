-- The calls beyond the base by the numbers of the refusal table, as the base's are: on a table with a span, strict conversion, depths against uneven hours,
-- the valve and a claim. Where there are two tables the number owed is that of the first row of the times, or where they pass of the depths. Assumes nothing.
use Rattle.uneven.specs.declared.DepthMiss.{DepthMiss}
use Rattle.uneven.specs.declared.Depth.{Depth}
use Rattle.uneven.specs.declared.DepthMiss.TheVariants.{Refused, OffCurve}
use Rattle.table_span.specs.declared.Table.{Table}
use Rattle.inverse_segment.specs.declared.Miss.{Miss}
use Rattle.inverse_segment.specs.declared.Place.{Place}
use Rattle.inverse_segment.specs.declared.Miss.TheVariants.{Refused, OffCurve}
use Rattle.error.specs.declared.Refusal.{Refusal}
use Rattle.std.specs.Prelude.{Ok, Err, Result, ℤ, true, false, Bool, ℕ}
use mathlib.Core.Path.{◌≡◌, refl, sym, ap, ◌∙◌}
use mathlib.Core.Bool.{true, false}
use mathlib.Core.List.{List, ◌∷◌}
use mathlib.Core.Logic.{inl, inr}
use Prim.Native.Nat.{ℕ, ◌<◌}
use lib.Dec.{lit≤}
use lib.ListN.{length}
use lib.Ieee.{Float}
use Rattle.error.specs.Refusals.{Uses, applies, rows, first, Verdict}
use Rattle.error.proofs.First.{never, first_complete}
use Rattle.basis.specs.declared.Basis.{Basis}
use Rattle.spline.specs.Evaluation.{spline_uses}
use Rattle.inverse_segment.specs.Answer.{default_limit, default_precision}
use Rattle.inverse.specs.Inverse.{inverse_uses}
use Rattle.claim.specs.Claim.{claim_uses}
use Rattle.claim.proofs.check_claim.Reads as check_claim
use Rattle.convert.specs.Conversion.{convert_uses}
use Rattle.convert_strict.specs.Strict.{strict_uses}
use Rattle.convert_strict.proofs.convert_spline_strict.Reads as convert_spline_strict
use Rattle.table_span.specs.Second.{bad_span}
use Rattle.table.proofs.table_spline.Reads as table_spline
use Rattle.table.proofs.table_spline_inverse_by.Reads as table_spline_inverse_by
use Rattle.table.proofs.table_spline_inverse.Reads as table_spline_inverse
use Rattle.table.proofs.table_convert_spline.Reads as table_convert_spline
use Rattle.table.proofs.table_convert_spline_strict.Reads as table_convert_spline_strict
use Rattle.uneven.specs.declared.WhichTable.TheVariants.{Times, Depths}
use Rattle.uneven.specs.Uneven.{depth_uses}
use Rattle.uneven.proofs.depth_at.Reads as depth_at
use Rattle.valve.specs.Mix.{mix_uses}
use Rattle.valve.proofs.mix.Reads as mix
use Rattle.calls.specs.Calls.{Keeps}
use Rattle.promises.specs.Numbers.{
  number_in,
  number_by,
  either_of,
  number_by_both,
  timed_number,
  handed_number,
  sounded_number,
  mixture_number,
  claimed_number,
  Counts,
}
use Rattle.promises.proofs.Numbers.{
  RowNumber,
  PlaceNumber,
  none_passed,
  none_first,
  row_first,
  unused,
  Refuses,
  Owes,
  owed_place,
  by_rows,
  by_places,
  ValueNumber,
  WrittenNumber,
  values,
  writes,
}
use Rattle.promises.proofs.Seconds.{table_spline_refuses, table_spline_inverse_by_refuses, table_spline_inverse_refuses, table_convert_spline_refuses}
use Rattle.promises.proofs.Strict.{strict_refuses_first}
use Rattle.promises.proofs.StrictTables.{table_strict_refuses}
use Rattle.promises.proofs.Uneven.{Sounds, depth_at_sounds}
use Rattle.promises.proofs.Valve.{mix_refuses}
use Rattle.promises.proofs.Claims.{check_claim_checked}

-- ---- a table with a span
pub timed_owed : (us : Uses) (z : Result (Place × ℕ) Miss) → Refuses (λ a. Err (Refused a)) us z
    → Owes (number_by us) (timed_number z) (Counts (λ a. Err (OffCurve a)) z)
timed_owed us (Err (Refused r)) d = inl (row_first us r ((d r).0 refl))
timed_owed us (Err (OffCurve n)) d = inr (sym (none_first us (λ r f. let h : Err (OffCurve n) ≡ Err (Refused r) = (d r).1 f in never (cc))), refl, (n, refl))
timed_owed us (Ok (q, s)) d = inl (none_first us (λ r f. let h : ◌≡◌ {A = Result (Place × ℕ) Miss} (Ok (q, s)) (Err (Refused r)) = (d r).1 f in never (cc)))

handed_owed : (us : Uses) (z : Result (Table × ℕ) Refusal) → Refuses Err us z → handed_number z ≡ number_by us
handed_owed us (Ok (t, n)) d = none_first us (λ r f. let h : Ok (t, n) ≡ Err r = (d r).1 f in never (cc))
handed_owed us (Err r) d = row_first us r ((d r).0 refl)

abbrev pub TableInversionNumber : Uses → Result (Place × ℕ) Miss → Type 0
TableInversionNumber us z = PlaceNumber (number_by us) (timed_number z) (Counts (λ a. Err (OffCurve a)) z)

pub table_spline_number : Keeps table_spline.Learnt (λ κs a z e. ValueNumber (bad_span a.0.span ∷ spline_uses a.0.basis a.1.0 a.1.1.0.now) z)
table_spline_number κs a z e p = values _ z refl refl (table_spline_refuses κs a z e p)

pub table_spline_inverse_by_number : Keeps table_spline_inverse_by.Learnt
    (λ κs a z e. TableInversionNumber
    (bad_span a.1.0.span ∷ inverse_uses a.1.0.basis a.1.1.0 a.1.1.1.0.now a.0.check a.0.limit a.0.precision)
    z)
table_spline_inverse_by_number κs a z e p = by_places timed_number (λ a. Err (Refused a)) (λ a. Err (OffCurve a))
    timed_owed _ z refl refl (table_spline_inverse_by_refuses κs a z e p)

pub table_spline_inverse_number : Keeps table_spline_inverse.Learnt
    (λ κs a z e. TableInversionNumber
    (bad_span a.0.span ∷ inverse_uses a.0.basis a.1.0 a.1.1.0.now a.1.1.1.0 default_limit default_precision) z)
table_spline_inverse_number κs a z e p = by_places timed_number (λ a. Err (Refused a)) (λ a. Err (OffCurve a))
    timed_owed _ z refl refl (table_spline_inverse_refuses κs a z e p)

pub table_convert_spline_number : Keeps table_convert_spline.Learnt
    (λ κs a z e. RowNumber
    (number_by (bad_span a.0.span ∷ convert_uses a.0.basis a.1.0 a.1.1.0.now (length a.1.1.1.0.now)))
    (handed_number z))
table_convert_spline_number κs a z e p = by_rows handed_number Err handed_owed _ z refl refl (table_convert_spline_refuses κs a z e p)

pub table_strict_number : Keeps table_convert_spline_strict.Learnt
    (λ κs a z e. RowNumber
    (number_by (bad_span a.0.span ∷ strict_uses a.0.basis a.1.0 a.1.1.0.now a.1.1.1.0 (length a.1.1.1.1.0.now)))
    (handed_number z))
table_strict_number κs a z e p = by_rows handed_number Err handed_owed _ z refl refl (table_strict_refuses κs a z e p)

-- ---- strict conversion
pub strict_number : Keeps convert_spline_strict.Learnt
    (λ κs a z e. WrittenNumber (strict_uses a.0 a.1.0 a.1.1.0.now a.1.1.1.0 (length a.1.1.1.1.0.now)) z)
strict_number κs a z e p = writes _ z refl refl (strict_refuses_first κs a z e p)

-- ---- the valve
mixture_owed : (us : Uses) (z : Result ℤ Refusal) → Refuses Err us z → mixture_number z ≡ number_by us
mixture_owed us (Ok s) d = none_first us (λ r f. let h : Ok s ≡ Err r = (d r).1 f in never (cc))
mixture_owed us (Err r) d = row_first us r ((d r).0 refl)

pub mix_number : Keeps mix.Learnt (λ κs a z e. RowNumber (number_by (mix_uses a.0 a.1.0.now)) (mixture_number z))
mix_number κs a z e p = by_rows mixture_number Err mixture_owed _ z refl refl (mix_refuses κs a z e p)

-- ---- a claim
claimed_owed : (us : Uses) (z : Result Bool Refusal) → Refuses Err us z → claimed_number z ≡ number_by us
claimed_owed us (Ok true) d = none_first us (λ r f. let h : Ok true ≡ Err r = (d r).1 f in never (cc))
claimed_owed us (Ok false) d = none_first us (λ r f. let h : Ok false ≡ Err r = (d r).1 f in never (cc))
claimed_owed us (Err r) d = row_first us r ((d r).0 refl)

pub check_claim_number : Keeps check_claim.Learnt
    (λ κs a z e. RowNumber
    (number_by (claim_uses a.0 a.1.0 a.1.1.0 a.1.1.1.0 a.1.1.1.1.0 a.1.1.1.1.1.0.now))
    (claimed_number z))
check_claim_number κs a z e p = by_rows claimed_number Err claimed_owed _ z refl refl (check_claim_checked κs a z e p).refused

-- ---- two tables: us are the rows of the times, vs those of the depths
unused_in_both : (us vs : Uses) (n : ℕ) → 0 < n → applies n us ≡ false → applies n vs ≡ false → number_by_both us vs ≡ n → ⊥
unused_in_both us vs n some u v q = go (first us) refl q
  where
    go : (w : Verdict) → first us ≡ w → number_in (either_of w (first vs)) ≡ n → ⊥
    go (Ok _) e h = unused vs n some v h
    go (Err r) e h = unused us n some u (ap number_in e ∙ h)

both : (us vs : Uses) {v w : Verdict} → first us ≡ v → first vs ≡ w → number_in (either_of v w) ≡ number_by_both us vs
both us vs {w = w} e f = ap (λ (x : Verdict). number_in (either_of x w)) (sym e) ∙ ap (λ (y : Verdict). number_in (either_of (first us) y)) (sym f)

module _ (tb : Basis) (ts : List Float) (db : Basis) (ds : List Float) (y : Float) (limit : ℕ) (ε : Float) where
  abbrev times : Uses
  times = inverse_uses tb y ts true limit ε

  abbrev depths : Uses
  depths = depth_uses tb (length ts) db ds

  sounded_owed : (z : Result Depth DepthMiss) → Sounds tb ts db ds y limit ε z
      → Owes (number_by_both times depths) (sounded_number z) (Counts (λ a. Err (OffCurve a)) z)
  sounded_owed (Err (Refused Times r)) s =
      inl (ap (λ (x : Verdict). number_in (either_of x (first depths))) (sym (first_complete rows times r ((s.times r).0 refl))))
  sounded_owed (Err (Refused Depths r)) s = let f = (s.depths r).0 refl in inl (both times depths f.0 (first_complete rows depths r f.1))
  sounded_owed (Err (OffCurve n)) s =
      let e = none_passed times (λ r f. let h : Err (OffCurve n) ≡ Err (Refused Times r) = (s.times r).1 f in never (cc)) in
      inr (sym (both times depths e ((s.off n).0 refl).0), refl, (n, refl))
  sounded_owed (Ok d) s =
      let e = none_passed times (λ r f. let h : Ok d ≡ Err (Refused Times r) = (s.times r).1 f in never (cc)) in
      let g = none_passed depths (λ r f. let h : Ok d ≡ Err (Refused Depths r) = (s.depths r).1 (e, f) in never (cc)) in
      inl (both times depths e g)

  -- the first row of the times, else of the depths; where none applies 0, or 11 with its count; never 12
  abbrev pub DepthNumber : Result Depth DepthMiss → Type 0
  DepthNumber z = PlaceNumber (number_by_both times depths) (sounded_number z) (Counts (λ a. Err (OffCurve a)) z)

  sounds : (z : Result Depth DepthMiss) → Sounds tb ts db ds y limit ε z → DepthNumber z
  sounds z s =
      owed_place (number_by_both times depths) (sounded_number z) (Counts (λ a. Err (OffCurve a)) z) (unused_in_both times depths 11 (lit≤ tt) refl refl)
      (unused_in_both times depths 12 (lit≤ tt) refl refl) (sounded_owed z s)

pub depth_at_number : Keeps depth_at.Learnt
    (λ κs a z e. DepthNumber a.0 a.1.0.now a.1.1.0 a.1.1.1.0.now a.1.1.1.1.0 a.1.1.1.1.1.0 a.1.1.1.1.1.1.0 z)
depth_at_number κs a z e p =
    sounds a.0 a.1.0.now a.1.1.0 a.1.1.1.0.now a.1.1.1.1.0 a.1.1.1.1.1.0 a.1.1.1.1.1.1.0 z
    (depth_at_sounds κs a z e p)
