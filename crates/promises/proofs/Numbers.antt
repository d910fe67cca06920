-- Each call by the numbers of the refusal table: the number told is that of the first row that applies. Where none does it is 0, or 11 from an inversion, and
-- then in the case that carries the count; a row never
-- gives 11, and no call replies 12. It all follows from where a call refuses, since a call that has no use for a row cannot fail by it. Assumes nothing.
use Rattle.inverse_segment.specs.Inversion.{Inversion}
use Rattle.inverse_segment.specs.declared.Miss.TheVariants.{Refused, OffCurve}
use Rattle.std.specs.Prelude.{Ok, Err, Result, ℕ}
use mathlib.Core.Path.{◌≡◌, refl, sym, ap, ◌∙◌, subst}
use mathlib.Core.Bool.{true, false}
use mathlib.Core.Logic.{◌⊎◌, inl, inr}
use Prim.Native.Nat.{ℕ, ◌<◌}
use native.Mathlib.Omega.{arith}
use lib.Dec.{lit≤}
use lib.ListN.{length}
use Rattle.error.specs.declared.Refusal.{Refusal}
use Rattle.error.specs.Refusals.{number_of, Uses, applies, rows, first, Verdict}
use Rattle.error.proofs.First.{never, First, first_sound, first_complete, first_applies}
use Rattle.spline.specs.Evaluation.{evaluated_number, spline_uses, spline_segment_uses, Evaluation}
use Rattle.spline.proofs.spline.Reads as spline
use Rattle.spline.proofs.spline_segment.Reads as spline_segment
use Rattle.inverse_segment.specs.Answer.{number_told, inverse_segment_uses, default_limit, default_precision}
use Rattle.inverse_segment.proofs.spline_inverse_segment_with.Reads as spline_inverse_segment_with
use Rattle.inverse_segment.proofs.spline_inverse_segment.Reads as spline_inverse_segment
use Rattle.inverse_segment.proofs.spline_inverse_segment_by.Reads as spline_inverse_segment_by
use Rattle.inverse.specs.Inverse.{inverse_uses}
use Rattle.inverse.proofs.spline_inverse_by.Reads as spline_inverse_by
use Rattle.inverse.proofs.spline_inverse_with.Reads as spline_inverse_with
use Rattle.inverse.proofs.spline_inverse.Reads as spline_inverse
use Rattle.convert.specs.Conversion.{convert_segment_uses, convert_uses}
use Rattle.convert.specs.Buffer.{converted_number}
use Rattle.convert.proofs.convert_segment.Reads as convert_segment
use Rattle.convert.proofs.convert_spline.Reads as convert_spline
use Rattle.calls.specs.Calls.{Keeps, Exactly}
use Rattle.promises.specs.Numbers.{number_in, number_by, Counts}
use Rattle.promises.proofs.Refusing.{
  spline_refuses,
  spline_segment_refuses,
  spline_inverse_segment_with_refuses,
  spline_inverse_segment_refuses,
  spline_inverse_segment_by_refuses,
  spline_inverse_by_refuses,
  spline_inverse_with_refuses,
  spline_inverse_refuses,
  convert_segment_refuses,
  convert_spline_refuses,
}

-- ---- what is said of a number
-- of a call that has no use for 11: the one owed, and neither 11 nor 12
pub record RowNumber (owed n : ℕ) : Type 0 where
  pub row : n ≡ owed
  pub no_eleven : n ≡ 11 → ⊥
  pub no_twelve : n ≡ 12 → ⊥

-- of an inversion: the one owed; where that is 0 it is 0 or 11; 11 only as the case that carries a count, and never 12
pub record PlaceNumber (owed n : ℕ) (Off : Type 0) : Type 0 where
  pub row : 0 < owed → n ≡ owed
  pub past : owed ≡ 0 → (n ≡ 0) ⊎ (n ≡ 11)
  pub eleven : n ≡ 11 → Off
  pub no_twelve : n ≡ 12 → ⊥

-- ---- rows
-- where no row applies the verdict is passed
pub none_passed : (us : Uses) → ((r : Refusal) → First us rows r → ⊥) → first us ≡ Ok tt
none_passed us k = go (first us) refl
  where
    go : (v : Verdict) → first us ≡ v → first us ≡ Ok tt
    go (Ok _) e = e
    go (Err r) e = absurd (k r (first_sound rows us r e))

-- and the number is 0
pub none_first : (us : Uses) → ((r : Refusal) → First us rows r → ⊥) → 0 ≡ number_by us
none_first us k = sym (ap number_in (none_passed us k))

pub row_first : (us : Uses) (r : Refusal) → First us rows r → number_of r ≡ number_by us
row_first us r f = sym (ap number_in (first_complete rows us r f))

-- no verdict has the number of a row without use
pub unused : (us : Uses) (n : ℕ) → 0 < n → applies n us ≡ false → number_by us ≡ n → ⊥
unused us n some u q = go (first us) refl q
  where
    go : (v : Verdict) → first us ≡ v → number_in v ≡ n → ⊥
    go (Ok _) e h = omega arith
    go (Err r) e h =
        let t : applies n us ≡ true = subst (λ (m : ℕ). applies m us ≡ true) h (first_applies us rows r (first_sound rows us r e)).0 in
        never (cc)

-- ---- a reply of any kind: number is what it tells, R its refusals, off its case with a count
-- it is refused exactly where a row applies, by the first
abbrev pub Refuses : {Z : Type 0} → (Refusal → Z) → Uses → Z → Type 0
Refuses R us z = (r : Refusal) → Exactly (z ≡ R r) (First us rows r)

-- it tells the number owed, or 11 with a count where that is 0
abbrev pub Owes : ℕ → ℕ → Type 0 → Type 0
Owes owed n Off = (n ≡ owed) ⊎ ((owed ≡ 0) × (n ≡ 11) × Off)

pub owed_place : (owed n : ℕ) (Off : Type 0) → (owed ≡ 11 → ⊥) → (owed ≡ 12 → ⊥) → Owes owed n Off → PlaceNumber owed n Off
owed_place owed n Off e t (inl p) = record { row = λ h. p; past = λ h. inl (p ∙ h); eleven = λ h. absurd (e (sym p ∙ h)); no_twelve = λ h. t (sym p ∙ h) }
owed_place owed n Off e t (inr q) =
    record { row = λ h. absurd (omega (arith, q.0, h)); past = λ h. inr q.1; eleven = λ h. q.2; no_twelve = λ h. omega (arith, q.1, h) }

module _ {Z : Type 0} (number : Z → ℕ) (R : Refusal → Z) where
  pub by_rows : ((us : Uses) (z : Z) → Refuses R us z → number z ≡ number_by us)
      → (us : Uses) (z : Z) → applies 11 us ≡ false → applies 12 us ≡ false → Refuses R us z → RowNumber (number_by us) (number z)
  by_rows f us z e t d =
      let p = f us z d in
      record { row = p; no_eleven = λ h. unused us 11 (lit≤ tt) e (sym p ∙ h); no_twelve = λ h. unused us 12 (lit≤ tt) t (sym p ∙ h) }

  pub by_places : (off : ℕ → Z) → ((us : Uses) (z : Z) → Refuses R us z → Owes (number_by us) (number z) (Counts off z))
      → (us : Uses) (z : Z) → applies 11 us ≡ false → applies 12 us ≡ false → Refuses R us z → PlaceNumber (number_by us) (number z) (Counts off z)
  by_places off f us z e t d = owed_place (number_by us) (number z) (Counts off z) (unused us 11 (lit≤ tt) e) (unused us 12 (lit≤ tt) t) (f us z d)

-- ---- the kinds
value_owed : (us : Uses) (z : Evaluation) → Refuses Err us z → evaluated_number z ≡ number_by us
value_owed us (Ok v) d = none_first us (λ r f. let h : Ok v ≡ Err r = (d r).1 f in never (cc))
value_owed us (Err r) d = row_first us r ((d r).0 refl)

written_owed : (us : Uses) (z : Result ℕ Refusal) → Refuses Err us z → converted_number z ≡ number_by us
written_owed us (Ok n) d = none_first us (λ r f. let h : Ok n ≡ Err r = (d r).1 f in never (cc))
written_owed us (Err r) d = row_first us r ((d r).0 refl)

place_owed : (us : Uses) (z : Inversion) → Refuses (λ a. Err (Refused a)) us z → Owes (number_by us) (number_told z) (Counts (λ a. Err (OffCurve a)) z)
place_owed us (Err (Refused r)) d = inl (row_first us r ((d r).0 refl))
place_owed us (Err (OffCurve n)) d = inr (sym (none_first us (λ r f. let h : Err (OffCurve n) ≡ Err (Refused r) = (d r).1 f in never (cc))), refl, (n, refl))
place_owed us (Ok q) d = inl (none_first us (λ r f. let h : Ok q ≡ Err (Refused r) = (d r).1 f in never (cc)))

-- of a value, a conversion and an inversion
abbrev pub ValueNumber : Uses → Evaluation → Type 0
ValueNumber us z = RowNumber (number_by us) (evaluated_number z)

abbrev pub WrittenNumber : Uses → Result ℕ Refusal → Type 0
WrittenNumber us z = RowNumber (number_by us) (converted_number z)

abbrev pub InverseNumber : Uses → Inversion → Type 0
InverseNumber us z = PlaceNumber (number_by us) (number_told z) (Counts (λ a. Err (OffCurve a)) z)

pub values : (us : Uses) (z : Evaluation) → applies 11 us ≡ false → applies 12 us ≡ false → Refuses Err us z → ValueNumber us z
values = by_rows evaluated_number Err value_owed

pub writes : (us : Uses) (z : Result ℕ Refusal) → applies 11 us ≡ false → applies 12 us ≡ false → Refuses Err us z → WrittenNumber us z
writes = by_rows converted_number Err written_owed

pub inverts : (us : Uses) (z : Inversion) → applies 11 us ≡ false → applies 12 us ≡ false → Refuses (λ a. Err (Refused a)) us z → InverseNumber us z
inverts = by_places number_told (λ a. Err (Refused a)) (λ a. Err (OffCurve a)) place_owed

-- ---- the calls
pub spline_number : Keeps spline.Learnt (λ κs a z e. ValueNumber (spline_uses a.0 a.1.0 a.1.1.0.now) z)
spline_number κs a z e p = values _ z refl refl (spline_refuses κs a z e p)

pub spline_segment_number : Keeps spline_segment.Learnt (λ κs a z e. ValueNumber (spline_segment_uses a.1.0 a.1.1.0.now) z)
spline_segment_number κs a z e p = values _ z refl refl (spline_segment_refuses κs a z e p)

pub spline_inverse_segment_with_number : Keeps spline_inverse_segment_with.Learnt
    (λ κs a z e. InverseNumber (inverse_segment_uses a.1.0 a.1.1.0.now a.1.1.1.0 a.1.1.1.1.0) z)
spline_inverse_segment_with_number κs a z e p = inverts _ z refl refl (spline_inverse_segment_with_refuses κs a z e p)

pub spline_inverse_segment_number : Keeps spline_inverse_segment.Learnt
    (λ κs a z e. InverseNumber (inverse_segment_uses a.1.0 a.1.1.0.now default_limit default_precision) z)
spline_inverse_segment_number κs a z e p = inverts _ z refl refl (spline_inverse_segment_refuses κs a z e p)

pub spline_inverse_segment_by_number : Keeps spline_inverse_segment_by.Learnt
    (λ κs a z e. InverseNumber (inverse_segment_uses a.1.0 a.1.1.0.now a.1.1.1.0 a.1.1.1.1.0) z)
spline_inverse_segment_by_number κs a z e p = inverts _ z refl refl (spline_inverse_segment_by_refuses κs a z e p)

pub spline_inverse_by_number : Keeps spline_inverse_by.Learnt
    (λ κs a z e. InverseNumber (inverse_uses a.1.0 a.1.1.0 a.1.1.1.0.now a.0.check a.0.limit a.0.precision) z)
spline_inverse_by_number κs a z e p = inverts _ z refl refl (spline_inverse_by_refuses κs a z e p)

pub spline_inverse_with_number : Keeps spline_inverse_with.Learnt
    (λ κs a z e. InverseNumber (inverse_uses a.0 a.1.0 a.1.1.0.now a.1.1.1.0 a.1.1.1.1.0 a.1.1.1.1.1.0) z)
spline_inverse_with_number κs a z e p = inverts _ z refl refl (spline_inverse_with_refuses κs a z e p)

pub spline_inverse_number : Keeps spline_inverse.Learnt
    (λ κs a z e. InverseNumber (inverse_uses a.0 a.1.0 a.1.1.0.now a.1.1.1.0 default_limit default_precision) z)
spline_inverse_number κs a z e p = inverts _ z refl refl (spline_inverse_refuses κs a z e p)

pub convert_segment_number : Keeps convert_segment.Learnt
    (λ κs a z e. WrittenNumber (convert_segment_uses a.1.0 a.1.1.0.now (length a.1.1.1.0.now)) z)
convert_segment_number κs a z e p = writes _ z refl refl (convert_segment_refuses κs a z e p)

pub convert_spline_number : Keeps convert_spline.Learnt
    (λ κs a z e. WrittenNumber (convert_uses a.0 a.1.0 a.1.1.0.now (length a.1.1.1.0.now)) z)
convert_spline_number κs a z e p = writes _ z refl refl (convert_spline_refuses κs a z e p)
