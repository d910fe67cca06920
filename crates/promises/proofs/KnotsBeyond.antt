-- Which knot is told by the calls that came later: strict conversion, the calls on a table with a span, the check of a claim, the depth at a time of either
-- table, and the valve. It follows from where each refuses, by what its row of the knots, or of the order check, says. Assumes nothing.
use Rattle.uneven.specs.declared.DepthMiss.TheVariants.{Refused}
use Rattle.inverse_segment.specs.declared.Miss.TheVariants.{Refused}
use Rattle.std.specs.Prelude.{Err}
use mathlib.Core.Path.{◌≡◌, refl, sym, subst, ◌∙◌}
use mathlib.Core.Bool.{Bool, true, false, cond, ◌&&◌}
use mathlib.Core.List.{List, ◌∷◌}
use Prim.Native.Nat.{ℕ, zero, suc, ◌<◌, ◌≤◌}
use native.Mathlib.Omega.{arith}
use lib.Dec.{T}
use lib.IntN.{ℤ}
use lib.ListN.{length}
use lib.Ieee.{Float}
use lib.Ieee.Fits.{and_l, and_r}
use borrow.Author.Tests.{ltb-true}
use Rattle.doubles.proofs.Tests.{holds}
use Rattle.error.specs.declared.Refusal.TheVariants.{BadKnot, TurnsBack}
use Rattle.error.specs.Refusals.{Uses, rows, applies, refusal_by}
use Rattle.error.proofs.First.{First, first_applies}
use Rattle.inverse_segment.specs.Answer.{default_limit, default_precision}
use Rattle.inverse_segment.specs.Method.{steady_limit}
use Rattle.inverse_order.specs.Order.{turns_back, turning_knot}
use Rattle.inverse_order.proofs.TurnsBack.{AgainstAt, turning_first}
use Rattle.inverse.specs.Inverse.{inverse_uses}
use Rattle.spline.specs.Evaluation.{spline_uses}
use Rattle.convert.specs.Conversion.{convert_uses}
use Rattle.convert_strict.specs.Strict.{strict_uses}
use Rattle.convert_strict.proofs.convert_spline_strict.Reads as convert_spline_strict
use Rattle.claim.specs.Claim.{claim_uses}
use Rattle.claim.proofs.check_claim.Reads as check_claim
use Rattle.table_span.specs.Second.{bad_span}
use Rattle.table.proofs.table_spline.Reads as table_spline
use Rattle.table.proofs.table_spline_inverse_by.Reads as table_spline_inverse_by
use Rattle.table.proofs.table_spline_inverse.Reads as table_spline_inverse
use Rattle.table.proofs.table_spline_inverse_steady.Reads as table_spline_inverse_steady
use Rattle.table.proofs.table_convert_spline.Reads as table_convert_spline
use Rattle.table.proofs.table_convert_spline_strict.Reads as table_convert_spline_strict
use Rattle.uneven.specs.declared.WhichTable.TheVariants.{Times, Depths}
use Rattle.uneven.specs.Uneven.{depth_uses}
use Rattle.uneven.proofs.depth_at.Reads as depth_at
use Rattle.valve.specs.Mix.{knot_of, small, first_large, mix_uses}
use Rattle.valve.proofs.mix.Reads as mix
use Rattle.calls.specs.Calls.{Keeps}
use Rattle.promises.proofs.Knots.{FirstBad, knot_first}
use Rattle.promises.proofs.Claims.{check_claim_checked}
use Rattle.promises.proofs.Seconds.{table_spline_refuses, table_spline_inverse_by_refuses, table_spline_inverse_refuses, table_convert_spline_refuses}
use Rattle.promises.proofs.Steady.{table_spline_inverse_steady_refuses}
use Rattle.promises.proofs.Strict.{strict_refuses_first}
use Rattle.promises.proofs.StrictTables.{table_strict_refuses}
use Rattle.promises.proofs.Uneven.{depth_at_sounds}
use Rattle.promises.proofs.Valve.{mix_refuses}

-- ---- 4
pub strict_first_bad : Keeps convert_spline_strict.Learnt (λ κs a z e. (i : ℕ) → z ≡ Err (BadKnot i) → FirstBad a.1.1.0.now i)
strict_first_bad κs a z e p i h =
    knot_first (strict_uses a.0 a.1.0 a.1.1.0.now a.1.1.1.0 (length a.1.1.1.1.0.now)) a.1.1.0.now i refl refl
    ((strict_refuses_first κs a z e p (BadKnot i)).0 h)

pub table_spline_first_bad : Keeps table_spline.Learnt (λ κs a z e. (i : ℕ) → z ≡ Err (BadKnot i) → FirstBad a.1.1.0.now i)
table_spline_first_bad κs a z e p i h =
    knot_first (bad_span a.0.span ∷ spline_uses a.0.basis a.1.0 a.1.1.0.now) a.1.1.0.now i refl refl
    ((table_spline_refuses κs a z e p (BadKnot i)).0 h)

pub table_spline_inverse_by_first_bad : Keeps table_spline_inverse_by.Learnt
    (λ κs a z e. (i : ℕ) → z ≡ Err (Refused (BadKnot i)) → FirstBad a.1.1.1.0.now i)
table_spline_inverse_by_first_bad κs a z e p i h =
    knot_first
    (bad_span a.1.0.span ∷ inverse_uses a.1.0.basis a.1.1.0 a.1.1.1.0.now a.0.check a.0.limit a.0.precision)
    a.1.1.1.0.now i refl refl ((table_spline_inverse_by_refuses κs a z e p (BadKnot i)).0 h)

pub table_spline_inverse_first_bad : Keeps table_spline_inverse.Learnt (λ κs a z e. (i : ℕ) → z ≡ Err (Refused (BadKnot i)) → FirstBad a.1.1.0.now i)
table_spline_inverse_first_bad κs a z e p i h =
    knot_first (bad_span a.0.span ∷ inverse_uses a.0.basis a.1.0 a.1.1.0.now a.1.1.1.0 default_limit default_precision)
    a.1.1.0.now i refl refl ((table_spline_inverse_refuses κs a z e p (BadKnot i)).0 h)

pub table_spline_inverse_steady_first_bad : Keeps table_spline_inverse_steady.Learnt
    (λ κs a z e. (i : ℕ) → z ≡ Err (Refused (BadKnot i)) → FirstBad a.1.1.0.now i)
table_spline_inverse_steady_first_bad κs a z e p i h =
    knot_first (bad_span a.0.span ∷ inverse_uses a.0.basis a.1.0 a.1.1.0.now a.1.1.1.0 steady_limit default_precision)
    a.1.1.0.now i refl refl ((table_spline_inverse_steady_refuses κs a z e p (BadKnot i)).0 h)

pub table_convert_spline_first_bad : Keeps table_convert_spline.Learnt (λ κs a z e. (i : ℕ) → z ≡ Err (BadKnot i) → FirstBad a.1.1.0.now i)
table_convert_spline_first_bad κs a z e p i h =
    knot_first (bad_span a.0.span ∷ convert_uses a.0.basis a.1.0 a.1.1.0.now (length a.1.1.1.0.now)) a.1.1.0.now i refl refl
    ((table_convert_spline_refuses κs a z e p (BadKnot i)).0 h)

pub table_strict_first_bad : Keeps table_convert_spline_strict.Learnt (λ κs a z e. (i : ℕ) → z ≡ Err (BadKnot i) → FirstBad a.1.1.0.now i)
table_strict_first_bad κs a z e p i h =
    knot_first
    (bad_span a.0.span ∷ strict_uses a.0.basis a.1.0 a.1.1.0.now a.1.1.1.0 (length a.1.1.1.1.0.now))
    a.1.1.0.now i refl refl ((table_strict_refuses κs a z e p (BadKnot i)).0 h)

pub check_claim_first_bad : Keeps check_claim.Learnt (λ κs a z e. (i : ℕ) → z ≡ Err (BadKnot i) → FirstBad a.1.1.1.1.1.0.now i)
check_claim_first_bad κs a z e p i h =
    knot_first (claim_uses a.0 a.1.0 a.1.1.0 a.1.1.1.0 a.1.1.1.1.0 a.1.1.1.1.1.0.now) a.1.1.1.1.1.0.now i refl refl
    (((check_claim_checked κs a z e p).refused (BadKnot i)).0 h)

-- of the table that is named
pub depth_at_first_bad_time : Keeps depth_at.Learnt (λ κs a z e. (i : ℕ) → z ≡ Err (Refused Times (BadKnot i)) → FirstBad a.1.0.now i)
depth_at_first_bad_time κs a z e p i h =
    knot_first (inverse_uses a.0 a.1.1.1.1.0 a.1.0.now true a.1.1.1.1.1.0 a.1.1.1.1.1.1.0) a.1.0.now i refl refl
    (((depth_at_sounds κs a z e p).times (BadKnot i)).0 h)

pub depth_at_first_bad_depth : Keeps depth_at.Learnt (λ κs a z e. (i : ℕ) → z ≡ Err (Refused Depths (BadKnot i)) → FirstBad a.1.1.1.0.now i)
depth_at_first_bad_depth κs a z e p i h =
    knot_first (depth_uses a.0 (length a.1.0.now) a.1.1.0 a.1.1.1.0.now) a.1.1.1.0.now i refl refl
    (((depth_at_sounds κs a z e p).depths (BadKnot i)).0 h).1

-- ---- 10: the order check was wanted, the step at knot i goes against the direction, and no earlier one does
abbrev pub FirstTurn : Bool → List Float → ℕ → Type 0
FirstTurn check ks i = T check × AgainstAt ks i × ((j : ℕ) → AgainstAt ks j → i ≤ j)

pub turn_first : (us : Uses) (check : Bool) (ks : List Float) (i : ℕ) → applies 10 us ≡ (check && turns_back ks)
    → refusal_by 10 us ≡ TurnsBack (turning_knot ks)
    → First us rows (TurnsBack i) → FirstTurn check ks i
turn_first us check ks i a b f =
    let p = first_applies us rows (TurnsBack i) f in
    let h : T (check && turns_back ks) = holds (sym a ∙ p.0) in
    let u : TurnsBack (turning_knot ks) ≡ TurnsBack i = sym b ∙ p.1 in
    let q : turning_knot ks ≡ i = cc in
    let w = subst (λ (n : ℕ). AgainstAt ks n × ((j : ℕ) → AgainstAt ks j → n ≤ j)) q (turning_first ks (and_r check (turns_back ks) h)) in
    (and_l check (turns_back ks) h, w.0, w.1)

pub table_spline_inverse_by_first_turn : Keeps table_spline_inverse_by.Learnt
    (λ κs a z e. (i : ℕ) → z ≡ Err (Refused (TurnsBack i)) → FirstTurn a.0.check a.1.1.1.0.now i)
table_spline_inverse_by_first_turn κs a z e p i h =
    turn_first
    (bad_span a.1.0.span ∷ inverse_uses a.1.0.basis a.1.1.0 a.1.1.1.0.now a.0.check a.0.limit a.0.precision)
    a.0.check a.1.1.1.0.now i refl refl ((table_spline_inverse_by_refuses κs a z e p (TurnsBack i)).0 h)

pub table_spline_inverse_first_turn : Keeps table_spline_inverse.Learnt
    (λ κs a z e. (i : ℕ) → z ≡ Err (Refused (TurnsBack i)) → FirstTurn a.1.1.1.0 a.1.1.0.now i)
table_spline_inverse_first_turn κs a z e p i h =
    turn_first (bad_span a.0.span ∷ inverse_uses a.0.basis a.1.0 a.1.1.0.now a.1.1.1.0 default_limit default_precision)
    a.1.1.1.0 a.1.1.0.now i refl refl ((table_spline_inverse_refuses κs a z e p (TurnsBack i)).0 h)

pub table_spline_inverse_steady_first_turn : Keeps table_spline_inverse_steady.Learnt
    (λ κs a z e. (i : ℕ) → z ≡ Err (Refused (TurnsBack i)) → FirstTurn a.1.1.1.0 a.1.1.0.now i)
table_spline_inverse_steady_first_turn κs a z e p i h =
    turn_first (bad_span a.0.span ∷ inverse_uses a.0.basis a.1.0 a.1.1.0.now a.1.1.1.0 steady_limit default_precision)
    a.1.1.1.0 a.1.1.0.now i refl refl ((table_spline_inverse_steady_refuses κs a z e p (TurnsBack i)).0 h)

-- the times are inverted with the order check; the depths have none
pub depth_at_first_turn : Keeps depth_at.Learnt (λ κs a z e. (i : ℕ) → z ≡ Err (Refused Times (TurnsBack i)) → FirstTurn true a.1.0.now i)
depth_at_first_turn κs a z e p i h =
    turn_first (inverse_uses a.0 a.1.1.1.1.0 a.1.0.now true a.1.1.1.1.1.0 a.1.1.1.1.1.1.0) true a.1.0.now i refl refl
    (((depth_at_sounds κs a z e p).times (TurnsBack i)).0 h)

-- ---- 4 of the valve: knot i is too large, and none before it
pub record FirstLarge (ks : List ℤ) (i : ℕ) : Type 0 where
  pub below : i < 4
  pub large : small (knot_of ks i) ≡ false
  pub before : (j : ℕ) → j < i → small (knot_of ks j) ≡ true

large_first : (ks : List ℤ) → first_large ks < 4 → FirstLarge ks (first_large ks)
unfolding first_large
large_first ks h = go (small (knot_of ks 0)) (small (knot_of ks 1)) (small (knot_of ks 2)) (small (knot_of ks 3)) refl refl refl refl h
  where
    go : (a b c d : Bool) → small (knot_of ks 0) ≡ a → small (knot_of ks 1) ≡ b → small (knot_of ks 2) ≡ c → small (knot_of ks 3) ≡ d
        → cond a (cond b (cond c (cond d 4 3) 2) 1) 0 < 4 → FirstLarge ks (cond a (cond b (cond c (cond d 4 3) 2) 1) 0)
    go false b c d p q r s l = record { below = l; large = p; before = λ j k. absurd (omega (arith, k)) }
    go true false c d p q r s l = record { below = l; large = q; before = one }
      where
        one : (j : ℕ) → j < 1 → small (knot_of ks j) ≡ true
        one zero k = p
        one (suc j) k = absurd (omega (arith, k))
    go true true false d p q r s l = record { below = l; large = r; before = two }
      where
        two : (j : ℕ) → j < 2 → small (knot_of ks j) ≡ true
        two zero k = p
        two (suc zero) k = q
        two (suc (suc j)) k = absurd (omega (arith, k))
    go true true true false p q r s l = record { below = l; large = s; before = three }
      where
        three : (j : ℕ) → j < 3 → small (knot_of ks j) ≡ true
        three zero k = p
        three (suc zero) k = q
        three (suc (suc zero)) k = r
        three (suc (suc (suc j))) k = absurd (omega (arith, k))
    go true true true true p q r s l = absurd (omega (arith, l))

pub mix_first_large : Keeps mix.Learnt (λ κs a z e. (i : ℕ) → z ≡ Err (BadKnot i) → FirstLarge a.1.0.now i)
mix_first_large κs a z e p i h =
    let ks = a.1.0.now in
    let f = first_applies (mix_uses a.0 ks) rows (BadKnot i) ((mix_refuses κs a z e p (BadKnot i)).0 h) in
    let w : BadKnot (first_large ks) ≡ BadKnot i = f.1 in
    let q : first_large ks ≡ i = cc in
    subst (FirstLarge ks) q (large_first ks (ltb-true (first_large ks) 4 f.0))
