-- What the strict conversion promises, of its call. It refuses by the first row that applies; 15 exactly where a seam is lost, with the lowest segment;
-- otherwise reply and whole buffer are the plain conversion's; and a refusal writes nothing. Assumes nothing.
use Rattle.std.specs.Prelude.{Ok, Err, Result, ℕ}
use mathlib.Core.Path.{◌≡◌, refl, sym, ap, ◌∙◌}
use mathlib.Core.Bool.{false}
use mathlib.Core.List.{List, [], ◌∷◌}
use Prim.Native.Nat.{ℕ, ◌+◌, ◌-◌, ◌*◌, ◌<◌}
use lib.ListN.{length, get_or}
use lib.Ieee.{Float, nan}
use Rattle.error.specs.declared.Refusal.{Refusal}
use Rattle.error.specs.declared.Refusal.TheVariants.{BadAllowance, LostSeam}
use Rattle.error.specs.Refusals.{rows}
use Rattle.error.proofs.First.{never, First, first_sound, first_complete}
use Rattle.basis.specs.declared.Basis.{Basis}
use Rattle.basis.specs.declared.Basis.TheVariants.{Power}
use Rattle.basis.specs.Basis.{step_of, segments_of}
use Rattle.convert_matrix.specs.Elimination.{conversion_of}
use Rattle.convert.specs.Output.{window_of}
use Rattle.convert.specs.Conversion.{Conversion, gives, refuses, converted_of}
use Rattle.convert.specs.Buffer.{answer_of, buffer_of}
use Rattle.convert_strict.specs.Seams.{is_apart}
use Rattle.convert_strict.specs.Strict.{strict_uses, strict_of}
use Rattle.convert_strict.proofs.Call.{SeamLost, strict_refuses, refused_by, strict_is_plain, lost_only, lost_where, power_keeps, kept_within}
use Rattle.convert_strict.proofs.convert_spline_strict.Reads as convert_spline_strict
use Rattle.exports_reply.specs.Replies.{chosen_of}
use Rattle.simmerstoat.proofs.seams.simmerstoat_convert_spline_strict.Reads as c_convert_spline_strict
use Rattle.promises.proofs.Orders.{Ordered}
use Rattle.promises.proofs.Exports.{NotZero, out_kept, length_kept}
use Rattle.calls.specs.Calls.{AsksNothing, Keeps, OneReply, Exactly}

-- ---- demand 1
pub strict_asks_nothing : AsksNothing convert_spline_strict.Asked
strict_asks_nothing κs a = tt

pub strict_one_reply : OneReply convert_spline_strict.Learnt (λ κs z e z' e'. (z ≡ z') × (e.1.1.1.1.0.now ≡ e'.1.1.1.1.0.now))
strict_one_reply κs a z z' e e' p q = (p.0 ∙ sym q.0, p.1 ∙ sym q.1)

-- an answer refuses exactly where the conversion does
by_answer : (x : Conversion) (z : Result ℕ Refusal) (r : Refusal) → z ≡ answer_of x → Exactly (z ≡ Err r) (x ≡ refuses r)
by_answer (gives l) z r p = (λ h. never (cc), λ h. never (cc))
by_answer (refuses q) z r p = (λ h. let s : q ≡ r = cc in ap refuses s, λ h. let s : q ≡ r = cc in p ∙ ap Err s)

pub strict_refuses_first : Keeps convert_spline_strict.Learnt
    (λ κs a z e. (r : Refusal)
    → Exactly (z ≡ Err r) (First (strict_uses a.0 a.1.0 a.1.1.0.now a.1.1.1.0 (length a.1.1.1.1.0.now)) rows r))
strict_refuses_first κs a z e p r =
    let room = length a.1.1.1.1.0.now in
    let us = strict_uses a.0 a.1.0 a.1.1.0.now a.1.1.1.0 room in
    let x = by_answer (strict_of a.0 a.1.0 a.1.1.0.now a.1.1.1.0 room) z r p.0 in (
      λ h. first_sound rows us r (refused_by a.0 a.1.0 a.1.1.0.now a.1.1.1.0 room (x.0 h)),
      λ f. x.1 (strict_refuses a.0 a.1.0 a.1.1.0.now a.1.1.1.0 room (first_complete rows us r f)),
    )

-- its rows in their order
pub strict_ordered : (from to : Basis) (ks : List Float) (allowance : Float) (room : ℕ)
    → Ordered (strict_uses from to ks allowance room) (1 ∷ 2 ∷ 3 ∷ 8 ∷ 17 ∷ 9 ∷ 4 ∷ 15 ∷ [])
strict_ordered from to ks allowance room = (refl, refl)

kept : (x : Conversion) (out : List Float) (r : Refusal) → x ≡ refuses r → buffer_of x out ≡ out
kept x out r e = ap (λ (y : Conversion). buffer_of y out) e

pub strict_writes_nothing : Keeps convert_spline_strict.Learnt (λ κs a z e. (r : Refusal) → z ≡ Err r → e.1.1.1.1.0.now ≡ a.1.1.1.1.0.now)
strict_writes_nothing κs a z e p r h =
    let out = a.1.1.1.1.0.now in
    let x = strict_of a.0 a.1.0 a.1.1.0.now a.1.1.1.0 (length out) in
    p.1 ∙ kept x out r ((by_answer x z r p.0).0 h)

-- ---- 15 with segment s: the plain conversion would answer, the allowance is good, and s is the lowest segment that loses a double
pub strict_lost : Keeps convert_spline_strict.Learnt
    (λ κs a z e. (s : ℕ)
    → Exactly (z ≡ Err (LostSeam s)) (SeamLost a.0 a.1.0 a.1.1.0.now a.1.1.1.0 (length a.1.1.1.1.0.now) s))
strict_lost κs a z e p s =
    let room = length a.1.1.1.1.0.now in
    let x = by_answer (strict_of a.0 a.1.0 a.1.1.0.now a.1.1.1.0 room) z (LostSeam s) p.0 in (
      λ h. lost_only a.0 a.1.0 a.1.1.0.now a.1.1.1.0 room s (x.0 h),
      λ f. x.1 (lost_where a.0 a.1.0 a.1.1.0.now a.1.1.1.0 room s f),
    )

-- to Power it is never given: its windows do not overlap
pub strict_power_keeps : Keeps convert_spline_strict.Learnt (λ κs a z e. a.1.0 ≡ Power → (s : ℕ) → z ≡ Err (LostSeam s) → ⊥)
strict_power_keeps κs a z e p q s h =
    power_keeps a.0 a.1.1.0.now a.1.1.1.0 a.1.0 q s ((strict_lost κs a z e p s).0 h).1.1.0

-- ---- where neither 17 nor 15 is given, the reply and the whole buffer are the plain conversion's
pub strict_is_the_plain : Keeps convert_spline_strict.Learnt
    (λ κs a z e.
    (z ≡ Err BadAllowance → ⊥)
    → ((s : ℕ) → z ≡ Err (LostSeam s) → ⊥)
    → (z ≡ answer_of (converted_of a.0 a.1.0 a.1.1.0.now (length a.1.1.1.1.0.now)))
    × (e.1.1.1.1.0.now ≡ buffer_of (converted_of a.0 a.1.0 a.1.1.0.now (length a.1.1.1.1.0.now)) a.1.1.1.1.0.now))
strict_is_the_plain κs a z e p u v =
    let out = a.1.1.1.1.0.now in
    let x = strict_of a.0 a.1.0 a.1.1.0.now a.1.1.1.0 (length out) in
    let q =
    strict_is_plain a.0 a.1.0 a.1.1.0.now a.1.1.1.0 (length out) (λ h. u ((by_answer x z BadAllowance p.0).1 h))
    (λ s h. v s ((by_answer x z (LostSeam s) p.0).1 h)) in
    (p.0 ∙ ap answer_of q, p.1 ∙ ap (λ (y : Conversion). buffer_of y out) q)

-- ---- where doubles are written, each that a later segment drops lies within the allowance of the one that then stands at its place of the buffer
pub strict_keeps_within : Keeps convert_spline_strict.Learnt
    (λ κs a z e. (n : ℕ) → z ≡ Ok n → (s j : ℕ) → 0 < s → s < segments_of a.0 (length a.1.1.0.now) → j < 4 - step_of a.1.0
    → is_apart a.1.1.1.0 (get_or (window_of (conversion_of a.0 a.1.0) (step_of a.0) a.1.1.0.now s) j nan)
    (get_or e.1.1.1.1.0.now (s * step_of a.1.0 + j) nan) ≡ false)
strict_keeps_within κs a z e p n h s j u v w =
    let out = a.1.1.1.1.0.now in
    go (strict_of a.0 a.1.0 a.1.1.0.now a.1.1.1.0 (length out)) refl p.0 p.1
  where
    go : (x : Conversion) → strict_of a.0 a.1.0 a.1.1.0.now a.1.1.1.0 (length a.1.1.1.1.0.now) ≡ x → z ≡ answer_of x
        → e.1.1.1.1.0.now ≡ buffer_of x a.1.1.1.1.0.now
        → is_apart a.1.1.1.0 (get_or (window_of (conversion_of a.0 a.1.0) (step_of a.0) a.1.1.0.now s) j nan)
        (get_or e.1.1.1.1.0.now (s * step_of a.1.0 + j) nan) ≡ false
    go (gives l) q y b =
        ap (λ (o : List Float). is_apart a.1.1.1.0 (get_or (window_of (conversion_of a.0 a.1.0) (step_of a.0) a.1.1.0.now s) j nan)
        (get_or o (s * step_of a.1.0 + j) nan)) b
        ∙ kept_within a.0 a.1.0 a.1.1.0.now a.1.1.1.0 (length a.1.1.1.1.0.now) l a.1.1.1.1.0.now q s j u v w
    go (refuses r) q y b = never (cc)

-- ---- what others link
pub c_strict_asks_nothing : AsksNothing c_convert_spline_strict.Asked
c_strict_asks_nothing κs a = tt

pub c_strict_one_reply : OneReply c_convert_spline_strict.Learnt
    (λ κs z e z' e'. (z ≡ z') × (e.1.1.1.1.1.0.now ≡ e'.1.1.1.1.1.0.now) × (e.1.1.1.1.0.now ≡ e'.1.1.1.1.0.now))
c_strict_one_reply κs a z z' e e' p q = (p.0 ∙ sym q.0, p.1.0 ∙ sym q.1.0, p.1.1 ∙ sym q.1.1)

pub c_strict_writes_nothing : Keeps c_convert_spline_strict.Learnt
    (λ κs a z e. NotZero z → (e.1.1.1.1.0.now ≡ a.1.1.1.1.0.now) × (e.1.1.1.1.1.0.now ≡ a.1.1.1.1.1.0.now))
c_strict_writes_nothing κs a z e p h =
    let g : Basis → Basis → Conversion = λ b c. strict_of b c a.1.1.0.now a.1.1.1.0 (length a.1.1.1.1.0.now) in
    let f = chosen_of a.0 in
    let t = chosen_of a.1.0 in
    (p.1.1 ∙ out_kept f t g a.1.1.1.1.0.now (λ w. h (p.0 ∙ w)), p.1.0 ∙ length_kept f t g a.1.1.1.1.1.0.now (λ w. h (p.0 ∙ w)))
