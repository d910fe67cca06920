-- The exports in whole numbers: each asks nothing, allows one reply, and writes nothing where it does not answer 0. Assumes nothing.
use Rattle.turns_back.specs.declared.Turning.{Turning}
use Rattle.turns_back.specs.declared.Turning.TheVariants.{Flat, Never, At}
use Rattle.error.specs.declared.Refusal.{Refusal}
use Rattle.std.specs.Prelude.{Some, None, Option, Ok, Err, Result, ℕ}
use mathlib.Core.Path.{◌≡◌, refl, sym, ◌∙◌}
use mathlib.Core.List.{List}
use Prim.Native.Nat.{ℕ}
use lib.IntN.{ℤ}
use lib.ListN.{length}
use Rattle.basis.specs.declared.Basis.{Basis}
use Rattle.whole.specs.Held.{held_all}
use Rattle.turns_back.specs.Call.{turns_back_by_of, turns_back_of}
use Rattle.monotone.specs.Table.{made_of, left_of}
use Rattle.exports_reply.specs.Replies.{chosen_of, no_basis, chosen}
use Rattle.simmerstoat_whole.specs.Replies.{turning_reply, turning_left, made_reply, written_left}
use Rattle.simmerstoat_whole.proofs.simmerstoat_turns_back.Reads as c_turns_back
use Rattle.simmerstoat_whole.proofs.simmerstoat_turns_back_by.Reads as c_turns_back_by
use Rattle.simmerstoat_whole.proofs.simmerstoat_monotone.Reads as c_monotone
use Rattle.calls.specs.Calls.{AsksNothing, Keeps, OneReply}
use Rattle.promises_whole.proofs.Monotone.{kept}

pub c_turns_back_asks_nothing : AsksNothing c_turns_back.Asked
c_turns_back_asks_nothing κs a = tt

pub c_turns_back_by_asks_nothing : AsksNothing c_turns_back_by.Asked
c_turns_back_by_asks_nothing κs a = tt

pub c_monotone_asks_nothing : AsksNothing c_monotone.Asked
c_monotone_asks_nothing κs a = tt

pub c_turns_back_one_reply : OneReply c_turns_back.Learnt (λ κs z e z' e'. (z ≡ z') × (e.1.1.0.now ≡ e'.1.1.0.now))
c_turns_back_one_reply κs a z z' e e' p q = (p.0 ∙ sym q.0, p.1 ∙ sym q.1)

pub c_turns_back_by_one_reply : OneReply c_turns_back_by.Learnt (λ κs z e z' e'. (z ≡ z') × (e.1.1.1.0.now ≡ e'.1.1.1.0.now))
c_turns_back_by_one_reply κs a z z' e e' p q = (p.0 ∙ sym q.0, p.1 ∙ sym q.1)

pub c_monotone_one_reply : OneReply c_monotone.Learnt (λ κs z e z' e'. (z ≡ z') × ((e.1.1.0.now ≡ e'.1.1.0.now) × (e.1.0.now ≡ e'.1.0.now)))
c_monotone_one_reply κs a z z' e e' p q = (p.0 ∙ sym q.0, (p.1.0 ∙ sym q.1.0, p.1.1 ∙ sym q.1.1))

-- ---- nothing is written
turning_kept : (t : Result Turning Refusal) (old : List ℕ) → (turning_reply t ≡ 0 → Prim.⊥) → turning_left t old ≡ old
turning_kept (Err r) old h = refl
turning_kept (Ok Never) old h = absurd (h refl)
turning_kept (Ok (At s)) old h = absurd (h refl)
turning_kept (Ok Flat) old h = absurd (h refl)

chosen_kept : (c : Option Basis) (f : Basis → Result Turning Refusal) (old : List ℕ) → (chosen c no_basis (λ b. turning_reply (f b)) ≡ 0 → Prim.⊥)
    → chosen c old (λ b. turning_left (f b) old) ≡ old
chosen_kept (Some b) f old h = turning_kept (f b) old h
chosen_kept None f old h = refl

pub c_turns_back_writes_nothing : Keeps c_turns_back.Learnt (λ κs a z e. (z ≡ 0 → Prim.⊥) → e.1.1.0.now ≡ a.1.1.0.now)
c_turns_back_writes_nothing κs a z e p h =
    p.1 ∙ chosen_kept (chosen_of a.0) (λ b. turns_back_of b (held_all a.1.0.now)) a.1.1.0.now (λ w. h (p.0 ∙ w))

pub c_turns_back_by_writes_nothing : Keeps c_turns_back_by.Learnt (λ κs a z e. (z ≡ 0 → Prim.⊥) → e.1.1.1.0.now ≡ a.1.1.1.0.now)
c_turns_back_by_writes_nothing κs a z e p h =
    p.1 ∙ chosen_kept (chosen_of a.0) (λ b. turns_back_by_of b a.1.0 (held_all a.1.1.0.now)) a.1.1.1.0.now (λ w. h (p.0 ∙ w))

written_kept : (m : Result ℕ Refusal) (old : ℕ) → (made_reply m ≡ 0 → Prim.⊥) → written_left m old ≡ old
written_kept (Err r) old h = refl
written_kept (Ok n) old h = absurd (h refl)

table_kept : (m : Result ℕ Refusal) (z old : List ℤ) → made_of z (length old) ≡ m → (made_reply m ≡ 0 → Prim.⊥) → left_of z old ≡ old
table_kept (Err r) z old q h = kept z old r q
table_kept (Ok n) z old q h = absurd (h refl)

pub c_monotone_writes_nothing : Keeps c_monotone.Learnt
    (λ κs a z e. (z ≡ 0 → Prim.⊥) → (e.1.0.now ≡ a.1.0.now) × (e.1.1.0.now ≡ a.1.1.0.now))
c_monotone_writes_nothing κs a z e p h =
    let m = made_of (held_all a.0.now) (length a.1.0.now) in (
      p.1.1 ∙ table_kept m (held_all a.0.now) a.1.0.now refl (λ w. h (p.0 ∙ w)),
      p.1.0 ∙ written_kept m a.1.1.0.now (λ w. h (p.0 ∙ w)),
    )
