-- The table that cannot turn back, by its call: what it asks, when it refuses, what it writes, and what is promised of the curve over it. Assumes nothing.
use Rattle.turns_back.specs.declared.Turning.TheVariants.{Never}
use Rattle.std.specs.Prelude.{Ok, Err}
use mathlib.Core.Path.{◌≡◌, refl, sym, ap, ◌∙◌, subst}
use mathlib.Core.Bool.{Bool, true}
use mathlib.Core.List.{List, [], ◌∷◌, ◌++◌}
use Prim.Native.Nat.{ℕ, suc, ◌*◌, ◌<◌}
use lib.IntN.{ℤ, pos, ◌*ℤ◌}
use lib.ListN.{length, drop}
use borrow.Author.Tests.{ltb-true}
use Rattle.error.specs.declared.Refusal.{Refusal}
use Rattle.error.specs.declared.Refusal.TheVariants.{BadKnot}
use Rattle.error.specs.Refusals.{rows, first, Verdict}
use Rattle.error.proofs.First.{never, First, first_sound, first_complete, first_applies}
use Rattle.error.proofs.Orders.{order_of, named, once}
use Rattle.basis.specs.declared.Basis.TheVariants.{Hermite}
use Rattle.whole.specs.Held.{held_all, first_large}
use Rattle.turns_back.specs.Curve.{curve_at}
use Rattle.turns_back.specs.Call.{start_of, end_of, turns_back_by_of, turns_back_of}
use Rattle.turns_back.proofs.Everywhere.{NotAfter}
use Rattle.turns_back.proofs.Answer.{before, after}
use Rattle.turns_back.proofs.Own.{by_direction_of_ends}
use Rattle.turns_back.proofs.InOrder.{InOrder}
use Rattle.monotone.specs.Table.{most, table_of, table_uses, made, left, made_of, left_of}
use Rattle.monotone.proofs.Pairs.{table_long}
use Rattle.monotone.proofs.Kept.{wrote_table, wrote_never_turns, wrote_in_order}
use Rattle.monotone.proofs.monotone.Reads as monotone
use Rattle.calls.specs.Calls.{AsksNothing, Keeps, OneReply, Exactly}
use Rattle.promises_whole.proofs.Larger.{FirstLarger, first_larger}

pub monotone_asks_nothing : AsksNothing monotone.Asked
monotone_asks_nothing κs a = tt

pub monotone_one_reply : OneReply monotone.Learnt (λ κs z e z' e'. (z ≡ z') × (e.1.0.now ≡ e'.1.0.now))
monotone_one_reply κs a z z' e e' p q = (p.0 ∙ sym q.0, p.1 ∙ sym q.1)

-- ---- when it refuses: these rows, in this order, each named once
pub table_ordered : (z : List ℤ) (o : ℕ) → (order_of (table_uses z o) ≡ 1 ∷ 3 ∷ 9 ∷ 4 ∷ []) × (once (named (table_uses z o)) ≡ true)
table_ordered z o = (refl, refl)

by_made : (v : Verdict) (n : ℕ) (r : Refusal) → Exactly (made v n ≡ Err r) (v ≡ Err r)
by_made (Ok _) n r = (λ p. never (cc), λ p. never (cc))
by_made (Err q) n r = (λ p. let s : q ≡ r = cc in ap Err s, λ p. let s : q ≡ r = cc in ap Err s)

refused : (z : List ℤ) (o : ℕ) (r : Refusal) → Exactly (made_of z o ≡ Err r) (First (table_uses z o) rows r)
unfolding made_of
refused z o r =
    let m = by_made (first (table_uses z o)) (2 * length z) r in
    (λ p. first_sound rows (table_uses z o) r (m.0 p), λ f. m.1 (first_complete rows (table_uses z o) r f))

pub monotone_refuses : Keeps monotone.Learnt
    (λ κs a z e. (r : Refusal) → Exactly (z ≡ Err r) (First (table_uses (held_all a.0.now) (length a.1.0.now)) rows r))
monotone_refuses κs a z e p r = let m = refused (held_all a.0.now) (length a.1.0.now) r in (λ q. m.0 (sym p.0 ∙ q), λ f. p.0 ∙ m.1 f)

-- 4 tells the first row above the bound
pub monotone_row_told : Keeps monotone.Learnt (λ κs a z e. (i : ℕ) → z ≡ Err (BadKnot i) → FirstLarger most (held_all a.0.now) i)
monotone_row_told κs a z e p i q =
    let ks = held_all a.0.now in
    let us = table_uses ks (length a.1.0.now) in
    let h = first_applies us rows (BadKnot i) ((monotone_refuses κs a z e p (BadKnot i)).0 q) in
    let w : first_large most ks ≡ i = cc in
    subst (λ (n : ℕ). FirstLarger most ks n) w (first_larger most ks (ltb-true (first_large most ks) (length ks) h.0))

pub kept : (z old : List ℤ) (r : Refusal) → made_of z (length old) ≡ Err r → left_of z old ≡ old
unfolding made_of left_of
kept z old r q = ap (λ (v : Verdict). left v (table_of z) old) ((by_made (first (table_uses z (length old))) (2 * length z) r).0 q)

pub monotone_writes_nothing : Keeps monotone.Learnt (λ κs a z e. (r : Refusal) → z ≡ Err r → e.1.0.now ≡ a.1.0.now)
monotone_writes_nothing κs a z e p r q = p.1 ∙ kept (held_all a.0.now) a.1.0.now r (sym p.0 ∙ q)

-- ---- what it writes: as many numbers as twice the rows, which are the table; those behind it stay
pub monotone_wrote : Keeps monotone.Learnt
    (λ κs a z e. (k : ℕ) → z ≡ Ok k → let t = table_of (held_all a.0.now) in
    (k ≡ length t) × (e.1.0.now ≡ t ++ drop k a.1.0.now))
monotone_wrote κs a z e p k q =
    let ks = held_all a.0.now in
    let old = a.1.0.now in
    let w = wrote_table ks old k (sym p.0 ∙ q) in
    (w.0 ∙ sym (table_long ks), p.1 ∙ w.1 ∙ ap (λ (n : ℕ). table_of ks ++ drop n old) (sym w.0))

-- ---- of the curve over it: where rows keep a direction it never turns back
pub monotone_never_turns : Keeps monotone.Learnt
    (λ κs a z e. (k : ℕ) → z ≡ Ok k → (t : Bool) → InOrder t (held_all a.0.now) → turns_back_by_of Hermite t (table_of (held_all a.0.now)) ≡ Ok Never)
monotone_never_turns κs a z e p k q t i = wrote_never_turns t (held_all a.0.now) (length a.1.0.now) k (sym p.0 ∙ q) i

pub monotone_in_order : Keeps monotone.Learnt
    (λ κs a z e. (k : ℕ) → z ≡ Ok k → (t : Bool) → InOrder t (held_all a.0.now) → (s n j s' n' j' : ℕ) → suc s' < length (held_all a.0.now)
    → NotAfter s n j s' n' j'
    → let c = curve_at Hermite (table_of (held_all a.0.now)) in before t (c s n j *ℤ pos (n' * n' * n')) (c s' n' j' *ℤ pos (n * n * n)))
monotone_in_order κs a z e p k q t i = wrote_in_order t (held_all a.0.now) (length a.1.0.now) k (sym p.0 ∙ q) i

-- nor by its own ends, where the last row lies behind the first
pub monotone_never_turns_by_ends : Keeps monotone.Learnt
    (λ κs a z e. (k : ℕ) → z ≡ Ok k → (t : Bool) → InOrder t (held_all a.0.now)
    → let table = table_of (held_all a.0.now) in after t (end_of Hermite table) (start_of Hermite table) → turns_back_of Hermite table ≡ Ok Never)
monotone_never_turns_by_ends κs a z e p k q t i h =
    by_direction_of_ends Hermite (table_of (held_all a.0.now)) t h ∙ monotone_never_turns κs a z e p k q t i
