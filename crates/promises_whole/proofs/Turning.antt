-- Whether a curve turns back, by the two calls: what each asks, when it refuses, and what each answer says of the curve. Assumes nothing.
use Rattle.turns_back.specs.declared.Turning.{Turning}
use Rattle.turns_back.specs.declared.Turning.TheVariants.{Flat, Never, At}
use Rattle.std.specs.Prelude.{Ok, Err, Result}
use mathlib.Core.Path.{◌≡◌, refl, sym, ap, ◌∙◌, subst}
use mathlib.Core.Bool.{Bool, true, false, cond}
use mathlib.Core.List.{List, [], ◌∷◌}
use Prim.Native.Nat.{ℕ, ◌*◌, ◌<◌}
use lib.IntN.{ℤ, pos, ◌*ℤ◌}
use lib.Dec.{T, ltb}
use lib.ListN.{length}
use lib.Signed.{lt_z}
use borrow.Author.Tests.{ltb-true}
use Rattle.error.specs.declared.Refusal.{Refusal}
use Rattle.error.specs.declared.Refusal.TheVariants.{BadKnot}
use Rattle.error.specs.Refusals.{rows, first, Verdict}
use Rattle.error.proofs.First.{never, First, first_sound, first_complete, first_applies}
use Rattle.error.proofs.Orders.{order_of, named, once}
use Rattle.basis.specs.declared.Basis.{Basis}
use Rattle.basis.specs.Basis.{segments_of}
use Rattle.whole.specs.Held.{held_all, turned_all, first_large}
use Rattle.turns_back.specs.Curve.{curve_at, first_fall}
use Rattle.turns_back.specs.Call.{most, turning_uses, turning, turning_of, start_of, end_of, by_ends, answered, turns_back_by_of, turns_back_of}
use Rattle.turns_back.proofs.Everywhere.{NotAfter}
use Rattle.turns_back.proofs.Answer.{before, after, Against, in_order_everywhere, in_order_before, turns_somewhere}
use Rattle.turns_back.proofs.Own.{Own, own_never, own_at, flat_where, flat_only, by_never_flat}
use Rattle.turns_back.proofs.InOrder.{InOrder}
use Rattle.turns_back.proofs.Sorted.{keeps_order, sorted_never_turns}
use Rattle.turns_back.proofs.turns_back.Reads as turns_back
use Rattle.turns_back.proofs.turns_back_by.Reads as turns_back_by
use Rattle.calls.specs.Calls.{AsksNothing, Keeps, OneReply, Exactly}
use Rattle.promises_whole.proofs.Larger.{FirstLarger, first_larger}

-- ---- what they ask
pub turns_back_asks_nothing : AsksNothing turns_back.Asked
turns_back_asks_nothing κs a = tt

pub turns_back_by_asks_nothing : AsksNothing turns_back_by.Asked
turns_back_by_asks_nothing κs a = tt

pub turns_back_one_reply : OneReply turns_back.Learnt (λ κs z e z' e'. z ≡ z')
turns_back_one_reply κs a z z' e e' p q = p ∙ sym q

pub turns_back_by_one_reply : OneReply turns_back_by.Learnt (λ κs z e z' e'. z ≡ z')
turns_back_by_one_reply κs a z z' e e' p q = p ∙ sym q

-- ---- when they refuse: these rows, in this order, each named once
pub turning_ordered : (b : Basis) (z : List ℤ) → (order_of (turning_uses b z) ≡ 1 ∷ 2 ∷ 3 ∷ 4 ∷ []) × (once (named (turning_uses b z)) ≡ true)
turning_ordered b z = (refl, refl)

by_answer : (v : Verdict) (t : Turning) (r : Refusal) → Exactly (answered v t ≡ Err r) (v ≡ Err r)
by_answer (Ok _) t r = (λ p. never (cc), λ p. never (cc))
by_answer (Err q) t r = (λ p. let s : q ≡ r = cc in ap Err s, λ p. let s : q ≡ r = cc in ap Err s)

by_rows : (b : Basis) (z : List ℤ) (t : Turning) (r : Refusal)
    → Exactly (answered (first (turning_uses b z)) t ≡ Err r) (First (turning_uses b z) rows r)
by_rows b z t r =
    let m = by_answer (first (turning_uses b z)) t r in
    (λ p. first_sound rows (turning_uses b z) r (m.0 p), λ f. m.1 (first_complete rows (turning_uses b z) r f))

own_refused : (b : Basis) (z : List ℤ) (r : Refusal) → Exactly (turns_back_of b z ≡ Err r) (First (turning_uses b z) rows r)
unfolding turns_back_of
own_refused b z r = by_rows b z (by_ends (start_of b z) (end_of b z) b z) r

by_refused : (b : Basis) (t : Bool) (z : List ℤ) (r : Refusal) → Exactly (turns_back_by_of b t z ≡ Err r) (First (turning_uses b z) rows r)
unfolding turns_back_by_of
by_refused b t z r = by_rows b z (turning_of b t z) r

-- exactly where a row applies, and by the first
pub turns_back_refuses : Keeps turns_back.Learnt
    (λ κs a z e. (r : Refusal) → Exactly (z ≡ Err r) (First (turning_uses a.0 (held_all a.1.0.now)) rows r))
turns_back_refuses κs a z e p r = let m = own_refused a.0 (held_all a.1.0.now) r in (λ q. m.0 (sym p ∙ q), λ f. p ∙ m.1 f)

pub turns_back_by_refuses : Keeps turns_back_by.Learnt
    (λ κs a z e. (r : Refusal) → Exactly (z ≡ Err r) (First (turning_uses a.0 (held_all a.1.1.0.now)) rows r))
turns_back_by_refuses κs a z e p r = let m = by_refused a.0 a.1.0 (held_all a.1.1.0.now) r in (λ q. m.0 (sym p ∙ q), λ f. p ∙ m.1 f)

-- 4 tells the first knot above the bound
knot_told : (b : Basis) (z : List ℤ) (i : ℕ) → First (turning_uses b z) rows (BadKnot i) → FirstLarger most z i
knot_told b z i f =
    let h = first_applies (turning_uses b z) rows (BadKnot i) f in
    let e : first_large most z ≡ i = cc in
    subst (λ (n : ℕ). FirstLarger most z n) e (first_larger most z (ltb-true (first_large most z) (length z) h.0))

pub turns_back_knot_told : Keeps turns_back.Learnt (λ κs a z e. (i : ℕ) → z ≡ Err (BadKnot i) → FirstLarger most (held_all a.1.0.now) i)
turns_back_knot_told κs a z e p i q = knot_told a.0 (held_all a.1.0.now) i ((turns_back_refuses κs a z e p (BadKnot i)).0 q)

pub turns_back_by_knot_told : Keeps turns_back_by.Learnt (λ κs a z e. (i : ℕ) → z ≡ Err (BadKnot i) → FirstLarger most (held_all a.1.1.0.now) i)
turns_back_by_knot_told κs a z e p i q = knot_told a.0 (held_all a.1.1.0.now) i ((turns_back_by_refuses κs a z e p (BadKnot i)).0 q)

-- ---- what an answer says: of two places, the later one in a segment before k, the values are in order
abbrev pub InOrderUpTo : Basis → Bool → List ℤ → ℕ → Type 0
InOrderUpTo b t z k = (s n j s' n' j' : ℕ) → s' < k → NotAfter s n j s' n' j'
    → before t (curve_at b z s n j *ℤ pos (n' * n' * n')) (curve_at b z s' n' j' *ℤ pos (n * n * n))

-- never: throughout; at r: before segment r, and in r it goes against the direction
abbrev pub Says : Basis → Bool → List ℤ → Result Turning Refusal → Type 0
Says b t z (Err r) = Unit
Says b t z (Ok Flat) = Prim.⊥
Says b t z (Ok Never) = InOrderUpTo b t z (segments_of b (length z))
Says b t z (Ok (At r)) = InOrderUpTo b t z r × Against b t z r

says : (b : Basis) (t : Bool) (z : List ℤ) (a : Result Turning Refusal) → turns_back_by_of b t z ≡ a → Says b t z a
says b t z (Err r) q = tt
says b t z (Ok Flat) q = by_never_flat b z t q
says b t z (Ok Never) q = in_order_everywhere b t z q
says b t z (Ok (At r)) q = (in_order_before b t z r q, turns_somewhere b t z r q)

pub turns_back_by_says : Keeps turns_back_by.Learnt (λ κs a z e. Says a.0 a.1.0 (held_all a.1.1.0.now) z)
turns_back_by_says κs a z e p = says a.0 a.1.0 (held_all a.1.1.0.now) z (sym p)

-- by the curve's own ends: flat, where they are equal; else the same in the direction in which the end lies after the start
pub record Directed (b : Basis) (z : List ℤ) (a : Result Turning Refusal) : Type 0 where
  pub up : Bool
  pub ends : after up (end_of b z) (start_of b z)
  pub says : Says b up z a

abbrev pub SaysOwn : Basis → List ℤ → Result Turning Refusal → Type 0
SaysOwn b z (Err r) = Unit
SaysOwn b z (Ok Flat) = start_of b z ≡ end_of b z
SaysOwn b z (Ok Never) = Directed b z (Ok Never)
SaysOwn b z (Ok (At r)) = Directed b z (Ok (At r))

directed : (b : Basis) (z : List ℤ) (a : Result Turning Refusal) → Own b z a → Directed b z a
directed b z a o = record { up = o.up; ends = o.ends; says = says b o.up z a o.same }

says_own : (b : Basis) (z : List ℤ) (a : Result Turning Refusal) → turns_back_of b z ≡ a → SaysOwn b z a
says_own b z (Err r) q = tt
says_own b z (Ok Flat) q = flat_only b z q
says_own b z (Ok Never) q = directed b z (Ok Never) (own_never b z q)
says_own b z (Ok (At r)) q = directed b z (Ok (At r)) (own_at b z r q)

pub turns_back_says : Keeps turns_back.Learnt (λ κs a z e. SaysOwn a.0 (held_all a.1.0.now) z)
turns_back_says κs a z e p = says_own a.0 (held_all a.1.0.now) z (sym p)

-- and it is flat wherever they are equal and no row applies
pub turns_back_flat : Keeps turns_back.Learnt (λ κs a z e. let ks = held_all a.1.0.now in
    first (turning_uses a.0 ks) ≡ Ok tt → start_of a.0 ks ≡ end_of a.0 ks → z ≡ Ok Flat)
turns_back_flat κs a z e p v q = p ∙ flat_where a.0 (held_all a.1.0.now) q v

-- ---- B-spline, Bezier and Linear over knots in order
pub turns_back_by_sorted : Keeps turns_back_by.Learnt (λ κs a z e. let ks = held_all a.1.1.0.now in
    T (keeps_order a.0) → InOrder a.1.0 ks → first (turning_uses a.0 ks) ≡ Ok tt → z ≡ Ok Never)
turns_back_by_sorted κs a z e p k o v = p ∙ sorted_never_turns a.0 k a.1.0 (held_all a.1.1.0.now) o v
