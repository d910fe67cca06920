-- Many parameters in one call, by its contract: it asks nothing and allows one reply; where it says that values are written, what stands at i is
-- what `spline` replies for the i-th, whatever that is called with, and places beyond stay; where it refuses nothing is written, and 5 tells the
-- first NaN. Assumes nothing.
use Rattle.many.specs.declared.ManyRefusal.TheVariants.{NotANumberAt}
use Rattle.std.specs.Prelude.{Ok, Err}
use mathlib.Core.Path.{◌≡◌, sym, ap, ◌∙◌, subst}
use mathlib.Core.Bool.{true, false}
use mathlib.Core.List.{List}
use Prim.Native.Nat.{ℕ, ◌≤◌, ◌<◌}
use lib.ListN.{length, get_or}
use lib.Ieee.{Float, nan, is_nan}
use Rattle.spline.specs.Evaluation.{spline_of}
use Rattle.many.proofs.Each.{each_value, beyond_stays, refused_stays, tells_first}
use Rattle.many.proofs.spline_many.Reads as spline_many
use Rattle.calls.specs.Calls.{AsksNothing, Keeps, OneReply}

pub spline_many_asks_nothing : AsksNothing spline_many.Asked
spline_many_asks_nothing κs a = tt

pub spline_many_one_reply : OneReply spline_many.Learnt (λ κs z e z' e'. (z ≡ z') × (e.1.1.1.0.now ≡ e'.1.1.1.0.now))
spline_many_one_reply κs a z z' e e' p q = (p.0 ∙ sym q.0, p.1 ∙ sym q.1)

-- what stands at i is what the single call answers for the i-th
pub spline_many_each : Keeps spline_many.Learnt
    (λ κs a z e. z ≡ Ok tt → (i : ℕ) → i < length a.1.0.now
    → spline_of a.0 (get_or a.1.0.now i nan) a.1.1.0.now ≡ Ok (get_or e.1.1.1.0.now i nan))
spline_many_each κs a z e p w i h =
    each_value a.0 a.1.0.now a.1.1.0.now a.1.1.1.0.now (sym p.0 ∙ w) i h
    ∙ ap (λ (o : List Float). Ok (get_or o i nan)) (sym p.1)

pub spline_many_beyond_stays : Keeps spline_many.Learnt
    (λ κs a z e. z ≡ Ok tt → (i : ℕ) → length a.1.0.now ≤ i → get_or e.1.1.1.0.now i nan ≡ get_or a.1.1.1.0.now i nan)
spline_many_beyond_stays κs a z e p w i h =
    ap (λ (o : List Float). get_or o i nan) p.1
    ∙ beyond_stays a.0 a.1.0.now a.1.1.0.now a.1.1.1.0.now (sym p.0 ∙ w) i h

pub spline_many_writes_nothing : Keeps spline_many.Learnt (λ κs a z e. (z ≡ Ok tt → Prim.⊥) → e.1.1.1.0.now ≡ a.1.1.1.0.now)
spline_many_writes_nothing κs a z e p n =
    p.1 ∙ refused_stays a.0 a.1.0.now a.1.1.0.now a.1.1.1.0.now (λ q. n (p.0 ∙ q))

-- the first NaN
pub record FirstNan (xs : List Float) (i : ℕ) : Type 0 where
  pub inside : i < length xs
  pub is : is_nan (get_or xs i nan) ≡ true
  pub before : (j : ℕ) → j < i → is_nan (get_or xs j nan) ≡ false

pub spline_many_first_nan : Keeps spline_many.Learnt (λ κs a z e. (i : ℕ) → z ≡ Err (NotANumberAt i) → FirstNan a.1.0.now i)
spline_many_first_nan κs a z e p i w =
    let t = tells_first a.0 a.1.0.now a.1.1.0.now (length a.1.1.1.0.now) i (sym p.0 ∙ w) in
    subst (λ (k : ℕ). FirstNan a.1.0.now k) (sym t.0) (record { inside = t.1; is = t.2; before = t.3 })
