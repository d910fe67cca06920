-- The list of evaluations misses none: two curves that agree at every listed place come to the same outcome, with the same list. For any rule. Assumes nothing.
use mathlib.Core.Path.{◌≡◌, refl, ap, ◌∙◌}
use mathlib.Core.Bool.{Bool, cond}
use Prim.Native.Nat.{ℕ, zero, suc, ◌+◌, ◌-◌, ◌/◌, min}
use lib.Dec.{leb}
use lib.Ieee.{Float}
use Rattle.doubles.proofs.Tests.{branch, alike}
use Rattle.inverse_segment.specs.Evaluations.{Evaluations}
use Rattle.inverse_segment.specs.Round.{Rule}
use Rattle.inverse_segment.specs.Segment.{Entry, outside, inside, Outcome, or_else, evaluations_of}
use Rattle.inverse_segment.specs.Agreed.{Agreed}
use Rattle.inverse_segment.proofs.Complete.{seen_in, enter_grows, enter_same}
use Rattle.inverse_search.specs.Bound.{bits_of}
use Rattle.inverse_order.specs.Order.{before}
use Rattle.inverse_search.specs.Search.{Trial, tries, last, halve, find}
use Rattle.inverse_search.specs.Trial.{trial}

module _ (g h : ℕ → Float → Float) where
  abbrev Same : Outcome → Type 0
  Same o = Agreed g h (evaluations_of o)

  -- what follows a trial has the trial's list in its own
  else_grows : (e : Entry) (f : Float → Evaluations → Outcome) → ((v : Float) (t : Evaluations) → Same (f v t) → Agreed g h t) → Same (or_else e f)
      → Agreed g h (seen_in e)
  else_grows (outside v t) f k a = k v t a
  else_grows (inside p) f k a = a

  else_same : (e : Entry) (f q : Float → Evaluations → Outcome) → ((v : Float) (t : Evaluations) → Same (f v t) → f v t ≡ q v t) → Same (or_else e f)
      → or_else e f ≡ or_else e q
  else_same (outside v t) f q k a = k v t a
  else_same (inside p) f q k a = refl

  -- two trials that come to the same where g and h agree
  module _ (E F : Trial) (grows : (s : ℕ) (ev : Evaluations) → Agreed g h (seen_in (E s ev)) → Agreed g h ev)
      (same : (s : ℕ) (ev : Evaluations) → Agreed g h (seen_in (E s ev)) → E s ev ≡ F s ev) where
    goes : (s : ℕ) (ev : Evaluations) (f q : Float → Evaluations → Outcome) → ((v : Float) (t : Evaluations) → Same (f v t) → Agreed g h t)
        → ((v : Float) (t : Evaluations) → Same (f v t) → f v t ≡ q v t)
        → Same (or_else (E s ev) f) → or_else (E s ev) f ≡ or_else (F s ev) q
    goes s ev f q k j a = else_same (E s ev) f q j a ∙ ap (λ (e : Entry). or_else e q) (same s ev (else_grows (E s ev) f k a))

    tries_grows : (n s : ℕ) (ev : Evaluations) → Same (tries E n s ev) → Agreed g h ev
    unfolding tries
    tries_grows zero s ev a = a
    tries_grows (suc n) s ev a = grows s ev (else_grows (E s ev) (λ v t. tries E n (suc s) t) (λ v t. tries_grows n (suc s) t) a)

    tries_same : (n s : ℕ) (ev : Evaluations) → Same (tries E n s ev) → tries E n s ev ≡ tries F n s ev
    unfolding tries
    tries_same zero s ev a = refl
    tries_same (suc n) s ev a =
        goes s ev (λ v t. tries E n (suc s) t) (λ v t. tries F n (suc s) t) (λ v t. tries_grows n (suc s) t) (λ v t. tries_same n (suc s) t) a

    last_grows : (k l : ℕ) (ev : Evaluations) → Same (last E k l ev) → Agreed g h ev
    unfolding last
    last_grows k l ev a = tries_grows (min (l - 1 + 2) k - (l - 1)) (l - 1) ev a

    last_same : (k l : ℕ) (ev : Evaluations) → Same (last E k l ev) → last E k l ev ≡ last F k l ev
    unfolding last
    last_same k l ev a = tries_same (min (l - 1 + 2) k - (l - 1)) (l - 1) ev a

    module _ (y : Float) (rising : Bool) (k : ℕ) where
      halve_grows : (n l c : ℕ) (ev : Evaluations) → Same (halve E y rising k n l c ev) → Agreed g h ev
      unfolding halve
      halve_grows zero l c ev a = last_grows k l ev a
      halve_grows (suc n) l zero ev a = last_grows k l ev a
      halve_grows (suc n) l (suc c) ev a =
          let m = l + c / 2 in
          let f : Float → Evaluations → Outcome =
          λ v t. cond (before rising y v) (halve E y rising k n l (c / 2) t) (halve E y rising k n (suc m) (c - c / 2) t) in
          grows m ev (else_grows (E m ev) f
          (λ v t. branch (λ (o : Outcome). Same o → Agreed g h t) (before rising y v) (λ _. halve_grows n l (c / 2) t)
          (λ _. halve_grows n (suc m) (c - c / 2) t)) a)

      halve_same : (n l c : ℕ) (ev : Evaluations) → Same (halve E y rising k n l c ev) → halve E y rising k n l c ev ≡ halve F y rising k n l c ev
      unfolding halve
      halve_same zero l c ev a = last_same k l ev a
      halve_same (suc n) l zero ev a = last_same k l ev a
      halve_same (suc n) l (suc c) ev a =
          let m = l + c / 2 in
          let f : Float → Evaluations → Outcome =
          λ v t. cond (before rising y v) (halve E y rising k n l (c / 2) t) (halve E y rising k n (suc m) (c - c / 2) t) in
          let q : Float → Evaluations → Outcome =
          λ v t. cond (before rising y v) (halve F y rising k n l (c / 2) t) (halve F y rising k n (suc m) (c - c / 2) t) in
          goes m ev f q
          (λ v t. branch (λ (o : Outcome). Same o → Agreed g h t) (before rising y v) (λ _. halve_grows n l (c / 2) t)
          (λ _. halve_grows n (suc m) (c - c / 2) t))
          (λ v t. alike Same (before rising y v) (halve_same n l (c / 2) t) (halve_same n (suc m) (c - c / 2) t)) a

      find_grown : (ev : Evaluations) → Same (find E y rising k ev) → Agreed g h ev
      unfolding find
      find_grown ev = branch (λ (o : Outcome). Same o → Agreed g h ev) (leb k 12) (λ _. tries_grows k 0 ev) (λ _. halve_grows (bits_of k) 0 k ev)

      find_alike : (ev : Evaluations) → Same (find E y rising k ev) → find E y rising k ev ≡ find F y rising k ev
      unfolding find
      find_alike ev a = alike Same (leb k 12) (tries_same k 0 ev) (halve_same (bits_of k) 0 k ev) a

  pub find_same : (R : Rule) (y ε : Float) (limit : ℕ) (rising : Bool) (k : ℕ) (ev : Evaluations) → Same (find (trial R g y ε limit) y rising k ev)
      → find (trial R g y ε limit) y rising k ev ≡ find (trial R h y ε limit) y rising k ev
  find_same R y ε limit rising k ev a =
      find_alike (trial R g y ε limit) (trial R h y ε limit) (λ s ev. enter_grows g h R s y ε limit ev) (λ s ev. enter_same g h R s y ε limit ev) y rising k
      ev a

  pub find_grows : (R : Rule) (y ε : Float) (limit : ℕ) (rising : Bool) (k : ℕ) (ev : Evaluations) → Same (find (trial R g y ε limit) y rising k ev)
      → Agreed g h ev
  find_grows R y ε limit rising k ev a =
      find_grown (trial R g y ε limit) (trial R h y ε limit) (λ s ev. enter_grows g h R s y ε limit ev) (λ s ev. enter_same g h R s y ε limit ev) y rising k
      ev a
