-- The call by the curve's own ends: it answers what the call by their direction does, and `Flat` just where they are equal. Assumes nothing.
use Rattle.turns_back.specs.declared.Turning.{Turning}
use Rattle.error.specs.declared.Refusal.{Refusal}
use Rattle.turns_back.specs.declared.Turning.TheVariants.{Flat, Never, At}
use Rattle.std.specs.Prelude.{Ok, Err, Result}
use mathlib.Core.Path.{◌≡◌, refl, sym, ap, ◌∙◌, subst}
use mathlib.Core.Bool.{Bool, true, false, cond, not}
use mathlib.Core.List.{List}
use Prim.Native.Nat.{ℕ}
use native.Mathlib.Omega.{arith}
use lib.IntN.{ℤ}
use lib.Dec.{T, ltb}
use lib.ListN.{length}
use lib.Signed.{◌<ℤ◌, lt_z, lt_z_yes, lt_z_no}
use Rattle.error.specs.Refusals.{first, Verdict}
use Rattle.error.proofs.First.{never}
use Rattle.basis.specs.declared.Basis.{Basis}
use Rattle.basis.specs.Basis.{segments_of}
use Rattle.whole.proofs.Differences.{itself, of_le, of_lt, alike}
use Rattle.turns_back.specs.Curve.{first_fall}
use Rattle.turns_back.specs.Call.{turning_uses, turning, turning_of, start_of, end_of, by_ends, answered, turns_back_by_of, turns_back_of}
use Rattle.whole.specs.Held.{turned_all}
use Rattle.turns_back.proofs.Seams.{true_of, not_so}
use Rattle.turns_back.proofs.Answer.{after}

module _ (b : Basis) (z : List ℤ) where
  abbrev s : ℤ
  s = start_of b z

  abbrev e : ℤ
  e = end_of b z

  abbrev choice : Bool → Bool → Turning
  choice t u = cond t (turning_of b true z) (cond u (turning_of b false z) Flat)

  -- ---- the end lies after the start in a direction: it is asked by that one
  directed : (t : Bool) → after t e s → by_ends s e b z ≡ turning_of b t z
  directed true h = ap (λ (c : Bool). choice c (lt_z e s)) (true_of (lt_z s e) h.lt)
  directed false h =
      ap (λ (c : Bool). choice c (lt_z e s))
      (not_so (lt_z s e) (λ t. let l = of_lt (itself s) (itself e) (lt_z_yes t) in let k = of_lt (itself e) (itself s) h in absurd (omega (arith, l, k))))
      ∙ ap (λ (c : Bool). cond c (turning_of b false z) Flat) (true_of (lt_z e s) h.lt)

  pub by_direction_of_ends : (t : Bool) → after t (end_of b z) (start_of b z) → turns_back_of b z ≡ turns_back_by_of b t z
  unfolding turns_back_of turns_back_by_of
  by_direction_of_ends t h = ap (λ (a : Turning). answered (first (turning_uses b z)) a) (directed t h)

  -- ---- equal ends
  level : s ≡ e → by_ends s e b z ≡ Flat
  level p = ap (λ (c : Bool). choice c (lt_z e s)) (none s e p) ∙ ap (λ (c : Bool). cond c (turning_of b false z) Flat) (none e s (sym p))
    where
      none : (x y : ℤ) → x ≡ y → lt_z x y ≡ false
      none x y q = not_so (lt_z x y) (λ t. let l = of_lt (itself x) (itself x) (subst (λ (v : ℤ). x <ℤ v) (sym q) (lt_z_yes t)) in absurd (omega (arith, l)))

  pub flat_where : start_of b z ≡ end_of b z → first (turning_uses b z) ≡ Ok tt → turns_back_of b z ≡ Ok Flat
  unfolding turns_back_of
  flat_where p h = ap (λ (v : Verdict). answered v (by_ends s e b z)) h ∙ ap Ok (level p)

  -- ---- which of the three it was
  no_flat : (v : Verdict) (i k : ℕ) → answered v (turning i k) ≡ Ok Flat → Prim.⊥
  no_flat (Ok _) i k q = go (ltb i k) q
    where
      go : (t : Bool) → ◌≡◌ {A = Result Turning Refusal} (Ok (cond t (At i) Never)) (Ok Flat) → Prim.⊥
      go true q = never (cc)
      go false q = never (cc)
  no_flat (Err r) i k q = never (cc)

  -- by a direction it is never flat
  pub by_never_flat : (t : Bool) → turns_back_by_of b t z ≡ Ok Flat → Prim.⊥
  unfolding turns_back_by_of turning_of
  by_never_flat t q = no_flat (first (turning_uses b z)) (first_fall b (turned_all t z)) (segments_of b (length z)) q

  pub flat_only : turns_back_of b z ≡ Ok Flat → start_of b z ≡ end_of b z
  flat_only q = go (lt_z s e) refl (lt_z e s) refl
    where
      go : (t : Bool) → lt_z s e ≡ t → (u : Bool) → lt_z e s ≡ u → s ≡ e
      go true p u r = absurd (by_never_flat true (sym (by_direction_of_ends true (lt_z_yes (subst T (sym p) tt))) ∙ q))
      go false p true r = absurd (by_never_flat false (sym (by_direction_of_ends false (lt_z_yes (subst T (sym r) tt))) ∙ q))
      go false p false r =
          let l = of_le (itself e) (itself s) (lt_z_no (subst (λ (x : Bool). T (not x)) (sym p) tt)) in
          let k = of_le (itself s) (itself e) (lt_z_no (subst (λ (x : Bool). T (not x)) (sym r) tt)) in
          alike (itself s) (itself e) (omega (arith, l, k))

  -- ---- an answer of the curve itself is that by the direction in which its ends lie
  pub record Own (r : Result Turning Refusal) : Type 0 where
    pub up : Bool
    pub ends : after up (end_of b z) (start_of b z)
    pub same : turns_back_by_of b up z ≡ r

  own : (r : Result Turning Refusal) → (r ≡ Ok Flat → Prim.⊥) → first (turning_uses b z) ≡ Ok tt → turns_back_of b z ≡ r → Own r
  own r n v q = go (lt_z s e) refl (lt_z e s) refl
    where
      go : (t : Bool) → lt_z s e ≡ t → (u : Bool) → lt_z e s ≡ u → Own r
      go true p u w = let h = lt_z_yes (subst T (sym p) tt) in record { up = true; ends = h; same = sym (by_direction_of_ends true h) ∙ q }
      go false p true w = let h = lt_z_yes (subst T (sym w) tt) in record { up = false; ends = h; same = sym (by_direction_of_ends false h) ∙ q }
      go false p false w =
          let l = of_le (itself e) (itself s) (lt_z_no (subst (λ (x : Bool). T (not x)) (sym p) tt)) in
          let k = of_le (itself s) (itself e) (lt_z_no (subst (λ (x : Bool). T (not x)) (sym w) tt)) in
          absurd (n (sym q ∙ flat_where (alike (itself s) (itself e) (omega (arith, l, k))) v))

  answers : (v : Verdict) (t : Turning) → answered v t ≡ Ok Never → v ≡ Ok tt
  answers (Ok _) t q = refl
  answers (Err r) t q = never (cc)

  answers_at : (v : Verdict) (t : Turning) (r : ℕ) → answered v t ≡ Ok (At r) → v ≡ Ok tt
  answers_at (Ok _) t r q = refl
  answers_at (Err r') t r q = never (cc)

  pub own_never : turns_back_of b z ≡ Ok Never → Own (Ok Never)
  unfolding turns_back_of
  own_never q = own (Ok Never) (λ f. never (cc)) (answers (first (turning_uses b z)) (by_ends s e b z) q) q

  pub own_at : (r : ℕ) → turns_back_of b z ≡ Ok (At r) → Own (Ok (At r))
  unfolding turns_back_of
  own_at r q = own (Ok (At r)) (λ f. never (cc)) (answers_at (first (turning_uses b z)) (by_ends s e b z) r q) q
