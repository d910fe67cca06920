-- A sheet's lines, case by case. Assumes nothing.
use mathlib.Core.Path.{◌≡◌, refl, sym, ap, subst, ◌∙◌}
use mathlib.Core.Bool.{Bool, true, false, cond, ◌&&◌, true≢false}
use mathlib.Core.List.{List, [], ◌∷◌, ◌++◌}
use Prim.Native.Nat.{ℕ, suc, ◌+◌, ◌-◌, ◌≤◌, ◌<◌}
use native.Mathlib.Numerals.{add-one}
use native.Mathlib.Omega.{arith}
use borrow.Author.Tests.{le-leb, lt-leb, lt-ltb, le-ltb}
use lib.Dec.{eqb, leb, ltb}
use lib.ListN.{length, take, drop, get_or, length-drop}
use lib.Seq.{take_all}
use lib.Ieee.{Float}
use Rattle.basis.specs.declared.Basis.{Basis}
use Rattle.text.specs.Text.{tab_of}
use Rattle.text_decimals.specs.Decimals.{MINUS, thousandths_of}
use Rattle.text_decimals.proofs.Digits.{thousandths_small}
use Rattle.sheet_depth.specs.Depth.{depth_of}
use Rattle.error.specs.declared.Refusal.{Refusal}
use Rattle.error.specs.declared.Refusal.TheVariants.{TooMany}
use Rattle.std.specs.Prelude.{Option, Some, None, is_some}
use Rattle.keeper.specs.Contract.{Keeps, count_after}
use Rattle.keeper.specs.Table.{places, has_room}
use Rattle.lines_machine.specs.Program.{widest, Line, so, over}
use Rattle.lines_record.specs.Record.{named_of}
use Rattle.error.specs.declared.Refusal.TheVariants.{BadSheet}
use Rattle.sheet.specs.Sheet.{Sheet, unbegun, on, faulty, signed, depth_in, depth_line, named, added, after_of}

-- ---- a sign
pub minus_some : (s : List ℕ) → eqb (get_or s 0 0) MINUS ≡ true → 0 < length s
minus_some [] e = absurd (true≢false (sym e))
minus_some (b ∷ s) e = omega arith

pub no_minus : (s : List ℕ) → length s ≤ 0 → false ≡ eqb (get_or s 0 0) MINUS
no_minus [] h = refl
no_minus (b ∷ s) h = absurd (omega arith)

below : (s : List ℕ) → 0 < length s → take (length s - 1) (drop 1 s) ≡ drop 1 s
below s h = take_all (length s - 1) (drop 1 s) (rw length-drop (omega arith))

pub minus_depth : (s : List ℕ) {r : Option ℕ} {t : Bool} → t ≡ eqb (get_or s 0 0) MINUS → t ≡ true → r ≡ thousandths_of (take (length s - 1) (drop 1 s))
    → signed true r ≡ depth_in s
unfolding depth_in
minus_depth s {r} {t} e f g =
    let m : eqb (get_or s 0 0) MINUS ≡ true = sym e ∙ f in
    rw m (ap (signed true) (g ∙ ap thousandths_of (below s (minus_some s m))))

pub plain_depth : (s : List ℕ) {r : Option ℕ} {t : Bool} → t ≡ eqb (get_or s 0 0) MINUS → t ≡ false → r ≡ thousandths_of s → signed false r ≡ depth_in s
unfolding depth_in
plain_depth s {r} {t} e f g = rw (sym e ∙ f) (ap (signed false) g)

-- ---- a label
module _ (l : List ℕ) (t : ℕ) (is : t ≡ tab_of l) where
  pub no_tab : length l ≤ t → None ≡ depth_line l
  unfolding depth_line
  no_tab h = rw (← is, le-ltb t (length l) h) refl

  pub no_label : t < length l → t < 1 → None ≡ depth_line l
  unfolding depth_line
  no_label h k = rw (← is, lt-ltb t (length l) h, lt-leb 1 t k) refl

  pub long_label : t < length l → 1 ≤ t → 16 < t → None ≡ depth_line l
  unfolding depth_line
  long_label h k m = rw (← is, lt-ltb t (length l) h, le-leb 1 t k, lt-leb t 16 m) refl

  pub labelled : {r : Option (Bool × ℕ)} → t < length l → 1 ≤ t → t ≤ 16 → r ≡ depth_in (take (length l - (t + 1)) (drop (t + 1) l)) → r ≡ depth_line l
  unfolding depth_line
  labelled {r} h k m e =
      let p : take (length l - (t + 1)) (drop (t + 1) l) ≡ drop (suc t) l =
      take_all (length l - (t + 1)) (drop (t + 1) l) (rw length-drop (omega arith)) ∙ ap (λ (x : ℕ). drop x l) (add-one t) in
      e ∙ ap depth_in p ∙ rw (← is, lt-ltb t (length l) h, le-leb 1 t k, le-leb t 16 m) refl

-- a depth that a line says has at most nine digits and three
signed_small : (minus b : Bool) (r : Option ℕ) (s : List ℕ) (n : ℕ) → thousandths_of s ≡ r → signed minus r ≡ Some (b, n) → n ≤ 999999999999
signed_small minus b (Some k) s n e f =
    let q : (minus, k) ≡ (b, n) = cc in let z : k ≡ n = ap (λ (x : Bool × ℕ). x.1) q in thousandths_small s n (e ∙ ap Some z)
signed_small minus b None s n e f = never f
  where
    never : {A : Type 0} → ◌≡◌ {A = Option (Bool × ℕ)} None (Some (b, n)) → A
    never e = let z : ◌≡◌ {A = ℕ} 0 1 = cc in absurd (omega arith)

pub depth_small : (l : List ℕ) (b : Bool) (n : ℕ) → depth_line l ≡ Some (b, n) → n ≤ 999999999999
unfolding depth_line depth_in
depth_small l b n e = go (ltb (tab_of l) (length l) && leb 1 (tab_of l) && leb (tab_of l) 16) e
  where
    never : {A : Type 0} → ◌≡◌ {A = Option (Bool × ℕ)} None (Some (b, n)) → A
    never e = let z : ◌≡◌ {A = ℕ} 0 1 = cc in absurd (omega arith)

    in_field : (s : List ℕ) (t : Bool) → cond t (signed true (thousandths_of (drop 1 s))) (signed false (thousandths_of s)) ≡ Some (b, n) → n ≤ 999999999999
    in_field s true h = signed_small true b (thousandths_of (drop 1 s)) (drop 1 s) n refl h
    in_field s false h = signed_small false b (thousandths_of s) s n refl h

    go : (t : Bool)
        → cond t (cond (eqb (get_or (drop (suc (tab_of l)) l) 0 0) MINUS) (signed true (thousandths_of (drop 1 (drop (suc (tab_of l)) l))))
        (signed false (thousandths_of (drop (suc (tab_of l)) l)))) None ≡ Some (b, n) → n ≤ 999999999999
    go true h = in_field (drop (suc (tab_of l)) l) (eqb (get_or (drop (suc (tab_of l)) l) 0 0) MINUS) h
    go false h = never h

-- ---- a knot more
module _ (b : Basis) (n : ℕ) (table : List Float) (minus : Bool) (d : ℕ) {e f : Option (Bool × ℕ)} (p : e ≡ f) (q : e ≡ Some (minus, d))
    {x : Float} (r : x ≡ depth_of minus d)
    {k : Option ℕ} {table' : List Float} (h : Keeps x n table k table') where
  said : f ≡ Some (minus, d)
  said = sym p ∙ q

  pub room : (c : ℕ) → k ≡ Some c → (on b (take c table') ≡ added b (take n table) f) × (c ≤ places)
  room c g =
      let t : has_room (take n table) ≡ true = sym h.taken ∙ ap is_some g in
      let j : count_after n k ≡ c = ap (count_after n) g in (
        rw (said, t) (ap (on b) (ap (λ (i : ℕ). take i table') (sym j) ∙ h.numbers ∙ rw t (ap (λ (y : Float). take n table ++ (y ∷ [])) r))),
        subst (λ (i : ℕ). i ≤ places) j h.few,
      )

  pub no_room : k ≡ None → faulty TooMany ≡ added b (take n table) f
  no_room g = rw (said, sym h.taken ∙ ap is_some g) refl

pub no_depth : (b : Basis) (ks : List Float) {d e : Option (Bool × ℕ)} → d ≡ e → d ≡ None → faulty BadSheet ≡ added b ks e
no_depth b ks {d} {e} p q = let w : e ≡ None = sym p ∙ q in rw w refl

-- ---- a line
pub named_line : (l : List ℕ) {s : Sheet} → s ≡ named (named_of l) → s ≡ after_of unbegun (so l)
unfolding after_of
named_line l e = e

pub added_line : (b : Basis) (ks : List Float) (l : List ℕ) {s : Sheet} → s ≡ added b ks (depth_line l) → s ≡ after_of (on b ks) (so l)
unfolding after_of
added_line b ks l e = e

pub over_first : faulty BadSheet ≡ after_of unbegun over
unfolding after_of
over_first = refl

pub over_later : (b : Basis) (ks : List Float) → faulty BadSheet ≡ after_of (on b ks) over
unfolding after_of
over_later b ks = refl

pub still_faulty : (r : Refusal) (o : Line) → faulty r ≡ after_of (faulty r) o
unfolding after_of
still_faulty r (so l) = refl
still_faulty r over = refl
