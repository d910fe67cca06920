-- The first row that applies: rows tested in groups, and what a verdict says of each row, by its number wherever it stands. Assumes nothing.
use Rattle.std.specs.Prelude.{Ok, Err}
use mathlib.Core.Path.{◌≡◌, refl, sym, ap, ◌∙◌, subst}
use mathlib.Core.Bool.{Bool, true, false, cond}
use mathlib.Core.List.{List, [], ◌∷◌, ◌++◌}
use Prim.Native.Nat.{ℕ}
use native.Mathlib.Omega.{arith}
use lib.Dec.{eqb}
use borrow.Author.Tests.{eqb-true}
use Rattle.error.specs.declared.Refusal.{Refusal}
use Rattle.error.specs.declared.Refusal.TheVariants.{
  TooFew,
  BadPattern,
  TooMany,
  BadSpan,
  NotANumber,
  BadPrecision,
  NoRounds,
  LinearOutput,
  BadAllowance,
  ShortBuffer,
  BadStep,
  NoSegment,
  BadKnot,
  TurnsBack,
  UnequalSegments,
  OffCurve,
  BadLine,
  BadSheet,
  NoComparison,
  LostSeam,
}
use Rattle.error.specs.Refusals.{number_of, rows, Uses, applies, refusal_by, first_of, first, Verdict}

-- two cases of one type are never the same: `never (cc)`
pub never : {A : Type 0} → ◌≡◌ {A = ℕ} 0 1 → A
never e = absurd (omega arith)

-- ---- rows in two groups, tested one after the other
-- a verdict, and the next one where it is passed
abbrev and_then : Verdict → Verdict → Verdict
and_then (Ok _) w = w
and_then (Err r) w = Err r

graft : (ms ns : List ℕ) (us : Uses) → first_of (ms ++ ns) us ≡ and_then (first_of ms us) (first_of ns us)
graft [] ns us = refl
graft (m ∷ ms) ns us = go (applies m us) (graft ms ns us)
  where
    go : (t : Bool) → first_of (ms ++ ns) us ≡ and_then (first_of ms us) (first_of ns us)
        → cond t (Err (refusal_by m us)) (first_of (ms ++ ns) us) ≡ and_then (cond t (Err (refusal_by m us)) (first_of ms us)) (first_of ns us)
    go true h = refl
    go false h = h

module _ (ms ns : List ℕ) (us : Uses) {l : Verdict} (e : l ≡ first_of ms us) where
  pub stops_in : {r : Refusal} → l ≡ Err r → l ≡ first_of (ms ++ ns) us
  stops_in k = k ∙ sym (graft ms ns us ∙ ap (λ (v : Verdict). and_then v (first_of ns us)) (sym e ∙ k))

  pub goes_past : {w : Verdict} → l ≡ Ok tt → w ≡ first_of ns us → w ≡ first_of (ms ++ ns) us
  goes_past k h = h ∙ sym (graft ms ns us ∙ ap (λ (v : Verdict). and_then v (first_of ns us)) (sym e ∙ k))

-- the rows of a list up to the one with a number, and those after it
abbrev pub through : ℕ → List ℕ → List ℕ
through n [] = []
through n (m ∷ ms) = cond (eqb n m) (m ∷ []) (m ∷ through n ms)

abbrev pub after : ℕ → List ℕ → List ℕ
after n [] = []
after n (m ∷ ms) = cond (eqb n m) ms (after n ms)

-- ---- a call that tests lengths first
abbrev pub length_rows : List ℕ
length_rows = through 3 rows

abbrev pub other_rows : List ℕ
other_rows = after 3 rows

pub stops : (us : Uses) {l : Verdict} {r : Refusal} → l ≡ first_of length_rows us → l ≡ Err r → l ≡ first us
stops us e k = stops_in length_rows other_rows us e k

pub goes_on : (us : Uses) {l w : Verdict} → l ≡ first_of length_rows us → l ≡ Ok tt → w ≡ first_of other_rows us → w ≡ first us
goes_on us e k h = goes_past length_rows other_rows us e k h

-- ---- what a verdict says of the rows
-- none of the rows applies
abbrev pub None : List ℕ → Uses → Type 0
None [] us = Unit
None (n ∷ ns) us = (applies n us ≡ false) × None ns us

pub passed : (ns : List ℕ) (us : Uses) → first_of ns us ≡ Ok tt → None ns us
passed [] us e = tt
passed (n ∷ ns) us e = go (applies n us) refl e (passed ns us)
  where
    go : (t : Bool) → applies n us ≡ t → cond t (Err (refusal_by n us)) (first_of ns us) ≡ Ok tt → (first_of ns us ≡ Ok tt → None ns us)
        → (applies n us ≡ false) × None ns us
    go true p h k = never (cc)
    go false p h k = (p, k h)

pub none_pass : (ns : List ℕ) (us : Uses) → None ns us → first_of ns us ≡ Ok tt
none_pass [] us n = refl
none_pass (m ∷ ns) us n = simp n.0 (none_pass ns us n.1)

-- a row applies, no row before it does, and r is the refusal by it
pub data First (us : Uses) : List ℕ → Refusal → Type 0 where
  here : {n : ℕ} {ns : List ℕ} {r : Refusal} → applies n us ≡ true → refusal_by n us ≡ r → First us (n ∷ ns) r
  there : {n : ℕ} {ns : List ℕ} {r : Refusal} → applies n us ≡ false → First us ns r → First us (n ∷ ns) r

pub first_sound : (ns : List ℕ) (us : Uses) (r : Refusal) → first_of ns us ≡ Err r → First us ns r
first_sound [] us r e = never (cc)
first_sound (n ∷ ns) us r e = go (applies n us) refl e (first_sound ns us r)
  where
    go : (t : Bool) → applies n us ≡ t → cond t (Err (refusal_by n us)) (first_of ns us) ≡ Err r → (first_of ns us ≡ Err r → First us ns r)
        → First us (n ∷ ns) r
    go true p h k = let e : refusal_by n us ≡ r = cc in here p e
    go false p h k = there p (k h)

pub first_complete : (ns : List ℕ) (us : Uses) (r : Refusal) → First us ns r → first_of ns us ≡ Err r
first_complete [] us r f = elim f [ ]
first_complete (n ∷ ns) us r (here p e) = simp (p, e)
first_complete (n ∷ ns) us r (there p f) = simp p (first_complete ns us r f)

-- the refusal by a row that applies has that row's number
row_number : (n : ℕ) (us : Uses) → applies n us ≡ true → number_of (refusal_by n us) ≡ n
row_number n [] e = never (cc)
row_number n (u ∷ us) e = go (eqb n (number_of u.0)) refl e (row_number n us)
  where
    go : (t : Bool) → eqb n (number_of u.0) ≡ t → cond t u.1 (applies n us) ≡ true → (applies n us ≡ true → number_of (refusal_by n us) ≡ n)
        → number_of (cond t u.0 (refusal_by n us)) ≡ n
    go true p h k = sym (eqb-true n (number_of u.0) p)
    go false p h k = k h

-- its own row applies, and it is the refusal by that row
pub first_applies : (us : Uses) (ns : List ℕ) (r : Refusal) → First us ns r → (applies (number_of r) us ≡ true) × (refusal_by (number_of r) us ≡ r)
first_applies us [] r f = elim f [ ]
first_applies us (n ∷ ns) r (here p e) = let q : n ≡ number_of r = sym (row_number n us p) ∙ ap number_of e
    in subst (λ (m : ℕ). (applies m us ≡ true) × (refusal_by m us ≡ r)) q (p, e)
first_applies us (n ∷ ns) r (there p f) = first_applies us ns r f

-- ---- where no row applies, each by its number
abbrev pub has : ℕ → List ℕ → Bool
has n [] = false
has n (m ∷ ms) = cond (eqb n m) true (has n ms)

none_at : (ns : List ℕ) (us : Uses) → None ns us → (n : ℕ) → has n ns ≡ true → applies n us ≡ false
none_at [] us k n e = never (cc)
none_at (m ∷ ms) us k n e = go (eqb n m) refl e (none_at ms us k.1 n)
  where
    go : (t : Bool) → eqb n m ≡ t → cond t true (has n ms) ≡ true → (has n ms ≡ true → applies n us ≡ false) → applies n us ≡ false
    go true p h r = subst (λ (i : ℕ). applies i us ≡ false) (sym (eqb-true n m p)) k.0
    go false p h r = r h

-- each refusal has its row
in_table : (r : Refusal) → has (number_of r) rows ≡ true
in_table TooFew = refl
in_table BadPattern = refl
in_table TooMany = refl
in_table BadSpan = refl
in_table NotANumber = refl
in_table BadPrecision = refl
in_table NoRounds = refl
in_table LinearOutput = refl
in_table BadAllowance = refl
in_table ShortBuffer = refl
in_table BadStep = refl
in_table NoSegment = refl
in_table (BadKnot i) = refl
in_table (TurnsBack i) = refl
in_table UnequalSegments = refl
in_table OffCurve = refl
in_table BadLine = refl
in_table BadSheet = refl
in_table NoComparison = refl
in_table (LostSeam i) = refl

-- a number without a row applies to no call
none_else : (us : Uses) (n : ℕ) → has n rows ≡ false → applies n us ≡ false
none_else [] n e = refl
none_else (u ∷ us) n e = go (eqb n (number_of u.0)) refl (none_else us n e)
  where
    go : (t : Bool) → eqb n (number_of u.0) ≡ t → applies n us ≡ false → cond t u.1 (applies n us) ≡ false
    go true p h = let q : has n rows ≡ true = subst (λ (i : ℕ). has i rows ≡ true) (sym (eqb-true n (number_of u.0) p)) (in_table u.0) in never (cc)
    go false p h = h

pub clear : (us : Uses) → first us ≡ Ok tt → (n : ℕ) → applies n us ≡ false
clear us e n = go (has n rows) refl
  where
    go : (t : Bool) → has n rows ≡ t → applies n us ≡ false
    go true p = none_at rows us (passed rows us e) n p
    go false p = none_else us n p
