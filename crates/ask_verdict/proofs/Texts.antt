-- Texts of faults, one after another. Assumes nothing.
use mathlib.Core.Path.{◌≡◌, refl, sym, ap, ◌∙◌, subst}
use mathlib.Core.Bool.{true, false}
use mathlib.Core.List.{List, [], ◌∷◌, ◌++◌, append_assoc, append-nil}
use Prim.Native.Nat.{ℕ, ◌+◌, ◌<◌}
use native.Mathlib.Omega.{arith}
use native.Mathlib.Numerals.{add-one}
use lib.IntN.{ℤ}
use lib.ListN.{length, length-append}
use Rattle.text.specs.Wrote.{Wrote}
use Rattle.text.specs.Pens.{Writes}
use Rattle.text.specs.declared.pen.Pen.{Pen}
use Rattle.text.proofs.Pens.{nothing, chained}
use Rattle.turns_back.specs.declared.Way.{Way}
use Rattle.ask_sheet.specs.declared.Kind.{Kind}
use Rattle.ask_verdict.specs.Faults.{Fault, twice, turns, falls, flat, twice_at, bent_at, faults_to, flat_by, way_in, faults_of}
use Rattle.ask_verdict.specs.Told.{fault_text, faults_text, none}

pub as_text : {o o' t t' : List ℕ} {at r : ℕ} → t ≡ t' → Wrote o at t o' r → Wrote o at t' o' r
as_text {o} {o'} {t} {t'} {at} {r} e w = subst (λ (x : List ℕ). Wrote o at x o' r) e w

pub as_told : {p q : Pen} {t t' : List ℕ} {n : ℕ} → t ≡ t' → Writes p t n q → Writes p t' n q
as_told {p} {q} {n = n} e w = subst (λ (x : List ℕ). Writes p x n q) e w

-- nothing is written
pub still : (n : ℕ) (p : Pen) → Writes p [] n p
still n p = record { text = sym (nothing p); short = omega arith; room = refl }

pub texts_append : (a b : List Fault) → faults_text a ++ faults_text b ≡ faults_text (a ++ b)
unfolding faults_text
texts_append [] b = refl
texts_append (f ∷ a) b = append_assoc (fault_text f) (faults_text a) (faults_text b) ∙ ap (λ (l : List ℕ). fault_text f ++ l) (texts_append a b)

-- a fault by itself
pub one_text : (f : Fault) → fault_text f ≡ faults_text (f ∷ [])
unfolding faults_text
one_text f = sym (append-nil (fault_text f))

pub no_text : [] ≡ faults_text []
unfolding faults_text
no_text = refl

-- a row more
pub row_more : (k : Kind) (w : Way) (z : List ℤ) (ls : List (List ℕ)) (i : ℕ) {p q r o : Pen} {m a b : ℕ}
    → Writes p (faults_text (faults_to k w z ls i)) m q → Writes q (faults_text (twice_at ls i)) a r → Writes r (faults_text (bent_at k w z i)) b o
    → Writes p (faults_text (faults_to k w z ls (i + 1))) (m + (a + b)) o
unfolding faults_to
row_more k w z ls i a b c =
    as_told (ap (λ (l : List ℕ). faults_text (faults_to k w z ls i) ++ l) (texts_append (twice_at ls i) (bent_at k w z i))
    ∙ texts_append (faults_to k w z ls i) (twice_at ls i ++ bent_at k w z i)
    ∙ ap (λ (n : ℕ). faults_text (faults_to k w z ls n)) (sym (add-one i)))
    (chained a (chained b c))

pub no_rows : (k : Kind) (w : Way) (z : List ℤ) (ls : List (List ℕ)) → [] ≡ faults_text (faults_to k w z ls 0)
unfolding faults_to faults_text
no_rows k w z ls = refl

pub all_rows : (k : Kind) (w : Way) (z : List ℤ) (ls : List (List ℕ)) {p q r : Pen} {m n : ℕ} → w ≡ way_in k z
    → Writes p (faults_text (faults_to k w z ls (length z))) m q → Writes q (faults_text (flat_by w)) n r
    → Writes p (faults_text (faults_of k z ls)) (m + n) r
unfolding faults_of
all_rows k w z ls e a b =
    as_told (texts_append (faults_to k w z ls (length z)) (flat_by w) ∙ ap
    (λ (v : Way). faults_text (faults_to k v z ls (length z) ++ flat_by v)) e) (chained a b)

-- nothing is written where there is no fault, and something where there is one
some_length : (f : Fault) → 0 < length (fault_text f)
some_length (twice i j) = omega arith
some_length (turns i) = omega arith
some_length (falls i) = omega arith
some_length flat = omega arith

pub none_is : (fs : List Fault) → length (faults_text fs) ≡ 0 → none fs ≡ true
unfolding faults_text
none_is [] e = refl
none_is (f ∷ fs) e = absurd (omega (arith, some_length f, length-append (fault_text f) (faults_text fs)))

pub some_is : (fs : List Fault) → 0 < length (faults_text fs) → none fs ≡ false
unfolding faults_text
some_is [] e = absurd (omega arith)
some_is (f ∷ fs) e = refl
