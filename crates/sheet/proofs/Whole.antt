-- A whole sheet: it is read exactly where its first line is a basis and each other line a depth, one knot for each, at most 4,096; the first
-- line at fault decides, and nothing is printed before the end. Assumes nothing.
use Rattle.std.specs.Prelude.{Some, None, Option, Bool, ℕ}
use mathlib.Core.Path.{◌≡◌, refl, sym, ap, subst, ◌∙◌}
use mathlib.Core.Bool.{Bool, true, false, cond, not}
use mathlib.Core.List.{List, [], ◌∷◌, ◌++◌, append_assoc, append-nil}
use Prim.Native.Nat.{ℕ, suc, ◌+◌, ◌≤◌, ◌<◌}
use native.Mathlib.Omega.{arith}
use borrow.Author.Tests.{lt-ltb, ltb-true}
use lib.Dec.{T, ltb, eqb}
use lib.ListN.{length, length-append}
use lib.Ieee.{Float, binary64, round, fits, eq}
use lib.Ieee.Fits.{round-fits}
use Rattle.basis.specs.declared.Basis.{Basis}
use Rattle.error.specs.declared.Refusal.{Refusal}
use Rattle.error.specs.declared.Refusal.TheVariants.{TooMany, BadSheet}
use Rattle.doubles.specs.Numbers.{nought}
use Rattle.sheet_depth.specs.Depth.{greatest, depth_of}
use Rattle.sheet_depth.specs.Nearest.{Nearer}
use Rattle.sheet_depth.proofs.Decimal.{depth_nearest, zero_depth}
use Rattle.lines_record.specs.Record.{named_of}
use Rattle.lines_machine.specs.Program.{lines_of, Line, so, over, line_of, prints_of, output_of}
use Rattle.keeper.specs.Table.{kept}
use Rattle.sheet.specs.Sheet.{Sheet, unbegun, on, faulty, most, depth_line, named, added, after_of, ends_of, sheet_program}
use Rattle.sheet.proofs.Lines.{depth_small}

-- ---- what a line says: a basis, or a depth; one that is too long says neither
abbrev pub basis_said : Line → Option Basis
basis_said (so l) = named_of l
basis_said over = None

abbrev pub depth_said : Line → Option (Bool × ℕ)
depth_said (so l) = depth_line l
depth_said over = None

-- a line's depth is x
abbrev pub DepthIs : Option (Bool × ℕ) → Float → Type 0
DepthIs (Some (minus, n)) x = depth_of minus n ≡ x
DepthIs None x = ⊥

-- each of the lines says a depth, and these are the depths in order
abbrev pub Depths : List (List ℕ) → List Float → Type 0
Depths [] [] = Unit
Depths [] (x ∷ xs) = ⊥
Depths (l ∷ ls) [] = ⊥
Depths (l ∷ ls) (x ∷ xs) = DepthIs (depth_said (line_of l)) x × Depths ls xs

-- an admissible sheet: a basis, then at most 4,096 depths
pub record Admissible (ls : List (List ℕ)) (b : Basis) (xs : List Float) : Type 0 where
  pub top : List ℕ
  pub rest : List (List ℕ)
  pub lines : ls ≡ top ∷ rest
  pub name : basis_said (line_of top) ≡ Some b
  pub depths : Depths rest xs
  pub few : length xs ≤ most

-- one knot for each depth line
pub one_knot_each : (ls : List (List ℕ)) (xs : List Float) → Depths ls xs → length xs ≡ length ls
one_knot_each [] [] p = refl
one_knot_each [] (x ∷ xs) p = absurd p
one_knot_each (l ∷ ls) [] p = absurd p
one_knot_each (l ∷ ls) (x ∷ xs) p = ap suc (one_knot_each ls xs p.1)

-- ---- the sheet after some lines
unfoldable pub sheet_after : Sheet → List (List ℕ) → Sheet
sheet_after s [] = s
sheet_after s (l ∷ ls) = sheet_after (after_of s (line_of l)) ls

prints_end : (s : Sheet) (ls : List (List ℕ)) → prints_of sheet_program s ls ≡ ends_of (sheet_after s ls)
unfolding prints_of sheet_after
prints_end s [] = refl
prints_end s (l ∷ ls) = prints_end (after_of s (line_of l)) ls

-- what an input prints is what the sheet after its last line prints: nothing before that
pub printed_at_the_end : (x : List ℕ) → output_of sheet_program unbegun x ≡ ends_of (sheet_after unbegun (lines_of x))
unfolding output_of
printed_at_the_end x = prints_end unbegun (lines_of x)

first_line : (o : Line) → after_of unbegun o ≡ named (basis_said o)
unfolding after_of
first_line (so l) = refl
first_line over = refl

later_line : (b : Basis) (ks : List Float) (o : Line) → after_of (on b ks) o ≡ added b ks (depth_said o)
unfolding after_of
later_line b ks (so l) = refl
later_line b ks over = refl

faulty_line : (r : Refusal) (o : Line) → after_of (faulty r) o ≡ faulty r
unfolding after_of
faulty_line r (so l) = refl
faulty_line r over = refl

-- the first line at fault decides: whatever comes after it
pub fault_stays : (r : Refusal) (ls : List (List ℕ)) → sheet_after (faulty r) ls ≡ faulty r
unfolding sheet_after
fault_stays r [] = refl
fault_stays r (l ∷ ls) = ap (λ (s : Sheet). sheet_after s ls) (faulty_line r (line_of l)) ∙ fault_stays r ls

-- ---- an admissible sheet is read
add_one_depth : (b : Basis) (ks : List Float) (d : Option (Bool × ℕ)) (x : Float) → length ks < most → DepthIs d x → added b ks d ≡ on b (ks ++ (x ∷ []))
add_one_depth b ks (Some (minus, n)) x h e = rw (lt-ltb (length ks) most h, e) refl
add_one_depth b ks None x h e = absurd e

depths_read : (b : Basis) (ks : List Float) (ls : List (List ℕ)) (xs : List Float) → Depths ls xs → length ks + length xs ≤ most
    → sheet_after (on b ks) ls ≡ on b (ks ++ xs)
unfolding sheet_after
depths_read b ks [] [] p h = ap (on b) (sym (append-nil ks))
depths_read b ks [] (x ∷ xs) p h = absurd p
depths_read b ks (l ∷ ls) [] p h = absurd p
depths_read b ks (l ∷ ls) (x ∷ xs) p h =
    let more : length (ks ++ (x ∷ [])) + length xs ≤ most = simp length-append (omega arith) in
    ap (λ (s : Sheet). sheet_after s ls) (later_line b ks (line_of l) ∙ add_one_depth b ks (depth_said (line_of l)) x (omega arith) p.0)
    ∙ depths_read b (ks ++ (x ∷ [])) ls xs p.1 more
    ∙ ap (on b) (append_assoc ks (x ∷ []) xs)

pub admitted : (ls : List (List ℕ)) (b : Basis) (xs : List Float) → Admissible ls b xs → sheet_after unbegun ls ≡ on b xs
unfolding sheet_after
admitted ls b xs a =
    ap (sheet_after unbegun) a.lines
    ∙ ap (λ (s : Sheet). sheet_after s a.rest) (first_line (line_of a.top) ∙ ap named a.name)
    ∙ depths_read b [] a.rest xs a.depths (omega (arith, a.few))

-- ---- and no other is
-- the lines say depths, and these stand behind those before
record Behind (b : Basis) (ks : List Float) (ls : List (List ℕ)) (c : Basis) (ns : List Float) : Type 0 where
  xs : List Float
  depths : Depths ls xs
  all : ks ++ xs ≡ ns
  basis : b ≡ c
  few : length ns ≤ most

never : {A : Type 0} {r : Refusal} {c : Basis} {ns : List Float} → faulty r ≡ on c ns → A
never e = let z : ◌≡◌ {A = ℕ} 0 1 = cc in absurd (omega arith)

behind : (b : Basis) (ks : List Float) (ls : List (List ℕ)) (c : Basis) (ns : List Float) → length ks ≤ most → sheet_after (on b ks) ls ≡ on c ns
    → Behind b ks ls c ns
unfolding sheet_after
behind b ks [] c ns h e =
    let p : ks ≡ ns = cc in
    record { xs = []; depths = tt; all = append-nil ks ∙ p; basis = cc; few = rw (← p) h }
behind b ks (l ∷ ls) c ns h e =
    go (λ x. behind b (ks ++ (x ∷ [])) ls c ns) (depth_said (line_of l)) refl (ap (λ (s : Sheet). sheet_after s ls) (sym (later_line b ks (line_of l))) ∙ e)
  where
    Next : Type 0
    Next = (x : Float) → length (ks ++ (x ∷ [])) ≤ most → sheet_after (on b (ks ++ (x ∷ []))) ls ≡ on c ns → Behind b (ks ++ (x ∷ [])) ls c ns

    room : Next → (minus : Bool) (n : ℕ) → depth_said (line_of l) ≡ Some (minus, n) → (t : Bool) → ltb (length ks) most ≡ t
        → sheet_after (cond t (on b (cond t (ks ++ (depth_of minus n ∷ [])) ks)) (faulty TooMany)) ls ≡ on c ns → Behind b ks (l ∷ ls) c ns
    room next minus n d true f g =
        let z : length ks < most = ltb-true (length ks) most f in
        let q : Behind b (ks ++ (depth_of minus n ∷ [])) ls c ns = next (depth_of minus n) (simp length-append (omega arith)) g in
        record {
          xs = depth_of minus n ∷ q.xs;
          depths = (rw d refl, q.depths);
          all = sym (append_assoc ks (depth_of minus n ∷ []) q.xs) ∙ q.all;
          basis = q.basis;
          few = q.few;
        }
    room next minus n d false f g = never (sym (fault_stays TooMany ls) ∙ g)

    go : Next → (d : Option (Bool × ℕ)) → depth_said (line_of l) ≡ d → sheet_after (added b ks d) ls ≡ on c ns → Behind b ks (l ∷ ls) c ns
    go next (Some (minus, n)) d g = room next minus n d (ltb (length ks) most) refl g
    go next None d g = never (sym (fault_stays BadSheet ls) ∙ g)

pub read_only : (ls : List (List ℕ)) (b : Basis) (xs : List Float) → sheet_after unbegun ls ≡ on b xs → Admissible ls b xs
unfolding sheet_after
read_only [] b xs e = let z : ◌≡◌ {A = ℕ} 0 1 = cc in absurd (omega arith)
read_only (l ∷ ls) b xs e = go (basis_said (line_of l)) refl (ap (λ (s : Sheet). sheet_after s ls) (sym (first_line (line_of l))) ∙ e)
  where
    go : (n : Option Basis) → basis_said (line_of l) ≡ n → sheet_after (named n) ls ≡ on b xs → Admissible (l ∷ ls) b xs
    go (Some c) p g =
        let q : Behind c [] ls b xs = behind c [] ls b xs (omega arith) g in
        record { top = l; rest = ls; lines = refl; name = p ∙ ap Some q.basis; depths = rw (← q.all) q.depths; few = q.few }
    go None p g = never (sym (fault_stays BadSheet ls) ∙ g)

-- ---- a fault is 13, or 3 where a depth comes upon 4,096
pub data Fault : Refusal → Type 0 where
  malformed : Fault BadSheet
  too_many : Fault TooMany

abbrev Fine : Sheet → Type 0
Fine unbegun = Unit
Fine (on b ks) = Unit
Fine (faulty r) = Fault r

fine_after : (s : Sheet) (o : Line) → Fine s → Fine (after_of s o)
fine_after unbegun o f = rw (first_line o) (go (basis_said o))
  where
    go : (n : Option Basis) → Fine (named n)
    go (Some b) = tt
    go None = malformed
fine_after (on b ks) o f = rw (later_line b ks o) (go (depth_said o))
  where
    room : (t : Bool) (l : List Float) → Fine (cond t (on b l) (faulty TooMany))
    room true l = tt
    room false l = too_many

    go : (d : Option (Bool × ℕ)) → Fine (added b ks d)
    go (Some (minus, n)) = room (ltb (length ks) most) (kept ks (depth_of minus n))
    go None = malformed
fine_after (faulty r) o f = rw (faulty_line r o) f

fine_all : (s : Sheet) (ls : List (List ℕ)) → Fine s → Fine (sheet_after s ls)
unfolding sheet_after
fine_all s [] f = f
fine_all s (l ∷ ls) f = fine_all (after_of s (line_of l)) ls (fine_after s (line_of l) f)

pub fault_is : (ls : List (List ℕ)) (r : Refusal) → sheet_after unbegun ls ≡ faulty r → Fault r
fault_is ls r e = subst Fine e (fine_all unbegun ls tt)

-- ---- the double of a depth line is the nearest to its decimal: every other one lies strictly further away
said_small : (o : Line) (minus : Bool) (n : ℕ) → depth_said o ≡ Some (minus, n) → n ≤ greatest
said_small (so l) minus n e = depth_small l minus n e
said_small over minus n e = let z : ◌≡◌ {A = ℕ} 0 1 = cc in absurd (omega arith)

pub line_nearest : (l : List ℕ) (minus : Bool) (n : ℕ) → depth_said (line_of l) ≡ Some (minus, n)
    → (y : Float) → T (fits binary64 y) → T (not (eq (depth_of minus n) y)) → Nearer (depth_of minus n) y minus n 1000
line_nearest l minus n e y f d = depth_nearest minus n (said_small (line_of l) minus n e) y f d

-- a depth is never minus zero
pub no_minus_zero : (minus : Bool) → depth_of minus 0 ≡ nought
no_minus_zero minus = sym (zero_depth minus 0 refl)

-- each double of a sheet is one that the format holds
depth_fits : (minus : Bool) (n : ℕ) → T (fits binary64 (depth_of minus n))
unfolding depth_of fits
depth_fits minus n = go (eqb n 0)
  where
    go : (t : Bool) → T (fits binary64 (cond t nought (round binary64 minus n 1000)))
    go true = tt
    go false = round-fits binary64 minus n 1000

abbrev AllFit : List Float → Type 0
AllFit [] = Unit
AllFit (x ∷ l) = T (fits binary64 x) × AllFit l

pub depths_fit : (ls : List (List ℕ)) (xs : List Float) → Depths ls xs → AllFit xs
depths_fit [] [] p = tt
depths_fit [] (x ∷ xs) p = absurd p
depths_fit (l ∷ ls) [] p = absurd p
depths_fit (l ∷ ls) (x ∷ xs) p = (go (depth_said (line_of l)) p.0, depths_fit ls xs p.1)
  where
    go : (d : Option (Bool × ℕ)) → DepthIs d x → T (fits binary64 x)
    go (Some (minus, n)) e = subst (λ (z : Float). T (fits binary64 z)) e (depth_fits minus n)
    go None e = absurd e
