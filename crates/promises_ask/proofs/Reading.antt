-- A sheet as it is read, line by line: its depths are small and few, its labels short. So of a sheet that is fine `turns_back` takes the knots, and
-- what is said of a curve without a fault holds of each. Assumes nothing.
use Rattle.turns_back.specs.declared.Turning.TheVariants.{Never}
use Rattle.std.specs.Prelude.{Ok, Some, None, Option, Bool, ℕ}
use mathlib.Core.Path.{◌≡◌, refl, sym, ap, ◌∙◌, subst}
use mathlib.Core.Bool.{Bool, true, false, cond, ◌&&◌}
use mathlib.Core.List.{List, [], ◌∷◌, ◌++◌}
use Prim.Native.Nat.{ℕ, zero, suc, ◌+◌, ◌*◌, ◌≤◌}
use native.Mathlib.Omega.{arith}
use borrow.Author.Tests.{ltb-true, leb-true, le-ltb}
use lib.Dec.{leb, ltb}
use lib.IntN.{ℤ}
use lib.Ieee.{Float}
use lib.ListN.{length, get_or, take, length-append, length-take, length-map}
use Rattle.error.specs.Refusals.{first}
use Rattle.error.proofs.First.{never}
use Rattle.basis.specs.declared.Basis.TheVariants.{Hermite}
use Rattle.basis.specs.Basis.{regular}
use Rattle.checks.specs.Checks.{curve_length}
use Rattle.text.specs.Text.{tab_of}
use Rattle.whole.specs.Held.{Small}
use Rattle.whole.proofs.Held.{small_all}
use Rattle.lines_machine.specs.Program.{Line, so, over, line_of}
use Rattle.sheet.specs.Sheet.{most, depth_line}
use Rattle.turns_back.specs.Call as turns
use Rattle.turns_back.specs.Call.{turning_uses, turns_back_of}
use Rattle.turns_back.proofs.Verdicts.{passes}
use Rattle.monotone.specs.Table as monotone
use Rattle.monotone.specs.Table.{table_of}
use Rattle.monotone.proofs.Kept.{knots_within, lengths_pass}
use Rattle.monotone.proofs.Pairs.{table_long}
use Rattle.ask_sheet.specs.declared.Kind.{Kind}
use Rattle.ask_sheet.specs.declared.Kind.TheVariants.{Drawn, Monotone}
use Rattle.ask_sheet.specs.declared.Reason.TheVariants.{NoLabel, NoDepth, Many}
use Rattle.ask_sheet.specs.Sheet.{Sheet, unbegun, on, faulty, kind_of, named, whole_of, most_in, added, grown, after_of}
use Rattle.ask_sheet.specs.Contract.{Sound}
use Rattle.ask_verdict.specs.Curve.{basis_of, knots_of, suits, double_of, doubles_of}
use Rattle.ask_answers.proofs.Told.{KnotsFor}
use Rattle.ask.proofs.Sound.{sound_after}
use Rattle.promises_ask.proofs.Fine.{fine_never_turns, Drew}
use Rattle.promises_ask.proofs.Answers.{Taken, taken_by}

-- the sheet that lines leave
unfoldable pub sheet_after : Sheet → List (List ℕ) → Sheet
sheet_after s [] = s
sheet_after s (l ∷ ls) = sheet_after (after_of s (line_of l)) ls

abbrev pub sheet_read : List (List ℕ) → Sheet
sheet_read ls = sheet_after unbegun ls

-- ---- short labels, each of 16 bytes at most
abbrev pub Short : List (List ℕ) → Type 0
Short [] = Unit
Short (w ∷ ls) = (length w ≤ 16) × Short ls

short_more : (ls : List (List ℕ)) (w : List ℕ) → Short ls → length w ≤ 16 → Short (ls ++ (w ∷ []))
short_more [] w s h = (h, tt)
short_more (v ∷ ls) w s h = (s.0, short_more ls w s.1 h)

pub short_at : (ls : List (List ℕ)) → Short ls → (i : ℕ) → length (get_or ls i []) ≤ 16
short_at [] s i = omega arith
short_at (w ∷ ls) s zero = s.0
short_at (w ∷ ls) s (suc i) = short_at ls s.1 i

-- ---- a line keeps them so, and the depths few
abbrev Few : Sheet → Type 0
Few unbegun = Unit
Few (on k z ls) = (length z ≤ most) × Short ls × (length ls ≡ length z)
Few (faulty n r) = Unit

few_added : (k : Kind) (z : List ℤ) (ls : List (List ℕ)) (w : List ℕ) (d : Option (Bool × ℕ)) → length w ≤ 16 → Few (on k z ls) → Few (added k z ls w d)
few_added k z ls w None h f = tt
few_added k z ls w (Some (minus, n)) h f = go (ltb (most_in k) n) (ltb (length z) most) refl
  where
    go : (t u : Bool) → ltb (length z) most ≡ u
        → Few (cond t (faulty (length z + 2) NoDepth) (cond u (on k (z ++ (whole_of minus n ∷ [])) (ls ++ (w ∷ []))) (faulty (length z + 2) Many)))
    go true u e = tt
    go false true e = (
      rw (length-append z (whole_of minus n ∷ [])) (omega (arith, ltb-true (length z) most e)),
      short_more ls w f.1 h,
      rw (length-append z (whole_of minus n ∷ []), length-append ls (w ∷ [])) (omega (arith, f.2)),
    )
    go false false e = tt

few_grown : (k : Kind) (z : List ℤ) (ls : List (List ℕ)) (l : List ℕ) → Few (on k z ls) → Few (grown k z ls l)
unfolding grown
few_grown k z ls l f = go (leb 1 (tab_of l)) (leb (tab_of l) 16) refl
  where
    go : (t u : Bool) → leb (tab_of l) 16 ≡ u
        → Few (cond (t && u) (added k z ls (take (tab_of l) l) (depth_line l)) (faulty (length z + 2) NoLabel))
    go true true e = few_added k z ls (take (tab_of l) l) (depth_line l) (omega (arith, length-take (tab_of l) l, leb-true (tab_of l) 16 e)) f
    go true false e = tt
    go false u e = tt

few_named : (n : Option Kind) → Few (named n)
few_named (Some k) = (omega arith, tt, refl)
few_named None = tt

few_after : (s : Sheet) (o : Line) → Few s → Few (after_of s o)
unfolding after_of
few_after unbegun (so l) h = few_named (kind_of l)
few_after unbegun over h = tt
few_after (on k z ls) (so l) h = few_grown k z ls l h
few_after (on k z ls) over h = tt
few_after (faulty n r) (so l) h = tt
few_after (faulty n r) over h = tt

-- ---- so of whatever was read
kept_after : (s : Sheet) (ls : List (List ℕ)) → Sound s → Few s → Sound (sheet_after s ls) × Few (sheet_after s ls)
unfolding sheet_after
kept_after s [] h f = (h, f)
kept_after s (l ∷ ls) h f = kept_after (after_of s (line_of l)) ls (sound_after s (line_of l) h) (few_after s (line_of l) f)

pub record Modest (k : Kind) (z : List ℤ) (ls : List (List ℕ)) : Type 0 where
  pub small : Small (most_in k) z
  pub few : length z ≤ most
  pub short : Short ls
  pub labelled : length ls ≡ length z

pub read_modest : (lines : List (List ℕ)) (k : Kind) (z : List ℤ) (ls : List (List ℕ)) → sheet_read lines ≡ on k z ls → Modest k z ls
read_modest lines k z ls e =
    let r = kept_after unbegun lines tt tt in
    let s : Sound (on k z ls) = rw e at r.0 in
    let f : Few (on k z ls) = rw e at r.1 in
    record { small = s; few = f.0; short = f.1; labelled = f.2 }

-- ---- and its knots are such as `turns_back` takes
both : (a b : Bool) → (a && b) ≡ true → (a ≡ true) × (b ≡ true)
both true b e = (refl, e)
both false b e = never (cc)

modest_passes : (k : Kind) (z : List ℤ) (ls : List (List ℕ)) → Modest k z ls → suits k (length z) ≡ true
    → Ok tt ≡ first (turning_uses (basis_of k) (knots_of k z))
modest_passes (Drawn b) z ls m s =
    let r = both (leb 4 (length z)) (regular b (length z)) s in
    let four : 4 ≤ length z = leb-true 4 (length z) r.0 in
    let lengths : first (curve_length b (length z)) ≡ Ok tt =
    simp (le-ltb (length z) 4 four, r.1, le-ltb 4096 (length z) m.few) in
    passes b z {l = Ok tt} (sym lengths) refl (small_all turns.most z m.small.each)
modest_passes Monotone z ls m s =
    let r = both (leb 2 (length z)) (leb (length z) 2048) s in
    let two : 2 ≤ length z = leb-true 2 (length z) r.0 in
    passes Hermite (table_of z) {l = Ok tt} (sym (lengths_pass z two (leb-true (length z) 2048 r.1))) refl
    (small_all turns.most (table_of z) (knots_within z monotone.most m.small.each two (length z) 0 (omega arith)))

-- ---- what may be asked about after some lines: the curve of a sheet that was read, whose knots `turns_back` takes and says of them that the curve never
-- turns back; the calls over doubles take them too; and as many knots as the labels want
pub record Read (k : Kind) (ks : List Float) (ls : List (List ℕ)) (z : List ℤ) : Type 0 where
  pub passes : first (turning_uses (basis_of k) (knots_of k z)) ≡ Ok tt
  pub never : turns_back_of (basis_of k) (knots_of k z) ≡ Ok Never
  pub taken : Taken (basis_of k) ks
  pub knots : KnotsFor k (length ls) (length ks)

knots_for : (k : Kind) (z : List ℤ) (m : ℕ) → m ≡ length z → KnotsFor k m (length (doubles_of k z))
knots_for (Drawn b) z m e = length-map z double_of ∙ sym e
knots_for Monotone z m e = length-map (table_of z) double_of ∙ table_long z ∙ ap (λ (n : ℕ). 2 * n) (sym e)

pub asked_of_read : (lines : List (List ℕ)) (k : Kind) (ks : List Float) (ls : List (List ℕ)) (span : ℕ)
    → (d : Drew (sheet_read lines) k ks ls span) → Read k ks ls d.rows
asked_of_read lines k ks ls span d =
    let m = read_modest lines k d.rows ls d.sheet in
    let p = sym (modest_passes k d.rows ls m d.suited) in
    record {
      passes = p;
      never = fine_never_turns k d.rows ls d.faultless p;
      taken = subst (Taken (basis_of k)) (sym d.knots) (taken_by (basis_of k) (knots_of k d.rows) p);
      knots = subst (λ (l : List Float). KnotsFor k (length ls) (length l)) (sym d.knots) (knots_for k d.rows (length ls) m.labelled);
    }
