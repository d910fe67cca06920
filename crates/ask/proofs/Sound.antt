-- A line keeps every depth within what the calls on whole numbers take. Assumes nothing.
use Rattle.std.specs.Prelude.{Some, None, Option, Bool, ℕ}
use mathlib.Core.Path.{◌≡◌, refl}
use mathlib.Core.Bool.{Bool, true, false, cond, ◌&&◌}
use mathlib.Core.List.{List, [], ◌∷◌, ◌++◌}
use Prim.Native.Nat.{ℕ, ◌+◌, ◌≤◌, ◌<◌}
use native.Mathlib.Omega.{arith}
use borrow.Author.Tests.{ltb-true, ltb-false}
use lib.Dec.{ltb, leb}
use lib.IntN.{ℤ, pos, nat_abs}
use lib.ListN.{length, get_or, take, length-append, get_or-append}
use lib.Seq.{get_or-append_seam}
use Rattle.text.specs.Text.{tab_of}
use Rattle.whole.specs.Held.{Small}
use Rattle.lines_machine.specs.Program.{Line, so, over}
use Rattle.sheet.specs.Sheet.{most, depth_line}
use Rattle.ask_sheet.specs.declared.Kind.{Kind}
use Rattle.ask_sheet.specs.declared.Reason.TheVariants.{NoLabel, NoDepth, Many}
use Rattle.ask_sheet.specs.Sheet.{Sheet, unbegun, on, faulty, kind_of, named, whole_of, most_in, added, grown, after_of}
use Rattle.ask_sheet.specs.Contract.{Sound}
use Rattle.ask_sheet.proofs.Lines.{whole_size}

small_more : (m : ℕ) (z : List ℤ) (x : ℤ) → Small m z → nat_abs x ≤ m → Small m (z ++ (x ∷ []))
small_more m z x s h = record { each = λ i l. go i l (ltb i (length z)) refl }
  where
    go : (i : ℕ) → i < length (z ++ (x ∷ [])) → (t : Bool) → ltb i (length z) ≡ t → nat_abs (get_or (z ++ (x ∷ [])) i (pos 0)) ≤ m
    go i l true e = let b : i < length z = ltb-true i (length z) e in rw (get_or-append z (x ∷ []) (pos 0) i b) (s.each i b)
    go i l false e =
        let p : i ≡ length z = omega (arith, ltb-false i (length z) e, simp length-append at l) in
        rw (p, get_or-append_seam z x [] (pos 0)) h

sound_added : (k : Kind) (z : List ℤ) (ls : List (List ℕ)) (w : List ℕ) (d : Option (Bool × ℕ)) → Small (most_in k) z → Sound (added k z ls w d)
sound_added k z ls w None s = tt
sound_added k z ls w (Some (minus, n)) s = go (ltb (most_in k) n) refl (ltb (length z) most)
  where
    go : (t : Bool) → ltb (most_in k) n ≡ t → (u : Bool)
        → Sound (cond t (faulty (length z + 2) NoDepth) (cond u (on k (z ++ (whole_of minus n ∷ [])) (ls ++ (w ∷ []))) (faulty (length z + 2) Many)))
    go true e u = tt
    go false e true = small_more (most_in k) z (whole_of minus n) s (rw (whole_size minus n) (ltb-false (most_in k) n e))
    go false e false = tt

sound_grown : (k : Kind) (z : List ℤ) (ls : List (List ℕ)) (l : List ℕ) → Small (most_in k) z → Sound (grown k z ls l)
unfolding grown
sound_grown k z ls l s = go (leb 1 (tab_of l) && leb (tab_of l) 16)
  where
    go : (t : Bool) → Sound (cond t (added k z ls (take (tab_of l) l) (depth_line l)) (faulty (length z + 2) NoLabel))
    go true = sound_added k z ls (take (tab_of l) l) (depth_line l) s
    go false = tt

sound_named : (n : Option Kind) → Sound (named n)
sound_named (Some k) = record { each = λ i l. absurd (omega arith) }
sound_named None = tt

pub sound_after : (s : Sheet) (o : Line) → Sound s → Sound (after_of s o)
unfolding after_of
sound_after unbegun (so l) h = sound_named (kind_of l)
sound_after unbegun over h = tt
sound_after (on k z ls) (so l) h = sound_grown k z ls l h
sound_after (on k z ls) over h = tt
sound_after (faulty n r) (so l) h = tt
sound_after (faulty n r) over h = tt
