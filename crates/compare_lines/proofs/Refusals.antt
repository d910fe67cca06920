-- The lines of refusals say no difference, so whatever is refused, what an input of two listings prints is read as the differences of the two
-- tables that they hold, and the second is rebuilt from it. Assumes nothing.
use Rattle.std.specs.Prelude.{Ok, Err}
use mathlib.Core.Path.{◌≡◌, refl, ap, ◌∙◌}
use mathlib.Core.List.{List, [], ◌∷◌, ◌++◌, append_assoc}
use Prim.Native.Nat.{ℕ}
use native.Mathlib.Omega.{arith}
use lib.ListN.{length}
use Rattle.error.specs.declared.Refusal.{Refusal}
use Rattle.error.specs.Refusals.{number_of, places_of, Verdict}
use Rattle.table_span.specs.declared.Table.{Table}
use Rattle.text.specs.Text.{bytes, same, LF, TAB, fields_of, dec_text}
use Rattle.text_decimals.specs.Decimals.{number_in, digits_of}
use Rattle.lines_reply.specs.Reply.{places_text}
use Rattle.lines_machine.specs.Program.{lines_of, line_of, output_of}
use Rattle.lines_machine.proofs.Breaking.{Free, free_append, freeb, free_of, free_dec, field_ended, broken}
use Rattle.compare.specs.Differences.{differences_of, rebuilt}
use Rattle.compare.specs.Printed.{unread, said_by, said_in, said_over, read_of, told_in, rebuilt_table}
use Rattle.compare.proofs.Rebuilt.{rebuilds}
use Rattle.compare.proofs.Printed.{differences_back}
use Rattle.compare_lines.specs.Listings.{Listing, none, on, heard, entered, before, parted, verdict_text, ends_of, says, compare_program}
use Rattle.compare_lines.specs.Inputs.{listed, refusals_of, NoOther}
use Rattle.compare_lines.proofs.Inputs.{listing_held, prints_both}

-- ---- the line of a refusal, without its LF
abbrev refused_line : Refusal → List ℕ
refused_line r = bytes "refused\t" ++ dec_text 2 (number_of r) ++ places_text (places_of r)

places_plain : (is : List ℕ) → Free LF (places_text is)
unfolding freeb
places_plain [] = tt
places_plain (i ∷ is) =
    free_append LF ((TAB ∷ []) ++ dec_text 4 i) (places_text is)
    (free_append LF (TAB ∷ []) (dec_text 4 i) (free_of LF (TAB ∷ []) tt) (free_dec LF 4 i (omega arith))) (places_plain is)

refused_plain : (r : Refusal) → Free LF (refused_line r)
unfolding freeb
refused_plain r =
    free_append LF (bytes "refused\t" ++ dec_text 2 (number_of r)) (places_text (places_of r))
    (free_append LF (bytes "refused\t") (dec_text 2 (number_of r)) (free_of LF (bytes "refused\t") tt) (free_dec LF 2 (number_of r) (omega arith)))
    (places_plain (places_of r))

refused_unread : (fs : List (List ℕ)) → said_by (bytes "refused" ∷ fs) ≡ unread
unfolding said_by same number_in digits_of
refused_unread [] = refl
refused_unread (w ∷ []) = refl
refused_unread (w ∷ x ∷ []) = refl
refused_unread (w ∷ x ∷ y ∷ []) = refl
refused_unread (w ∷ x ∷ y ∷ z ∷ fs) = refl

refused_says : (r : Refusal) → said_in (refused_line r) ≡ unread
unfolding said_in freeb
refused_says r =
    let rest = dec_text 2 (number_of r) ++ places_text (places_of r) in
    ap said_by (field_ended (bytes "refused") rest (free_of TAB (bytes "refused") tt)) ∙ refused_unread (fields_of rest)

-- ---- no difference is told by refusals
refusal_told : (v : Verdict) (y : List ℕ) → told_in (read_of (verdict_text v ++ y)) ≡ told_in (read_of y)
unfolding said_over told_in
refusal_told (Ok _) y = refl
refusal_told (Err r) y = ap (λ (l : List (List ℕ)). told_in (said_over l)) (broken (refused_line r) y (refused_plain r)) ∙ rw (refused_says r) refl

refusals_told : (h : Listing) (xs : List (List ℕ)) (y : List ℕ) → told_in (read_of (refusals_of h xs ++ y)) ≡ told_in (read_of y)
unfolding refusals_of
refusals_told h [] y = refl
refusals_told h (x ∷ xs) y =
    let v : Verdict = heard h (says (line_of x)) in
    let k : Listing = entered h (says (line_of x)) in
    ap (λ (t : List ℕ). told_in (read_of t)) (append_assoc (verdict_text v) (refusals_of k xs) y)
    ∙ refusal_told v (refusals_of k xs ++ y)
    ∙ refusals_told k xs y

-- ---- whatever is refused
module _ (x : List ℕ) (xs ys : List (List ℕ)) (t : Table) (ks : List ℕ) (u : Table) (ls : List ℕ)
    (e : lines_of x ≡ xs ++ (bytes "other" ∷ ys)) (h : NoOther xs) (p : listed none xs ≡ on t ks) (q : listed none ys ≡ on u ls) where
  ends_told : told_in (read_of (ends_of (parted (listed none xs) (listed none ys)))) ≡ differences_of t ks u ls
  unfolding ends_of
  ends_told = rw (p, q) (differences_back t ks u ls (listing_held xs t ks p) (listing_held ys u ls q))

  pub any_differences : told_in (read_of (output_of compare_program (before none) x)) ≡ differences_of t ks u ls
  any_differences =
      let end = ends_of (parted (listed none xs) (listed none ys)) in
      ap (λ (y : List ℕ). told_in (read_of y)) (prints_both x xs ys e h)
      ∙ refusals_told none xs (refusals_of none ys ++ end)
      ∙ refusals_told none ys end
      ∙ ends_told

  pub any_rebuilds : rebuilt_table ks u.basis u.span (length ls) (output_of compare_program (before none) x) ≡ (u, ls)
  unfolding rebuilt_table
  any_rebuilds = ap (λ (l : List ℕ). (u, l)) (ap (rebuilt 0 (length ls) ks) any_differences ∙ rebuilds t ks u ls)
