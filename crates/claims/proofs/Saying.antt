-- A line by its fields, and what it gets. Assumes nothing.
use Rattle.error.specs.declared.Refusal.{Refusal}
use Rattle.std.specs.Prelude.{Result, Bool}
use mathlib.Core.Path.{◌≡◌, refl, sym, ap, subst, ◌∙◌}
use mathlib.Core.Bool.{Bool, true, false, cond}
use mathlib.Core.List.{List, [], ◌∷◌}
use Prim.Native.Nat.{ℕ, ◌-◌, ◌≤◌}
use native.Mathlib.Omega.{arith}
use lib.ListN.{length, take, drop, get_or}
use lib.Ieee.{Float}
use Rattle.claim.specs.Claim.{claim_of}
use Rattle.text.specs.Text.{bytes, same, fields_of, hex_of}
use Rattle.text.specs.Wrote.{Wrote}
use Rattle.text.proofs.Fields.{some}
use Rattle.text_decimals.specs.Decimals.{number_in}
use Rattle.lines_record.specs.declared.Record.{Record}
use Rattle.lines_record.specs.declared.Record.TheVariants.{Bad}
use Rattle.lines_record.specs.Record.{of_fields, record_of}
use Rattle.lines_reply.specs.Reply.{text_of}
use Rattle.lines_answer.specs.Answer.{Curve, on, reply_to, after_of}
use Rattle.table_span.specs.declared.Table.{Table}
use Rattle.inverse_order.specs.declared.EndsBy.{EndsBy}
use Rattle.lines_machine.specs.Program.{Line}
use Rattle.claims.specs.declared.ClaimRecord.{ClaimRecord}
use Rattle.claims.specs.declared.ClaimRecord.TheVariants.{Listed, Claim}
use Rattle.claims.specs.Claims.{of_table, claim_with, claim_in, said_in, says, claim_text, check_text, tells_of, leaves_of, claims_program}

-- ---- the fields after the word: four, or not four
pub four_fields : (l : List ℕ) → length (fields_of l) ≡ 5
    → claim_with (hex_of (get_or (fields_of l) 1 [])) (number_in 4 (get_or (fields_of l) 2 [])) (hex_of (get_or (fields_of l) 3 [])) (hex_of (get_or
    (fields_of l) 4 []))
    ≡ claim_in (drop 1 (fields_of l))
unfolding claim_in
four_fields l h = go (fields_of l) h
  where
    go : (fs : List (List ℕ)) → length fs ≡ 5
        → claim_with (hex_of (get_or fs 1 [])) (number_in 4 (get_or fs 2 [])) (hex_of (get_or fs 3 [])) (hex_of (get_or fs 4 [])) ≡ claim_in (drop 1 fs)
    go [] h = absurd (omega arith)
    go (w ∷ []) h = absurd (omega arith)
    go (w ∷ y ∷ []) h = absurd (omega arith)
    go (w ∷ y ∷ s ∷ []) h = absurd (omega arith)
    go (w ∷ y ∷ s ∷ x ∷ []) h = absurd (omega arith)
    go (w ∷ y ∷ s ∷ x ∷ e ∷ []) h = refl
    go (w ∷ y ∷ s ∷ x ∷ e ∷ f ∷ fs) h = absurd (omega arith)

pub no_claim : (l : List ℕ) → (length (fields_of l) ≡ 5 → ⊥) → claim_in (drop 1 (fields_of l)) ≡ Listed Bad
unfolding claim_in
no_claim l h = go (fields_of l) h
  where
    go : (fs : List (List ℕ)) → (length fs ≡ 5 → ⊥) → claim_in (drop 1 fs) ≡ Listed Bad
    go [] h = refl
    go (w ∷ []) h = refl
    go (w ∷ y ∷ []) h = refl
    go (w ∷ y ∷ s ∷ []) h = refl
    go (w ∷ y ∷ s ∷ x ∷ []) h = refl
    go (w ∷ y ∷ s ∷ x ∷ e ∷ []) h = absurd (h refl)
    go (w ∷ y ∷ s ∷ x ∷ e ∷ f ∷ fs) h = refl

-- ---- a line: its first field is the word `claim`, or it is a record
by_word : (fs : List (List ℕ)) → 1 ≤ length fs
    → said_in fs ≡ cond (same (get_or fs 0 []) (bytes "claim")) (claim_in (drop 1 fs)) (Listed (of_table (of_fields fs)))
unfolding said_in
by_word [] h = absurd (omega arith)
by_word (w ∷ fs) h = refl

module _ (l : List ℕ) {b : Bool} (is : b ≡ same (get_or (fields_of l) 0 []) (bytes "claim")) where
  pub with_word : b ≡ true → {r : ClaimRecord} → r ≡ claim_in (drop 1 (fields_of l)) → r ≡ said_in (fields_of l)
  with_word w f = f ∙ rw (by_word (fields_of l) (some l), sym is ∙ w) refl

  pub without_word : b ≡ false → {q s : Record} → q ≡ record_of l → s ≡ of_table q → Listed s ≡ said_in (fields_of l)
  unfolding record_of
  without_word w f g = ap Listed (g ∙ ap of_table f) ∙ rw (by_word (fields_of l) (some l), sym is ∙ w) refl

-- ---- what a line gets
module _ (c : Curve) (o : Line) {m : ClaimRecord} (e : m ≡ says o) where
  module _ {r : Record} (l : m ≡ Listed r) where
    pub listed_leaves : {d : Curve} → d ≡ after_of c r → d ≡ claims_program.after c o
    unfolding leaves_of
    listed_leaves h = h ∙ ap (leaves_of c) (sym l ∙ e)

    pub listed_wrote : {out : List ℕ} {at : ℕ} {out' : List ℕ} {next : ℕ} → Wrote out at (text_of (reply_to c r)) out' next
        → Wrote out at (claims_program.tells c o) out' next
    unfolding tells_of
    listed_wrote {out} {at} {out'} {next} w = subst (λ (q : ClaimRecord). Wrote out at (tells_of c q) out' next) (sym l ∙ e) w

  module _ {y x ε : Float} {s : ℕ} (l : m ≡ Claim y s x ε) where
    pub claim_leaves : c ≡ claims_program.after c o
    unfolding leaves_of
    claim_leaves = ap (leaves_of c) (sym l ∙ e)

    pub claim_tells : check_text c y s x ε ≡ claims_program.tells c o
    unfolding tells_of
    claim_tells = ap (tells_of c) (sym l ∙ e)
