-- The checker of claims: however its input is cut, what its calls write is what the whole of it prints. Assumes nothing.
use mathlib.Core.Path.{◌≡◌, sym, ap, ◌∙◌}
use mathlib.Core.List.{List, [], ◌∷◌, ◌++◌}
use Prim.Native.Nat.{ℕ}
use lib.ListN.{take}
use lib.Ieee.{Float}
use Rattle.basis.specs.declared.Basis.{Basis}
use Rattle.table_span.specs.declared.Table.{Table}
use Rattle.inverse_order.specs.declared.EndsBy.{EndsBy}
use Rattle.claim.specs.Claim.{claim_of}
use Rattle.claim.proofs.check_claim.Reads as check_claim
use Rattle.lines_answer.specs.Answer.{Curve, none, on}
use Rattle.claims.specs.declared.Claims.{Claims}
use Rattle.lines_answer.specs.Contract.{curve_of}
use Rattle.claims.specs.declared.ClaimRecord.TheVariants.{Claim}
use Rattle.claims.specs.Claims.{says, claim_text, check_text, tells_of, claims_program}
use Rattle.lines_machine.specs.Program.{Line, lines_of, line_of, prints_of, output_of, so}
use Rattle.lines_machine.specs.Bytes.{state_at}
use Rattle.lines_machine.specs.Contract.{So}
use Rattle.lines_machine.proofs.Feeding.{so_none, so_fed, so_ended}
use Rattle.claims.proofs.Claims.new.Reads as new
use Rattle.claims.proofs.ClaimsMachine.begin.Reads as begin
use Rattle.claims.proofs.ClaimsMachine.feed.Reads as feed
use Rattle.claims.proofs.ClaimsMachine.finish.Reads as finish
use Rattle.calls.specs.Calls.{Keeps, OneReply}
use Rattle.promises_programs.proofs.There.{state_after, printed_by, printed_there, wrote_one, fed_one}

-- its calls one after another, each as its contract tells: of the input the bytes x were taken, and the bytes w written
pub data ClaimsSoFar : Claims → Line → List ℕ → List ℕ → Type 0 where
  begun : (s : Claims) (o : Line) → curve_of s.lines.held s.lines.table ≡ none → o ≡ so [] → ClaimsSoFar s o [] []
  fed : (κs : _) (a : _) (z : _) (e : _) → feed.Learnt κs a z e → (x w : List ℕ) → ClaimsSoFar a.0.now a.1.0.now x w
      → ClaimsSoFar e.0.now e.1.0.now (x ++ take z.bytes a.1.1.0.now) (w ++ take z.at e.1.1.1.0.now)

-- so begin the calls that make one
pub claims_begun : (κs : _) (a : _) (z : _) (e : _) → new.Learnt κs a z e
    → (κs' : _) (a' : _) (o : _) (e' : _) → begin.Learnt κs' a' o e' → ClaimsSoFar z o [] []
claims_begun κs a z e p κs' a' o e' q = begun z o p q

-- a whole run: the input is x, and all that the calls wrote, once the last has returned, is y
pub data ClaimsRun : List ℕ → List ℕ → Type 0 where
  ended : (κs : _) (a : _) (z : _) (e : _) → finish.Learnt κs a z e → (x w : List ℕ) → ClaimsSoFar a.0.now a.1.0.now x w
      → ClaimsRun x (w ++ take z e.1.1.0.now)

so_far : (s : Claims) (o : Line) (x w : List ℕ) → ClaimsSoFar s o x w → So claims_program none (state_at o (curve_of s.lines.held s.lines.table)) x w
so_far s o x w (begun t l p q) = rw (p, q) (so_none claims_program none)
so_far s o x w (fed κs a z e p y v r) = so_fed claims_program (so_far _ _ y v r) p.0

-- however the input is cut
pub claims_writes : (x y : List ℕ) → ClaimsRun x y → y ≡ output_of claims_program none x
claims_writes x y (ended κs a z e p v w r) = so_ended claims_program (so_far _ _ v w r) p.0

-- ---- no second reply
-- where two runs take as many bytes of the chunk; how many that are is left to the room in `out`
pub claims_feed_one_reply : OneReply feed.Learnt
    (λ κs z e z' e'. z.bytes ≡ z'.bytes
    → (z.at ≡ z'.at) × (e.1.1.1.0.now ≡ e'.1.1.1.0.now)
    × (state_at e.1.0.now (curve_of e.0.now.lines.held e.0.now.lines.table) ≡ state_at e'.1.0.now (curve_of e'.0.now.lines.held e'.0.now.lines.table)))
claims_feed_one_reply κs a z z' e e' p q n = fed_one claims_program (ap (λ (i : ℕ). take i a.1.1.0.now) n) p.0 q.0

pub claims_finish_one_reply : OneReply finish.Learnt (λ κs z e z' e'. (z ≡ z') × (e.1.1.0.now ≡ e'.1.1.0.now))
claims_finish_one_reply κs a z z' e e' p q = wrote_one p.0 q.0

-- ---- bytes in, bytes out: where a claim stands in the input, there stands in what was written what the check answers, `holds`, `differs` or its refusal
pub claims_check_there : Keeps check_claim.Learnt
    (λ κs a z e. (x y : List ℕ) → ClaimsRun x y → (ls : List (List ℕ)) (l : List ℕ) (ms : List (List ℕ)) → lines_of x ≡ ls ++ (l ∷ ms)
    → (t : Table) (m : EndsBy) → state_after claims_program none ls ≡ on t m a.1.1.1.1.1.0.now → t.basis ≡ a.0
    → says (line_of l) ≡ Claim a.1.0 a.1.1.0 a.1.1.1.0 a.1.1.1.1.0
    → y
    ≡ printed_by claims_program none ls ++ (claim_text z ++ prints_of claims_program (claims_program.after (state_after claims_program none ls)
    (line_of l)) ms))
unfolding tells_of check_text
claims_check_there κs a z e p x y r ls l ms i t m c b f =
    let ks = a.1.1.1.1.1.0.now in
    let after = prints_of claims_program (claims_program.after (state_after claims_program none ls) (line_of l)) ms in
    let told : claims_program.tells (state_after claims_program none ls) (line_of l) ≡ claim_text z =
    ap (λ (k : Curve). tells_of k (says (line_of l))) c
    ∙ ap (tells_of (on t m ks)) f
    ∙ ap (λ (q : Basis). claim_text (claim_of q a.1.0 a.1.1.0 a.1.1.1.0 a.1.1.1.1.0 ks)) b
    ∙ ap claim_text (sym p) in
    claims_writes x y r
    ∙ printed_there claims_program none x ls l ms i
    ∙ ap (λ (w : List ℕ). printed_by claims_program none ls ++ (w ++ after)) told
