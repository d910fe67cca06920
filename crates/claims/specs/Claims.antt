-- The checker of claims: what a line says, what it gets, and the table after it. Definitions only.
use Rattle.error.specs.declared.Refusal.{Refusal}
use Rattle.std.specs.Prelude.{cond, List, [], ◌∷◌, ℕ, Float, Some, None, Option, Err, Ok, true, false, Result, Bool}
use Rattle.claim.specs.Claim.{claim_of}
use Rattle.error.specs.declared.Refusal.TheVariants.{BadLine}
use Rattle.text.specs.Text.{bytes, same, fields_of, hex_of, double_of}
use Rattle.text_decimals.specs.Decimals.{number_in}
use Rattle.lines_record.specs.declared.Record.{Record}
use Rattle.lines_record.specs.declared.Record.TheVariants.{Curve as CurveOf, Span, Knot, Ends, At, Find, Turn, Bad}
use Rattle.lines_record.specs.Record.{of_fields}
use Rattle.lines_reply.specs.Reply.{refused_text, text_of}
use Rattle.lines_answer.specs.Answer.{Curve, none, on, reply_to, after_of}
use Rattle.lines_machine.specs.Program.{Line, so, over, Program}
use Rattle.claims.specs.declared.ClaimRecord.{ClaimRecord}
use Rattle.claims.specs.declared.ClaimRecord.TheVariants.{Listed, Claim}

-- the records that enter a table; no others are taken here
abbrev pub of_table : Record → Record
of_table (CurveOf b) = CurveOf b
of_table (Span n) = Span n
of_table (Knot x) = Knot x
of_table (Ends m) = Bad
of_table (At x) = Bad
of_table (Find y) = Bad
of_table (Turn b) = Bad
of_table Bad = Bad

-- target, segment, local place and precision, where each is well written
abbrev pub claim_with : Option ℕ → Option ℕ → Option ℕ → Option ℕ → ClaimRecord
claim_with None s x e = Listed Bad
claim_with (Some y) None x e = Listed Bad
claim_with (Some y) (Some s) None e = Listed Bad
claim_with (Some y) (Some s) (Some x) None = Listed Bad
claim_with (Some y) (Some s) (Some x) (Some e) = Claim (double_of y) s (double_of x) (double_of e)

-- four fields follow the word; the segment's number has 1 to 4 digits
unfoldable pub claim_in : List (List ℕ) → ClaimRecord
claim_in [] = Listed Bad
claim_in (y ∷ []) = Listed Bad
claim_in (y ∷ s ∷ []) = Listed Bad
claim_in (y ∷ s ∷ x ∷ []) = Listed Bad
claim_in (y ∷ s ∷ x ∷ e ∷ []) = claim_with (hex_of y) (number_in 4 s) (hex_of x) (hex_of e)
claim_in (y ∷ s ∷ x ∷ e ∷ f ∷ fs) = Listed Bad

-- a line by its fields: one that begins with `claim`, or a record
unfoldable pub said_in : List (List ℕ) → ClaimRecord
said_in [] = Listed Bad
said_in (w ∷ fs) = cond (same w (bytes "claim")) (claim_in fs) (Listed (of_table (of_fields (w ∷ fs))))

-- what a line says; one that is too long is no record
unfoldable pub says : Line → ClaimRecord
says (so l) = said_in (fields_of l)
says over = Listed Bad

abbrev pub claim_text : Result Bool Refusal → List ℕ
claim_text (Err r) = refused_text r
claim_text (Ok true) = bytes "holds\n"
claim_text (Ok false) = bytes "differs\n"

-- the reply to a claim; before the first curve it is a bad line
unfoldable pub check_text : Curve → Float → ℕ → Float → Float → List ℕ
check_text none y s x ε = claim_text (Err BadLine)
check_text (on t m ks) y s x ε = claim_text (claim_of t.basis y s x ε ks)

-- what a line gets, and the table after it, which a claim leaves as it is
unfoldable pub tells_of : Curve → ClaimRecord → List ℕ
tells_of c (Listed r) = text_of (reply_to c r)
tells_of c (Claim y s x ε) = check_text c y s x ε

unfoldable pub leaves_of : Curve → ClaimRecord → Curve
leaves_of c (Listed r) = after_of c r
leaves_of c (Claim y s x ε) = c

-- the end prints nothing
abbrev pub claims_program : Program Curve
claims_program = record { tells = λ c o. tells_of c (says o); after = λ c o. leaves_of c (says o); ends = λ c. [] }
