-- Inputs that hold two listings: what the lines of a listing hold, that none of them is refused, and a table written as a listing.
-- Definitions only; proofs/Inputs.antt shows what the program prints for them.
use Rattle.std.specs.Prelude.{◌≡◌, false, List, [], ◌∷◌, ◌++◌, ℕ, Ok}
use Rattle.table_span.specs.declared.Table.{Table}
use Rattle.table_span.specs.Second.{spans_of}
use Rattle.text.specs.Text.{bytes, LF, hex_text}
use Rattle.lines_record.specs.Record.{name_of}
use Rattle.lines_reply.specs.Reply.{spans_text}
use Rattle.lines_machine.specs.Program.{line_of}
use Rattle.compare_lines.specs.CompareRecord.{is_other}
use Rattle.compare_lines.specs.Listings.{Listing, heard, entered, verdict_text, says}

-- the listing after some lines
unfoldable pub listed : Listing → List (List ℕ) → Listing
listed h [] = h
listed h (l ∷ ls) = listed (entered h (says (line_of l))) ls

-- what they are refused by, as it is told
unfoldable pub refusals_of : Listing → List (List ℕ) → List ℕ
refusals_of h [] = []
refusals_of h (l ∷ ls) = verdict_text (heard h (says (line_of l))) ++ refusals_of (entered h (says (line_of l))) ls

-- none of them is `other`
abbrev pub NoOther : List (List ℕ) → Type 0
NoOther [] = Unit
NoOther (l ∷ ls) = (is_other (says (line_of l)) ≡ false) × NoOther ls

-- none of them is refused
abbrev pub Heard : Listing → List (List ℕ) → Type 0
Heard h [] = Unit
Heard h (l ∷ ls) = (heard h (says (line_of l)) ≡ Ok tt) × Heard (entered h (says (line_of l))) ls

-- ---- a table as a listing: `curve`, `span` where it has one, and the 16 digits of each knot
unfoldable pub knots_text : List ℕ → List ℕ
knots_text [] = []
knots_text (n ∷ ks) = bytes "knot\t" ++ hex_text 16 n ++ (LF ∷ []) ++ knots_text ks

unfoldable pub listing_text : Table → List ℕ → List ℕ
listing_text t ks = bytes "curve\t" ++ name_of t.basis ++ (LF ∷ []) ++ spans_text (spans_of t.span) ++ knots_text ks
