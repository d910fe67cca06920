-- The first field decides: the word of a claim, or a record.
use mathlib.Core.Path.{ap, ◌∙◌}
use mathlib.Core.List.{List}
use Prim.Native.Nat.{ℕ}
use native.Mathlib.Omega.{arith}
use Rattle.text.specs.Text.{bytes, same}
use Rattle.text.proofs.Fields.{some}
use Rattle.claims.proofs.Saying.{with_word, without_word}
use Rattle.claims.proofs.said_in.Goals as goal

pub field-requires : goal.field-requires
field-requires c = omega (arith, some c.args.line.now)

pub returns-then-is_word : goal.returns-then-is_word
returns-then-is_word c = with_word c.args.line.now
    (c.is_word.ensures ∙ ap (λ (w : List ℕ). same w (bytes "claim")) c.field.ensures) c.if-is_word.true c.claim_in.ensures

pub returns : goal.returns
returns c = without_word c.args.line.now
    (c.is_word.ensures ∙ ap (λ (w : List ℕ). same w (bytes "claim")) c.field.ensures) c.if-is_word.false
    c.record_of.ensures c.of_table.ensures
