-- The second is the greatest whole number up to the span that is at most the product, as the definition has it.
use Rattle.table_span.proofs.Largest.{told}
use Rattle.table_span.proofs.second.Goals as goal

pub int_to_float-span : goal.int_to_float-span
int_to_float-span c = tt

pub returns : goal.returns
returns c = let pair = told _ _ c.by_halving.ensures.answer in record { answer = pair.0; most = pair.1 }
