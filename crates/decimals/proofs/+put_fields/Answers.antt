-- By recursion on the bytes left: the first field, and behind its tab the others. The measure is their number.
use Rattle.std.proofs.Common.{arith}
use lib.ListN.{length-take, length-drop}
use Rattle.text.proofs.Pens.{within, chained}
use Rattle.decimals.proofs.Fields.{fields_last, fields_next}
use Rattle.decimals.proofs.+put_fields.Goals as goal

pub returns-then-k-s : goal.returns-then-k-s
returns-then-k-s t c = rw (← fields_next c.args.d c.place_of-k.result c.args.s.now c.place_of-k.ensures.answer (omega arith))
    (within _ (chained (chained c.put_field.ensures c.byte.ensures) c.put_fields.ensures) (simp (length-take, length-drop) (omega arith)))

pub returns-else-k-s : goal.returns-else-k-s
returns-else-k-s t c = rw (← fields_last c.args.d c.place_of-k.result c.args.s.now c.place_of-k.ensures.answer (omega arith))
    (within _ c.put_field.ensures (simp length-take (omega arith)))
