-- The digits by the first field, the fields, and the end of the line.
use Rattle.std.proofs.Common.{arith, refl}
use Rattle.text.proofs.Pens.{chained}
use Rattle.decimals.proofs.Fields.{first_field}
use Rattle.decimals.proofs.put_line.Goals as goal

pub returns : goal.returns
returns c = rw (← first_field c.args.s.now _ _ c.place_of-k.ensures.answer c.digits_for-d.ensures.answer) (chained c.put_fields.ensures c.byte.ensures)
