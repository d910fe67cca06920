-- The parts one after the other; nothing was written before the last line exactly where nothing is listed (`compared`).
use Rattle.std.proofs.Common.{rules}
use Rattle.compare.proofs.Writing.{compared}
use Rattle.compare.proofs.put_comparison.Goals as goal

pub returns : goal.returns
returns c = compared _ _ _ _ _ _ c.put_bases.ensures c.put_spans.ensures c.put_places-places.ensures.wrote
    c.put_places-places.ensures.count (search rules) c.put_last.ensures
