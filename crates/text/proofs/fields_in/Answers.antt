-- `split` cuts the line into its fields.
use Rattle.std.proofs.Common.{rules, tests, ap, sym, ◌∙◌, length, eqb}
use Rattle.std.proofs.lemmas.Iterator.Consumers.{count_from_yields_List}
use Rattle.std.proofs.lemmas.Iterator.Splits.{YieldsList-from_slice_split}
use Rattle.text.proofs.Fields.{fields_is}
use Rattle.text.proofs.fields_in.Goals as goal

pub returns : goal.returns
returns c = count_from_yields_List c.split.result c.count.result c.count.ensures.ran
    (YieldsList-from_slice_split _ (λ x. eqb x 9) c.args.s.now c.split.ensures.rest c.split.ensures.done c.split.ensures.closure
    (λ x b q k. search (rules, tests))) ∙ ap length (sym (fields_is c.args.s.now))
