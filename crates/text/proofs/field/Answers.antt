-- `split` cuts the line into its fields, and `nth` takes one.
use Rattle.std.proofs.Common.{rules, tests, ◌≡◌, ◌∙◌, eqb, get_or, [], slice_get, option_map, unwrap_or, ap, sym}
use Rattle.std.proofs.lemmas.Option.{unwrap_or-slice_get}
use Rattle.std.specs.List.{slice_split}
use Rattle.std.proofs.lemmas.Iterator.Consumers.{nth_from_yields_List}
use Rattle.std.proofs.lemmas.Iterator.Splits.{YieldsList-from_slice_split}
use Rattle.text.proofs.Fields.{fields_is, unwrap_map}
use Rattle.text.proofs.field.Goals as goal

pub returns : goal.returns
returns c =
    let e : option_map (λ x. x.now) c.nth.result ≡ slice_get (slice_split (λ x. eqb x 9) c.args.s.now) c.args.k =
    nth_from_yields_List c.nth.result _ c.args.k c.nth.ensures.ran
    (YieldsList-from_slice_split _ (λ x. eqb x 9) c.args.s.now c.split.ensures.rest c.split.ensures.done c.split.ensures.closure
    (λ x b q k. search (rules, tests))) in
    ap (λ x. x.now) c.unwrap_or.ensures ∙ unwrap_map (λ x. x.now) c.nth.result _ ∙ ap (λ o. unwrap_or o []) e
    ∙ unwrap_or-slice_get (slice_split (λ x. eqb x 9) c.args.s.now) c.args.k []
    ∙ ap (λ fs. get_or fs c.args.k []) (sym (fields_is c.args.s.now))
