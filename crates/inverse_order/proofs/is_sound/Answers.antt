-- Where knots 0, 1 and the last are in range and each pair keeps its direction, every knot lies between two of these, and so in range.
use Rattle.std.proofs.Common.{sym, ap, ◌∙◌, Bool, ◌-◌, arith, length, drop}
use Rattle.error.proofs.First.{never}
use Rattle.inverse_order.specs.Contract.{kept}
use Rattle.inverse_order.proofs.Verdicts.{sound_in, sound_out}
use Rattle.inverse_order.proofs.is_sound.Goals as goal
use Rattle.inverse_order.proofs.is_sound.Goals.{then-in_range, else-in_range, then-in_range-2, else-in_range-2}

pub returns-then-in_range-3 : goal.returns-then-in_range-3
returns-then-in_range-3 c = c.keeps.ensures ∙ ap (λ (z : Bool). kept z (drop 1 c.args.knots.now)) c.rising.ensures
    ∙ elim c.if-in_range-2.branch [
      | then-in_range-2 w ↦ elim c.if-in_range.branch [
        | then-in_range v ↦ sound_in c.args.knots.now (omega arith) (sym c.in_range.ensures ∙ v.if-in_range.true)
            (sym v.in_range-then-in_range.ensures ∙ sym v.value-is ∙ w.if-in_range-2.true)
            (sym w.in_range-then-in_range-2.ensures ∙ sym w.value-is ∙ c.if-in_range-3.true)
        | else-in_range v ↦ never (cc)
      ]
      | else-in_range-2 w ↦ never (cc)
    ]

pub returns-else-in_range-3 : goal.returns-else-in_range-3
returns-else-in_range-3 c = c.if-in_range-3.false ∙ elim c.if-in_range-2.branch [
  | then-in_range-2 w ↦ sound_out c.args.knots.now (length c.args.knots.now - 1) (omega arith)
      (sym w.in_range-then-in_range-2.ensures ∙ sym w.value-is ∙ c.if-in_range-3.false)
  | else-in_range-2 w ↦ elim c.if-in_range.branch [
    | then-in_range v ↦ sound_out c.args.knots.now 1 (omega arith) (sym v.in_range-then-in_range.ensures ∙ sym v.value-is ∙ w.if-in_range-2.false)
    | else-in_range v ↦ sound_out c.args.knots.now 0 (omega arith) (sym c.in_range.ensures ∙ v.if-in_range.false)
  ]
]
