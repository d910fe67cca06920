-- A depth behind `find`, a number behind any other word.
use mathlib.Core.Path.{sym, ◌∙◌}
use Prim.Native.Nat.{◌<◌}
use native.Mathlib.Omega.{arith}
use Rattle.text_decimals.proofs.Digits.{number_small}
use Rattle.ask_answers.proofs.Questions.{find_word, number_word, no_word}
use Rattle.ask_answers.proofs.by_word.Goals as goal

pub returns-then-is_word : goal.returns-then-is_word
returns-then-is_word c = find_word c.args.w.now c.args.s.now c.is_word.ensures c.if-is_word.true c.sought.ensures

pub returns-in_default : goal.returns-in_default
returns-in_default c = no_word c.args.w.now c.args.s.now c.is_word.ensures c.if-is_word.false c.number_in.ensures
    c.in_default.is

pub overflow_cast-n : goal.overflow_cast-n
overflow_cast-n c = let few : c.in-Some.n < 100000 = number_small 5 c.args.s.now c.in-Some.n
    (sym c.number_in.ensures ∙ c.in-Some.is) in
    omega arith

pub returns : goal.returns
returns c = number_word c.args.w.now c.args.s.now c.is_word.ensures c.if-is_word.false c.number_in.ensures
    c.in-Some.n c.in-Some.is c.by_number.ensures
