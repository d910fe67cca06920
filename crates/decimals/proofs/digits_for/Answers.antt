-- A case for each word.
use native.Mathlib.Omega.{arith}
use Rattle.decimals.proofs.Fields.{by_place, by_at, by_claim, by_none}
use Rattle.decimals.proofs.digits_for.Goals as goal

pub returns-then-is_word : goal.returns-then-is_word
returns-then-is_word c = record { answer = by_place c.args.w.now c.is_word.ensures c.if-is_word.true; most = omega arith }

pub returns-then-is_word-2 : goal.returns-then-is_word-2
returns-then-is_word-2 c = record {
  answer = by_at c.args.w.now c.is_word.ensures c.if-is_word.false c.is_word-2.ensures c.if-is_word-2.true;
  most = omega arith;
}

pub returns-then-is_word-3 : goal.returns-then-is_word-3
returns-then-is_word-3 c = record {
  answer = by_claim c.args.w.now
      c.is_word.ensures c.if-is_word.false
      c.is_word-2.ensures c.if-is_word-2.false c.is_word-3.ensures c.if-is_word-3.true;
  most = omega arith;
}

pub returns : goal.returns
returns c = record {
  answer = by_none c.args.w.now
      c.is_word.ensures c.if-is_word.false
      c.is_word-2.ensures c.if-is_word-2.false c.is_word-3.ensures c.if-is_word-3.false;
  most = omega arith;
}
