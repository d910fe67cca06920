-- `valve::weighted_sum` meets its contract: each term is small, so the sums fit, and they are added left to right. Assumes nothing.
use lib.Dec.{lit<}
use Rattle.valve.proofs.Sizes.{plus_fit, plus_is}
use Rattle.valve.proofs.Sum.{summed}
use Rattle.valve.proofs.weighted_sum.Goals as goal

pub term-a-requires : goal.term-a-requires
term-a-requires c = record { weight = c.requires.few.few0; knot = c.requires.small.each 0 (lit< tt) }

pub term-b-requires : goal.term-b-requires
term-b-requires c = record { weight = c.requires.few.few1; knot = c.requires.small.each 1 (lit< tt) }

pub term-c-requires : goal.term-c-requires
term-c-requires c = record { weight = c.requires.few.few2; knot = c.requires.small.each 2 (lit< tt) }

pub term-d-requires : goal.term-d-requires
term-d-requires c = record { weight = c.requires.few.few3; knot = c.requires.small.each 3 (lit< tt) }

pub plus-requires : goal.plus-requires
plus-requires c = plus_fit c.term-a.result c.term-b.result 67108864000000 67108864000000 c.term-a.ensures.small_after c.term-b.ensures.small_after (lit< tt)

pub plus-requires-2 : goal.plus-requires-2
plus-requires-2 c = let p =
    plus_is c.term-a.result c.term-b.result 67108864000000 67108864000000 c.term-a.ensures.small_after c.term-b.ensures.small_after (lit< tt)
    c.plus.result c.plus.ensures in
    plus_fit c.plus.result c.term-c.result 134217728000000 67108864000000 p.1 c.term-c.ensures.small_after (lit< tt)

pub plus-requires-3 : goal.plus-requires-3
plus-requires-3 c = let p =
    plus_is c.term-a.result c.term-b.result 67108864000000 67108864000000 c.term-a.ensures.small_after c.term-b.ensures.small_after (lit< tt)
    c.plus.result c.plus.ensures in
    let q = plus_is c.plus.result c.term-c.result 134217728000000 67108864000000 p.1 c.term-c.ensures.small_after (lit< tt)
    c.plus-2.result c.plus-2.ensures in
    plus_fit c.plus-2.result c.term-d.result 201326592000000 67108864000000 q.1 c.term-d.ensures.small_after (lit< tt)

pub returns : goal.returns
returns c = let w = c.args.w in
    summed c.args.knots.now w.w0 w.w1 w.w2 w.w3
    c.term-a.result c.term-b.result c.term-c.result c.term-d.result c.plus.result c.plus-2.result c.plus-3.result
    (c.term-a.ensures.answer, c.term-a.ensures.small_after) (c.term-b.ensures.answer, c.term-b.ensures.small_after)
    (c.term-c.ensures.answer, c.term-c.ensures.small_after) (
      c.term-d.ensures.answer,
      c.term-d.ensures.small_after,
    ) c.plus.ensures c.plus-2.ensures c.plus-3.ensures
