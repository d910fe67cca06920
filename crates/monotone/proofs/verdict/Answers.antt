-- Each way out is the first row that applies. Assumes nothing.
use native.Mathlib.Omega.{arith}
use Rattle.whole.specs.Held.{held_all}
use Rattle.whole.proofs.Held.{long}
use Rattle.monotone.proofs.Verdicts.{too_few, too_many, too_short, too_large, passes}
use Rattle.monotone.proofs.verdict.Goals as goal

pub returns-then-rows-lt2 : goal.returns-then-rows-lt2
returns-then-rows-lt2 c = let a = c.args in
    let e = long a.rows.now in
    too_few (held_all a.rows.now) a.room (omega (arith, e))

pub returns-then-rows-gt2048 : goal.returns-then-rows-gt2048
returns-then-rows-gt2048 c = let a = c.args in
    let e = long a.rows.now in
    too_many (held_all a.rows.now) a.room (omega (arith, e)) (omega (arith, e))

pub returns-then-room-rows : goal.returns-then-room-rows
returns-then-room-rows c = let a = c.args in
    let e = long a.rows.now in
    too_short (held_all a.rows.now) a.room (omega (arith, e)) (omega (arith, e)) (omega (arith, e))

pub returns-in-Some : goal.returns-in-Some
returns-in-Some c = let a = c.args in
    let e = long a.rows.now in
    too_large (held_all a.rows.now) a.room (omega (arith, e)) (omega (arith, e)) (omega (
      arith,
      e,
    )) c.in-Some.i c.in-Some.ensures.0 (omega (arith, e, c.in-Some.ensures))

pub returns : goal.returns
returns c = let a = c.args in
    let e = long a.rows.now in
    passes (held_all a.rows.now) a.room (omega (arith, e)) (omega (arith, e)) (omega (arith, e)) (omega (arith, e, c.in_default.ensures))
