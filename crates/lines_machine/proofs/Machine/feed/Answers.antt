-- Invariant: the bytes passed were fed, and the text in hand fits; it stops where `out` may not hold a further line's text.
use Rattle.std.proofs.Common.{arith, rules, ◌∙◌, ap, subst, sym, ◌≡◌}
use Rattle.text.specs.Wrote.{Wrote}
use Rattle.lines_machine.specs.Program.{Line}
use Rattle.lines_machine.specs.Bytes.{state_at}
use Rattle.lines_machine.proofs.Feeding.{fed_none, fed_stretch, fed_line}
use Rattle.lines_machine.proofs.Machine.feed.Goals as goal

pub loop-i-init : goal.loop-i-init
loop-i-init g c = let a = c.args in
    (omega arith, omega arith, λ e. omega arith, fed_none g.Self.Machine.program _ _ _, c.requires.keeps, omega arith)

pub loop-i-preserved-then-i-chunk : goal.loop-i-preserved-then-i-chunk
loop-i-preserved-then-i-chunk g c =
    let m = g.Self.Machine in
    let a = c.args in
    let l = c.loop-i in
    let t = c.if-i-chunk.true in
    let s = rw (c.said.ensures.line) at c.line-at.ensures.state in
    let w = rw (c.said.ensures.line) at c.line-at.ensures.wrote in (
      omega arith,
      omega (arith, c.line-at.ensures.wrote.long, c.line-at.ensures.short),
      (λ e. omega arith),
      rw (c.next_line.ensures) (fed_line m.program a.chunk.now 0 c.cut-i.result (omega arith) t
          (fed_stretch m.program a.chunk.now 0 l.i c.cut-i.result (omega arith) l.invariant.0 l.invariant.3 c.cut-i.ensures)
          (c.cut-i.ensures.end t) s w),
      c.line-at.ensures.kept,
      l.invariant.5,
    )

pub loop-i-preserved : goal.loop-i-preserved
loop-i-preserved g c = let a = c.args in
    let l = c.loop-i in (
      omega arith,
      omega arith,
      (λ e. l.invariant.2 (omega (arith, e, c.cut-i.ensures.after))),
      fed_stretch g.Self.Machine.program a.chunk.now 0 l.i c.cut-i.result (omega arith) l.invariant.0 l.invariant.3 c.cut-i.ensures,
      l.invariant.4,
      l.invariant.5,
    )

pub returns-then-out-at-clause-progress : goal.returns-then-out-at-clause-progress
returns-then-out-at-clause-progress g c = let l = c.loop-i in λ p q. grind (arith, q, l.invariant.2, c.if-out-at.true, c.LINE_ROOM.ensures)

pub returns-then-out-at-clause-whole : goal.returns-then-out-at-clause-whole
returns-then-out-at-clause-whole g c = λ z. absurd (omega (arith, z, c.LINE_ROOM.ensures, c.if-out-at.true))
