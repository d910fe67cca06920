-- A find for each place before the first empty one; there, or behind the eighth, the targets end.
use Rattle.std.proofs.Common.{rules, arith, ◌≡◌, length}
use Rattle.text.proofs.Pens.{within, chained, nothing}
use Rattle.picture_finds.specs.Contract.{leading}
use Rattle.picture_finds.proofs.Targets.{leading_few, is_leading, ends_at, no_finds, finds_go_on}
use Rattle.picture_finds.proofs.put_finds.Goals as goal

pub loop-i-preserved : goal.loop-i-preserved
loop-i-preserved c = let l = c.loop-i in
    let long : length c.args.f.ys ≡ 8 = search rules in
    let r = is_leading c.args.f.ys l.i l.invariant.0 (omega arith) c.in-Some.is in
    (omega (arith, r.0), rw (finds_go_on _ _ _ _ _ (leading c.args.f.ys) l.i r.1) (within _ (chained l.invariant.1 c.put_find.ensures) (omega arith)))

pub returns-in_default : goal.returns-in_default
returns-in_default c = let l = c.loop-i in
    let long : length c.args.f.ys ≡ 8 = search rules in
    let e = ends_at c.args.f.ys l.i l.invariant.0 (omega arith) c.in_default.is in
    rw (← e) (within 2304 l.invariant.1 (omega arith))

pub returns : goal.returns
returns c = let l = c.loop-i in
    let long : length c.args.f.ys ≡ 8 = search rules in
    let e : l.i ≡ length (leading c.args.f.ys) = omega (arith, leading_few c.args.f.ys, l.invariant.0) in
    rw (← e) (within 2304 l.invariant.1 (omega arith))
