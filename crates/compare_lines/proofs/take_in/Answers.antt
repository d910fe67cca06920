-- The first `other` parts the listings (`parting`); any other record goes to the first listing before it (`entering`) and to the second after it (`second`).
use native.Mathlib.Omega.{arith}
use mathlib.Core.Path.{sym, ap, ◌∙◌}
use Prim.Native.Nat.{◌≤◌, max}
use Rattle.compare_lines.specs.Listings.{places, before, parted}
use Rattle.compare_lines.specs.Contract.{listing_of, knots_of}
use Rattle.compare_lines.proofs.Entering.{parting, entering, second}
use Rattle.compare_lines.proofs.take_in.Goals as goal

pub returns-then-is_other : goal.returns-then-is_other
returns-then-is_other c = let k =
    parting (listing_of c.in-Before.l c.args.old.now)
    c.args.s (sym c.is_other.ensures ∙ c.if-is_other.true) in
    let z : knots_of c.in-Before.l ≤ places =
    rw c.in-Before.is at c.requires.held in
    rw c.in-Before.is (record { held = k.0; told = k.1; few = omega arith })

pub enter-e-requires : goal.enter-e-requires
enter-e-requires c = record { knots_l = rw c.in-Before.is at c.requires.held; knots = c.requires.old }

pub enter-e-requires-in-Parted : goal.enter-e-requires-in-Parted
enter-e-requires-in-Parted c = let z : max (knots_of c.in-Parted.k) (knots_of c.in-Parted.l) ≤ places =
    rw c.in-Parted.is at c.requires.held
    in record { knots_l = omega arith; knots = c.requires.new }

pub returns-else-is_other : goal.returns-else-is_other
returns-else-is_other c = let k = entering (listing_of c.in-Before.l c.args.old.now) c.args.s
    (sym c.is_other.ensures ∙ c.if-is_other.false) in
    rw c.in-Before.is (record { held = ap before c.enter-e.ensures.held ∙ k.0; told = c.enter-e.ensures.told ∙ k.1; few = c.enter-e.ensures.few })

pub returns-in-Parted : goal.returns-in-Parted
returns-in-Parted c = let k = second (listing_of c.in-Parted.k c.args.old.now) (listing_of c.in-Parted.l c.args.new.now)
    c.args.s in
    let z : max (knots_of c.in-Parted.k) (knots_of c.in-Parted.l) ≤ places = rw c.in-Parted.is at c.requires.held in
    rw c.in-Parted.is (record {
      held = ap (parted (listing_of c.in-Parted.k c.args.old.now)) c.enter-e-in-Parted.ensures.held ∙ k.0;
      told = c.enter-e-in-Parted.ensures.told ∙ k.1;
      few = omega (arith, c.enter-e-in-Parted.ensures.few);
    })
