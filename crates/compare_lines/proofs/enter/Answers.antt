-- Before the listing's `curve` (`first`), or after it (`later`).
use Prim.Native.Nat.{◌≤◌}
use Rattle.compare_lines.specs.Listings.{places}
use Rattle.compare_lines.proofs.enter.Goals as goal

pub later-requires : goal.later-requires
later-requires c = let k : c.in-On.n ≤ places =
    rw c.in-On.is at c.requires.knots_l in record { count = k; knots = c.requires.knots }

pub returns-in-Nothing : goal.returns-in-Nothing
returns-in-Nothing c = rw c.in-Nothing.is c.first.ensures

pub returns-in-On : goal.returns-in-On
returns-in-On c = rw c.in-On.is c.later.ensures
