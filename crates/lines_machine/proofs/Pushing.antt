-- A byte more in the lent 64 is a byte more of the line: by whether it has room. Assumes nothing.
use mathlib.Core.Path.{◌≡◌, refl, ap}
use mathlib.Core.Bool.{Bool, true, false}
use mathlib.Core.List.{List}
use Prim.Native.Nat.{ℕ, ◌+◌, ◌≤◌, ◌<◌}
use native.Mathlib.Numerals.{add-one}
use native.Mathlib.Omega.{arith}
use borrow.Author.Tests.{lt-ltb, le-ltb, le-leb, leb-true}
use lib.Dec.{leb}
use lib.ListN.{length, take, set}
use lib.Seq.{take-suc-set, length-take-le}
use Rattle.std.proofs.Common.{min}
use Rattle.std.proofs.lemmas.List.{length-take}
use Rattle.lines_machine.specs.Program.{widest, so, over}
use Rattle.lines_machine.specs.Bytes.{push}
use Rattle.lines_machine.specs.Contract.{open_of, Fits}

pub push_room : (n b : ℕ) (line : List ℕ) → n < widest → length line ≡ widest → open_of (n + 1) (set line n b) ≡ push (open_of n line) b
unfolding push
push_room n b line h f =
    let z : length (take n line) < widest = rw (length-take-le n line (omega arith)) h in
    rw (le-leb (n + 1) widest (omega arith), le-leb n widest (omega arith), lt-ltb (length (take n line)) widest z, add-one n)
    (ap so (take-suc-set line n b (omega arith)))

pub push_full : (n b : ℕ) (line : List ℕ) → widest ≤ n → length line ≡ widest → over ≡ push (open_of n line) b
unfolding push
push_full n b line h f = go (leb n widest) refl
  where
    go : (t : Bool) → leb n widest ≡ t → over ≡ push (open_of n line) b
    go true e =
        let k : n ≤ widest = leb-true n widest e in
        let z : widest ≤ length (take n line) = rw (length-take-le n line (omega arith)) h in
        rw (e, le-ltb (length (take n line)) widest z) refl
    go false e = rw e refl

-- what stands there has no more than 64 bytes
pub fits_open : (n : ℕ) (line : List ℕ) → Fits (open_of n line)
fits_open n line = go (leb n widest) refl
  where
    go : (t : Bool) → leb n widest ≡ t → Fits (open_of n line)
    go true e =
        let k : n ≤ widest = leb-true n widest e in
        let z : length (take n line) ≡ min n (length line) = length-take n line in
        rw e (omega (arith, z))
    go false e = rw e tt
