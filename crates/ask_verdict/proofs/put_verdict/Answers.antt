-- What each state of the sheet comes to.
use mathlib.Core.Path.{◌≡◌, sym, ◌∙◌}
use Rattle.whole.specs.Held.{held_all}
use lib.ListN.{length, take}
use lib.Seq.{length-take-le}
use Prim.Native.Nat.{◌+◌, ◌≤◌}
use Rattle.whole.proofs.Held.{long}
use Rattle.ask_sheet.specs.Contract.{last_line}
use Rattle.ask_verdict.proofs.Telling.{suited_text, suited_asked, unsuited_text, unsuited_asked, missing_text, missing_asked, faulty_text, faulty_asked}
use Rattle.text.proofs.Pens.{within}
use Rattle.ask_verdict.specs.Contract.{longest}
use Rattle.ask_verdict.proofs.Texts.{as_told}
use native.Mathlib.Omega.{arith}
use Rattle.ask_verdict.proofs.put_verdict.Goals as goal

pub told_if-requires : goal.told_if-requires
told_if-requires c = let m : c.in-On.n + 2 ≤ last_line = rw c.in-On.is at c.requires.held in
    record {
      few = omega arith;
      suited = sym c.is_suited.ensures ∙ c.if-is_suited.true;
      rows = c.requires.rows;
      sound = (rw c.in-On.is at c.requires.sound);
      labels = c.requires.labels;
      knots = c.requires.knots;
      room = c.requires.room;
    }

pub returns-then-is_suited : goal.returns-then-is_suited
returns-then-is_suited c = let m : c.in-On.n + 2 ≤ last_line = rw c.in-On.is at c.requires.held in
    let n = c.in-On.n in
    let l : length (held_all (take n c.args.rows.now)) ≡ n =
    long (take n c.args.rows.now) ∙ length-take-le n c.args.rows.now (omega (arith, c.requires.rows)) in
    let s = sym c.is_suited.ensures ∙ c.if-is_suited.true in
    rw c.in-On.is (record {
      text = as_told (suited_text _ _ _ n l s) c.told_if.ensures.text;
      asked = suited_asked _ _ _ n l s c.told_if.ensures.held;
      few = c.told_if.ensures.few;
    })

pub put_number-requires : goal.put_number-requires
put_number-requires c = let m : c.in-On.n + 2 ≤ last_line = rw c.in-On.is at c.requires.held in
    record { word = omega arith; number = omega arith; room = omega (arith, c.requires.room) }

pub put_line-requires-in-Faulty : goal.put_line-requires-in-Faulty
put_line-requires-in-Faulty c = let m : c.in-Faulty.n ≤ last_line = rw c.in-Faulty.is at c.requires.held in record { number = m; room = c.requires.room }

pub returns-in-Unbegun : goal.returns-in-Unbegun
returns-in-Unbegun c = rw c.in-Unbegun.is
    (record { text = as_told missing_text c.put_line.ensures; asked = missing_asked; few = tt })

pub returns-else-is_suited : goal.returns-else-is_suited
returns-else-is_suited c = let m : c.in-On.n + 2 ≤ last_line = rw c.in-On.is at c.requires.held in
    let n = c.in-On.n in
    let l : length (held_all (take n c.args.rows.now)) ≡ n =
    long (take n c.args.rows.now) ∙ length-take-le n c.args.rows.now (omega (arith, c.requires.rows)) in
    let s = sym c.is_suited.ensures ∙ c.if-is_suited.false in
    rw c.in-On.is (record {
      text = as_told (unsuited_text _ _ _ n l s) (within longest c.put_number.ensures (omega arith));
      asked = unsuited_asked _ _ _ n l s;
      few = tt;
    })

pub returns-in-Faulty : goal.returns-in-Faulty
returns-in-Faulty c = rw c.in-Faulty.is (record {
  text = as_told (faulty_text _ _) c.put_line-in-Faulty.ensures;
  asked = faulty_asked _ _;
  few = tt;
})
