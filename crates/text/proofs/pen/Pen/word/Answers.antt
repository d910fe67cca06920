-- An empty word is written as it stands.
use Rattle.std.proofs.Common.{rules, ◌≡◌, length}
use Rattle.text.proofs.Pens.{none_written}
use Rattle.text.proofs.pen.Pen.word.Goals as goal

pub returns-else-not-is_empty : goal.returns-else-not-is_empty
returns-else-not-is_empty c =
    let e : length c.args.w.now ≡ 0 = search rules in
    none_written c.args.self.now c.args.w.now e
