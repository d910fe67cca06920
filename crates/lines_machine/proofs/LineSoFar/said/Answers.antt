-- No more than 64 bytes are kept.
use Rattle.std.proofs.Common.{rules, ◌≡◌}
use Rattle.lines_machine.specs.Contract.{open_of, said_of}
use Rattle.lines_machine.proofs.Pushing.{fits_open}
use Rattle.lines_machine.proofs.LineSoFar.said.Goals as goal

pub returns-clause-fits : goal.returns-clause-fits
returns-clause-fits c =
    let s = c.self.inside in
    let e : said_of c.get.result ≡ open_of s.len s.bytes = search rules in
    rw e (fits_open s.len s.bytes)
