-- `exports_table::handed_told` meets its contract: in each arm the answer is that arm's. Assumes nothing.
use mathlib.Core.Path.{sym, ap, ◌∙◌}
use Rattle.exports_table.specs.Tables.{handed_reply, handed_span, handed_length}
use Rattle.exports_table.proofs.handed_told.Goals as goal

pub returns-in-Ok : goal.returns-in-Ok
returns-in-Ok c = let args = c.args in
    let is = c.in-Ok.is in
    record {
      answer = sym (ap handed_reply is);
      handed = sym (ap (λ a. handed_span a args.handed.now) is);
      written = sym (ap (λ a. handed_length a args.written.now) is);
    }

pub returns-in-Err : goal.returns-in-Err
returns-in-Err c = let args = c.args in
    let is = c.in-Err.is in record {
      answer = c.reply.ensures ∙ sym (ap handed_reply is);
      handed = sym (ap (λ a. handed_span a args.handed.now) is);
      written = sym (ap (λ a. handed_length a args.written.now) is);
    }
