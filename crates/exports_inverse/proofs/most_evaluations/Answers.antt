-- The numbers name a basis, a rule of the ends and a method, and the bound is written; or all stays.
use Rattle.inverse.specs.Inverse.{most_of}
use Rattle.exports_reply.specs.Replies.{no_basis}
use Rattle.exports_reply.specs.Options.{way_of, way}
use Rattle.exports_reply.proofs.Found.{found, unfound, way_found, way_unfound}
use mathlib.Core.Path.{refl}
use Rattle.exports_inverse.proofs.most_evaluations.Goals as goal

pub returns-in_default : goal.returns-in_default
returns-in_default c = let a = c.args in
    let w = way_of a.ends a.method in
    let most = a.most.now in
    let unknown = c.in_default.is in
    record {
      answer = unfound no_basis (λ b. way w no_basis (λ e m. 0)) c.basis_of-c.ensures unknown;
      most = unfound most (λ b. way w most (λ e m. most_of e m b a.n a.limit)) c.basis_of-c.ensures unknown;
    }

pub returns-in_default-w : goal.returns-in_default-w
returns-in_default-w c = let a = c.args in
    let w = way_of a.ends a.method in
    let most = a.most.now in
    let known = c.in-Some.is in
    let basis = c.in-Some.b in
    let unknown = c.in_default-w.is in record {
      answer = found no_basis (λ b. way w no_basis (λ e m. 0)) c.basis_of-c.ensures known (way_unfound no_basis (λ e m. 0) c.way_of-w.ensures unknown);
      most = found most (λ b. way w most (λ e m. most_of e m b a.n a.limit)) c.basis_of-c.ensures known
          (way_unfound most (λ e m. most_of e m basis a.n a.limit) c.way_of-w.ensures unknown);
    }

pub returns : goal.returns
returns c = let a = c.args in
    let w = way_of a.ends a.method in
    let most = a.most.now in
    let known = c.in-Some.is in
    let basis = c.in-Some.b in
    let known-way = c.in-Some-w.is in record {
      answer = found no_basis (λ b. way w no_basis (λ e m. 0)) c.basis_of-c.ensures known (way_found no_basis (λ e m. 0) c.way_of-w.ensures known-way refl);
      most = found most (λ b. way w most (λ e m. most_of e m b a.n a.limit)) c.basis_of-c.ensures known
          (way_found most (λ e m. most_of e m basis a.n a.limit) c.way_of-w.ensures known-way c.most_evaluations.ensures);
    }
