-- Monotone's table, and the verdict over it.
use mathlib.Core.Path.{◌≡◌, sym, ap, ◌∙◌, subst}
use Rattle.whole.specs.Held.{held_all}
use lib.ListN.{length, take}
use lib.Seq.{length-take-le}
use Prim.Native.Nat.{ℕ, ◌-◌, ◌*◌}
use Rattle.whole.proofs.Held.{long}
use Rattle.ask_verdict.specs.Curve.{suits}
use Rattle.ask_sheet.specs.declared.Kind.TheVariants.{Monotone}
use Rattle.ask_verdict.proofs.Telling.{drawing_monotone, table_there}
use mathlib.Core.Bool.{true}
use Rattle.monotone.specs.Table.{table_of, left_of}
use Rattle.monotone.proofs.Pairs.{table_long}
use Rattle.ask_verdict.proofs.Telling.{there_room}
use native.Mathlib.Omega.{arith}
use Rattle.ask_verdict.proofs.told_monotone.Goals as goal

pub overflow_mul-m : goal.overflow_mul-m
overflow_mul-m c = omega (arith, c.requires.few)

pub slice_bounds-told_of-end-2 : goal.slice_bounds-told_of-end-2
slice_bounds-told_of-end-2 c = let e : c.args.n - 0 ≡ c.args.n = omega arith in let d : 2 * c.args.n - 0 ≡ 2 * c.args.n = omega arith in let l : length (take
    c.args.n c.args.rows.now) ≡ c.args.n = length-take-le c.args.n c.args.rows.now (omega (
      arith,
      c.requires.few,
      c.requires.rows,
    )) in let q : length (held_all (take c.args.n c.args.rows.now)) ≡ c.args.n = long (take c.args.n
    c.args.rows.now) ∙ l in let z = held_all (take c.args.n c.args.rows.now) in let s : suits Monotone (length z) ≡ true = ap
    (suits Monotone) q ∙ c.requires.suited in let j : c.monotone.new.out ≡ left_of z c.args.whole.now = rw e at
    c.monotone.ensures.out in let t : held_all (take (2 * c.args.n) c.monotone.new.out) ≡ table_of z = subst (λ (x : ℕ).
    held_all (take (2 * x) c.monotone.new.out) ≡ table_of z) q (table_there z s c.requires.sound c.args.whole.now
    c.monotone.new.out c.requires.whole j) in let w : length (take (2 * c.args.n) c.monotone.new.out) ≡
    2 * c.args.n = sym (long (take (2 * c.args.n) c.monotone.new.out)) ∙ ap length t ∙ table_long z ∙ ap (λ (x : ℕ). 2 * x) q
    in omega (arith, there_room (2 * c.args.n) c.monotone.new.out w)

pub told_of-requires : goal.told_of-requires
told_of-requires c = let e : c.args.n - 0 ≡ c.args.n = omega arith in
    let d : 2 * c.args.n - 0 ≡ 2 * c.args.n = omega arith in
    let l : length (take c.args.n c.args.rows.now) ≡ c.args.n =
    length-take-le c.args.n c.args.rows.now (omega (arith, c.requires.few, c.requires.rows)) in
    let q : length (held_all (take c.args.n c.args.rows.now)) ≡ c.args.n =
    long (take c.args.n c.args.rows.now) ∙ l in
    let z = held_all (take c.args.n c.args.rows.now) in
    let s : suits Monotone (length z) ≡ true = ap (suits Monotone) q ∙ c.requires.suited in
    let j : c.monotone.new.out ≡ left_of z c.args.whole.now = rw e at c.monotone.ensures.out in
    let t : held_all (take (2 * c.args.n) c.monotone.new.out) ≡ table_of z = subst
    (λ (x : ℕ). held_all (take (2 * x) c.monotone.new.out) ≡ table_of z) q
    (table_there z s c.requires.sound c.args.whole.now c.monotone.new.out c.requires.whole j) in
    let w : length (take (2 * c.args.n) c.monotone.new.out) ≡ 2 * c.args.n =
    sym (long (take (2 * c.args.n) c.monotone.new.out)) ∙ ap length t ∙ table_long z ∙ ap (λ (x : ℕ). 2 * x) q in
    rw (e, d) (record { curve = drawing_monotone z s c.requires.sound _ t; labels = c.requires.labels; knots = c.requires.knots; room = c.requires.room })

pub returns : goal.returns
returns c = let e : c.args.n - 0 ≡ c.args.n = omega arith in let d : 2 * c.args.n - 0 ≡ 2 * c.args.n = omega arith in let l : length (take
    c.args.n c.args.rows.now) ≡ c.args.n = length-take-le c.args.n c.args.rows.now (omega (
      arith,
      c.requires.few,
      c.requires.rows,
    )) in let q : length (held_all (take c.args.n c.args.rows.now)) ≡ c.args.n = long (take c.args.n
    c.args.rows.now) ∙ l in let z = held_all (take c.args.n c.args.rows.now) in let s : suits Monotone (length z) ≡ true = ap
    (suits Monotone) q ∙ c.requires.suited in let j : c.monotone.new.out ≡ left_of z c.args.whole.now = rw e at
    c.monotone.ensures.out in let t : held_all (take (2 * c.args.n) c.monotone.new.out) ≡ table_of z = subst (λ (x : ℕ).
    held_all (take (2 * x) c.monotone.new.out) ≡ table_of z) q (table_there z s c.requires.sound c.args.whole.now
    c.monotone.new.out c.requires.whole j) in let w : length (take (2 * c.args.n) c.monotone.new.out) ≡
    2 * c.args.n = sym (long (take (2 * c.args.n) c.monotone.new.out)) ∙ ap length t ∙ table_long z ∙ ap (λ (x : ℕ). 2 * x) q
    in record {
      text = rw (e, l) at c.told_of.ensures.text;
      held = rw (e, l) at c.told_of.ensures.held;
      few = c.told_of.ensures.few;
    }
