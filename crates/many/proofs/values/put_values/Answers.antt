-- The scaled parameters, then the loop of the basis: a case for each, and one law of what the two leave (`arm`).
use Rattle.std.proofs.Common.{length}
use Rattle.basis.specs.declared.Basis.TheVariants.{Bspline, Bezier, CatmullRom, Hermite, Linear, Power}
use Rattle.many.proofs.Many.{few_segments, all_scaled, arm}
use Rattle.many.proofs.values.put_values.Goals as goal

pub put_scaled-requires : goal.put_scaled-requires
put_scaled-requires c = let a = c.args in
    record { segments = few_segments a.b (length a.knots.now) c.requires.most c.segments-k.ensures; room = c.requires.room }

pub put_in_place-requires-clause-scale : goal.put_in_place-requires-clause-scale
put_in_place-requires-clause-scale c = let a = c.args in
    let k = few_segments a.b (length a.knots.now) c.requires.most c.segments-k.ensures in
    all_scaled _ a.xs.now a.out.now _ k c.requires.numbers c.requires.room c.put_scaled.ensures

pub put_in_place-requires-in-Bezier-clause-scale : goal.put_in_place-requires-in-Bezier-clause-scale
put_in_place-requires-in-Bezier-clause-scale c = let a = c.args in
    let k = few_segments a.b (length a.knots.now) c.requires.most c.segments-k.ensures in
    all_scaled _ a.xs.now a.out.now _ k c.requires.numbers c.requires.room c.put_scaled.ensures

pub put_in_place-requires-in-CatmullRom-clause-scale : goal.put_in_place-requires-in-CatmullRom-clause-scale
put_in_place-requires-in-CatmullRom-clause-scale c = let a = c.args in
    let k = few_segments a.b (length a.knots.now) c.requires.most c.segments-k.ensures in
    all_scaled _ a.xs.now a.out.now _ k c.requires.numbers c.requires.room c.put_scaled.ensures

pub put_in_place-requires-in-Hermite-clause-scale : goal.put_in_place-requires-in-Hermite-clause-scale
put_in_place-requires-in-Hermite-clause-scale c = let a = c.args in
    let k = few_segments a.b (length a.knots.now) c.requires.most c.segments-k.ensures in
    all_scaled _ a.xs.now a.out.now _ k c.requires.numbers c.requires.room c.put_scaled.ensures

pub put_in_place-requires-in-Linear-clause-scale : goal.put_in_place-requires-in-Linear-clause-scale
put_in_place-requires-in-Linear-clause-scale c = let a = c.args in
    let k = few_segments a.b (length a.knots.now) c.requires.most c.segments-k.ensures in
    all_scaled _ a.xs.now a.out.now _ k c.requires.numbers c.requires.room c.put_scaled.ensures

pub put_in_place-requires-in-Power-clause-scale : goal.put_in_place-requires-in-Power-clause-scale
put_in_place-requires-in-Power-clause-scale c = let a = c.args in
    let k = few_segments a.b (length a.knots.now) c.requires.most c.segments-k.ensures in
    all_scaled _ a.xs.now a.out.now _ k c.requires.numbers c.requires.room c.put_scaled.ensures

pub returns-in-Bspline : goal.returns-in-Bspline
returns-in-Bspline c = let a = c.args in
    arm a.b Bspline a.xs.now a.knots.now a.out.now _ _ c.in-Bspline.is c.segments-k.ensures c.requires.room c.put_scaled.ensures c.put_in_place.ensures

pub returns-in-Bezier : goal.returns-in-Bezier
returns-in-Bezier c = let a = c.args in
    arm a.b Bezier a.xs.now a.knots.now a.out.now _ _ c.in-Bezier.is c.segments-k.ensures c.requires.room c.put_scaled.ensures c.put_in_place-in-Bezier.ensures

pub returns-in-CatmullRom : goal.returns-in-CatmullRom
returns-in-CatmullRom c = let a = c.args in
    arm a.b CatmullRom a.xs.now a.knots.now a.out.now _ _ c.in-CatmullRom.is c.segments-k.ensures
    c.requires.room c.put_scaled.ensures c.put_in_place-in-CatmullRom.ensures

pub returns-in-Hermite : goal.returns-in-Hermite
returns-in-Hermite c = let a = c.args in
    arm a.b Hermite a.xs.now a.knots.now a.out.now _ _ c.in-Hermite.is c.segments-k.ensures
    c.requires.room c.put_scaled.ensures c.put_in_place-in-Hermite.ensures

pub returns-in-Linear : goal.returns-in-Linear
returns-in-Linear c = let a = c.args in
    arm a.b Linear a.xs.now a.knots.now a.out.now _ _ c.in-Linear.is c.segments-k.ensures c.requires.room c.put_scaled.ensures c.put_in_place-in-Linear.ensures

pub returns-in-Power : goal.returns-in-Power
returns-in-Power c = let a = c.args in
    arm a.b Power a.xs.now a.knots.now a.out.now _ _ c.in-Power.is c.segments-k.ensures c.requires.room c.put_scaled.ensures c.put_in_place-in-Power.ensures
