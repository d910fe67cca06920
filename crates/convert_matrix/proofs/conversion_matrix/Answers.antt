-- Each row is the inverse's, times the basis's matrix, by the callees' contracts (`conversion_row`); `conversion` joins the four.
use Rattle.convert_matrix.proofs.Steps.{conversion_row, conversion}
use Rattle.convert_matrix.proofs.conversion_matrix.Goals as goal

pub returns : goal.returns
returns c = let a = c.args in
    let m = c.matrix-b.ensures in
    conversion a.from a.to (conversion_row a.from a.to m 0 c.inverse_row.ensures c.mul_row-r0.ensures)
    (conversion_row a.from a.to m 1 c.inverse_row-2.ensures c.mul_row-r1.ensures)
    (conversion_row a.from a.to m 2 c.inverse_row-3.ensures c.mul_row-r2.ensures)
    (conversion_row a.from a.to m 3 c.inverse_row-4.ensures c.mul_row-r3.ensures)
