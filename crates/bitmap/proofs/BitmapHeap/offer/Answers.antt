use Rattle.std.proofs.Common.{◌≡◌, rules, arith}
use Rattle.bitmap.specs.Words.{bit_in}
use Rattle.bitmap.specs.Cells.{cells_for, placed}
use Rattle.bitmap.proofs.Searches.{placed_is}
use Rattle.bitmap.proofs.BitmapHeap.offer.Goals as goal

pub returns : goal.returns
returns c =
    let m = c.args.self.now.maps in
    let n = c.args.n in
    let w = c.div_ceil-wanted.result in
    let e = c.div_ceil-wanted.ensures in
    let a = c.in_ok-admit.ensures in
    let covers : w ≡ cells_for n = grind arith in
    let is : c.ok_or_else.result ≡ placed n w c.lowest_run.result = search rules in
    let p = placed_is (bit_in m.used.words) (bit_in m.first.words) c.cells.result n w c.lowest_run.result covers c.lowest_run.ensures in
    grind (arith, p, c.cells.ensures)
