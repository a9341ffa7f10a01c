use Rattle.std.proofs.Common.{sym, ◌∙◌, length, arith}
use Rattle.bitmap.specs.Words.{bit_in}
use Rattle.bitmap.specs.Cells.{cells_of}
use Rattle.bitmap.proofs.Searches.{past_none, found_block, found_none}
use Rattle.bitmap.proofs.BitmapHeap.find.Goals as goal

pub returns-then-cell-cells : goal.returns-then-cell-cells
returns-then-cell-cells c =
    let s = c.args.self.now in
    past_none (bit_in s.maps.used.words) (bit_in s.maps.first.words) (cells_of (length s.region.now)) c.args.a (omega arith)

pub returns-then-not-begins : goal.returns-then-not-begins
returns-then-not-begins c =
    let s = c.args.self.now in
    found_none (bit_in s.maps.used.words) (bit_in s.maps.first.words) (cells_of (length s.region.now)) c.args.a c.back-start.result (omega arith) c.back-start.ensures (sym c.begins.ensures ∙ c.if-not-begins.true)

pub returns : goal.returns
returns c =
    let s = c.args.self.now in
    found_block (bit_in s.maps.used.words) (bit_in s.maps.first.words) (cells_of (length s.region.now)) c.args.a c.back-start.result (omega arith) c.back-start.ensures c.ahead-end.result (sym c.begins.ensures ∙ c.if-not-begins.false)
    (rw c.cells-cells.ensures at c.ahead-end.ensures.runs)
