use Rattle.std.proofs.Common.{sym, arith}
use Rattle.heap.specs.declared.fault.Kind.TheVariants.{Bitmap as BitmapK}
use Rattle.heap.proofs.Checked.{get_checked}
use Rattle.bitmap.specs.Words.{bit_in}
use Rattle.bitmap.specs.Cells.{bitmap_means}
use Rattle.bitmap.specs.Laws.{bitmap_lawful, covered_region}
use Rattle.bitmap.proofs.BitmapHeap.get.Goals as goal

pub bounds-self-a : goal.bounds-self-a
bounds-self-a c =
    let xs = c.args.self.now.region.now in
    let u = bit_in c.args.self.now.maps.used.words in
    let f = bit_in c.args.self.now.maps.first.words in
    let k = (get_checked BitmapK (bitmap_means xs u f) (bitmap_lawful xs u f) c.args.a c.find.result c.find.ensures).accepted (sym c.in_ok-check_get.ensures) in
    let z = covered_region xs u f c.args.a 1 (omega arith) k in
    omega arith
