use Rattle.bitmap.specs.Words.{bit_in}
use Rattle.bitmap.proofs.Calls.{keeps_relieved}
use Rattle.bitmap.proofs.BitmapHeap.relief.Goals as goal

pub returns-clause-kept : goal.returns-clause-kept
returns-clause-kept c = λ from h k.
    let s = c.args.self.now in
    keeps_relieved from.region.now (bit_in from.maps.used.words) (bit_in from.maps.first.words) h s.region.now (bit_in s.maps.used.words) (bit_in s.maps.first.words) k
