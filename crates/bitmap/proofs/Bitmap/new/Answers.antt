use Rattle.std.proofs.Common.{length, refl}
use Rattle.bitmap.specs.Words.{bit_in}
use Rattle.bitmap.specs.Cells.{cells_of}
use Rattle.bitmap.specs.Keeping.{clear_live}
use Rattle.bitmap.proofs.Flips.{clear_bit}
use Rattle.bitmap.proofs.Bitmap.new.Goals as goal

pub returns : goal.returns
returns c =
    let m = c.default-maps.result in
    let used = clear_bit m.used.words 16 c.default-maps.ensures.0 in
    record {
      region = refl;
      used = used;
      first = clear_bit m.first.words 16 c.default-maps.ensures.1;
      nothing = clear_live (bit_in m.used.words) (bit_in m.first.words) (cells_of (length c.args.region.now)) used;
    }
