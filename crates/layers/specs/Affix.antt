-- What an affix's value means and keeps, over the heap below.
use Rattle.layers.specs.declared.affix.Affix.{Affix}
use Rattle.heap.specs.Meaning.{Meaning}
use Rattle.heap.specs.Histories.{History}
use Rattle.layers.specs.Affixes.{affixed, AllWhole, sent_affixed}

abbrev pub affix_means : {H : Type 0} → (H → Meaning) → Affix H → Meaning
affix_means means s = affixed (means s.below)

pub record AffixKeeps {H : Type 0} (means : H → Meaning) (keeps : H → History → H → Type 0) (from : Affix H) (h : History) (s : Affix H) : Type 0 where
  -- if every live block stood between its marks, every one still does
  pub whole : AllWhole (means from.below) → AllWhole (means s.below)
  -- the heap below keeps the calls that reach it
  pub below : keeps from.below (sent_affixed h) s.below
