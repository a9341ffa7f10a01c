-- What a quota's value means and keeps, over the heap below.
use Rattle.std.specs.Prelude.{◌≡◌}
use Rattle.layers.specs.declared.quota.Quota.{Quota}
use Rattle.heap.specs.Meaning.{Meaning}
use Rattle.heap.specs.Histories.{History}
use Rattle.layers.specs.Quotas.{rationed, Paid}

abbrev pub quota_means : {H : Type 0} → (H → Meaning) → Quota H → Meaning
quota_means means s = rationed s.limit s.account (means s.below)

pub record QuotaKeeps {H : Type 0} (means : H → Meaning) (keeps : H → History → H → Type 0) (from : Quota H) (h : History) (s : Quota H) : Type 0 where
  -- the limit is the one at the start
  pub limit : s.limit ≡ from.limit
  -- an account that was the total of the live lengths, within the limit, still is
  pub paid : Paid from.limit from.account (means from.below) → Paid s.limit s.account (means s.below)
  -- the heap below keeps the same calls
  pub below : keeps from.below h s.below
