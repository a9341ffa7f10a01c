-- A quota's law, and its calls from those below, by cases on the answer.
use Rattle.std.specs.Prelude.{◌≡◌, ℕ, ◌+◌, ◌≤◌, Ok, Err, Result, refl}
use Rattle.std.proofs.Common.{sym, subst, lit≤, arith}
use Rattle.heap.specs.declared.fault.Fault.{Fault}
use Rattle.heap.specs.declared.fault.Kind.TheVariants.{Quota as QuotaK}
use Rattle.heap.specs.declared.fault.Cause.TheVariants.{OverQuota}
use Rattle.heap.specs.Faults.{raised, up, own, and_then}
use Rattle.heap.specs.Checks.{admitted}
use Rattle.heap.specs.Meaning.{Meaning, Block, Lawful, HeapFault, SameOffers, Same, MayFree, Allocates, Frees, Fills}
use Rattle.heap.proofs.Lawful.{offered_free, offered_below}
use Rattle.heap.proofs.Offers.{admits, up_fault, raised_fault, lawful_with, and_then_same, granted_with, freed_with, same_with, fills_with}
use Rattle.layers.specs.Quotas.{within_limit, quota_offer, rationed, Charges, Credits, Paid}
use Rattle.layers.specs.Accounts.{granted_paid, freed_paid, stays_paid, stays_paid_live}

-- a block that the limit lets pass is the one offered below, and stays within the limit
passes : (l a n : ℕ) (r : Result Block Fault) (b : Block) → and_then (up r) (within_limit l a n) ≡ Ok b → r ≡ Ok b
passes l a n (Ok c) b e = grind arith
passes l a n (Err f) b e = grind arith

within : (l a n : ℕ) (r : Result Block Fault) (b : Block) → and_then (up r) (within_limit l a n) ≡ Ok b → a + b.1 ≤ l
within l a n (Ok c) b e = grind arith
within l a n (Err f) b e = grind arith

refusal : (l a n : ℕ) (r : Result Block Fault) (g : Fault) → ((f : Fault) → r ≡ Err f → HeapFault f) → and_then (up r) (within_limit l a n) ≡ Err g → HeapFault g
refusal l a n (Ok c) g h e = subst HeapFault (let y : raised OverQuota QuotaK n ≡ g = grind arith in y) (raised_fault OverQuota QuotaK n tt (lit≤ tt, lit≤ tt))
refusal l a n (Err f) g h e = up_fault (Err f) g h e

pub rationed_lawful : (l a : ℕ) (m : Meaning) → Lawful m → Lawful (rationed l a m)
rationed_lawful l a m w =
    lawful_with QuotaK 32768 (λ q. and_then (up (m.offer q)) (within_limit l a q)) m (lit≤ tt, lit≤ tt) (lit≤ tt) w
    (λ n b p. record { size = n; least = omega arith; offer = passes l a n (m.offer n) b p.answer })
    (λ n g e. refusal l a n (m.offer n) g (w.refused n) e)

-- offers depend on the limit, the account and the offers below
same_offers : (l l' acc acc' : ℕ) (m m' : Meaning) → l' ≡ l → acc' ≡ acc → SameOffers m m' → SameOffers (rationed l acc m) (rationed l' acc' m')
same_offers l l' acc acc' m m' el ea s n =
    and_then_same (admitted 32768 QuotaK n) (λ q. and_then (up (m'.offer q)) (within_limit l' acc' q)) (λ q. and_then (up (m.offer q)) (within_limit l acc q))
    (λ q. let o = s q in cc)

module _ (l l' acc acc' : ℕ) (m m' : Meaning) (el : l' ≡ l) where
  pub rationed_same : acc' ≡ acc → Same m m' → Same (rationed l acc m) (rationed l' acc' m')
  rationed_same ea s = same_with QuotaK (quota_offer l acc m) (quota_offer l' acc' m') m m' (same_offers l l' acc acc' m m' el ea) s

  pub rationed_allocates : (r : Result Block Fault) → Charges acc acc' r → Allocates m m' r → Allocates (rationed l acc m) (rationed l' acc' m') r
  rationed_allocates (Ok b) ea s = granted_with QuotaK (quota_offer l acc m) (quota_offer l' acc' m') m m' b.0 b.1 s
  rationed_allocates (Err f) ea s = rationed_same ea s

  pub rationed_frees : (a : ℕ) (r : Result (Unit {0}) Fault) → Credits acc acc' (m.live a) r → Frees a m m' r → Frees a (rationed l acc m) (rationed l' acc' m') (own QuotaK a r)
  rationed_frees a (Ok t) ea s = freed_with QuotaK (quota_offer l acc m) (quota_offer l' acc' m') m m' a s
  rationed_frees a (Err f) ea s = rationed_same ea s

  pub paid_granted : (n : ℕ) (r : Result Block Fault) → Lawful m → r ≡ quota_offer l acc m n → Charges acc acc' r → Allocates m m' r → Paid l acc m → Paid l' acc' m'
  paid_granted n (Ok b) w e ea s p =
      let q = (admits 32768 QuotaK (λ z. and_then (up (m.offer z)) (within_limit l acc z)) n b (sym e)).answer in
      let offer = passes l acc n (m.offer n) b q in
      let le = within l acc n (m.offer n) b q in
      let y = granted_paid l acc b.1 m m' b.0 s (offered_free m n b w offer) (offered_below m n b w offer) le p in
      let a = y.all in
      record { all = omega arith; within = omega arith }
  paid_granted n (Err f) w e ea s p =
      let y = stays_paid l acc m m' s.0 p in
      let a = y.all in
      let k = y.within in
      record { all = omega arith; within = omega arith }

  pub paid_freed : (a : ℕ) (r : Result (Unit {0}) Fault) → Lawful m → MayFree m.kind m.live a r → Credits acc acc' (m.live a) r → Frees a m m' r → Paid l acc m → Paid l' acc' m'
  paid_freed a (Ok t) w q ea s p =
      let y = freed_paid l acc m m' a w q s p in
      let all = y.all in
      let k = y.within in
      record { all = omega arith; within = omega arith }
  paid_freed a (Err f) w q ea s p =
      let y = stays_paid l acc m m' s.0 p in
      let all = y.all in
      let k = y.within in
      record { all = omega arith; within = omega arith }

-- a fill leaves the account as it was
pub paid_filled : (l acc a c v : ℕ) (m m' : Meaning) (r : Result (Unit {0}) Fault) → Fills a c v m m' r → Paid l acc m → Paid l acc m'
paid_filled l acc a c v m m' (Ok t) s p = stays_paid_live l acc m m' s.span s.live p
paid_filled l acc a c v m m' (Err f) s p = stays_paid l acc m m' s.0 p

pub rationed_fills : (l acc a c v : ℕ) (m m' : Meaning) (r : Result (Unit {0}) Fault) → Fills a c v m m' r → Fills a c v (rationed l acc m) (rationed l acc m') (own QuotaK a r)
rationed_fills l acc a c v m m' r s = fills_with QuotaK (quota_offer l acc m) (quota_offer l acc m') m m' (same_offers l l acc acc m m' refl refl) a c v r s
