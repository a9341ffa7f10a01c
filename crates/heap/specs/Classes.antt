-- Rounding to the sizes of an ascending list.
use Rattle.std.specs.Prelude.{◌≡◌, ℕ, zero, suc, ◌+◌, ◌*◌, ◌/◌, ◌^◌, ◌<◌, ◌≤◌, max, List, [], ◌∷◌, nat_le, refl}
use Rattle.std.proofs.Common.{rules, sym, ◌∙◌, ap, ⊎_elim, lit<, lit≤, add-one, pow_mono, arith}
use Rattle.std.proofs.Math.Nat.{pow-succ'}
use Rattle.heap.specs.Roundings.{LawfulRounding, up_to_largest, least_in, doubles, grain, power}
use Rattle.std.proofs.lemmas.Bool.{cond-true, cond-false, le-leb, lt-leb, cases_lt, cases_eq}

-- each size is above the one before it
abbrev pub Ascends : ℕ → List ℕ → Type 0
Ascends p [] = Unit {0}
Ascends p (q ∷ qs) = (p < q) × Ascends q qs

-- the last of the list p ∷ ps
abbrev pub last : ℕ → List ℕ → ℕ
last p [] = p
last p (q ∷ qs) = last q qs

first_is : (p : ℕ) (ps : List ℕ) (n : ℕ) → n ≤ p → least_in (p ∷ ps) n ≡ p
first_is p ps n l = cond-true (nat_le n p) p (least_in ps n) (le-leb n p l)

later_is : (p : ℕ) (ps : List ℕ) (n : ℕ) → p < n → least_in (p ∷ ps) n ≡ least_in ps n
later_is p ps n l = cond-false (nat_le n p) p (least_in ps n) (lt-leb n p l)

last_most : (p : ℕ) (ps : List ℕ) → Ascends p ps → p ≤ last p ps
last_most p [] a = omega arith
last_most p (q ∷ qs) a = let i = last_most q qs a.1 in let l = a.0 in omega arith

pub least_enough : (p : ℕ) (ps : List ℕ) (n : ℕ) → n ≤ last p ps → n ≤ least_in (p ∷ ps) n
least_enough p [] n h = let e = first_is p [] n h in omega arith
least_enough p (q ∷ qs) n h =
    ⊎_elim
    (λ (l : p < n). let e = later_is p (q ∷ qs) n l in let i = least_enough q qs n h in omega arith)
    (λ (l : n ≤ p). let e = first_is p (q ∷ qs) n l in omega arith)
    (cases_lt p n)

pub least_within : (p : ℕ) (ps : List ℕ) (n : ℕ) → Ascends p ps → n ≤ last p ps → least_in (p ∷ ps) n ≤ last p ps
least_within p [] n a h = let e = first_is p [] n h in omega arith
least_within p (q ∷ qs) n a h =
    ⊎_elim
    (λ (l : p < n). let e = later_is p (q ∷ qs) n l in let i = least_within q qs n a.1 h in omega arith)
    (λ (l : n ≤ p). let e = first_is p (q ∷ qs) n l in let i = last_most p (q ∷ qs) a in omega arith)
    (cases_lt p n)

pub least_first : (p : ℕ) (ps : List ℕ) (n : ℕ) → Ascends p ps → n ≤ last p ps → p ≤ least_in (p ∷ ps) n
least_first p [] n a h = let e = first_is p [] n h in omega arith
least_first p (q ∷ qs) n a h =
    let b = a.0 in
    ⊎_elim
    (λ (l : p < n). let e = later_is p (q ∷ qs) n l in let i = least_first q qs n a.1 h in omega arith)
    (λ (l : n ≤ p). let e = first_is p (q ∷ qs) n l in omega arith)
    (cases_lt p n)

pub least_monotone : (p : ℕ) (ps : List ℕ) (m n : ℕ) → Ascends p ps → m ≤ n → n ≤ last p ps → least_in (p ∷ ps) m ≤ least_in (p ∷ ps) n
least_monotone p [] m n a l h = let d = first_is p [] m (omega arith) in let e = first_is p [] n h in omega arith
least_monotone p (q ∷ qs) m n a l h =
    ⊎_elim
    (λ (k : p < m). let d = later_is p (q ∷ qs) m k in let e = later_is p (q ∷ qs) n (omega arith) in let i = least_monotone q qs m n a.1 l h in omega arith)
    (λ (k : m ≤ p). let d = first_is p (q ∷ qs) m k in let i = least_first p (q ∷ qs) n a h in omega arith)
    (cases_lt p m)

pub least_idempotent : (p : ℕ) (ps : List ℕ) (n : ℕ) → Ascends p ps → n ≤ last p ps → least_in (p ∷ ps) (least_in (p ∷ ps) n) ≡ least_in (p ∷ ps) n
least_idempotent p [] n a h = let e = first_is p [] n h in ap (least_in (p ∷ [])) e ∙ first_is p [] p (omega arith) ∙ sym e
least_idempotent p (q ∷ qs) n a h =
    ⊎_elim
    (λ (l : p < n).
    let e = later_is p (q ∷ qs) n l in
    let i = least_first q qs n a.1 h in
    let b = a.0 in
    ap (least_in (p ∷ q ∷ qs)) e ∙ later_is p (q ∷ qs) (least_in (q ∷ qs) n) (omega arith) ∙ least_idempotent q qs n a.1 h ∙ sym e)
    (λ (l : n ≤ p). let e = first_is p (q ∷ qs) n l in ap (least_in (p ∷ q ∷ qs)) e ∙ first_is p (q ∷ qs) p (omega arith) ∙ sym e)
    (cases_lt p n)

in_range : (L : ℕ) (f : ℕ → ℕ) (n : ℕ) → 1 ≤ n → n ≤ L → up_to_largest L f n ≡ f n
in_range L f n p q = grind arith

past_range : (L : ℕ) (f : ℕ → ℕ) (n : ℕ) → L < n → up_to_largest L f n ≡ 0
past_range L f n p = grind arith

-- an ascending list of sizes makes a lawful rounding
pub classes_lawful : (p : ℕ) (ps : List ℕ) → Ascends p ps → 8 ≤ last p ps → last p ps ≤ 32768 → LawfulRounding (last p ps) (up_to_largest (last p ps) (least_in (p ∷ ps)))
classes_lawful p ps a low high =
    let L = last p ps in
    let f = least_in (p ∷ ps) in
    record {
      least = low;
      most = high;
      extensive = λ n i h. let e = in_range L f n i h in let x = least_enough p ps n h in omega arith;
      within = λ n i h. let e = in_range L f n i h in let x = least_within p ps n a h in omega arith;
      monotone = λ m n i l h.
          let d = in_range L f m i (omega arith) in
          let e = in_range L f n (omega arith) h in
          let x = least_monotone p ps m n a l h in
          omega arith;
      idempotent = λ n i h.
          let e = in_range L f n i h in
          let x = least_enough p ps n h in
          let y = least_within p ps n a h in
          ap (up_to_largest L f) e ∙ in_range L f (f n) (omega arith) y ∙ least_idempotent p ps n a h ∙ sym e;
      nought = refl;
      beyond = λ n h. past_range L f n h;
    }

doubles_ascend : (c p q : ℕ) → p < q → Ascends p (doubles c q)
doubles_ascend zero p q h = (h, tt)
doubles_ascend (suc c) p q h = (h, doubles_ascend c q (2 * q) (omega arith))

pub power_lawful : LawfulRounding 32768 power
power_lawful = classes_lawful 8 (doubles 11 16) (doubles_ascend 11 8 16 (lit< tt)) (lit≤ tt) (lit≤ tt)

-- the least power of two that is at least n is the first among doubles that begin below it
pub least_power : (c i k n : ℕ) → i ≤ k → k ≤ i + c → n ≤ 2 ^ k → 2 ^ k < 2 * n → least_in (doubles c (2 ^ i)) n ≡ 2 ^ k
least_power zero i k n l u h g = let e : i ≡ k = omega arith in ap (λ (j : ℕ). least_in (2 ^ j ∷ []) n) e ∙ first_is (2 ^ k) [] n h
least_power (suc c) i k n l u h g =
    ⊎_elim
    (λ (e : i ≡ k). ap (λ (j : ℕ). least_in (doubles (suc c) (2 ^ j)) n) e ∙ first_is (2 ^ k) (doubles c (2 * 2 ^ k)) n h)
    (λ (e : i ≡ k → ⊥).
    let less : i + 1 ≤ k = omega arith in
    let next : 2 * 2 ^ i ≡ 2 ^ (i + 1) = sym (pow-succ' 2 i) ∙ ap (λ (j : ℕ). 2 ^ j) (sym (add-one i)) in
    let mono : 2 ^ (i + 1) ≤ 2 ^ k = pow_mono less in
    later_is (2 ^ i) (doubles c (2 * 2 ^ i)) n (omega arith)
    ∙ ap (λ (q : ℕ). least_in (doubles c q) n) next
    ∙ least_power c (i + 1) k n less (omega arith) h g)
    (cases_eq i k)

-- what the standard library's next power of two gives
pub next_power : (n k : ℕ) → 1 ≤ n → n ≤ 32768 → n ≤ 2 ^ k → 2 ^ k / 2 < n → max (2 ^ k) 8 ≡ power n
next_power n k some small h g =
    let twice : 2 ^ k < 2 * n = omega arith in
    let u : k < 16 = ⊎_elim (λ (q : k < 16). q) (λ (q : 16 ≤ k). absurd (let z : 2 ^ 16 ≤ 2 ^ k = pow_mono {i = 16} {j = k} q in let w : ⊥ = omega arith in w)) (cases_lt k 16) in
    let r = in_range 32768 (least_in (doubles 12 8)) n some small in
    ⊎_elim
    (λ (q : 3 < k).
    let z : 2 ^ 3 ≤ 2 ^ k = pow_mono {i = 3} {j = k} (omega arith) in
    let e = least_power 12 3 k n (omega arith) (omega arith) h twice in
    omega arith)
    (λ (q : k ≤ 3).
    let z : 2 ^ k ≤ 2 ^ 3 = pow_mono {i = k} {j = 3} q in
    let e = first_is 8 (doubles 11 16) n (omega arith) in
    omega arith)
    (cases_lt 3 k)

pub grain_lawful : LawfulRounding 8192 grain
grain_lawful = search rules
