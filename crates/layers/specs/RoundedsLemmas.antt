-- A rounding layer's law.
use Rattle.std.specs.Prelude.{ℕ}
use Rattle.std.proofs.Common.{lit≤}
use Rattle.heap.specs.declared.fault.Kind.TheVariants.{Rounding as RoundingK}
use Rattle.heap.specs.Faults.{up}
use Rattle.heap.specs.Meaning.{Meaning, Lawful}
use Rattle.heap.specs.Roundings.{LawfulRounding}
use Rattle.heap.proofs.Offers.{up_ok, up_fault, lawful_with}
use Rattle.layers.specs.Roundeds.{rounded}

pub rounded_lawful : (largest : ℕ) (rounds : ℕ → ℕ) (m : Meaning) → LawfulRounding largest rounds → Lawful m → Lawful (rounded largest rounds m)
rounded_lawful largest rounds m laws w =
    lawful_with RoundingK largest (λ q. up (m.offer (rounds q))) m (lit≤ tt, lit≤ tt) laws.most w
    (λ n b p. record { size = rounds n; least = laws.extensive n p.some p.most; offer = up_ok (m.offer (rounds n)) b p.answer })
    (λ n g e. up_fault (m.offer (rounds n)) g (w.refused (rounds n)) e)
