-- The lines of the kinds, and the whole report.
use Rattle.std.proofs.Common.{◌≡◌, ℕ, ◌+◌, ◌*◌, ◌<◌, ◌≤◌, eqb, List, [], ◌∷◌, ◌++◌, length, Some, None, Ok, Option, Result, sym, ap, ◌∙◌, subst, arith}
use Rattle.std.proofs.lemmas.List.{append_assoc, length-append}
use Rattle.std.proofs.lemmas.Bool.{cond_both, cond-false, ne_eqb}
use Rattle.heap.specs.declared.fault.Fault.{Fault}
use Rattle.report.specs.declared.lines.Field.TheVariants.{Byte, Word}
use Rattle.report.specs.declared.lines.Page.{Page}
use Rattle.report.specs.declared.tally.Tally.{Tally}
use Rattle.report.specs.Lines.{line, kind_lines, first_line, report_text, checked_buffer}
use Rattle.report.specs.Pages.{Wrote}
use Rattle.report.proofs.Laying.{wrote_on}

-- the kinds' lines

abbrev kind_line : ℕ → ℕ → List ℕ
kind_line k n = line (Byte 18 ∷ Byte k ∷ Word n ∷ [])

kind_some : (k n : ℕ) (ns : List ℕ) → 0 < n → kind_lines k (n ∷ ns) ≡ kind_line k n ++ kind_lines (k + 1) ns
kind_some k n ns h = ap (λ (t : List ℕ). t ++ kind_lines (k + 1) ns) (cond-false (eqb n 0) [] (kind_line k n) (ne_eqb n 0 (λ e. omega arith)))

-- the lines of the kinds below k are written, and those of the others are left
pub record KindsFrom (p q : Page) (all : List ℕ) (k : ℕ) (left : List ℕ) : Type 0 where
  pub text : List ℕ
  pub wrote : Wrote p text q
  pub joined : text ++ kind_lines k left ≡ kind_lines 0 all
  pub few : k + length left ≡ 12

-- one kind more, with no line and with one
module _ (p q : Page) (all : List ℕ) (k : ℕ) (left : List ℕ) (n : ℕ) (ns : List ℕ) (w : KindsFrom p q all k left) (e : left ≡ n ∷ ns) where
  fewer : k + 1 + length ns ≡ 12
  fewer = let l = ap length e in let f = w.few in omega arith

  joined_some : 0 < n → (w.text ++ kind_line k n) ++ kind_lines (k + 1) ns ≡ kind_lines 0 all
  joined_some z = append_assoc w.text (kind_line k n) (kind_lines (k + 1) ns) ∙ ap (λ (t : List ℕ). w.text ++ t) (sym (ap (kind_lines k) e ∙ kind_some k n ns z)) ∙ w.joined

  pub kind_wrote : (j : ℕ) (r : Page) → j ≡ k + 1 → 0 < n → Wrote q (line (Byte 18 ∷ Byte k ∷ Word n ∷ [])) r → KindsFrom p r all j ns
  kind_wrote j r s z v = subst (λ (i : ℕ). KindsFrom p r all i ns) (sym s) (record {
    text = w.text ++ kind_line k n;
    wrote = wrote_on p q r w.text (kind_line k n) w.wrote v;
    joined = joined_some z;
    few = fewer;
  })

pub length_kinds : (k : ℕ) (ns : List ℕ) → length (kind_lines k ns) ≤ 13 * length ns
length_kinds k [] = omega arith
length_kinds k (n ∷ ns) =
    let i = length_kinds (k + 1) ns in
    let c = cond_both (eqb n 0) [] (line (Byte 18 ∷ Byte k ∷ Word n ∷ [])) (λ (t : List ℕ). length t ≤ 13) (λ _. omega arith) (λ _. omega arith) in
    simp length-append (omega arith)

length_first : (first : Option (ℕ × Fault)) → length (first_line first) ≤ 25
length_first None = omega arith
length_first (Some p) = omega arith

-- a report has at most 245 bytes
pub length_report : (pile : ℕ) (t : Tally) → length t.kinds ≡ 12 → length (report_text pile t) ≤ 245
length_report pile t h =
    let k = length_kinds 0 t.kinds in
    let f = length_first t.first in
    let l = length-append (kind_lines 0 t.kinds) (first_line t.first) in
    omega arith

pub passed : (n : ℕ) (u : Unit {0}) → ◌≡◌ {A = Result (Unit {0}) Fault} (Ok u) (checked_buffer n) → 256 ≤ n
passed n u e = grind arith
