-- Texts written on a page, one behind another.
use Rattle.std.proofs.Common.{◌≡◌, ℕ, zero, suc, ◌+◌, ◌<◌, ◌≤◌, List, [], ◌∷◌, ◌++◌, length, get_or, take, drop, sym, ap, ◌∙◌, subst, add_assoc, arith}
use Rattle.std.specs.List.{flat_map}
use Rattle.std.proofs.lemmas.List.{append_assoc, length-append, length-take-le, length-drop, take_at, take_more, take_all, drop_at, drop-drop, flat_map_more}
use Rattle.report.specs.declared.lines.Page.{Page}
use Rattle.report.specs.Lines.{laid}
use Rattle.report.specs.Pages.{Wrote}

length_laid : (out : List ℕ) (at : ℕ) (text : List ℕ) → at + length text ≤ length out → length (laid out at text) ≡ length out
length_laid out at text room =
    let h : at ≤ length out = omega arith in
    simp (length-append, length-take-le, length-drop) (omega arith)

laid_more : (out out' : List ℕ) (at n : ℕ) (s t : List ℕ) → at ≤ length out → n ≡ at + length s → out' ≡ laid out at s → laid out' n t ≡ laid out at (s ++ t)
laid_more out out' at n s t room e w =
    let p = take at out ++ s in
    let lp : length p ≡ n = length-append (take at out) s ∙ ap (λ (k : ℕ). k + length s) (length-take-le at out room) ∙ sym e in
    let split : out' ≡ p ++ drop n out = w ∙ sym (append_assoc (take at out) s (drop (at + length s) out)) ∙ ap (λ (k : ℕ). p ++ drop k out) (sym e) in
    let rest : drop (n + length t) (p ++ drop n out) ≡ drop (n + length t) out = sym (drop-drop (length t) n (p ++ drop n out)) ∙ ap (drop (length t)) (drop_at p (drop n out) n lp) ∙ drop-drop (length t) n out in
    let ends : n + length t ≡ at + length (s ++ t) = ap (λ (k : ℕ). k + length t) e ∙ add_assoc at (length s) (length t) ∙ ap (λ (k : ℕ). at + k) (sym (length-append s t)) in
    ap (λ (z : List ℕ). laid z n t) split
    ∙ ap (λ (z : List ℕ). z ++ (t ++ drop (n + length t) (p ++ drop n out))) (take_at p (drop n out) n lp)
    ∙ ap (λ (z : List ℕ). p ++ (t ++ z)) rest
    ∙ append_assoc (take at out) s (t ++ drop (n + length t) out)
    ∙ ap (λ (z : List ℕ). take at out ++ z) (sym (append_assoc s t (drop (n + length t) out)))
    ∙ ap (λ (k : ℕ). take at out ++ ((s ++ t) ++ drop k out)) ends

-- how long the buffer is stays
pub length_out : (p q : Page) (s : List ℕ) → Wrote p s q → length q.out.now ≡ length p.out.now
length_out p q s w = ap length w.out ∙ length_laid p.out.now p.written s w.room

-- a text behind another
pub wrote_on : (p q r : Page) (s t : List ℕ) → Wrote p s q → Wrote q t r → Wrote p (s ++ t) r
wrote_on p q r s t v w =
    let l = length-append s t in
    let same = length_out p q s v in
    let before = v.room in
    let after = w.room in
    let e = v.end in
    let f = w.end in
    let h : p.written ≤ length p.out.now = omega arith in
    record { room = omega arith; end = omega arith; out = w.out ∙ laid_more p.out.now q.out.now p.written q.written s t h e v.out; buffer = w.buffer ∙ v.buffer }

-- where there was room for a text that begins so, there is for what comes next
pub room_left : (p q : Page) (s t : List ℕ) (n : ℕ) → Wrote p s q → length (s ++ t) ≤ n → p.written + n ≤ length p.out.now → q.written + length t ≤ length q.out.now
room_left p q s t n w few room =
    let l = length-append s t in
    let same = length_out p q s w in
    let e = w.end in
    omega arith

-- the text of the elements before an index, with that of the one there
pub grown : {X : Type 0} (f : X → List ℕ) (xs : List X) (i : ℕ) (d : X) → i < length xs → flat_map f (take (i + 1) xs) ≡ flat_map f (take i xs) ++ f (get_or xs i d)
grown f xs i d h = ap (flat_map f) (take_more xs i d h) ∙ sym (flat_map_more f [] (take i xs) (get_or xs i d))

front_shorter : {X : Type 0} (f : X → List ℕ) (j : ℕ) (xs : List X) → length (flat_map f (take j xs)) ≤ length (flat_map f xs)
front_shorter f zero xs = omega arith
front_shorter f (suc j) [] = omega arith
front_shorter f (suc j) (x ∷ xs) = let i = front_shorter f j xs in simp length-append (omega arith)

-- the elements before an index are written
module _ {X : Type 0} (f : X → List ℕ) (xs : List X) (p q : Page) (i : ℕ) (w : Wrote p (flat_map f (take i xs)) q) where
  pub room_at : (d : X) → i < length xs → p.written + length (flat_map f xs) ≤ length p.out.now → q.written + length (f (get_or xs i d)) ≤ length q.out.now
  room_at d h = room_left p q (flat_map f (take i xs)) (f (get_or xs i d)) (length (flat_map f xs)) w (subst (λ (t : List ℕ). length t ≤ length (flat_map f xs)) (grown f xs i d h) (front_shorter f (i + 1) xs))

  pub wrote_at : (d : X) (r : Page) → i < length xs → Wrote q (f (get_or xs i d)) r → Wrote p (flat_map f (take (i + 1) xs)) r
  wrote_at d r h v = subst (λ (t : List ℕ). Wrote p t r) (sym (grown f xs i d h)) (wrote_on p q r (flat_map f (take i xs)) (f (get_or xs i d)) w v)

  pub wrote_each : length xs ≤ i → Wrote p (flat_map f xs) q
  wrote_each h = subst (λ (ys : List X). Wrote p (flat_map f ys) q) (take_all i xs h) w
