-- What becomes of the live blocks as cells are marked and unmarked.
use Rattle.std.proofs.Common.{◌≡◌, ℕ, ◌+◌, ◌-◌, ◌*◌, ◌/◌, ◌%◌, ◌<◌, ◌≤◌, true, false, cond, eqb, ◌⊎◌, sym, ap, ◌∙◌, inl, inr, ⊎_elim, arith}
use Rattle.heap.specs.Meaning.{Covered}
use Rattle.std.proofs.lemmas.Bool.{both_ways, cond-true, cond-false, eq-eqb, ne_eqb, cases_eq, cases_lt, cases_Bool}
use Rattle.bitmap.specs.Cells.{Map, starts, goes_on, follow, Runs, bitmap_live, Fits, Marked, Unmarked}
use Rattle.std.proofs.lemmas.Bool.Decides.{nat_tests}
use Rattle.bitmap.specs.Rows.{follow_runs, live_is, live_none, live_odd, starts_yes, starts_free, starts_inner, on_yes, on_past, on_free, on_begun, on_used, on_or_starts}

module _ (u f u' f' : Map) (cells : ℕ) where
  same_live : (p : ℕ) → starts u' f' cells p ≡ starts u f cells p → ((e : ℕ) → starts u f cells p ≡ true → Runs (goes_on u f cells) (p + 1) e → Runs (goes_on u' f' cells) (p + 1) e)
      → bitmap_live u' f' cells (64 * p) ≡ bitmap_live u f cells (64 * p)
  same_live p s h =
      ⊎_elim
      (λ (t : starts u f cells p ≡ true).
      let e = p + 1 + follow cells (goes_on u f cells) (p + 1) in
      let g : Runs (goes_on u f cells) (p + 1) e = follow_runs cells (goes_on u f cells) (p + 1) (λ x l. on_past u f cells x (omega arith)) in
      live_is u' f' cells p e (s ∙ t) (h e t g) ∙ sym (live_is u f cells p e t g))
      (λ (t : starts u f cells p ≡ false). live_none u' f' cells p (s ∙ t) ∙ sym (live_none u f cells p t))
      (cases_Bool (starts u f cells p))

  all_live : (i l : ℕ) → bitmap_live u' f' cells (64 * i) ≡ l → ((p : ℕ) → (p ≡ i → ⊥) → bitmap_live u' f' cells (64 * p) ≡ bitmap_live u f cells (64 * p))
      → (x : ℕ) → bitmap_live u' f' cells x ≡ cond (eqb x (64 * i)) l (bitmap_live u f cells x)
  all_live i l here there x =
      ⊎_elim
      (λ (q : x ≡ 64 * i). ap (bitmap_live u' f' cells) q ∙ here ∙ sym (cond-true (eqb x (64 * i)) l (bitmap_live u f cells x) (eq-eqb x (64 * i) q)))
      (λ (q : x ≡ 64 * i → ⊥).
      ⊎_elim
      (λ (m : x % 64 ≡ 0).
      let at : x ≡ 64 * (x / 64) = omega arith in
      ap (bitmap_live u' f' cells) at ∙ there (x / 64) (λ r. q (omega arith)) ∙ ap (bitmap_live u f cells) (sym at))
      (λ (m : x % 64 ≡ 0 → ⊥). live_odd u' f' cells x m ∙ sym (live_odd u f cells x m))
      (cases_eq (x % 64) 0)
      ∙ sym (cond-false (eqb x (64 * i)) l (bitmap_live u f cells x) (ne_eqb x (64 * i) q)))
      (cases_eq x (64 * i))

  -- a cell whose bits stayed
  stayed_starts : (x : ℕ) → u' x ≡ u x → f' x ≡ f x → starts u' f' cells x ≡ starts u f cells x
  stayed_starts x e g = cc

  stayed_on : (x : ℕ) → u' x ≡ u x → f' x ≡ f x → goes_on u' f' cells x ≡ goes_on u f cells x
  stayed_on x e g = cc

  -- a block that came
  module _ (i w : ℕ) (some : 0 < w) (k : Fits u f cells w i) (m : Marked i w u f u' f') where
    out_used : (x : ℕ) → (x < i) ⊎ (i + w ≤ x) → u' x ≡ u x
    out_used x o = let e = m.used x in grind (arith, nat_tests)

    out_first : (x : ℕ) → (x < i) ⊎ (i + w ≤ x) → f' x ≡ f x
    out_first x o = let e = m.first x in grind (arith, nat_tests)

    out_on : (x : ℕ) → (x < i) ⊎ (i + w ≤ x) → goes_on u' f' cells x ≡ goes_on u f cells x
    out_on x o = stayed_on x (out_used x o) (out_first x o)

    in_used : (x : ℕ) → i ≤ x → x < i + w → u' x ≡ true
    in_used x l h = let e = m.used x in grind (arith, nat_tests)

    in_first : (x : ℕ) → i < x → x < i + w → f' x ≡ false
    in_first x l h = let e = m.first x in grind (arith, nat_tests)

    at_first : f' i ≡ true
    at_first = let e = m.first i in grind (arith, nat_tests)

    mark_here : bitmap_live u' f' cells (64 * i) ≡ 64 * w
    mark_here =
        let within = k.within in
        live_is u' f' cells i (i + w) (starts_yes u' f' cells i (omega arith) (in_used i (omega arith) (omega arith)) at_first)
        (record {
          from = omega arith;
          all = λ x l h. on_yes u' f' cells x (omega arith) (in_used x (omega arith) h) (in_first x (omega arith) h);
          stop = out_on (i + w) (inr (omega arith)) ∙ k.end;
        })
        ∙ (let z : 64 * (i + w - i) ≡ 64 * w = omega arith in z)

    mark_there : (p : ℕ) → (p ≡ i → ⊥) → bitmap_live u' f' cells (64 * p) ≡ bitmap_live u f cells (64 * p)
    mark_there p n =
        ⊎_elim
        (λ (q : p < i).
        same_live p (stayed_starts p (out_used p (inl q)) (out_first p (inl q)))
        (λ e s r.
        let low : e ≤ i = ⊎_elim (λ (z : i < e). absurd (both_ways (u i) (k.free i (omega arith) (omega arith)) (on_used u f cells i (r.all i (omega arith) z)))) (λ (z : e ≤ i). z) (cases_lt i e) in
        record {
          from = r.from;
          all = λ x l h. out_on x (inl (omega arith)) ∙ r.all x l h;
          stop = ⊎_elim (λ (z : e ≡ i). ap (goes_on u' f' cells) z ∙ on_begun u' f' cells i at_first) (λ (z : e ≡ i → ⊥). out_on e (inl (omega arith)) ∙ r.stop) (cases_eq e i);
        }))
        (λ (q : i ≤ p).
        ⊎_elim
        (λ (h : p < i + w).
        let old : starts u f cells p ≡ false = starts_free u f cells p (k.free p q h) in
        same_live p (starts_inner u' f' cells p (in_first p (omega arith) h) ∙ sym old) (λ e s r. absurd (both_ways (starts u f cells p) old s)))
        (λ (h : i + w ≤ p).
        same_live p (stayed_starts p (out_used p (inr h)) (out_first p (inr h)))
        (λ e s r.
        let from = r.from in
        record { from = r.from; all = λ x l z. out_on x (inr (omega arith)) ∙ r.all x l z; stop = out_on e (inr (omega arith)) ∙ r.stop }))
        (cases_lt p (i + w)))
        (cases_lt p i)

    pub mark_live : (x : ℕ) → bitmap_live u' f' cells x ≡ cond (eqb x (64 * i)) (64 * w) (bitmap_live u f cells x)
    mark_live = all_live i (64 * w) mark_here mark_there

    -- the book, with the block
    module _ (l l' : ℕ → ℕ) (none : l (64 * i) ≡ 0) (next : (x : ℕ) → l' x ≡ cond (eqb x (64 * i)) (64 * w) (l x)) where
      next_here : l' (64 * i) ≡ 64 * w
      next_here = let e = next (64 * i) in grind (arith, nat_tests)

      next_there : (x : ℕ) → 0 < l x → l' x ≡ l x
      next_there x h = let e = next x in grind (arith, nat_tests)

      pub mark_covered : ((x : ℕ) → u x ≡ true → Covered l (64 * x) 64) → (x : ℕ) → u' x ≡ true → Covered l' (64 * x) 64
      mark_covered old x e =
          let outer : u x ≡ true → Covered l' (64 * x) 64 = λ q.
          let c = old x q in
          let from = c.from in
          let to = c.to in
          let t = next_there c.start (omega arith) in
          record { start = c.start; from = c.from; to = omega arith } in
          ⊎_elim
          (λ (q : x < i). outer (sym (out_used x (inl q)) ∙ e))
          (λ (q : i ≤ x).
          ⊎_elim
          (λ (h : x < i + w). let t = next_here in record { start = 64 * i; from = omega arith; to = omega arith })
          (λ (h : i + w ≤ x). outer (sym (out_used x (inr h)) ∙ e))
          (cases_lt x (i + w)))
          (cases_lt x i)

      pub mark_begun : ((x : ℕ) → f x ≡ true → 0 < l (64 * x)) → (x : ℕ) → f' x ≡ true → 0 < l' (64 * x)
      mark_begun old x e =
          let outer : f x ≡ true → 0 < l' (64 * x) = λ q. let c = old x q in let t = next_there (64 * x) c in omega arith in
          ⊎_elim
          (λ (q : x < i). outer (sym (out_first x (inl q)) ∙ e))
          (λ (q : i ≤ x).
          ⊎_elim
          (λ (h : x < i + w). ⊎_elim (λ (z : x ≡ i). let t = next_here in let y : l' (64 * x) ≡ 64 * w = ap (λ (v : ℕ). l' (64 * v)) z ∙ t in omega arith) (λ (z : x ≡ i → ⊥). absurd (both_ways (f' x) (in_first x (omega arith) h) e)) (cases_eq x i))
          (λ (h : i + w ≤ x). outer (sym (out_first x (inr h)) ∙ e))
          (cases_lt x (i + w)))
          (cases_lt x i)

  -- a block that ended
  module _ (i e : ℕ) (s : starts u f cells i ≡ true) (r : Runs (goes_on u f cells) (i + 1) e) (m : Unmarked i (e - i) u f u' f') where
    gone_used : (x : ℕ) → (x < i) ⊎ (e ≤ x) → u' x ≡ u x
    gone_used x o = let from = r.from in let e = m.used x in grind (arith, nat_tests)

    gone_first : (x : ℕ) → (x < i) ⊎ (e ≤ x) → f' x ≡ f x
    gone_first x o = let from = r.from in let e = m.first x in grind (arith, nat_tests)

    gone_on : (x : ℕ) → (x < i) ⊎ (e ≤ x) → goes_on u' f' cells x ≡ goes_on u f cells x
    gone_on x o = stayed_on x (gone_used x o) (gone_first x o)

    now_free : (x : ℕ) → i ≤ x → x < e → u' x ≡ false
    now_free x l h = let e = m.used x in grind (arith, nat_tests)

    now_none : (x : ℕ) → i ≤ x → x < e → f' x ≡ false
    now_none x l h = let e = m.first x in grind (arith, nat_tests)

    unmark_there : (p : ℕ) → (p ≡ i → ⊥) → bitmap_live u' f' cells (64 * p) ≡ bitmap_live u f cells (64 * p)
    unmark_there p n =
        let more = r.from in
        ⊎_elim
        (λ (q : p < i).
        same_live p (stayed_starts p (gone_used p (inl q)) (gone_first p (inl q)))
        (λ d t g.
        let low : d ≤ i = ⊎_elim (λ (z : i < d). absurd (both_ways (starts u f cells i) (on_or_starts u f cells i (g.all i (omega arith) z)) s)) (λ (z : d ≤ i). z) (cases_lt i d) in
        record {
          from = g.from;
          all = λ x l h. gone_on x (inl (omega arith)) ∙ g.all x l h;
          stop = ⊎_elim (λ (z : d ≡ i). ap (goes_on u' f' cells) z ∙ on_free u' f' cells i (now_free i (omega arith) (omega arith))) (λ (z : d ≡ i → ⊥). gone_on d (inl (omega arith)) ∙ g.stop) (cases_eq d i);
        }))
        (λ (q : i ≤ p).
        ⊎_elim
        (λ (h : p < e).
        let old : starts u f cells p ≡ false = on_or_starts u f cells p (r.all p (omega arith) h) in
        same_live p (starts_free u' f' cells p (now_free p q h) ∙ sym old) (λ d t g. absurd (both_ways (starts u f cells p) old t)))
        (λ (h : e ≤ p).
        same_live p (stayed_starts p (gone_used p (inr h)) (gone_first p (inr h)))
        (λ d t g.
        let from = g.from in
        record { from = g.from; all = λ x l z. gone_on x (inr (omega arith)) ∙ g.all x l z; stop = gone_on d (inr (omega arith)) ∙ g.stop }))
        (cases_lt p e))
        (cases_lt p i)

    pub unmark_live : (x : ℕ) → bitmap_live u' f' cells x ≡ cond (eqb x (64 * i)) 0 (bitmap_live u f cells x)
    unmark_live = let more = r.from in all_live i 0 (live_none u' f' cells i (starts_free u' f' cells i (now_free i (omega arith) (omega arith)))) unmark_there

    -- the book, without the block
    module _ (l l' : ℕ → ℕ) (long : l (64 * i) ≡ 64 * (e - i)) (next : (x : ℕ) → l' x ≡ cond (eqb x (64 * i)) 0 (l x)) where
      left : (x : ℕ) → (x ≡ 64 * i → ⊥) → l' x ≡ l x
      left x n = let e = next x in grind (arith, nat_tests)

      pub unmark_covered : ((x : ℕ) → u x ≡ true → Covered l (64 * x) 64) → (x : ℕ) → u' x ≡ true → Covered l' (64 * x) 64
      unmark_covered old x t =
          let more = r.from in
          let outer : (x < i) ⊎ (e ≤ x) → Covered l' (64 * x) 64 = λ o.
          let c = old x (sym (gone_used x o) ∙ t) in
          let from = c.from in
          let to = c.to in
          let same : l' c.start ≡ l c.start = left c.start (λ q.
          let z : l c.start ≡ 64 * (e - i) = ap l q ∙ long in
          ⊎_elim (λ (y : x < i). let v : ⊥ = omega arith in v) (λ (y : e ≤ x). let v : ⊥ = omega arith in v) o) in
          record { start = c.start; from = c.from; to = omega arith } in
          ⊎_elim
          (λ (q : x < i). outer (inl q))
          (λ (q : i ≤ x). ⊎_elim (λ (h : x < e). absurd (both_ways (u' x) (now_free x q h) t)) (λ (h : e ≤ x). outer (inr h)) (cases_lt x e))
          (cases_lt x i)

      pub unmark_begun : ((x : ℕ) → f x ≡ true → 0 < l (64 * x)) → (x : ℕ) → f' x ≡ true → 0 < l' (64 * x)
      unmark_begun old x t =
          let more = r.from in
          let outer : (x < i) ⊎ (e ≤ x) → 0 < l' (64 * x) = λ o.
          let c = old x (sym (gone_first x o) ∙ t) in
          let same : l' (64 * x) ≡ l (64 * x) = left (64 * x) (λ q. ⊎_elim (λ (y : x < i). let v : ⊥ = omega arith in v) (λ (y : e ≤ x). let v : ⊥ = omega arith in v) o) in
          omega arith in
          ⊎_elim
          (λ (q : x < i). outer (inl q))
          (λ (q : i ≤ x). ⊎_elim (λ (h : x < e). absurd (both_ways (f' x) (now_none x q h) t)) (λ (h : e ≤ x). outer (inr h)) (cases_lt x e))
          (cases_lt x i)
