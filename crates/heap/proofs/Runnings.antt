-- A run one step longer, and what a run does to the book.
use Rattle.std.proofs.Common.{◌≡◌, ℕ, zero, suc, ◌<◌, List, [], ◌∷◌, ◌++◌, length, get_or, set, sym, refl, ap, subst, arith}
use Rattle.heap.specs.declared.fault.Kind.{Kind}
use Rattle.heap.specs.declared.calls.Call.{Call}
use Rattle.heap.specs.declared.calls.Call.TheVariants.{Span}
use Rattle.heap.specs.declared.calls.Answer.TheVariants.{Number}
use Rattle.heap.specs.declared.calls.Answer.{Answer}
use Rattle.heap.specs.declared.calls.Step.{Step}
use Rattle.heap.specs.Meaning.{Meaning, Lawful}
use Rattle.heap.specs.Histories.{History, Booked, length_at}
use Rattle.heap.specs.Runs.{Answered, allocated, freed, filled, eased, spanned, offered, found, got, Ran, none, more, calls, after_answer, after_steps, Agrees, allocates, frees, fills, eases, spans, offers, finds, gets, AllAgree, Promise}
use Rattle.heap.proofs.Books.{booked_allocate, booked_free, booked_fill, booked_relieved, upheld}
use Rattle.heap.proofs.Agreeing.{finds_by, gets_by, may_free, may_fill, offer_fits, allocates_kind, frees_kind, fills_kind, allocates_span, frees_span, fills_span}

pub ran_push : (ss : List Step) (s : Step) (m m' m'' : Meaning) → Ran ss m m' → Answered s.call m' m'' s.answer → Lawful m'' → Ran (ss ++ (s ∷ [])) m m''
ran_push [] s m m' m'' none a w = more a w none
ran_push (t ∷ ss) s m m' m'' (more b v r) a w = more b v (ran_push ss s _ m' m'' r a w)

pub after_push : (ss : List Step) (s : Step) (h : History) → after_steps (ss ++ (s ∷ [])) h ≡ after_answer s.call s.answer (after_steps ss h)
after_push [] s h = refl
after_push (t ∷ ss) s h = after_push ss s (after_answer t.call t.answer h)

pub calls_set : (ss : List Step) (i : ℕ) (d : Step) (a : Answer) → i < length ss → calls (set ss i (record { call = (get_or ss i d).call; answer = a })) ≡ calls ss
calls_set [] i d a h = refl
calls_set (t ∷ ss) zero d a h = refl
calls_set (t ∷ ss) (suc i) d a h = ap (λ (cs : List Call). t.call ∷ cs) (calls_set ss i d a (omega arith))

pub answered_booked : (h : History) (c : Call) (a : Answer) (m m' : Meaning) → Lawful m → Answered c m m' a → Booked h m → Booked (after_answer c a h) m'
answered_booked h _ _ m m' w (allocated e s) k = booked_allocate h _ _ m m' w e s k
answered_booked h _ _ m m' w (freed q s) k = booked_free h _ _ m m' s k
answered_booked h _ _ m m' w (filled q s) k = booked_fill h _ _ _ _ m m' s k
answered_booked h _ _ m m' w (eased s) k = booked_relieved h m m' s k
answered_booked h _ _ m m' w (spanned e) k = k
answered_booked h _ _ m m' w (offered e) k = k
answered_booked h _ _ m m' w (found e) k = k
answered_booked h _ _ m m' w (got e) k = k

pub ran_booked : (ss : List Step) (h : History) (m m' : Meaning) → Lawful m → Ran ss m m' → Booked h m → Booked (after_steps ss h) m'
ran_booked [] h m m' w none k = k
ran_booked (s ∷ ss) h m m' w (more {m' = n} a v r) k = ran_booked ss (after_answer s.call s.answer h) n m' v r (answered_booked h s.call s.answer m n w a k)

-- the kind and the span stay over a call
pub answered_kind : (c : Call) (a : Answer) (m m' : Meaning) → Answered c m m' a → m'.kind ≡ m.kind
answered_kind _ _ m m' (allocated e s) = allocates_kind _ m m' s
answered_kind _ _ m m' (freed q s) = frees_kind _ _ m m' s
answered_kind _ _ m m' (filled q s) = fills_kind _ _ _ _ m m' s
answered_kind _ _ m m' (eased s) = s.kind
answered_kind _ _ m m' (spanned e) = refl
answered_kind _ _ m m' (offered e) = refl
answered_kind _ _ m m' (found e) = refl
answered_kind _ _ m m' (got e) = refl

pub answered_span : (c : Call) (a : Answer) (m m' : Meaning) → Answered c m m' a → m'.span ≡ m.span
answered_span _ _ m m' (allocated e s) = allocates_span _ m m' s
answered_span _ _ m m' (freed q s) = frees_span _ _ m m' s
answered_span _ _ m m' (filled q s) = fills_span _ _ _ _ m m' s
answered_span _ _ m m' (eased s) = s.span
answered_span _ _ m m' (spanned e) = refl
answered_span _ _ m m' (offered e) = refl
answered_span _ _ m m' (found e) = refl
answered_span _ _ m m' (got e) = refl

-- an answer of a heap agrees with its book
pub answered_agrees : (h : History) (c : Call) (a : Answer) (m m' : Meaning) → Lawful m → Answered c m m' a → Booked h m → Agrees m.kind m.span h c a
answered_agrees h _ _ m m' w (allocated {n = n} {r = r} e s) k = allocates (offer_fits h n r m w e k)
answered_agrees h _ _ m m' w (freed {a = a} {r = r} q s) k = frees (may_free m.kind m.live (length_at h) a r k.live q)
answered_agrees h _ _ m m' w (filled {a = a} {c = c} {r = r} q s) k = fills (may_fill m.kind m.live (length_at h) a c r k.live q)
answered_agrees h _ _ m m' w (eased s) k = eases
answered_agrees h _ _ m m' w (spanned e) k = subst (λ (z : ℕ). Agrees m.kind m.span h Span (Number z)) (sym e) spans
answered_agrees h _ _ m m' w (offered {n = n} {r = r} e) k = offers (offer_fits h n r m w e k)
answered_agrees h _ _ m m' w (found {a = a} {r = r} q) k = finds (finds_by m.live (length_at h) a r k.live q)
answered_agrees h _ _ m m' w (got {a = a} {r = r} q) k = gets (gets_by h a r m k q)

agree_from : (k k' : Kind) (s s' : ℕ) (h : History) (ss : List Step) → k' ≡ k → s' ≡ s → AllAgree k' s' h ss → AllAgree k s h ss
agree_from k k' s s' h ss ek es g = subst (λ (z : Kind). AllAgree z s h ss) ek (subst (λ (z : ℕ). AllAgree k' z h ss) es g)

pub ran_agrees : (ss : List Step) (h : History) (m m' : Meaning) → Lawful m → Ran ss m m' → Booked h m → AllAgree m.kind m.span h ss
ran_agrees [] h m m' w none k = tt
ran_agrees (s ∷ ss) h m m' w (more {m' = n} a v r) k = (
  answered_agrees h s.call s.answer m n w a k,
  agree_from m.kind n.kind m.span n.span (after_answer s.call s.answer h) ss (answered_kind s.call s.answer m n a) (answered_span s.call s.answer m n a)
      (ran_agrees ss (after_answer s.call s.answer h) n m' v r (answered_booked h s.call s.answer m n w a k)),
)

pub ran_promise : (ss : List Step) (h : History) (m m' : Meaning) → Lawful m → Lawful m' → Ran ss m m' → Booked h m → Promise h ss m m'
ran_promise ss h m m' w v r k = record { upheld = upheld (after_steps ss h) m' v (ran_booked ss h m m' w r k); agrees = ran_agrees ss h m m' w r k }
