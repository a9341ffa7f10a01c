-- Six bytes read as a frame, and a frame written as six bytes; whole traces.
use Rattle.std.proofs.Common.{◌≡◌, ℕ, suc, ◌+◌, ◌-◌, ◌*◌, ◌/◌, ◌%◌, ◌<◌, ◌≤◌, List, [], ◌∷◌, ◌++◌, length, get_or, take, drop, sym, refl, ap, ◌∙◌, arith}
use borrow.Rule.Slice.PartMut.{put_mid}
use Rattle.std.proofs.lemmas.List.{take_rest, take_more, take_at, drop_at, drop-drop, append_assoc, flat_map_more, length-take-le}
use Rattle.trace.specs.declared.frame.Frame.{Frame}
use Rattle.trace.specs.Frames.{frame_bytes, frames_of, trace_bytes}

pub six : (xs : List ℕ) → 6 ≤ length xs → xs ≡ get_or xs 0 0 ∷ get_or xs 1 0 ∷ get_or xs 2 0 ∷ get_or xs 3 0 ∷ get_or xs 4 0 ∷ get_or xs 5 0 ∷ drop 6 xs
six [] h = absurd (omega arith)
six (_ ∷ []) h = absurd (omega arith)
six (_ ∷ _ ∷ []) h = absurd (omega arith)
six (_ ∷ _ ∷ _ ∷ []) h = absurd (omega arith)
six (_ ∷ _ ∷ _ ∷ _ ∷ []) h = absurd (omega arith)
six (_ ∷ _ ∷ _ ∷ _ ∷ _ ∷ []) h = absurd (omega arith)
six (_ ∷ _ ∷ _ ∷ _ ∷ _ ∷ _ ∷ xs) h = refl

-- the four bytes of a number
pub highest : (a b c d n : ℕ) → a < 256 → b < 256 → c < 256 → d < 256 → n ≡ a * 16777216 + b * 65536 + c * 256 + d → n / 16777216 % 256 ≡ a
highest a b c d n p q r s e = omega arith

pub second : (a b c d n : ℕ) → b < 256 → c < 256 → d < 256 → n ≡ a * 16777216 + b * 65536 + c * 256 + d → n / 65536 % 256 ≡ b
second a b c d n q r s e = omega arith

pub third : (a b c d n : ℕ) → c < 256 → d < 256 → n ≡ a * 16777216 + b * 65536 + c * 256 + d → n / 256 % 256 ≡ c
third a b c d n r s e = omega arith

pub lowest : (a b c d n : ℕ) → d < 256 → n ≡ a * 16777216 + b * 65536 + c * 256 + d → n % 256 ≡ d
lowest a b c d n s e = omega arith

module _ (xs : List ℕ) (n : ℕ) (some : 6 ≤ length xs) (e : n ≡ get_or xs 2 0 * 16777216 + get_or xs 3 0 * 65536 + get_or xs 4 0 * 256 + get_or xs 5 0) where
  pub read_frames : frames_of xs ≡ record { kind = get_or xs 0 0; id = get_or xs 1 0; number = n } ∷ frames_of (take (length xs - 6) (drop 6 xs))
  read_frames = ap frames_of (six xs some) ∙ (let t = take_rest xs 6 in rw (t, e) refl)

-- a trace of whole frames is its frames written again
pub written_again : (xs : List ℕ) → ((i : ℕ) → get_or xs i 0 < 256) → length xs % 6 ≡ 0 → trace_bytes (frames_of xs) ≡ xs
written_again [] b w = refl
written_again (_ ∷ []) b w = absurd (omega arith)
written_again (_ ∷ _ ∷ []) b w = absurd (omega arith)
written_again (_ ∷ _ ∷ _ ∷ []) b w = absurd (omega arith)
written_again (_ ∷ _ ∷ _ ∷ _ ∷ []) b w = absurd (omega arith)
written_again (_ ∷ _ ∷ _ ∷ _ ∷ _ ∷ []) b w = absurd (omega arith)
written_again (k ∷ i ∷ a ∷ c ∷ d ∷ e ∷ xs) b w =
    let n = a * 16777216 + c * 65536 + d * 256 + e in
    let i1 : trace_bytes (frames_of xs) ≡ xs = written_again xs (λ j. b (suc (suc (suc (suc (suc (suc j))))))) (omega arith) in
    let p = highest a c d e n (b 2) (b 3) (b 4) (b 5) refl in
    let q = second a c d e n (b 3) (b 4) (b 5) refl in
    let r = third a c d e n (b 4) (b 5) refl in
    let s = lowest a c d e n (b 5) refl in
    rw (p, q, r, s, i1) refl

-- no more frames than there is room for
pub length_frames : (xs : List ℕ) → 6 * length (frames_of xs) ≤ length xs
length_frames [] = omega arith
length_frames (_ ∷ []) = omega arith
length_frames (_ ∷ _ ∷ []) = omega arith
length_frames (_ ∷ _ ∷ _ ∷ []) = omega arith
length_frames (_ ∷ _ ∷ _ ∷ _ ∷ []) = omega arith
length_frames (_ ∷ _ ∷ _ ∷ _ ∷ _ ∷ []) = omega arith
length_frames (_ ∷ _ ∷ _ ∷ _ ∷ _ ∷ _ ∷ xs) = let i = length_frames xs in omega arith

-- what stands behind written frames is read behind them
frames_append : (fs : List Frame) (ys : List ℕ) → frames_of (trace_bytes fs ++ ys) ≡ frames_of (trace_bytes fs) ++ frames_of ys
frames_append [] ys = refl
frames_append (f ∷ fs) ys = ap (λ (gs : List Frame). record { kind = f.kind; id = f.id; number = f.number / 16777216 % 256 * 16777216 + f.number / 65536 % 256 * 65536 + f.number / 256 % 256 * 256 + f.number % 256 } ∷ gs) (frames_append fs ys)

pub length_trace : (fs : List Frame) → length (trace_bytes fs) ≡ 6 * length fs
length_trace [] = refl
length_trace (f ∷ fs) = let i = length_trace fs in omega arith

grown : (fs : List Frame) (i : ℕ) (d : Frame) → i < length fs → trace_bytes (take (i + 1) fs) ≡ trace_bytes (take i fs) ++ frame_bytes (get_or fs i d)
grown fs i d h = ap trace_bytes (take_more fs i d h) ∙ sym (flat_map_more frame_bytes [] (take i fs) (get_or fs i d))

-- one frame more behind those that are written, and read again
pub read_more : (fs : List Frame) (i : ℕ) (d : Frame) → i < length fs → frames_of (frame_bytes (get_or fs i d)) ≡ get_or fs i d ∷ [] → frames_of (trace_bytes (take i fs)) ≡ take i fs → frames_of (trace_bytes (take (i + 1) fs)) ≡ take (i + 1) fs
read_more fs i d h e w = ap frames_of (grown fs i d h) ∙ frames_append (take i fs) (frame_bytes (get_or fs i d)) ∙ (rw (w, e) (sym (take_more fs i d h)))

pub write_more : (fs : List Frame) (i : ℕ) (d : Frame) (out out' bs : List ℕ) → i < length fs → 6 * i + 6 ≤ length out → bs ≡ frame_bytes (get_or fs i d) → out' ≡ trace_bytes (take i fs) ++ drop (6 * i) out
    → put_mid (6 * i) (6 * i + 6 - 6 * i) out' bs ≡ trace_bytes (take (i + 1) fs) ++ drop (6 * (i + 1)) out
write_more fs i d out out' bs h room e w =
    let p = trace_bytes (take i fs) in
    let lp : length p ≡ 6 * i = length_trace (take i fs) ∙ ap (λ (n : ℕ). 6 * n) (length-take-le i fs (omega arith)) in
    let k : 6 * i + 6 - 6 * i ≡ 6 = omega arith in
    let six-more : 6 * (i + 1) ≡ 6 * i + 6 = omega arith in
    ap (λ (z : List ℕ). put_mid (6 * i) (6 * i + 6 - 6 * i) z bs) w
    ∙ ap (λ (z : ℕ). put_mid (6 * i) z (p ++ drop (6 * i) out) bs) k
    ∙ ap (λ (z : List ℕ). z ++ (bs ++ drop 6 (drop (6 * i) (p ++ drop (6 * i) out)))) (take_at p (drop (6 * i) out) (6 * i) lp)
    ∙ ap (λ (z : List ℕ). p ++ (bs ++ drop 6 z)) (drop_at p (drop (6 * i) out) (6 * i) lp)
    ∙ ap (λ (z : List ℕ). p ++ (bs ++ z)) (drop-drop 6 (6 * i) out)
    ∙ sym (append_assoc p bs (drop (6 * i + 6) out))
    ∙ ap (λ (z : List ℕ). (p ++ z) ++ drop (6 * i + 6) out) e
    ∙ ap (λ (z : List ℕ). z ++ drop (6 * i + 6) out) (sym (grown fs i d h))
    ∙ ap (λ (n : ℕ). trace_bytes (take (i + 1) fs) ++ drop n out) (sym six-more)
