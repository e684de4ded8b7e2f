-- Numbers and sessions of a frame there and back: what is written reads back, and a list of bytes is the bytes written from what it reads as. By arithmetic on
-- the digits of base 256, and by induction on the number of sessions.
use mathlib.Core.Path.{◌≡◌, refl, sym, ap, ap₂, ◌∙◌}
use mathlib.Core.List.{List, [], ◌∷◌, ◌++◌, append_assoc, append-nil}
use Prim.Native.Nat.{ℕ, zero, suc, ◌+◌, ◌-◌, ◌*◌, ◌/◌, ◌%◌, ◌≤◌, ◌<◌}
use native.Mathlib.Omega.{arith}
use lib.ListN.{length, take, drop, replicate, length-append, length-drop}
use lib.Seq.{get_or-drop, drop-drop, take_at}
use Rattle.state.specs.Values.{padded}
use Rattle.lines.specs.Frame.{two, four, six, words}
use Rattle.lines.specs.Writing.{bytes2, bytes4, bytes6, flat}
use Rattle.lines.proofs.Laws.HexBack.{Below, Bytes}

-- ---- what is written reads back
pub two_bytes : (v : ℕ) (r : List ℕ) → v < 65536 → two (bytes2 v ++ r) ≡ v
unfolding two bytes2
two_bytes v r h = omega arith

pub four_bytes : (v : ℕ) (r : List ℕ) → v < 4294967296 → four (bytes4 v ++ r) ≡ v
unfolding four two bytes4 bytes2
four_bytes v r h = omega arith

pub six-bytes : (v : ℕ) (r : List ℕ) → v < 281474976710656 → six (bytes6 v ++ r) ≡ v
unfolding six bytes6 bytes4 bytes2
six-bytes v r h = omega (arith, four_bytes (v / 65536) (bytes2 (v % 65536) ++ r) (omega arith), two_bytes (v % 65536) r (omega arith))

-- every element is a session word
abbrev pub Words : List ℕ → Type 0
Words ws = Below 281474976710656 ws

drop-six : (v : ℕ) (r : List ℕ) → drop 6 (bytes6 v ++ r) ≡ r
unfolding bytes6 bytes4 bytes2
drop-six v r = refl

pub words-flat : (ws r : List ℕ) → Words ws → words (length ws) (flat ws ++ r) ≡ ws
unfolding words flat
words-flat [] r h = refl
words-flat (w ∷ ws) r h =
    let e = append_assoc (bytes6 w) (flat ws) r in
    ap₂ (λ (x : ℕ) (y : List ℕ). x ∷ y)
    (ap six e ∙ six-bytes w (flat ws ++ r) (h 0))
    (ap (λ (x : List ℕ). words (length ws) x) (ap (drop 6) e ∙ drop-six w (flat ws ++ r)) ∙ words-flat ws r (λ k. h (suc k)))

-- ---- what reads is written again
pub bytes_drop : (f : List ℕ) (n : ℕ) → Bytes f → Bytes (drop n f)
bytes_drop f n h k = rw (get_or-drop n f k 0) (h (n + k))

pub two-lt : (f : List ℕ) → Bytes f → two f < 65536
unfolding two
two-lt f h = omega (arith, h 0, h 1)

pub cut2 : (f : List ℕ) → Bytes f → 2 ≤ length f → f ≡ bytes2 (two f) ++ drop 2 f
unfolding bytes2 two
cut2 [] h n = absurd (omega arith)
cut2 (a ∷ []) h n = absurd (omega arith)
cut2 (a ∷ b ∷ f) h n =
    let ha : a < 256 = h 0 in
    let hb : b < 256 = h 1 in
    let x : a ≡ (a * 256 + b) / 256 % 256 = omega arith in
    let y : b ≡ (a * 256 + b) % 256 = omega arith in
    ap₂ (λ (p q : ℕ). p ∷ (q ∷ f)) x y

pub cut4 : (f : List ℕ) → Bytes f → 4 ≤ length f → f ≡ bytes4 (four f) ++ drop 4 f
unfolding bytes4 four
cut4 f h n =
    let hd = two-lt (drop 2 f) (bytes_drop f 2 h) in
    let x : two f ≡ (two f * 65536 + two (drop 2 f)) / 65536 = omega arith in
    let y : two (drop 2 f) ≡ (two f * 65536 + two (drop 2 f)) % 65536 = omega arith in
    let e = cut2 (drop 2 f) (bytes_drop f 2 h) (omega (arith, length-drop 2 f)) in
    cut2 f h (omega arith)
    ∙ (ap (λ (r : List ℕ). bytes2 (two f) ++ r) (e ∙ ap (λ (r : List ℕ). bytes2 (two (drop 2 f)) ++ r) (drop-drop 2 2 f))
    ∙ (sym (append_assoc (bytes2 (two f)) (bytes2 (two (drop 2 f))) (drop 4 f))
    ∙ ap₂ (λ (p q : ℕ). (bytes2 p ++ bytes2 q) ++ drop 4 f) x y))

pub cut6 : (f : List ℕ) → Bytes f → 6 ≤ length f → f ≡ bytes6 (six f) ++ drop 6 f
unfolding bytes6 six
cut6 f h n =
    let hd = two-lt (drop 4 f) (bytes_drop f 4 h) in
    let x : four f ≡ (four f * 65536 + two (drop 4 f)) / 65536 = omega arith in
    let y : two (drop 4 f) ≡ (four f * 65536 + two (drop 4 f)) % 65536 = omega arith in
    let e = cut2 (drop 4 f) (bytes_drop f 4 h) (omega (arith, length-drop 4 f)) in
    cut4 f h (omega arith)
    ∙ (ap (λ (r : List ℕ). bytes4 (four f) ++ r) (e ∙ ap (λ (r : List ℕ). bytes2 (two (drop 4 f)) ++ r) (drop-drop 2 4 f))
    ∙ (sym (append_assoc (bytes4 (four f)) (bytes2 (two (drop 4 f))) (drop 6 f))
    ∙ ap₂ (λ (p q : ℕ). (bytes4 p ++ bytes2 q) ++ drop 6 f) x y))

pub cut-words : (n : ℕ) (f : List ℕ) → Bytes f → n * 6 ≤ length f → f ≡ flat (words n f) ++ drop (n * 6) f
unfolding words flat
cut-words zero f h k = refl
cut-words (suc n) f h k =
    let e : 6 + n * 6 ≡ suc n * 6 = omega arith in
    cut6 f h (omega arith)
    ∙ (ap (λ (r : List ℕ). bytes6 (six f) ++ r) (cut-words n (drop 6 f) (bytes_drop f 6 h) (omega (arith, length-drop 6 f)) ∙ ap (λ (r : List ℕ). flat (words n (drop 6 f)) ++ r) (drop-drop (n * 6) 6 f ∙ ap (λ (m : ℕ). drop m f) e))
    ∙ sym (append_assoc (bytes6 (six f)) (flat (words n (drop 6 f))) (drop (suc n * 6) f)))

pub padded-full : (ws : List ℕ) → length ws ≡ 16 → padded ws ≡ ws
unfolding padded
padded-full ws h = rw h (append-nil ws)

pub take-padded : (ws : List ℕ) (n : ℕ) → length ws ≡ n → take n (padded ws) ≡ ws
unfolding padded
take-padded ws n h = take_at ws (replicate (16 - length ws) 0) n h

pub length-padded : (ws : List ℕ) → length ws ≤ 16 → length (padded ws) ≡ 16
unfolding padded
length-padded ws h = omega (arith, length-append ws (replicate (16 - length ws) 0), lib.ListN.length-replicate {A = ℕ} (16 - length ws) 0)

-- ---- bytes
pub below-append : {b : ℕ} (f g : List ℕ) → Below b f → Below b g → Below b (f ++ g)
below-append [] g hf hg k = hg k
below-append (x ∷ f) g hf hg zero = hf zero
below-append (x ∷ f) g hf hg (suc k) = below-append f g (λ j. hf (suc j)) hg k

pub below_one : {b : ℕ} (x : ℕ) → x < b → Below b (x ∷ [])
below_one x h zero = h
below_one x h (suc k) = omega arith

pub four-lt : (f : List ℕ) → Bytes f → four f < 4294967296
unfolding four
four-lt f h = omega (arith, two-lt f h, two-lt (drop 2 f) (bytes_drop f 2 h))

pub bytes-bytes2 : (v : ℕ) → Bytes (bytes2 v)
unfolding bytes2
bytes-bytes2 v zero = omega arith
bytes-bytes2 v (suc zero) = omega arith
bytes-bytes2 v (suc (suc k)) = omega arith

pub bytes-bytes4 : (v : ℕ) → Bytes (bytes4 v)
unfolding bytes4
bytes-bytes4 v = below-append (bytes2 (v / 65536)) (bytes2 (v % 65536)) (bytes-bytes2 _) (bytes-bytes2 _)

pub bytes-bytes6 : (v : ℕ) → Bytes (bytes6 v)
unfolding bytes6
bytes-bytes6 v = below-append (bytes4 (v / 65536)) (bytes2 (v % 65536)) (bytes-bytes4 _) (bytes-bytes2 _)

pub bytes-flat : (ws : List ℕ) → Bytes (flat ws)
unfolding flat
bytes-flat [] k = omega arith
bytes-flat (w ∷ ws) k = below-append (bytes6 w) (flat ws) (bytes-bytes6 w) (bytes-flat ws) k
