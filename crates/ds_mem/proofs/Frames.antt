-- A frame as a part of memory: read, lent and copied.
use Rattle.std.proofs.Common.{◌≡◌, ◌⊎◌, inl, inr, ℕ, ◌<◌, slice_index, slice_set, ◌+◌, ◌-◌, ◌*◌, ◌≤◌, List, ◌++◌, take, drop, length, sym, ap, ◌∙◌, arith, append_assoc, length-append}
use Rattle.std.proofs.lemmas.List.{append-nil, get_or-drop, get_or-take, length-set, length-take, set-append_left, set-append_right, drop_all, drop_at, drop-drop, length-drop, length-take-le, take_all, take_at, take-append-drop, take-append-le, take-take, drop-take}
use Rattle.std.specs.List.{copy_within}
use Rattle.std.proofs.Math.Seq.{paste}
use Rattle.ds_mem.specs.Memory.{frame_of, overwritten, with_frame}

-- the part of a list between a frame's ends
pub part_is_frame : (memory : List ℕ) (f : ℕ) → take (f * 4096 + 4096 - f * 4096) (drop (f * 4096) memory) ≡ frame_of memory f
part_is_frame memory f =
    let size : f * 4096 + 4096 - f * 4096 ≡ 4096 = omega arith in
    ap (λ n. take n (drop (f * 4096) memory)) size

-- what a list holds once a part of it has been lent from s on, and w was left there
pub overwritten-lent : (xs w : List ℕ) (n s : ℕ) → n ≡ length xs → s ≤ length xs
    → take n ((take s xs ++ (w ++ drop (length w) (drop s xs))) ++ drop (length (take s xs ++ (w ++ drop (length w) (drop s xs)))) xs) ≡ overwritten xs s w
overwritten-lent xs w n s size within =
    let a : List ℕ = take s xs ++ (w ++ drop (length w) (drop s xs)) in
    let long : length xs ≤ length (take s xs ++ (w ++ drop (length w) (drop s xs))) =
    omega (arith, length-append (take s xs) (w ++ drop (length w) (drop s xs)), length-append w (drop (length w) (drop s xs)), length-take-le s xs within, length-drop (length w) (drop s xs), length-drop s xs) in
    ap (λ k. take k (a ++ drop (length a) xs)) size
    ∙ ap (λ (r : List ℕ). take (length xs) (a ++ r)) (drop_all (length a) xs long)
    ∙ ap (take (length xs)) (append-nil a)
    ∙ ap (λ (r : List ℕ). take (length xs) (take s xs ++ (w ++ r))) (drop-drop (length w) s xs)

-- bytes that end within the list
pub overwritten-within : (xs bs : List ℕ) (at n : ℕ) → n ≡ length bs → at + n ≤ length xs → overwritten xs at bs ≡ take at xs ++ (bs ++ drop (at + n) xs)
overwritten-within xs bs at n size within =
    let whole : length (take at xs ++ (bs ++ drop (at + length bs) xs)) ≤ length xs =
    omega (arith, length-append (take at xs) (bs ++ drop (at + length bs) xs), length-append bs (drop (at + length bs) xs), length-take-le at xs (omega arith), length-drop (at + length bs) xs) in
    take_all (length xs) (take at xs ++ (bs ++ drop (at + length bs) xs)) whole
    ∙ ap (λ k. take at xs ++ (bs ++ drop (at + k) xs)) (sym size)

-- a copy of the bytes between a frame's ends to another frame's start
pub copy_within-frame : (memory : List ℕ) (from to : ℕ) → from * 4096 + 4096 ≤ length memory → to * 4096 + 4096 ≤ length memory
    → copy_within memory (from * 4096) (from * 4096 + 4096) (to * 4096) ≡ with_frame memory to (frame_of memory from)
copy_within-frame memory from to source destination =
    let size : from * 4096 + 4096 - from * 4096 ≡ 4096 = omega arith in
    let enough : 4096 ≤ length (drop (from * 4096) memory) = omega (arith, length-drop (from * 4096) memory) in
    let whole : 4096 ≡ length (take 4096 (drop (from * 4096) memory)) = sym (length-take-le 4096 (drop (from * 4096) memory) enough) in
    ap (λ n. paste memory (to * 4096) (drop (from * 4096) memory) n) size
    ∙ append_assoc (take (to * 4096) memory) (take 4096 (drop (from * 4096) memory)) (drop (to * 4096 + 4096) memory)
    ∙ sym (overwritten-within memory (take 4096 (drop (from * 4096) memory)) (to * 4096) 4096 whole destination)

-- a frame that was replaced holds the new bytes
pub frame_of-with_frame : (memory bytes : List ℕ) (f : ℕ) → length bytes ≡ 4096 → f * 4096 + 4096 ≤ length memory → frame_of (with_frame memory f bytes) f ≡ bytes
frame_of-with_frame memory bytes f size within =
    let before : length (take (f * 4096) memory) ≡ f * 4096 = length-take-le (f * 4096) memory (omega arith) in
    ap (λ m. frame_of m f) (overwritten-within memory bytes (f * 4096) 4096 (sym size) within)
    ∙ ap (take 4096) (drop_at (take (f * 4096) memory) (bytes ++ drop (f * 4096 + 4096) memory) (f * 4096) before)
    ∙ take_at bytes (drop (f * 4096 + 4096) memory) 4096 size

-- the parts of a list before what was replaced
pub part_before : (xs rest : List ℕ) (s at n : ℕ) → s + n ≤ at → at ≤ length xs → take n (drop s (take at xs ++ rest)) ≡ take n (drop s xs)
part_before xs rest s at n below within =
    let front : length (take at xs) ≡ at = length-take-le at xs within in
    let far : s + n ≤ length (take at xs) = omega arith in
    sym (drop-take s n (take at xs ++ rest))
    ∙ ap (drop s) (take-append-le (s + n) (take at xs) rest far ∙ take-take (s + n) at xs below)
    ∙ drop-take s n xs

-- the parts of a list after what was replaced
pub part_after : (xs front : List ℕ) (s end n : ℕ) → length front ≡ end → end ≤ s → take n (drop s (front ++ drop end xs)) ≡ take n (drop s xs)
part_after xs front s end n size above =
    let e : end + (s - end) ≡ s = omega arith in
    ap (take n)
    (ap (λ k. drop k (front ++ drop end xs)) (sym e)
    ∙ sym (drop-drop (s - end) end (front ++ drop end xs))
    ∙ ap (drop (s - end)) (drop_at front (drop end xs) end size)
    ∙ drop-drop (s - end) end xs
    ∙ ap (λ k. drop k xs) e)

-- a frame keeps its bytes where another is replaced
pub frame_of-with_frame_apart : (memory bytes : List ℕ) (f g : ℕ) → length bytes ≡ 4096 → f * 4096 + 4096 ≤ length memory → (g * 4096 + 4096 ≤ f * 4096) ⊎ (f * 4096 + 4096 ≤ g * 4096) → frame_of (with_frame memory f bytes) g ≡ frame_of memory g
frame_of-with_frame_apart memory bytes f g size within (inl below) =
    ap (λ m. frame_of m g) (overwritten-within memory bytes (f * 4096) 4096 (sym size) within)
    ∙ part_before memory (bytes ++ drop (f * 4096 + 4096) memory) (g * 4096) (f * 4096) 4096 below (omega arith)
frame_of-with_frame_apart memory bytes f g size within (inr above) =
    let front : length (take (f * 4096) memory ++ bytes) ≡ f * 4096 + 4096 =
    omega (arith, length-append (take (f * 4096) memory) bytes, length-take-le (f * 4096) memory (omega arith)) in
    ap (λ m. frame_of m g) (overwritten-within memory bytes (f * 4096) 4096 (sym size) within ∙ sym (append_assoc (take (f * 4096) memory) bytes (drop (f * 4096 + 4096) memory)))
    ∙ part_after memory (take (f * 4096) memory ++ bytes) (g * 4096) (f * 4096 + 4096) 4096 front above

-- a byte of a frame is a byte of memory
pub slice_index-frame_of : (memory : List ℕ) (f at : ℕ) → at < 4096 → slice_index (frame_of memory f) at ≡ slice_index memory (f * 4096 + at)
slice_index-frame_of memory f at within = get_or-take 4096 (drop (f * 4096) memory) at 0 within ∙ get_or-drop (f * 4096) memory at 0

-- memory in which a frame has one byte replaced is memory with that byte replaced
pub with_frame-slice_set : (memory : List ℕ) (f at b : ℕ) → at < 4096 → length (frame_of memory f) ≡ 4096 → with_frame memory f (slice_set (frame_of memory f) at b) ≡ slice_set memory (f * 4096 + at) b
with_frame-slice_set memory f at b within size =
    let inside : f * 4096 + 4096 ≤ length memory = omega (arith, size, length-take 4096 (drop (f * 4096) memory), length-drop (f * 4096) memory) in
    let before : length (take (f * 4096) memory) ≡ f * 4096 = length-take-le (f * 4096) memory (omega arith) in
    let far : f * 4096 ≤ f * 4096 + at = omega arith in
    let near : f * 4096 + at - f * 4096 ≡ at = omega arith in
    let within_frame : at < length (frame_of memory f) = omega arith in
    let split : drop (f * 4096) memory ≡ frame_of memory f ++ drop (f * 4096 + 4096) memory =
    sym (take-append-drop 4096 (drop (f * 4096) memory)) ∙ ap (λ r. frame_of memory f ++ r) (drop-drop 4096 (f * 4096) memory) in
    overwritten-within memory (slice_set (frame_of memory f) at b) (f * 4096) 4096 (sym (length-set (frame_of memory f) at b ∙ size)) inside
    ∙ ap (λ r. take (f * 4096) memory ++ r) (sym (set-append_left (frame_of memory f) (drop (f * 4096 + 4096) memory) at b within_frame))
    ∙ ap (λ r. take (f * 4096) memory ++ slice_set r at b) (sym split)
    ∙ ap (λ n. take (f * 4096) memory ++ slice_set (drop (f * 4096) memory) n b) (sym near)
    ∙ sym (set-append_right (take (f * 4096) memory) (drop (f * 4096) memory) (f * 4096) (f * 4096 + at) b before far)
    ∙ ap (λ m. slice_set m (f * 4096 + at) b) (take-append-drop (f * 4096) memory)
