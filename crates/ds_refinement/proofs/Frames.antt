-- A word of a page lies in the page's frame: it is read there, and what is stored there changes no other page.
use Rattle.std.proofs.Common.{◌≡◌, ◌≢◌, inl, inr, ℕ, ◌++◌, ◌+◌, ◌-◌, ◌*◌, ◌%◌, ◌^◌, ◌<◌, ◌≤◌, Bool, true, false, cond, List, length, take, drop, get_or, Option, Some, None, refl, sym, ap, ◌∙◌, arith}
use Rattle.std.specs.Prelude.{slice_index, slice_set}
use Rattle.std.proofs.lemmas.Bool.{cases_eq, cases_lt}
use Rattle.std.proofs.lemmas.List.{same_lists, length-set, get_or-set_same, get_or-set_other, drop-take, drop-drop, drop-append-le, length-take-le, length-drop, take-take}
use Rattle.std.proofs.lemmas.List.FromFn.{length-map-range_with_len, get_or-map-range_with_len}
use Rattle.std.proofs.Math.Seq.{take-append-add}
use Rattle.ds_word.specs.Bytes.{bytes_of_word, word_at, with_word}
use Rattle.ds_word.proofs.Bytes.{length-with_word}
use Rattle.ds_mem.specs.Memory.{frame_of}
use Rattle.ds_mem.proofs.Words.{word_at-frame_of, frame_of-with_word_apart}
use Rattle.ds_policy.specs.Pages.{Pages, bytes_of}
use Rattle.ds_grants.specs.State.{GrantsState, is_live, is_shared, frame_of_page, page_in, pages_in, page_state}
use Rattle.ds_grants.specs.Sound.{NamesPages}

-- a word put after the first bytes is put into the rest
put_after : (memory : List ℕ) (start at w : ℕ) → start % 4 ≡ 0 → start + at - at % 4 + 4 ≤ length memory → drop start (with_word memory (start + at) w) ≡ with_word (drop start memory) at w
put_after memory start at w whole within =
    let p : ℕ = at - at % 4 in
    let place : start + at - (start + at) % 4 ≡ start + (at - at % 4) = omega arith in
    let front : length (take (start + (at - at % 4)) memory) ≡ start + (at - at % 4) = length-take-le (start + (at - at % 4)) memory (omega arith) in
    let end : start + (at - at % 4) + 4 ≡ start + (at - at % 4 + 4) = omega arith in
    ap (λ (n : ℕ). drop start (take n memory ++ (bytes_of_word w ++ drop (n + 4) memory))) place
    ∙ drop-append-le start (take (start + p) memory) (bytes_of_word w ++ drop (start + p + 4) memory) (omega arith)
    ∙ ap (λ (xs : List ℕ). xs ++ (bytes_of_word w ++ drop (start + p + 4) memory)) (drop-take start p memory)
    ∙ ap (λ (xs : List ℕ). take p (drop start memory) ++ (bytes_of_word w ++ xs)) (ap (λ (n : ℕ). drop n memory) end ∙ sym (drop-drop (p + 4) start memory))

-- a word put among the first bytes
put_among : (xs : List ℕ) (n at w : ℕ) → at - at % 4 + 4 ≤ n → n ≤ length xs → take n (with_word xs at w) ≡ with_word (take n xs) at w
put_among xs n at w inside within =
    let p : ℕ = at - at % 4 in
    let k : ℕ = n - (p + 4) in
    let rest : List ℕ = drop (p + 4) xs in
    let front : length (take (at - at % 4) xs) ≡ at - at % 4 = length-take-le (at - at % 4) xs (omega arith) in
    let size : n ≡ length (take (at - at % 4) xs) + (4 + (n - (at - at % 4 + 4))) = omega arith in
    let size' : at - at % 4 + 4 + (n - (at - at % 4 + 4)) ≡ n = omega arith in
    ap (λ (m : ℕ). take m (take p xs ++ (bytes_of_word w ++ rest))) size
    ∙ take-append-add (take p xs) (bytes_of_word w ++ rest) (4 + k)
    ∙ ap (λ (ys : List ℕ). take p xs ++ ys) (take-append-add (bytes_of_word w) rest k)
    ∙ ap (λ (ys : List ℕ). ys ++ (bytes_of_word w ++ take k rest)) (sym (take-take p n xs (omega arith)))
    ∙ ap (λ (ys : List ℕ). take p (take n xs) ++ (bytes_of_word w ++ ys)) (sym (drop-take (p + 4) k xs) ∙ ap (λ (m : ℕ). drop (p + 4) (take m xs)) size')

-- a word put into a frame
frame_of-with_word : (memory : List ℕ) (f at w : ℕ) → at < 4096 → f * 4096 + 4096 ≤ length memory → frame_of (with_word memory (f * 4096 + at) w) f ≡ with_word (frame_of memory f) at w
frame_of-with_word memory f at w inside within =
    let size = length-drop (f * 4096) memory in
    ap (take 4096) (put_after memory (f * 4096) at w (omega arith) (omega arith))
    ∙ put_among (drop (f * 4096) memory) 4096 at w (omega arith) (omega arith)

module _ (g : GrantsState) (memory : List ℕ) (page offset : ℕ) (lives : is_live g page ≡ true) (low : page < g.frames) (names : NamesPages g) (large : length memory ≡ 2 ^ 23) (inside : offset < 4096) where
  -- where the word lies
  abbrev pub place : ℕ
  place = frame_of_page g page * 4096 + offset

  -- the number of its frame among those for pages
  abbrev lies : ℕ
  lies = slice_index g.lies page

  within : slice_index g.lies page + 402 < 2048
  within = let there = names.layout.within page low in let few = names.frames in omega (arith, there, few)

  page_bytes : bytes_of (pages_in g memory) page ≡ frame_of memory (lies + 402)
  page_bytes =
      let there : get_or (pages_in g memory) page None ≡ Some (frame_of memory (lies + 402)) = get_or-map-range_with_len (page_in g memory) 0 g.frames page page None low (omega arith) ∙ rw lives refl in
      rw there refl

  -- the word is read in the frame
  pub word_of_page : word_at memory place ≡ word_at (bytes_of (pages_in g memory) page) offset
  word_of_page = word_at-frame_of memory (lies + 402) offset inside ∙ ap (λ (bytes : List ℕ). word_at bytes offset) (sym page_bytes)

  -- memory stays as large
  pub size_stored : (w : ℕ) → length (with_word memory place w) ≡ length memory
  size_stored w = length-with_word memory place w (let small = within in omega (arith, small, large, inside))

  -- another frame keeps its bytes
  frame_apart : (w f : ℕ) → f ≢ lies → frame_of (with_word memory place w) (f + 402) ≡ frame_of memory (f + 402)
  frame_apart w f apart =
      let small = within in
      frame_of-with_word_apart memory place w (f + 402) (omega (arith, small, large, inside))
      (elim (cases_lt f lies) [ inl below ↦ inl (omega (arith, below)) | inr above ↦ inr (omega (arith, above, apart, inside)) ])

  -- so does another page, where no other lies in this one's frame
  page_apart : is_shared g page ≡ false → (w q : ℕ) → q ≢ page → q < g.frames → page_in g (with_word memory place w) q ≡ page_in g memory q
  page_apart alone w q apart low_q = by (is_live g q) refl
    where
      by : (b : Bool) → is_live g q ≡ b
          → cond b (Some (frame_of (with_word memory place w) (slice_index g.lies q + 402))) None ≡ cond b (Some (frame_of memory (slice_index g.lies q + 402))) None
      by false off = refl
      by true on =
          let elsewhere : slice_index g.lies q ≢ lies =
          λ (same : slice_index g.lies q ≡ slice_index g.lies page). (let no : true ≡ false = sym (names.layout.alone q page low_q low on lives apart same) ∙ alone in absurd cc) in
          ap (λ (bytes : List ℕ). Some bytes) (frame_apart w (slice_index g.lies q) elsewhere)

  -- the page has the word, and no other changes
  pages_stored : is_shared g page ≡ false → (w : ℕ) → pages_in g (with_word memory place w) ≡ slice_set (pages_in g memory) page (Some (with_word (bytes_of (pages_in g memory) page) offset w))
  pages_stored alone w =
      let new : List ℕ = with_word memory place w in
      let word : Option (List ℕ) = Some (with_word (bytes_of (pages_in g memory) page) offset w) in
      let long = length-map-range_with_len (page_in g memory) 0 g.frames in
      let long' = length-map-range_with_len (page_in g new) 0 g.frames in
      let set_long = length-set (pages_in g memory) page word in
      same_lists (pages_in g new) (slice_set (pages_in g memory) page word) (omega arith)
      (λ q d short.
      let left : get_or (pages_in g new) q d ≡ page_in g new q = get_or-map-range_with_len (page_in g new) 0 g.frames q q d (omega arith) (omega arith) in
      elim (cases_eq q page) [
        | inl here ↦
            let right : get_or (slice_set (pages_in g memory) page word) q d ≡ word =
            ap (λ i. get_or (slice_set (pages_in g memory) page word) i d) here
            ∙ get_or-set_same (pages_in g memory) page word d (omega arith) in
            let now : page_in g new page ≡ word = rw lives (ap (λ (b : List ℕ). Some b) (frame_of-with_word memory (lies + 402) offset w inside (let small = within in omega (arith, small, large)) ∙ ap (λ (b : List ℕ). with_word b offset w) (sym page_bytes))) in
            left ∙ ap (page_in g new) here ∙ now ∙ sym right
        | inr apart ↦
            let right : get_or (slice_set (pages_in g memory) page word) q d ≡ page_in g memory q =
            get_or-set_other (pages_in g memory) page q word d apart
            ∙ get_or-map-range_with_len (page_in g memory) 0 g.frames q q d (omega arith) (omega arith) in
            left ∙ page_apart alone w q apart (omega arith) ∙ sym right
      ])

  -- the page state with the word stored
  pub state_stored : is_shared g page ≡ false → (w : ℕ) → page_state g (with_word memory place w) ≡ record (page_state g memory) { pages = slice_set (page_state g memory).pages page (Some (with_word (bytes_of (page_state g memory).pages page) offset w)) }
  state_stored alone w = ap (λ (ps : Pages). record (page_state g memory) { pages = ps }) (pages_stored alone w)
