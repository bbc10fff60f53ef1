-- The characters of an input as they are kept: the first of them, the end of a line, one line more.
use Rattle.std.proofs.Common.{◌≡◌, ◌∙◌, sym, ap, subst, ℕ, suc, ◌+◌, ◌-◌, ◌<◌, ◌≤◌, List, [], ◌∷◌, ◌++◌, length, take, drop, get_or, arith, append_assoc, append-nil, length-append, length-drop}
use Rattle.std.proofs.lemmas.List.{drop_more, drop_all, drop_at, take_all, take-append-le, drop-append-le, length-map, length-take-le}
use Rattle.ds_policy.specs.declared.command.Character.{Character}
use Rattle.ds_policy.specs.declared.events.characters.KeyLine.{KeyLine}
use Rattle.ds_policy.specs.InputText.{characters_of}
use Rattle.ds_policy.specs.Inner.KeyLines.{characters_from, AreKeyLines}

-- a byte of a line as a character
abbrev pub character : KeyLine → ℕ → Character
character l b = record { time = l.time; line = l.line; byte = b }

-- the place is one of the bytes, or beyond them
pub start_within : (start : ℕ) (ls : List KeyLine) (bs : List ℕ) → AreKeyLines start ls bs → start ≤ length bs
unfolding AreKeyLines
start_within start [] bs all = omega arith
start_within start (l ∷ ls) bs all = let some = all.0 in let rest = start_within l.end ls bs all.1 in omega arith

-- there are as many characters as bytes from the place on
pub count : (start : ℕ) (ls : List KeyLine) (bs : List ℕ) → AreKeyLines start ls bs → length (characters_from start ls bs) ≡ length bs - start
unfolding characters_from AreKeyLines
count start [] bs all = omega arith
count start (l ∷ ls) bs all =
    let some = all.0 in
    let within = start_within l.end ls bs all.1 in
    let own = take (l.end - start) (drop start bs) in
    let few : length own ≡ l.end - start = length-take-le (l.end - start) (drop start bs) (omega (arith, length-drop start bs)) in
    let same : length (characters_of l.time l.line own) ≡ length own = length-map own (character l) in
    let rest = count l.end ls bs all.1 in
    let both = length-append (characters_of l.time l.line own) (characters_from l.end ls bs) in
    omega arith

byte_first : (start end : ℕ) (bs : List ℕ) (d : ℕ) → start < end → start < length bs → take (end - start) (drop start bs) ≡ get_or bs start d ∷ take (end - (start + 1)) (drop (start + 1) bs)
byte_first start end bs d some within =
    let more : end - start ≡ suc (end - (start + 1)) = omega arith in
    rw (more, drop_more bs start d within)

-- the line's byte at the place is the first character
pub character_first : (start : ℕ) (l : KeyLine) (ls : List KeyLine) (bs : List ℕ) (d : ℕ) → start < l.end → start < length bs
    → characters_from start (l ∷ ls) bs ≡ character l (get_or bs start d) ∷ characters_from (start + 1) (l ∷ ls) bs
unfolding characters_from
character_first start l ls bs d some within = rw (byte_first start l.end bs d some within)

-- beyond its last byte a line has no character
pub line_over : (start : ℕ) (l : KeyLine) (ls : List KeyLine) (bs : List ℕ) → start ≡ l.end → characters_from start (l ∷ ls) bs ≡ characters_from start ls bs
unfolding characters_from
line_over start l ls bs end =
    let none : l.end - start ≡ 0 = omega arith in
    rw (none, end)

own_stay : (start end : ℕ) (bs new : List ℕ) → start ≤ length bs → end ≤ length bs → take (end - start) (drop start (bs ++ new)) ≡ take (end - start) (drop start bs)
own_stay start end bs new within ends =
    rw (drop-append-le start bs new within, take-append-le (end - start) (drop start bs) new (omega (arith, length-drop start bs)))

-- one line more, with bytes of its own
pub line_more : (start : ℕ) (ls : List KeyLine) (bs : List ℕ) (l : KeyLine) (new : List ℕ) → AreKeyLines start ls bs → l.end ≡ length bs + length new
    → characters_from start (ls ++ l ∷ []) (bs ++ new) ≡ characters_from start ls bs ++ characters_of l.time l.line new
unfolding characters_from AreKeyLines
line_more start [] bs l new all end =
    rw (drop_at bs new start (sym all), take_all (l.end - start) new (omega arith)) (append-nil (characters_of l.time l.line new))
line_more start (k ∷ ls) bs l new all end =
    let some = all.0 in
    let within = start_within k.end ls bs all.1 in
    rw (own_stay start k.end bs new (omega arith) within, line_more k.end ls bs l new all.1 end)
    (sym (append_assoc (characters_of k.time k.line (take (k.end - start) (drop start bs))) (characters_from k.end ls bs) (characters_of l.time l.line new)))

pub lines_more : (start : ℕ) (ls : List KeyLine) (bs : List ℕ) (l : KeyLine) (new : List ℕ) → AreKeyLines start ls bs → l.end ≡ length bs + length new → 0 < length new
    → AreKeyLines start (ls ++ l ∷ []) (bs ++ new)
unfolding AreKeyLines
lines_more start [] bs l new all end some = (omega arith, omega (arith, length-append bs new))
lines_more start (k ∷ ls) bs l new all end some = (all.0, lines_more k.end ls bs l new all.1 end some)

-- what stands at a place is the first line from there on
line_at : (over : ℕ) (ls : List KeyLine) (l : KeyLine) → over < length ls → l ≡ get_or ls over l → drop over ls ≡ l ∷ drop (over + 1) ls
line_at over ls l within is = drop_more ls over l within ∙ ap (λ (k : KeyLine). k ∷ drop (over + 1) ls) (sym is)

lines_at : (start over : ℕ) (ls : List KeyLine) (bs : List ℕ) (l : KeyLine) → over < length ls → l ≡ get_or ls over l → AreKeyLines start (drop over ls) bs
    → (start < l.end) × AreKeyLines l.end (drop (over + 1) ls) bs
unfolding AreKeyLines
lines_at start over ls bs l within is all = subst (λ (ks : List KeyLine). AreKeyLines start ks bs) (line_at over ls l within is) all

-- where a line is left, so is a byte
pub byte_within : (start over : ℕ) (ls : List KeyLine) (bs : List ℕ) (l : KeyLine) → over < length ls → l ≡ get_or ls over l → AreKeyLines start (drop over ls) bs → start < length bs
byte_within start over ls bs l within is all =
    let (some, rest) = lines_at start over ls bs l within is all in
    let ends = start_within l.end (drop (over + 1) ls) bs rest in
    omega arith

-- where no line is left, no character is
pub none_left : (start over : ℕ) (ls : List KeyLine) (bs : List ℕ) → length ls ≤ over → characters_from start (drop over ls) bs ≡ []
unfolding characters_from
none_left start over ls bs past = rw (drop_all over ls past)

-- the first character, and those after it
pub first_left : (start over : ℕ) (ls : List KeyLine) (bs : List ℕ) (l : KeyLine) (b : ℕ) → over < length ls → l ≡ get_or ls over l → b ≡ get_or bs start b → AreKeyLines start (drop over ls) bs
    → characters_from start (drop over ls) bs ≡ character l b ∷ characters_from (start + 1) (drop over ls) bs
first_left start over ls bs l b within is byte all =
    let (some, rest) = lines_at start over ls bs l within is all in
    let inside = byte_within start over ls bs l within is all in
    rw (line_at over ls l within is) (character_first start l (drop (over + 1) ls) bs b some inside ∙ ap (λ (x : ℕ). character l x ∷ characters_from (start + 1) (l ∷ drop (over + 1) ls) bs) (sym byte))

-- after the last character of a line, the next line is first
pub next_line : (start over : ℕ) (ls : List KeyLine) (bs : List ℕ) (l : KeyLine) → over < length ls → l ≡ get_or ls over l → start ≡ l.end
    → characters_from start (drop over ls) bs ≡ characters_from start (drop (over + 1) ls) bs
next_line start over ls bs l within is end = rw (line_at over ls l within is) (line_over start l (drop (over + 1) ls) bs end)

pub lines_next : (start over : ℕ) (ls : List KeyLine) (bs : List ℕ) (l : KeyLine) → over < length ls → l ≡ get_or ls over l → AreKeyLines start (drop over ls) bs → start + 1 ≡ l.end
    → AreKeyLines (start + 1) (drop (over + 1) ls) bs
lines_next start over ls bs l within is all end = subst (λ (n : ℕ). AreKeyLines n (drop (over + 1) ls) bs) (sym end) (lines_at start over ls bs l within is all).1

pub lines_stay : (start over : ℕ) (ls : List KeyLine) (bs : List ℕ) (l : KeyLine) → over < length ls → l ≡ get_or ls over l → AreKeyLines start (drop over ls) bs → ¬ (start + 1 ≡ l.end)
    → AreKeyLines (start + 1) (drop over ls) bs
unfolding AreKeyLines
lines_stay start over ls bs l within is all more =
    let (some, rest) = lines_at start over ls bs l within is all in
    subst (λ (ks : List KeyLine). AreKeyLines (start + 1) ks bs) (sym (line_at over ls l within is)) (omega arith, rest)
