-- The text of words assembles to their bytes.
use Rattle.std.proofs.Common.{◌≡◌, ◌∙◌, ap, sym, refl, ℕ, ◌+◌, ◌*◌, ◌%◌, ◌≤◌, false, ◌==◌, nat_lt, List, [], ◌∷◌, ◌++◌, length, length-append, map, Option, Result, Ok, arith, append-nil, append_assoc}
use Rattle.std.proofs.lemmas.Bool.{le-ltb, ne_eqb}
use Rattle.ds_word.specs.Bytes.{bytes_of_word}
use Rattle.ds_word.specs.Inner.Bytes.{bytes_of_words}
use Rattle.ds_word.specs.ResultBinding.{◌>>=◌}
use Rattle.ds_asm.specs.declared.syntax.SyntaxCause.{SyntaxCause}
use Rattle.ds_asm.specs.Lines.{Line, line_of}
use Rattle.ds_asm.specs.Assembly.{at_line, Layout, empty_layout, most_bytes, statement_size, sized_by, laid_line, laid_lines, line_bytes, bytes_from, lines_of, label_address, assembled}
use Rattle.ds_asm.proofs.SourceLines.{lines_of-first}
use Rattle.ds_listing.specs.Inner.Laws.{Says, IsLineOf, EachIsRead}
use Rattle.ds_listing.specs.Texts.{text_of}
use Rattle.ds_listing.specs.Inner.Texts.{source_of}
use Rattle.ds_listing.proofs.Parts.{until_seam, after_seam}

-- the lines of the text of words
lines_of_source : (ws : List ℕ) → EachIsRead ws → lines_of (source_of ws) ≡ map text_of ws
lines_of_source [] read = refl
lines_of_source (w ∷ ws) read =
    let text = text_of w in
    let rest = source_of ws in
    let whole : (text ++ 10 ∷ []) ++ rest ≡ text ++ 10 ∷ rest = append_assoc text (10 ∷ []) rest in
    let some : (length (text ++ 10 ∷ rest) == 0) ≡ false = ne_eqb _ 0 (λ e. omega (arith, length-append text (10 ∷ rest))) in
    ap lines_of whole
    ∙ (lines_of-first (text ++ 10 ∷ rest) text rest some (sym (until_seam 10 text rest read.0.one_line refl)) (sym (after_seam 10 text rest read.0.one_line refl))
    ∙ ap (λ ls. text ∷ ls) (lines_of_source ws read.1))

-- a layout without labels
abbrev pub plain_layout : ℕ → Layout
plain_layout at = record { labels = []; size = at }

-- the first pass over a line that says a word
pub word_laid : (at w : ℕ) (line : Result Line SyntaxCause) → Says line w → at % 4 ≡ 0 → at + 4 ≤ 65536 → laid_line line (plain_layout at) ≡ Ok (plain_layout (at + 4))
word_laid at w line s even room =
    let fits : nat_lt most_bytes (at + 4) ≡ false = le-ltb _ _ (omega arith) in
    ap (λ x. laid_line x (plain_layout at)) s.is
    ∙ (ap (λ c. sized_by (at + statement_size s.statement) c >>= (λ size. Ok (plain_layout size))) (s.word.stands at even)
    ∙ (rw (s.word.size, fits) refl))

-- and the second
pub word_added : (w at : ℕ) (find : List ℕ → Option ℕ) (line : Result Line SyntaxCause) → Says line w → line_bytes find at line ≡ Ok (bytes_of_word w)
word_added w at find line s = ap (line_bytes find at) s.is ∙ s.word.bytes find at

source_laid : (n at : ℕ) (ws : List ℕ) → EachIsRead ws → at % 4 ≡ 0 → at + 4 * length ws ≤ 65536 → laid_lines n (plain_layout at) (map text_of ws) ≡ Ok (plain_layout (at + 4 * length ws))
source_laid n at [] read even room = ap (λ (k : ℕ). Ok (plain_layout k)) (omega arith)
source_laid n at (w ∷ ws) read even room =
    ap (λ r. at_line n r >>= (λ more. laid_lines (n + 1) more (map text_of ws))) (word_laid at w (line_of (text_of w)) read.0.says even (omega arith))
    ∙ (source_laid (n + 1) (at + 4) ws read.1 (omega arith) (omega arith) ∙ ap (λ (k : ℕ). Ok (plain_layout k)) (omega arith))

source_added : (n : ℕ) (find : List ℕ → Option ℕ) (bytes : List ℕ) (ws : List ℕ) → EachIsRead ws → bytes_from n find bytes (map text_of ws) ≡ Ok (bytes ++ bytes_of_words ws)
source_added n find bytes [] read = ap (λ bs. Ok bs) (sym (append-nil bytes))
source_added n find bytes (w ∷ ws) read =
    ap (λ r. at_line n r >>= (λ more. bytes_from (n + 1) find (bytes ++ more) (map text_of ws))) (word_added w (length bytes) find (line_of (text_of w)) read.0.says)
    ∙ (source_added (n + 1) find (bytes ++ bytes_of_word w) ws read.1 ∙ ap (λ bs. Ok bs) (append_assoc bytes (bytes_of_word w) (bytes_of_words ws)))

-- the text of words, as many as an image holds, says their bytes
pub source_read : (ws : List ℕ) → EachIsRead ws → length ws ≤ 16384 → assembled (source_of ws) ≡ Ok (bytes_of_words ws)
source_read ws read few =
    ap (λ ls. laid_lines 1 empty_layout ls >>= (λ layout. bytes_from 1 (label_address layout.labels) [] ls)) (lines_of_source ws read)
    ∙ (ap (λ r. r >>= (λ layout. bytes_from 1 (label_address layout.labels) [] (map text_of ws))) (source_laid 1 0 ws read (omega arith) (omega arith))
    ∙ source_added 1 (label_address []) [] ws read)

-- one word more
pub each_more : (ws : List ℕ) (w : ℕ) → EachIsRead ws → IsLineOf (text_of w) w → EachIsRead (ws ++ w ∷ [])
each_more [] w read more = (more, tt)
each_more (v ∷ vs) w read more = (read.0, each_more vs w read.1 more)
