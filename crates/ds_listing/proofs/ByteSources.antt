-- The text of bytes assembles to them.
use Rattle.std.proofs.Common.{◌≡◌, ◌∙◌, ap, sym, refl, ℕ, ◌+◌, ◌*◌, ◌/◌, ◌%◌, ◌^◌, ◌<◌, ◌≤◌, Bool, true, false, ◌==◌, nat_le, nat_lt, List, [], ◌∷◌, ◌++◌, length, length-append, map, Option, Some, Ok, arith, append-nil, append_assoc}
use Rattle.std.specs.Prelude.{codes}
use Rattle.std.specs.List.{All, list_all, starts_with}
use Rattle.std.proofs.lemmas.Bool.{and_from, le-leb, le-ltb, ne_eqb}
use Rattle.std.proofs.lemmas.List.Elements.{All-head, All-tail}
use Rattle.ds_word.specs.Bytes.{bytes_of_word}
use Rattle.ds_word.specs.Digits.{digits_from}
use Rattle.ds_word.specs.ResultBinding.{◌>>=◌}
use Rattle.ds_asm.specs.Numbers.{written_number}
use Rattle.ds_asm.specs.declared.line.Directive.TheVariants as directive
use Rattle.ds_asm.specs.Lines.{Byte, statement_of, line_of}
use Rattle.ds_asm.specs.Inner.Lines.{nothing}
use Rattle.ds_asm.specs.Assembly.{at_line, empty_layout, most_bytes, laid_line, laid_lines, line_bytes, bytes_from, lines_of, label_address, assembled}
use Rattle.ds_asm.proofs.SourceLines.{lines_of-first}
use Rattle.ds_listing.specs.Inner.Laws.{alone, AreSaid}
use Rattle.ds_listing.specs.Texts.{text_of}
use Rattle.ds_text.specs.Digits.{hex2, hex_digit}
use Rattle.ds_listing.specs.Sources.{word_of_bytes, byte_text, byte_lines, elf_magic}
use Rattle.ds_listing.specs.Inner.Sources.{source_of_bytes, source_of_file}
use Rattle.ds_listing.proofs.Numbers.{below_at, hex_digit_of, digit_read, digits_end}
use Rattle.ds_listing.proofs.Values.{number_hexadecimal}
use Rattle.ds_listing.proofs.Parts.{IsBody, all_both, all_weaker, is_other, body_line, until_seam, after_seam}
use Rattle.ds_listing.proofs.Operands.{is_inside}
use Rattle.ds_listing.proofs.Statements.{inside_line, operands_body, statement_with, directed_number}
use Rattle.ds_listing.proofs.Sources.{plain_layout, word_laid, word_added}

-- two hexadecimal digits are read back
hex2_digits : (b : ℕ) → b < 256 → digits_from 16 4294967295 0 (hex2 b) ≡ Some b
hex2_digits b l =
    digit_read 16 4294967295 0 _ (b / 16) _ (hex_digit_of (b / 16) (omega arith)) (omega arith)
    ∙ digit_read 16 4294967295 (0 * 16 + b / 16) _ (b % 16) [] (hex_digit_of (b % 16) (omega arith)) (omega arith)
    ∙ digits_end 16 4294967295 _ ∙ ap (λ (k : ℕ). Some k) (omega arith)

number_byte : (b : ℕ) → b < 256 → written_number (codes "0x" ++ hex2 b) ≡ Some (record { negative = false; magnitude = b })
number_byte b l = number_hexadecimal (hex2 b) b (omega arith) (omega arith) (hex2_digits b l)

hex2_inside : (b : ℕ) → b < 256 → list_all is_inside (codes "0x" ++ hex2 b) ≡ true
hex2_inside b l =
    and_from (is_inside (hex_digit (b / 16))) _ (below_at (λ d. is_inside (hex_digit d)) 16 (b / 16) refl (omega arith))
    (and_from (is_inside (hex_digit (b % 16))) true (below_at (λ d. is_inside (hex_digit d)) 16 (b % 16) refl (omega arith)) refl)

-- the line of a byte
byte_body : (b : ℕ) → b < 256 → IsBody (byte_text b)
byte_body b l = operands_body 46 (codes "byte") 48 (120 ∷ hex2 b) refl (hex2_inside b l)

byte_statement : (b : ℕ) → b < 256 → statement_of (byte_text b) ≡ Ok (Byte (record { negative = false; magnitude = b }))
byte_statement b l =
    statement_with (codes ".byte") 48 (120 ∷ hex2 b) refl (hex2_inside b l)
    ∙ directed_number directive.Byte (codes ".byte") (codes "0x" ++ hex2 b) _ _ refl (number_byte b l) refl

byte_said : (b : ℕ) → b < 256 → line_of (byte_text b) ≡ alone (Ok (Byte (record { negative = false; magnitude = b })))
byte_said b l = body_line (byte_text b) (byte_body b l) ∙ ap alone (byte_statement b l)

byte_one_line : (b : ℕ) → b < 256 → list_all (is_other 10) (byte_text b) ≡ true
byte_one_line b l = all_both (is_other 10) (codes ".byte ") (codes "0x" ++ hex2 b) refl (all_weaker is_inside (is_other 10) inside_line (codes "0x" ++ hex2 b) (hex2_inside b l))

-- both passes over it
byte_laid : (at b : ℕ) → b < 256 → at + 1 ≤ 65536 → laid_line (line_of (byte_text b)) (plain_layout at) ≡ Ok (plain_layout (at + 1))
byte_laid at b l room =
    let fits : nat_lt most_bytes (at + 1) ≡ false = le-ltb _ _ (omega arith) in
    let good : nat_le b 255 ≡ true = le-leb b 255 (omega arith) in
    ap (λ x. laid_line x (plain_layout at)) (byte_said b l) ∙ (rw (good, fits) refl)

byte_added : (at b : ℕ) (find : List ℕ → Option ℕ) → b < 256 → line_bytes find at (line_of (byte_text b)) ≡ Ok (b ∷ [])
byte_added at b find l = ap (line_bytes find at) (byte_said b l) ∙ ap (λ (k : ℕ). Ok (k ∷ [])) (omega arith)

-- the first of lines
line_before : (text rest : List ℕ) → list_all (is_other 10) text ≡ true → lines_of (text ++ 10 ∷ rest) ≡ text ∷ lines_of rest
line_before text rest one =
    let some : (length (text ++ 10 ∷ rest) == 0) ≡ false = ne_eqb _ 0 (λ e. omega (arith, length-append text (10 ∷ rest))) in
    lines_of-first (text ++ 10 ∷ rest) text rest some (sym (until_seam 10 text rest one refl)) (sym (after_seam 10 text rest one refl))

-- the lines of bytes
lines_of_left : (bytes : List ℕ) → All (λ b. b < 256) bytes → lines_of (byte_lines bytes) ≡ map byte_text bytes
lines_of_left [] small = refl
lines_of_left (b ∷ bytes) small =
    ap lines_of (append_assoc (byte_text b) (10 ∷ []) (byte_lines bytes))
    ∙ (line_before (byte_text b) (byte_lines bytes) (byte_one_line b (All-head (λ b. b < 256) b bytes small))
    ∙ ap (λ ls. byte_text b ∷ ls) (lines_of_left bytes (All-tail (λ b. b < 256) b bytes small)))

left_laid : (n at : ℕ) (bytes : List ℕ) → All (λ b. b < 256) bytes → at + length bytes ≤ 65536 → laid_lines n (plain_layout at) (map byte_text bytes) ≡ Ok (plain_layout (at + length bytes))
left_laid n at [] small room = ap (λ (k : ℕ). Ok (plain_layout k)) (omega arith)
left_laid n at (b ∷ bytes) small room =
    ap (λ r. at_line n r >>= (λ more. laid_lines (n + 1) more (map byte_text bytes))) (byte_laid at b (All-head (λ b. b < 256) b bytes small) (omega arith))
    ∙ (left_laid (n + 1) (at + 1) bytes (All-tail (λ b. b < 256) b bytes small) (omega arith) ∙ ap (λ (k : ℕ). Ok (plain_layout k)) (omega arith))

left_added : (n : ℕ) (find : List ℕ → Option ℕ) (before bytes : List ℕ) → All (λ b. b < 256) bytes → bytes_from n find before (map byte_text bytes) ≡ Ok (before ++ bytes)
left_added n find before [] small = ap (λ bs. Ok bs) (sym (append-nil before))
left_added n find before (b ∷ bytes) small =
    ap (λ r. at_line n r >>= (λ more. bytes_from (n + 1) find (before ++ more) (map byte_text bytes))) (byte_added (length before) b find (All-head (λ b. b < 256) b bytes small))
    ∙ (left_added (n + 1) find (before ++ b ∷ []) bytes (All-tail (λ b. b < 256) b bytes small) ∙ ap (λ bs. Ok bs) (append_assoc before (b ∷ []) bytes))

-- the lines of the text of bytes
abbrev lines_in : List ℕ → List (List ℕ)
lines_in (a ∷ b ∷ c ∷ d ∷ bytes) = text_of (word_of_bytes a b c d) ∷ lines_in bytes
lines_in bytes = map byte_text bytes

lines_of_source : (bytes : List ℕ) → AreSaid bytes → lines_of (source_of_bytes bytes) ≡ lines_in bytes
lines_of_source [] said = lines_of_left [] said
lines_of_source (a ∷ []) said = lines_of_left (a ∷ []) said
lines_of_source (a ∷ b ∷ []) said = lines_of_left (a ∷ b ∷ []) said
lines_of_source (a ∷ b ∷ c ∷ []) said = lines_of_left (a ∷ b ∷ c ∷ []) said
lines_of_source (a ∷ b ∷ c ∷ d ∷ bytes) said =
    let text = text_of (word_of_bytes a b c d) in
    line_before text (source_of_bytes bytes) said.0.read.one_line ∙ ap (λ ls. text ∷ ls) (lines_of_source bytes said.1)

source_laid : (n at : ℕ) (bytes : List ℕ) → AreSaid bytes → at % 4 ≡ 0 → at + length bytes ≤ 65536 → laid_lines n (plain_layout at) (lines_in bytes) ≡ Ok (plain_layout (at + length bytes))
source_laid n at [] said even room = left_laid n at [] said room
source_laid n at (a ∷ []) said even room = left_laid n at (a ∷ []) said room
source_laid n at (a ∷ b ∷ []) said even room = left_laid n at (a ∷ b ∷ []) said room
source_laid n at (a ∷ b ∷ c ∷ []) said even room = left_laid n at (a ∷ b ∷ c ∷ []) said room
source_laid n at (a ∷ b ∷ c ∷ d ∷ bytes) said even room =
    let w = word_of_bytes a b c d in
    ap (λ r. at_line n r >>= (λ more. laid_lines (n + 1) more (lines_in bytes))) (word_laid at w (line_of (text_of w)) said.0.read.says even (omega arith))
    ∙ (source_laid (n + 1) (at + 4) bytes said.1 (omega arith) (omega arith) ∙ ap (λ (k : ℕ). Ok (plain_layout k)) (omega arith))

source_added : (n : ℕ) (find : List ℕ → Option ℕ) (before bytes : List ℕ) → AreSaid bytes → bytes_from n find before (lines_in bytes) ≡ Ok (before ++ bytes)
source_added n find before [] said = left_added n find before [] said
source_added n find before (a ∷ []) said = left_added n find before (a ∷ []) said
source_added n find before (a ∷ b ∷ []) said = left_added n find before (a ∷ b ∷ []) said
source_added n find before (a ∷ b ∷ c ∷ []) said = left_added n find before (a ∷ b ∷ c ∷ []) said
source_added n find before (a ∷ b ∷ c ∷ d ∷ bytes) said =
    let w = word_of_bytes a b c d in
    ap (λ r. at_line n r >>= (λ more. bytes_from (n + 1) find (before ++ more) (lines_in bytes))) (word_added w (length before) find (line_of (text_of w)) said.0.read.says ∙ ap (λ bs. Ok bs) said.0.bytes)
    ∙ (source_added (n + 1) find (before ++ a ∷ b ∷ c ∷ d ∷ []) bytes said.1 ∙ ap (λ bs. Ok bs) (append_assoc before (a ∷ b ∷ c ∷ d ∷ []) bytes))

-- the text of bytes, as many as an image holds, says them
bytes_read : (bytes : List ℕ) → AreSaid bytes → length bytes ≤ 65536 → assembled (source_of_bytes bytes) ≡ Ok bytes
bytes_read bytes said few =
    ap (λ ls. laid_lines 1 empty_layout ls >>= (λ layout. bytes_from 1 (label_address layout.labels) [] ls)) (lines_of_source bytes said)
    ∙ (ap (λ r. r >>= (λ layout. bytes_from 1 (label_address layout.labels) [] (lines_in bytes))) (source_laid 1 0 bytes said refl (omega arith))
    ∙ source_added 1 (label_address []) [] bytes said)

-- also with a line before it that says nothing
commented_read : (line bytes : List ℕ) → list_all (is_other 10) line ≡ true → line_of line ≡ Ok nothing → AreSaid bytes → length bytes ≤ 65536 → assembled (line ++ 10 ∷ source_of_bytes bytes) ≡ Ok bytes
commented_read line bytes one none said few =
    ap (λ ls. laid_lines 1 empty_layout ls >>= (λ layout. bytes_from 1 (label_address layout.labels) [] ls)) (line_before line (source_of_bytes bytes) one ∙ ap (λ ls. line ∷ ls) (lines_of_source bytes said))
    ∙ (ap (λ x. (at_line 1 (laid_line x empty_layout) >>= (λ more. laid_lines 2 more (lines_in bytes))) >>= (λ layout. bytes_from 1 (label_address layout.labels) [] (line ∷ lines_in bytes))) none
    ∙ (ap (λ r. r >>= (λ layout. bytes_from 1 (label_address layout.labels) [] (line ∷ lines_in bytes))) (source_laid 2 0 bytes said refl (omega arith))
    ∙ (ap (λ x. at_line 1 (line_bytes (label_address []) 0 x) >>= (λ more. bytes_from 2 (label_address []) ([] ++ more) (lines_in bytes))) none
    ∙ source_added 2 (label_address []) [] bytes said)))

-- the comment says nothing
elf_line : line_of (codes "# this file begins as an ELF file does") ≡ Ok nothing
unfolding line_of
elf_line = refl

-- the text of a file says its bytes
file_read_by : (elf : Bool) (bytes : List ℕ) → starts_with (λ a b. a == b) bytes elf_magic ≡ elf → AreSaid bytes → length bytes ≤ 65536 → assembled (source_of_file bytes) ≡ Ok bytes
file_read_by true bytes is said few = rw is (commented_read (codes "# this file begins as an ELF file does") bytes refl elf_line said few)
file_read_by false bytes is said few = rw is (bytes_read bytes said few)

pub file_read : (bytes : List ℕ) → AreSaid bytes → length bytes ≤ 65536 → assembled (source_of_file bytes) ≡ Ok bytes
file_read bytes said few = file_read_by (starts_with (λ a b. a == b) bytes elf_magic) bytes refl said few

-- fewer than four bytes are no word
pub few_said : (bytes : List ℕ) → length bytes < 4 → All (λ b. b < 256) bytes → AreSaid bytes
few_said [] few small = small
few_said (a ∷ []) few small = small
few_said (a ∷ b ∷ []) few small = small
few_said (a ∷ b ∷ c ∷ []) few small = small
few_said (a ∷ b ∷ c ∷ d ∷ bytes) few small = absurd (omega arith)

-- four bytes are those of their word
pub word_of_four : (a b c d : ℕ) → a < 256 → b < 256 → c < 256 → d < 256 → bytes_of_word (word_of_bytes a b c d) ≡ a ∷ b ∷ c ∷ d ∷ []
word_of_four a b c d la lb lc ld =
    let lowest : word_of_bytes a b c d % 2 ^ 8 ≡ a = omega arith in
    let low : word_of_bytes a b c d / 2 ^ 8 % 2 ^ 8 ≡ b = omega arith in
    let high : word_of_bytes a b c d / 2 ^ 16 % 2 ^ 8 ≡ c = omega arith in
    let highest : word_of_bytes a b c d / 2 ^ 24 ≡ d = omega arith in
    rw (lowest, low, high, highest) refl
