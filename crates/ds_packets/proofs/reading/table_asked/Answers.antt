use Rattle.std.proofs.Common.{rules, ◌≡◌, ◌∙◌, ℕ, List, refl, sym, ap, true, false, nat_lt, length, take, drop, bytes_eq, codes}
use Rattle.std.proofs.lemmas.List.{take_rest}
use Rattle.ds_packets.specs.Framing.{hex_text}
use Rattle.ds_packets.specs.Packets.{table_asked, entries_asked, packet_read}
use Rattle.ds_packets.proofs.reading.table_asked.Goals as goal

-- where enough stands there, and begins with the word
asked : (digits : List ℕ) → nat_lt (length digits) 12 ≡ false → bytes_eq (take 12 digits) (hex_text (codes "table ")) ≡ true → table_asked digits ≡ packet_read (entries_asked (drop 12 digits))
asked digits long is = rw (long, is) refl

pub returns-then-eq : goal.returns-then-eq
returns-then-eq c =
    c.packet_read.ensures ∙ (ap packet_read (c.entries_asked.ensures ∙ ap entries_asked (take_rest c.args.digits.now 12)) ∙ sym (asked c.args.digits.now (search rules) (search rules)))
