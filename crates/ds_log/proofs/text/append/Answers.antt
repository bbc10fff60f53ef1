use Rattle.std.proofs.Common.{append_assoc}
use Rattle.ds_log.proofs.text.append.Goals as goal

pub returns-in-Denial-clause-room : goal.returns-in-Denial-clause-room
returns-in-Denial-clause-room c fits =
    let known = rw c.in-Denial.is at fits in
    let room = simp append_assoc at known in
    c.append_pieces.ensures.room (simp (c.as_bytes.ensures.value, c.format.ensures.text, c.as_bytes-in-Denial.ensures.value, c.format-in-Denial.ensures.text, c.hex8.ensures, c.kind_word.ensures.word, c.hex8-in-Denial.ensures, c.as_slice.ensures.value, c.rule_word.ensures, c.as_bytes-in-Denial-2.ensures.value, c.format-in-Denial-2.ensures.text) room)
