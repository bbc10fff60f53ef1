use Rattle.std.proofs.Common.{◌≡◌, ◌∙◌, ◌*◌, ◌%◌, length, ap, subst, arith, rules}
use Rattle.ds_word.specs.Merge.{with_bits}
use Rattle.ds_word.specs.Bytes.{word_at, with_word}
use Rattle.ds_mem.specs.Inner.Memory.{AreBytes}
use Rattle.ds_mem.proofs.Parts.{byte_in_word}
use Rattle.ds_mem.proofs.memory.Memory.put_byte.Goals as goal

pub returns-clause-part : goal.returns-clause-part
returns-clause-part c =
    let bytes = c.self.inside.bytes.items in
    let place = c.args.physical in
    let size : length bytes ≡ 8388608 = search rules in
    let small : AreBytes bytes = subst AreBytes c.deref.ensures.value c.are_bytes.ensures in
    byte_in_word bytes place c.args.value small (omega (arith, size, c.requires))
    ∙ ap (λ m. with_word m place (with_bits (word_at m place) (8 * (place % 4)) 8 c.args.value)) c.self.view_is
