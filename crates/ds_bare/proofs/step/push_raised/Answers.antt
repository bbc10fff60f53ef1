use Rattle.std.specs.Prelude.{codes}
use Rattle.ds_text.proofs.Sends.{ok_gives}
use Rattle.ds_text.specs.Digits.{hex8}
use Rattle.ds_bare.specs.Steps.{code_text, raised_text}
use Rattle.ds_bare.proofs.Pieces.{four_pieces}
use Rattle.ds_bare.proofs.step.push_raised.Goals as goal

pub returns : goal.returns
unfolding raised_text
returns c = ok_gives c.push_hex.result
    (λ e. four_pieces _ (codes "; exception ") (code_text c.args.code) (codes " at ") (hex8 c.args.pc) _ _ _ _ c.in_ok-push_str.ensures.bytes c.in_ok-push_code.ensures c.in_ok-push_str-2.ensures.bytes e)
    c.push_hex.ensures
