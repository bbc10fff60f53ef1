use Rattle.std.proofs.Common.{◌∙◌, sym, ap, refl}
use Rattle.std.specs.Result.{result_map_both}
use Rattle.ds_asm.specs.Lines.{line_of}
use Rattle.ds_asm.specs.Inner.Plain.{plain_line}
use Rattle.ds_asm.proofs.SourceLines.{line_laid}
use Rattle.ds_asm.proofs.layout.Layout.add_line.Goals as goal

pub returns-clause-said : goal.returns-clause-said
returns-clause-said c = λ l laid.
    let (labels, said, holds) = c.in_ok-add_label.ensures.said l.labels laid.labels in (
      record { labels = labels; size = c.in_ok-self.field-0 },
      line_laid c.args.self.now.size c.add_label.new.self.size (line_of c.args.line.now) (plain_line c.in-Ok.line) l labels c.in_ok-self.field-0
          (sym c.line_of.ensures ∙ ap (result_map_both plain_line (λ cause. cause)) c.in-Ok.is) laid.size said (c.in_ok-add_label.ensures.size ∙ laid.size) (sym c.in_ok-self.ensures.said),
      record { labels = holds; size = refl },
    )
