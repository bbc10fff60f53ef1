use Rattle.std.proofs.Common.{IsNone, List, sym, subst}
use Rattle.ds_policy.specs.declared.grant.Entry.{Entry}
use Rattle.ds_policy.specs.Pages.{found}
use Rattle.ds_policy.proofs.Entries.{put_new}
use Rattle.ds_policy.proofs.row.Row.append.Goals as goal

pub returns : goal.returns
returns c =
    let none = subst (λ (es : List Entry). IsNone (found es c.args.address)) (sym c.self.view_is) c.requires.new in
    rw (c.push.ensures.items, ← c.self.view_is) (sym (put_new c.self.inside.entries.items c.args.address c.args.grant none))
