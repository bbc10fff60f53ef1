use Rattle.std.proofs.Common.{rules}
use Rattle.ds_drive.proofs.Outside.{outside_unread, unread_so_far}
use Rattle.ds_drive.proofs.run.source_texts.Goals as goal

pub returns-in-Some-clause-reads_until : goal.returns-in-Some-clause-reads_until
returns-in-Some-clause-reads_until g c = outside_unread c.args.inside c.args.names.now c.in-Some.name (g.F.Files.asked c.args.files.now) (search rules)

pub returns-in-None-clause-reads_until : goal.returns-in-None-clause-reads_until
returns-in-None-clause-reads_until g c =
    unread_so_far c.args.inside c.texts_of.result c.args.names.now (g.F.Files.asked c.args.files.now) (g.F.Files.asked c.texts_of.new.files) c.texts_of.ensures.reads_until
