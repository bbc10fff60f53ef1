-- A label that a statement names and no line has, and one that is like it.
use Rattle.ds_source_reasons.specs.declared.missing.Labelled as code
use Rattle.ds_source_reasons.specs.Missing.{Labelled}

-- the same of the code
abbrev pub plain_labelled : code.Labelled → Labelled
plain_labelled l = record { name = l.name.now; line = l.line }
