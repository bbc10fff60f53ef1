use Rattle.std.proofs.Common.{◌∙◌}
use Rattle.clap.specs.Words.{found_of}
use Rattle.clap.proofs.WalkLemmas.{one_text-rows}
use Rattle.ds_words.proofs.words.extras_of.Goals as goal

pub returns : goal.returns
returns c =
    let found = found_of c.args.found.now in
    record {
      must_end = record {
        there = λ is. c.get_flag.ensures.value (one_text-rows found _ ∙ is);
        absent = λ is. c.get_flag.ensures.other (one_text-rows found _ ∙ is);
      };
      memory = c.requires.named;
      windows = c.requires.good;
      summary = record {
        there = λ is. c.get_flag-2.ensures.value (one_text-rows found _ ∙ is);
        absent = λ is. c.get_flag-2.ensures.other (one_text-rows found _ ∙ is);
      };
    }
