use Rattle.std.proofs.Common.{◌≡◌, ◌∙◌, true, false, refl, sym}
use Rattle.clap.specs.Words.{found_of}
use Rattle.clap.proofs.WalkLemmas.{one_text-rows}
use Rattle.ds_words.proofs.words.names_of.Goals as goal

pub returns-then-get_flag : goal.returns-then-get_flag
returns-then-get_flag c = record {
  common = λ is. refl;
  numbers = λ is. absurd (let no : true ≡ false = sym c.if-get_flag.true ∙ c.get_flag.ensures.other (one_text-rows (found_of c.args.found.now) _ ∙ is) in cc);
}

pub returns-else-get_flag : goal.returns-else-get_flag
returns-else-get_flag c = record {
  common = λ is. absurd (let no : true ≡ false = sym (c.get_flag.ensures.value (one_text-rows (found_of c.args.found.now) _ ∙ is)) ∙ c.if-get_flag.false in cc);
  numbers = λ is. refl;
}
