use Rattle.std.proofs.Common.{◌≡◌, take}
use Rattle.std.specs.String.{string_bytes}
use Rattle.ds_listing.specs.Inner.Laws.{EachIsRead}
use Rattle.ds_listing.specs.Inner.Texts.{source_of}
use Rattle.ds_listing.proofs.source.source_of_words.Given as goal

-- the words so far stand in the text, and each is read back
abbrev pub invariant-loop-word : goal.invariant-loop-word
invariant-loop-word l = record {
  text : string_bytes l.text ≡ source_of (take l.word-index l.words);
  read : EachIsRead (take l.word-index l.words);
}
