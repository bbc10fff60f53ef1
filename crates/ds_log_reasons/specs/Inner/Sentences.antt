-- What is told of a line of the log.
use Rattle.ds_listing.specs.Pages.{plain_pages}
use Rattle.ds_check.specs.Inner.Starts.{assembled}
use Rattle.ds_log_reasons.specs.declared.sentences.Known.{Known}
use Rattle.ds_log_reasons.specs.declared.sentences.Sight.{Sight}
use Rattle.ds_log_reasons.specs.declared.sentences.Texts.{Texts}
use Rattle.ds_log_reasons.specs.Sentences.{Context, Placed, Sighted}

-- the same of the code's
abbrev pub context : Texts → Context
context t = record { text = t.text.now; pages = t.policy.now.pages; rules = t.policy.now.rules; sources = assembled t.sources }

-- the same of the code's
abbrev pub known_placed : Known → Placed
known_placed k = record { text = k.text.now; pages = k.policy.now.pages; rules = k.policy.now.rules; places = plain_pages k.pages.now }

-- the same of the code's
abbrev pub sighted : Sight → Sighted
sighted s = record { unit = s.unit; word = s.word; general = s.general; late = s.late; entries = s.entries.now; answer = s.answer }
