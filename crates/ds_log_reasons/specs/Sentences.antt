-- What is told of a line of the log.
use Rattle.std.specs.Prelude.{codes, decimal, ℕ, ◌-◌, ◌==◌, nat_lt, Bool, false, not, if◌then◌else◌, List, [], ◌++◌, length, slice_get, Option, Some, None, option_map}
use Rattle.ds_isa.specs.Instruction.{instruction_of}
use Rattle.ds_isa.specs.Shapes.{is_branch}
use Rattle.ds_isa.specs.Uses.{uses}
use Rattle.ds_isa.specs.declared.instr.Late.{Late}
use Rattle.ds_listing.specs.Pages.{PagePlaces, place_of_address}
use Rattle.ds_listing.specs.Texts.{text_of}
use Rattle.ds_text.specs.Digits.{hex8}
use Rattle.ds_policy.specs.declared.access.Rule.{Rule}
use Rattle.ds_policy.specs.declared.access.Rule.TheVariants.{Number, K, A, I}
use Rattle.ds_policy.specs.declared.grant.Entry.{Entry}
use Rattle.ds_policy.specs.declared.grant.Grant.{Grant}
use Rattle.ds_policy.specs.declared.policy.PolicyPage.{PolicyPage}
use Rattle.ds_policy.specs.declared.policy.PolicyRule.{PolicyRule}
use Rattle.ds_policy.specs.Pages.{found, page_address}
use Rattle.ds_check.specs.Items.{item_place}
use Rattle.ds_check.specs.Starts.{Assembled}
use Rattle.ds_check.specs.declared.items.Items.TheVariants.{Rules}
use Rattle.ds_log.specs.declared.line.Denied.{Denied}
use Rattle.ds_log_reasons.specs.Nearest.{nearest}
use Rattle.ds_log_reasons.specs.Places.{pages_with}
use Rattle.ds_log_reasons.specs.Reasons.{denial_reason_of}
use Rattle.ds_log_reasons.specs.Values.{operands_for, values_text}
use Rattle.ds_log_reasons.specs.Words.{command_mend, command_words, mend_words, reason_words}
use Rattle.ds_log_reasons.specs.declared.reason.Reason.{Reason}
use Rattle.ds_log_reasons.specs.declared.sentences.Denial.{Denial}

-- what the words are taken from: the policy's text, its pages and rules, and the sources with their images
pub record Context : Type 0 where
  pub text : List ℕ
  pub pages : List PolicyPage
  pub rules : List PolicyRule
  pub sources : Assembled

-- where the bytes of the pages stand in their sources, in place of these
pub record Placed : Type 0 where
  pub text : List ℕ
  pub pages : List PolicyPage
  pub rules : List PolicyRule
  pub places : List (Option PagePlaces)

abbrev pub placed : Context → Placed
placed x = record { text = x.text; pages = x.pages; rules = x.rules; places = pages_with x.sources x.pages }

-- what is seen of a process whose unit was stopped: where the unit began, the word of the instruction that was denied, the registers before it and the one whose load is late then, the entries, and what a call was answered
pub record Sighted : Type 0 where
  pub unit : ℕ
  pub word : Option ℕ
  pub general : List ℕ
  pub late : Option Late
  pub entries : List Entry
  pub answer : ℕ

-- which page is granted
abbrev pub granted_page : Option Grant → Option ℕ
granted_page None = None
granted_page (Some g) = g.page

-- a place in a source; where it is none, the address
abbrev pub or_address : ℕ → List ℕ → List ℕ
or_address pc [] = hex8 pc
or_address pc place = place

-- where an address of a process with these entries stands in its source; where it stands in none, the address
unfoldable pub at_text : Placed → List Entry → ℕ → List ℕ
at_text x es pc = or_address pc (place_of_address x.places (granted_page (found es (page_address pc))) pc)

-- the branch in whose slot an instruction is
unfoldable pub slot_text : Placed → List Entry → ℕ → Bool → List ℕ
slot_text x es unit slot = if slot then codes ", in the slot of " ++ at_text x es unit else []

-- an instruction with what it read
unfoldable pub did_text : Denied → Option ℕ → List ℕ → Option Late → List ℕ
did_text kind None general late = codes ": no instruction was fetched"
did_text kind (Some w) general late = codes ": " ++ text_of w ++ values_text general late (operands_for kind (instruction_of w))

-- which process it was
unfoldable pub process_text : ℕ → List ℕ
process_text process = codes "    process " ++ decimal process ++ codes " at "

-- the line that says what the process did
unfoldable pub what_text : Placed → Denial → Sighted → List ℕ
what_text x d s =
    let slot : Bool = not (s.unit == d.pc) in
    process_text d.process ++ at_text x s.entries d.pc ++ slot_text x s.entries s.unit slot
    ++ did_text d.kind s.word s.general s.late ++ codes "\n"

-- the line of a policy's text in which the rule of a number begins
abbrev pub rule_line : List ℕ → ℕ → Option ℕ
rule_line policy number = if nat_lt 16777216 (length policy) then None else option_map (λ p. p.line) (item_place policy Rules number None)

-- a line of the policy, where it is known
abbrev pub policy_line_text : Option ℕ → List ℕ
policy_line_text None = []
policy_line_text (Some line) = codes " (line " ++ decimal line ++ codes " of the policy)"

-- the command of a number
unfoldable pub command_text : ℕ → List ℕ
command_text number = codes "command " ++ decimal number ++ codes " of the input"

-- the rule of a number, with its line in the policy
abbrev pub rule_text : List ℕ → ℕ → List ℕ
rule_text policy number = codes "rule " ++ decimal number ++ policy_line_text (rule_line policy number)

-- the rule or the command of a number: those of commands are above 1,000
unfoldable pub rule_number_text : List ℕ → ℕ → List ℕ
rule_number_text policy number = if nat_lt 1000 number then command_text (number - 1000) else rule_text policy number

-- the name of a page, if it has one
abbrev pub name_text : Option PolicyPage → List ℕ
name_text None = []
name_text (Some page) = codes ", page " ++ page.name

abbrev pub page_text : List PolicyPage → Option ℕ → List ℕ
page_text pages None = []
page_text pages (Some page) = name_text (slice_get pages page)

-- the process that gave an entry, if one did
abbrev pub giver_text : ℕ → List ℕ
giver_text giver = if giver == 0 then [] else codes ", given by process " ++ decimal giver

-- that there is no rule, and no entry
unfoldable pub alone_text : List ℕ
alone_text = codes "no rule; the process has no entry at all"

-- that there is no rule, and the nearest entry
unfoldable pub near_text : List ℕ → Entry → List ℕ
near_text policy e = codes "no rule; the nearest entry is at " ++ (hex8 e.address ++ (codes ", by " ++ rule_number_text policy e.grant.rule))

abbrev pub nearest_by : List ℕ → Option Entry → List ℕ
nearest_by policy None = alone_text
nearest_by policy (Some e) = near_text policy e

unfoldable pub nearest_text : List ℕ → ℕ → List Entry → List ℕ
nearest_text policy address es = nearest_by policy (nearest address es)

-- which entry decided, at the page of an address
unfoldable pub decided_text : Placed → List Entry → ℕ → Option Grant → List ℕ
decided_text x es page None = nearest_text x.text page es
decided_text x es page (Some g) = rule_number_text x.text g.rule ++ page_text x.pages g.page ++ giver_text g.giver

-- by what rule: the entry's own, or the processor's
abbrev pub by_rule : Placed → List Entry → ℕ → Rule → List ℕ
by_rule x es page (Number n) = decided_text x es page (found es page)
by_rule x es page K = codes "the processor"
by_rule x es page A = codes "the processor"
by_rule x es page I = codes "the processor"

-- the line that says what decided, and why
unfoldable pub by_text : Placed → List Entry → Denial → Reason → List ℕ
by_text x es d reason = codes "    by " ++ by_rule x es (page_address d.addr) d.rule ++ codes ": " ++ reason_words reason ++ codes "\n"

-- what the policy's rule of an entry's number says, if there is one
abbrev pub policy_rule_said : List PolicyRule → Option Grant → Option PolicyRule
policy_rule_said rules None = None
policy_rule_said rules (Some g) = slice_get rules (g.rule - 1)

-- whether a word is a branch
abbrev pub word_branch : Option ℕ → Bool
word_branch None = false
word_branch (Some w) = is_branch (uses (instruction_of w)).shape

-- why something was denied, by what was there
abbrev pub reason_for : List PolicyRule → Denial → Sighted → Reason
reason_for rules d s =
    let g : Option Grant = found s.entries (page_address d.addr) in
    denial_reason_of d.kind d.rule d.code s.answer g (policy_rule_said rules g) (word_branch s.word)

-- the line that says how something is mended
unfoldable pub mend_line : List ℕ → List ℕ
mend_line words = codes "    to mend: " ++ words ++ codes "\n"

-- what is told of a denial: what the process did, what decided, and how it is mended
unfoldable pub denial_text : Placed → Denial → Sighted → List ℕ
denial_text x d s = what_text x d s ++ by_text x s.entries d (reason_for x.rules d s) ++ mend_line (mend_words (reason_for x.rules d s))

-- the line that says what the number of a command's refusal means
unfoldable pub meaning_line : ℕ → List ℕ → List ℕ
meaning_line command words = codes "    " ++ command_text command ++ codes ": " ++ words ++ codes "\n"

-- what is told of a refused command: what the number means, and how it is mended
unfoldable pub refused_text : ℕ → ℕ → List ℕ
refused_text command number = meaning_line command (command_words number) ++ mend_line (command_mend number)
