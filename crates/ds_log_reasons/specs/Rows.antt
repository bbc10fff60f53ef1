-- Worked lines of a log, and what is told of them.
use Rattle.std.specs.Prelude.{codes, refl, ◌≡◌, ℕ, List, Bool, true, false, [], ◌∷◌, ◌++◌, map, replicate, slice_set, Option, Some, None}
use Rattle.std.specs.Fmt.{digits}
use Rattle.ds_word.specs.Digits.{digits_from}
use Rattle.ds_asm.specs.Inner.OnLiterals.{asm_on_literals}
use Rattle.ds_listing.specs.Listing.{rows_of}
use Rattle.ds_listing.specs.Places.{line_places_of}
use Rattle.ds_listing.specs.Texts.{form_of, is_label, text_of}
use Rattle.ds_text.specs.Digits.{hex4, hex8}
use Rattle.ds_log.specs.declared.line.Line.TheVariants as line
use Rattle.ds_log.specs.declared.line.Denied.{Denied}
use Rattle.ds_log.specs.declared.line.Denied.TheVariants as denied
use Rattle.ds_policy.specs.declared.access.Rule.{Rule}
use Rattle.ds_policy.specs.declared.access.Rule.TheVariants as rule
use Rattle.ds_policy.specs.declared.grant.Entry.{Entry}
use Rattle.ds_policy.specs.declared.grant.Grant.{Grant}
use Rattle.ds_policy.specs.declared.grant.Right.{Right}
use Rattle.ds_policy.specs.declared.grant.Right.TheVariants.{Nothing, Read, Write}
use Rattle.ds_policy.specs.declared.policy.PolicyRule.{PolicyRule}
use Rattle.ds_log_reasons.specs.Lines.{log_line_of}
use Rattle.ds_log_reasons.specs.Nearest.{nearest}
use Rattle.ds_log_reasons.specs.Reasons.{denial_reason_of}
use Rattle.ds_log_reasons.specs.Sentences.{Placed, Sighted, alone_text, at_text, by_text, command_text, decided_text, denial_text, did_text, meaning_line, mend_line, near_text, nearest_text, rule_number_text, process_text, refused_text, slot_text, what_text}
use Rattle.ds_log_reasons.specs.Values.{value_text, values_text}
use Rattle.ds_log_reasons.specs.Words.{command_mend, command_words, mend_words, reason_words}
use Rattle.ds_log_reasons.specs.declared.reason.Reason.{Reason}
use Rattle.ds_log_reasons.specs.declared.reason.Reason.TheVariants as reason
use Rattle.ds_log_reasons.specs.declared.sentences.Denial.{Denial}

-- A line is read back.

pub a_denial_and_a_refused_command : map log_line_of (codes "17 2 0040001C store 00410ABC r1002 1" ∷ codes "5 command 12 refused 16" ∷ [])
    ≡ Some (line.Denial 17 2 0x0040001C denied.Store 0x00410ABC (rule.Number 1002) 1) ∷ Some (line.Refused 5 12 16) ∷ []
unfolding digits_from
a_denial_and_a_refused_command = refl

pub rules_by_letters : map log_line_of (codes "0 1 00400000 exec 00400000 I 12" ∷ codes "0 1 00400000 load 80000000 K 4" ∷ codes "0 1 00400000 fetch 00400002 A 4" ∷ codes "0 1 00400000 give 00410000 r0 8" ∷ [])
    ≡ Some (line.Denial 0 1 0x00400000 denied.Exec 0x00400000 rule.I 12)
    ∷ Some (line.Denial 0 1 0x00400000 denied.Load 0x80000000 rule.K 4)
    ∷ Some (line.Denial 0 1 0x00400000 denied.Fetch 0x00400002 rule.A 4)
    ∷ Some (line.Denial 0 1 0x00400000 denied.Give 0x00410000 (rule.Number 0) 8) ∷ []
unfolding digits_from
rules_by_letters = refl

pub other_texts_are_no_line : map log_line_of (codes "" ∷ codes "time 5" ∷ codes "1 1 00400000 reads 00410000 r2 1" ∷ codes "1 1 00400000 load 00410000 x2 1" ∷ []) ≡ None ∷ None ∷ None ∷ None ∷ []
unfolding digits_from
other_texts_are_no_line = refl

-- An entry by how it came to be: its rule, its right, who gave it, and whether it may be given on.
abbrev granted : ℕ → Right → ℕ → Bool → Grant
granted number right giver give = record { right = right; page = None; rule = number; give = give; giver = giver; parent = None; until = None }

abbrev said : Right → Option PolicyRule
said right = Some (record { process = 1; address = 0x00410000; right = right; page = None; give = false; until = None })

abbrev why : Denied → Option Grant → Option PolicyRule → Reason
why kind g s = denial_reason_of kind (rule.Number 2) 1 0 g s false

-- none, also where an instruction would be; a rule that grants nothing, one whose right has ended, one that a command took away; reading alone by a rule, by a command, narrowed, and given
pub reasons_of_an_access : why denied.Store None None ∷ why denied.Fetch None None ∷ why denied.Load (Some (granted 2 Nothing 0 false)) (said Nothing) ∷ why denied.Load (Some (granted 2 Nothing 0 false)) (said Write)
    ∷ why denied.Load (Some (granted 1003 Nothing 0 false)) None ∷ why denied.Store (Some (granted 2 Read 0 false)) (said Read) ∷ why denied.Store (Some (granted 1003 Read 0 false)) None
    ∷ why denied.Store (Some (granted 2 Read 0 false)) (said Write) ∷ why denied.Store (Some (granted 2 Read 1 false)) (said Write) ∷ []
    ≡ reason.NoEntry ∷ reason.NoCode ∷ reason.Forbidden ∷ reason.Ended ∷ reason.Revoked ∷ reason.ReadAlone ∷ reason.GrantedToRead ∷ reason.Narrowed ∷ reason.GivenToRead ∷ []
reasons_of_an_access = refl

abbrev why_refused : ℕ → Bool → Reason
why_refused number give = denial_reason_of denied.Give (rule.Number 2) 8 number (Some (granted 2 Write 0 give)) None false

-- by the number of the refusal, which has its reason in the entry where it is 15
pub reasons_of_a_give : map (λ n. why_refused n true) (11 ∷ 12 ∷ 13 ∷ 14 ∷ 15 ∷ 16 ∷ 17 ∷ 18 ∷ 0 ∷ [])
    ≡ reason.FifthRegion ∷ reason.NoReceiver ∷ reason.NoPage ∷ reason.NothingToGive ∷ reason.WrongMode ∷ reason.IsTaken ∷ reason.IsFull ∷ reason.NoCopy ∷ reason.Unknown ∷ []
reasons_of_a_give = refl

pub reasons_of_no_leave : why_refused 12 false ∷ why_refused 15 false ∷ [] ≡ reason.NoReceiver ∷ reason.MayNotGive ∷ []
reasons_of_no_leave = refl

abbrev why_faulty : ℕ → Bool → Reason
why_faulty code branch = denial_reason_of denied.Exec rule.I code 0 None None branch

pub reasons_of_faults : why_faulty 8 false ∷ why_faulty 9 false ∷ why_faulty 10 false ∷ why_faulty 10 true ∷ why_faulty 11 false ∷ why_faulty 12 false ∷ why_faulty 13 false ∷ []
    ≡ reason.CallInSlot ∷ reason.Breakpoint ∷ reason.NoInstruction ∷ reason.BranchInSlot ∷ reason.Coprocessor ∷ reason.Overflow ∷ reason.Unknown ∷ []
reasons_of_faults = refl

pub reasons_of_the_processor : denial_reason_of denied.Load rule.K 4 0 None None false ∷ denial_reason_of denied.Store rule.A 5 0 None None false ∷ [] ≡ reason.Kernel ∷ reason.Unaligned ∷ []
reasons_of_the_processor = refl

-- Which entry is nearest.

abbrev entry : ℕ → ℕ → Entry
entry address number = record { address = address; grant = granted number Read 0 false }

pub the_nearest_entry : nearest 0x00500000 (entry 0x00400000 1 ∷ entry 0x004FF000 2 ∷ entry 0x00501000 3 ∷ []) ≡ Some (entry 0x004FF000 2)
the_nearest_entry = refl

pub no_entry_is_nearest : nearest 0x00500000 [] ≡ None
no_entry_is_nearest = refl

-- What is told.

-- a policy whose second rule begins in line 5, a page of code and one of data, and a source of four lines
abbrev shown : Placed
shown = record {
  text = codes "version = 1\n[[rule]]\nprocess = 1\n\n[[rule]]\nprocess = 1\n";
  pages = record { name = codes "code"; source = Some (record { name = codes "one.s"; part = 0 }) } ∷ record { name = codes "data"; source = None } ∷ [];
  rules = record { process = 1; address = 0x00400000; right = Read; page = Some 0; give = false; until = None }
      ∷ record { process = 1; address = 0x00410000; right = Read; page = Some 1; give = false; until = None } ∷ [];
  places = Some (record {
    source = codes "one.s";
    part = 0;
    lines = line_places_of (rows_of (codes "        lui $8,0x41\nloop:   sw $0,4($8)\n        beq $0,$0,loop\n        add $9,$10,$11\n") (replicate 16 0));
  }) ∷ None ∷ [];
}

abbrev lent : ℕ → Right → ℕ → ℕ → ℕ → Bool → Entry
lent address right page number giver give = record { address = address; grant = record { right = right; page = Some page; rule = number; give = give; giver = giver; parent = None; until = None } }

abbrev registers : List ℕ
registers = slice_set (slice_set (slice_set (replicate 32 0) 8 0x00420000) 10 0x7FFFFFFF) 11 1

-- the code, and the data that may be read
abbrev sight : ℕ → Option ℕ → Sighted
sight unit word = record { unit = unit; word = word; general = registers; late = None; entries = lent 0x00400000 Read 0 1 0 false ∷ lent 0x00410000 Read 1 2 0 true ∷ []; answer = 0 }

abbrev denial : ℕ → Denied → ℕ → Rule → ℕ → Denial
denial pc kind addr by code = record { process = 1; pc = pc; kind = kind; addr = addr; rule = by; code = code }

pub a_store_where_nothing_is : denial_text shown (denial 0x00400004 denied.Store 0x00420004 (rule.Number 0) 3) (sight 0x00400004 (Some 0xAD000004))
    ≡ codes "    process 1 at one.s:2 loop: sw $0,4($8), with $8 00420000\n"
    ++ codes "    by no rule; the nearest entry is at 00410000, by rule 2 (line 5 of the policy): nothing is granted at this page\n"
    ++ codes "    to mend: add a `[[rule]]` for this process and page address, or correct the address\n"
unfolding text_of form_of hex4 hex8 is_label digits asm_on_literals at_text slot_text did_text what_text by_text rule_number_text nearest_text decided_text value_text values_text reason_words mend_words denial_text process_text mend_line command_text near_text alone_text
a_store_where_nothing_is = refl

-- the instruction reads what the register held before its load
pub an_address_from_before_a_load : denial_text shown (denial 0x00400004 denied.Store 0x00410004 (rule.Number 2) 1) (record (sight 0x00400004 (Some 0xAD000004)) { late = Some (record { register = 8; old = 0x00410000 }) })
    ≡ codes "    process 1 at one.s:2 loop: sw $0,4($8), with $8 00410000 (from before its load)\n"
    ++ codes "    by rule 2 (line 5 of the policy), page data: it grants reading alone\n"
    ++ codes "    to mend: write the right `write` there, or store to another page\n"
unfolding text_of form_of hex4 hex8 is_label digits asm_on_literals at_text slot_text did_text what_text by_text rule_number_text nearest_text decided_text value_text values_text reason_words mend_words denial_text process_text mend_line command_text near_text alone_text
an_address_from_before_a_load = refl

-- in the slot of the branch in line 3, two numbers whose sum does not fit
pub an_overflow_in_a_slot : denial_text shown (denial 0x0040000C denied.Exec 0x0040000C rule.I 12) (sight 0x00400008 (Some 0x014B4820))
    ≡ codes "    process 1 at one.s:4 loop+8, in the slot of one.s:3 loop+4: add $9,$10,$11, with $10 7FFFFFFF and $11 00000001\n"
    ++ codes "    by the processor: 12: the result does not fit into 32 bits with a sign\n"
    ++ codes "    to mend: write `addu`, `addiu` or `subu`, which wrap around, or use smaller numbers\n"
unfolding text_of form_of hex4 hex8 is_label digits asm_on_literals at_text slot_text did_text what_text by_text rule_number_text nearest_text decided_text value_text values_text reason_words mend_words denial_text process_text mend_line command_text near_text alone_text
an_overflow_in_a_slot = refl

-- two numbers of which one is from before its load
pub an_overflow_from_before_a_load : denial_text shown (denial 0x0040000C denied.Exec 0x0040000C rule.I 12) (record (sight 0x0040000C (Some 0x014B4820)) { late = Some (record { register = 11; old = 2 }) })
    ≡ codes "    process 1 at one.s:4 loop+8: add $9,$10,$11, with $10 7FFFFFFF and $11 00000002 (from before its load)\n"
    ++ codes "    by the processor: 12: the result does not fit into 32 bits with a sign\n"
    ++ codes "    to mend: write `addu`, `addiu` or `subu`, which wrap around, or use smaller numbers\n"
unfolding text_of form_of hex4 hex8 is_label digits asm_on_literals at_text slot_text did_text what_text by_text rule_number_text nearest_text decided_text value_text values_text reason_words mend_words denial_text process_text mend_line command_text near_text alone_text
an_overflow_from_before_a_load = refl

-- a give that is answered 16
pub a_refused_give : denial_text shown (denial 0x00400004 denied.Give 0x00410000 (rule.Number 2) 8) (record (sight 0x00400004 (Some 12)) { answer = 16 })
    ≡ codes "    process 1 at one.s:2 loop: syscall, with $4 00000000, $5 00000000, $6 00000000 and $7 00000000\n"
    ++ codes "    by rule 2 (line 5 of the policy), page data: 16: the receiver has an entry at its address already\n"
    ++ codes "    to mend: write another address into register 6, or let the receiver `drop` that entry before\n"
unfolding text_of form_of hex4 hex8 is_label digits asm_on_literals at_text slot_text did_text what_text by_text rule_number_text nearest_text decided_text value_text values_text reason_words mend_words denial_text process_text mend_line command_text near_text alone_text
a_refused_give = refl

-- an entry by a command, which another process gave, and a place outside of all sources
pub a_fetch_that_is_denied : denial_text shown (denial 0x00500000 denied.Fetch 0x00500000 (rule.Number 1003) 2) (record (sight 0x00500000 None) { entries = record { address = 0x00500000; grant = granted 1003 Nothing 2 false } ∷ [] })
    ≡ codes "    process 1 at 00500000: no instruction was fetched\n"
    ++ codes "    by command 3 of the input, given by process 2: it took the right away\n"
    ++ codes "    to mend: leave that command out, or grant the page anew by a later command\n"
unfolding text_of form_of hex4 hex8 is_label digits asm_on_literals at_text slot_text did_text what_text by_text rule_number_text nearest_text decided_text value_text values_text reason_words mend_words denial_text process_text mend_line command_text near_text alone_text
a_fetch_that_is_denied = refl

pub a_refused_command : refused_text 2 16
    ≡ codes "    command 2 of the input: an entry with a right stands there already\n    to mend: let a `drop` of that address come before\n"
unfolding digits command_words command_mend refused_text meaning_line mend_line command_text
a_refused_command = refl
