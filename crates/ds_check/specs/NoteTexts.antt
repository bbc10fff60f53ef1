-- Notes as text, a line for each.
use Rattle.std.specs.Prelude.{codes, decimal, ℕ, ◌-◌, List, [], ◌++◌, slice_get, Option, None, Some}
use Rattle.std.specs.List.{flat_map}
use Rattle.ds_policy.specs.declared.policy.PolicyPage.{PolicyPage}
use Rattle.ds_check.specs.declared.notes.input.Crowd.{Crowd}
use Rattle.ds_check.specs.declared.notes.instruction.CodeNote.{CodeNote}
use Rattle.ds_check.specs.declared.notes.instruction.CodeNote.TheVariants.{BranchInSlot, LoadDelay, KernelRegister}
use Rattle.ds_check.specs.declared.notes.instruction.PlacedNote.{PlacedNote}
use Rattle.ds_check.specs.declared.notes.policy.PolicyNote.{PolicyNote}
use Rattle.ds_check.specs.declared.notes.policy.PolicyNote.TheVariants.{StartOffFour, StartNotGranted, PartPastEnd, UnusedPage, WritableCode}

-- that a register is read
abbrev pub register_text : ℕ → List ℕ → List ℕ
register_text register what = codes ": it reads register " ++ (decimal register ++ what)

-- what is said of an instruction
abbrev pub code_note_text : CodeNote → List ℕ
code_note_text BranchInSlot = codes ": it is a branch in the slot of another, which is fault 10; put a `nop` between\n"
code_note_text (LoadDelay register) = register_text register (codes ", which is still being loaded; put a `nop` between, or compile with `-march=r3000`\n")
code_note_text (KernelRegister register) = register_text register (codes ", which the kernel may change before any instruction; take another register\n")

-- a note on a source of this name
abbrev pub code_line : List ℕ → PlacedNote → List ℕ
code_line name note = name ++ (codes " " ++ (decimal note.at.line ++ code_note_text note.note))

-- the notes on a source of this name
abbrev pub code_notes_text : List ℕ → List PlacedNote → List ℕ
code_notes_text name notes = flat_map (code_line name) notes

-- what is said of a process
abbrev pub process_note_line : ℕ → List ℕ → List ℕ
process_note_line process what = codes "process " ++ (decimal process ++ what)

-- what is said of a page
abbrev pub named_line : PolicyPage → List ℕ → List ℕ
named_line page what = codes "page " ++ (page.name ++ what)

-- the same, where there is a page of this number
abbrev pub page_line : List PolicyPage → ℕ → List ℕ → List ℕ
page_line pages number what = named (slice_get pages number)
  where
    named : Option PolicyPage → List ℕ
    named None = []
    named (Some page) = named_line page what

-- a note on a policy with these pages
abbrev pub policy_line : List PolicyPage → PolicyNote → List ℕ
policy_line pages (StartOffFour process) = process_note_line process (codes ": its start is no multiple of four, so its first fetch is denied\n")
policy_line pages (StartNotGranted process) = process_note_line process (codes ": no rule lets it read the page of its start, so its first fetch is denied\n")
policy_line pages (PartPastEnd page) = page_line pages page (codes ": its part begins where its source has no bytes, so it is all zeros\n")
policy_line pages (UnusedPage page) = page_line pages page (codes ": no rule names it\n")
policy_line pages (WritableCode page) = page_line pages page (codes ": it has a part of a source, and a rule lets a process write it\n")

-- the notes on a policy with these pages
abbrev pub policy_notes_text : List PolicyPage → List PolicyNote → List ℕ
policy_notes_text pages notes = flat_map (policy_line pages) notes

-- how many characters come in
unfoldable pub come_in : ℕ → List ℕ
come_in count = decimal count ++ codes " characters come in, and a boundary takes 64, so it loses "

-- how many of so many a boundary loses
unfoldable pub loses : ℕ → List ℕ
loses count = decimal (count - 64) ++ codes ": give those after the 64th a later time\n"

-- when characters come in
unfoldable pub comes_at_text : ℕ → List ℕ
comes_at_text time = codes "input, time " ++ (decimal time ++ codes ": ")

-- what is said of characters that come in together
abbrev pub crowd_line : Crowd → List ℕ
crowd_line c = comes_at_text c.time ++ (come_in c.count ++ loses c.count)

-- the notes on an input
abbrev pub crowds_text : List Crowd → List ℕ
crowds_text crowds = flat_map crowd_line crowds
