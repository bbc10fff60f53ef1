-- Why something was denied.
use Rattle.std.specs.Prelude.{ℕ, ◌==◌, nat_lt, Bool, true, false, not, if◌then◌else◌, Option, Some, None}
use Rattle.ds_policy.specs.declared.access.Rule.{Rule}
use Rattle.ds_policy.specs.declared.access.Rule.TheVariants.{Number, K, A, I}
use Rattle.ds_policy.specs.declared.grant.Grant.{Grant}
use Rattle.ds_policy.specs.declared.grant.Right.{Right}
use Rattle.ds_policy.specs.declared.grant.Right.TheVariants.{Nothing, Read, Write}
use Rattle.ds_policy.specs.declared.policy.PolicyRule.{PolicyRule}
use Rattle.ds_log.specs.declared.line.Denied.{Denied}
use Rattle.ds_log.specs.declared.line.Denied.TheVariants as denied
use Rattle.ds_log_reasons.specs.declared.reason.Reason.{Reason}
use Rattle.ds_log_reasons.specs.declared.reason.Reason.TheVariants as reason

-- a right is one to read or to write
abbrev pub is_some_right : Right → Bool
is_some_right Nothing = false
is_some_right Read = true
is_some_right Write = true

-- a right is one to write
abbrev pub is_write : Right → Bool
is_write Nothing = false
is_write Read = false
is_write Write = true

-- a rule of the policy grants something
abbrev pub grants : Option PolicyRule → Bool
grants None = false
grants (Some rule) = is_some_right rule.right

-- it grants writing
abbrev pub grants_writing : Option PolicyRule → Bool
grants_writing None = false
grants_writing (Some rule) = is_write rule.right

-- why an entry by this rule has no right, where the policy's rule of that number is this one: numbers above 1,000 are those of commands
abbrev pub taken_reason : ℕ → Option PolicyRule → Reason
taken_reason rule said = if nat_lt 1000 rule then reason.Revoked else (if grants said then reason.Ended else reason.Forbidden)

-- why one may be read alone: another process gave it, a command granted it, or by its rule
abbrev pub read_reason : ℕ → ℕ → Option PolicyRule → Reason
read_reason rule giver said =
    if not (giver == 0) then reason.GivenToRead
    else if nat_lt 1000 rule then reason.GrantedToRead
    else if grants_writing said then reason.Narrowed
    else reason.ReadAlone

-- why an access was denied by an entry with this right
abbrev pub right_reason : Right → Grant → Option PolicyRule → Reason
right_reason Nothing g said = taken_reason g.rule said
right_reason Read g said = read_reason g.rule g.giver said
right_reason Write g said = reason.Unknown

-- by the entry there, if there is one; else this is the reason
abbrev pub access_reason : Reason → Option Grant → Option PolicyRule → Reason
access_reason none None said = none
access_reason none (Some g) said = right_reason g.right g said

-- what is granted may be given on
abbrev pub is_givable : Option Grant → Bool
is_givable None = false
is_givable (Some g) = g.give

-- why a give was refused by a number, by the giver's entry
abbrev pub give_reason : ℕ → Option Grant → Reason
give_reason number g =
    if number == 11 then reason.FifthRegion
    else if number == 12 then reason.NoReceiver
    else if number == 13 then reason.NoPage
    else if number == 14 then reason.NothingToGive
    else if number == 15 then (if is_givable g then reason.WrongMode else reason.MayNotGive)
    else if number == 16 then reason.IsTaken
    else if number == 17 then reason.IsFull
    else if number == 18 then reason.NoCopy
    else reason.Unknown

-- why something was denied by a numbered rule, or by none
abbrev pub number_reason : Denied → ℕ → Option Grant → Option PolicyRule → Reason
number_reason denied.Give answer g said = give_reason answer g
number_reason denied.Fetch answer g said = access_reason reason.NoCode g said
number_reason denied.Load answer g said = access_reason reason.NoEntry g said
number_reason denied.Store answer g said = access_reason reason.NoEntry g said
number_reason denied.Exec answer g said = access_reason reason.NoEntry g said

-- why an instruction faulted, by the code, and by whether it is a branch
abbrev pub fault_reason : ℕ → Bool → Reason
fault_reason code branch =
    if code == 8 then reason.CallInSlot
    else if code == 9 then reason.Breakpoint
    else if code == 10 then (if branch then reason.BranchInSlot else reason.NoInstruction)
    else if code == 11 then reason.Coprocessor
    else if code == 12 then reason.Overflow
    else reason.Unknown

-- why something was denied: by the rule and the code of its line, what was answered to a give, the entry there, what the policy's rule of its number says, and whether the instruction is a branch
abbrev pub denial_reason_of : Denied → Rule → ℕ → ℕ → Option Grant → Option PolicyRule → Bool → Reason
denial_reason_of kind (Number n) code answer g said branch = number_reason kind answer g said
denial_reason_of kind K code answer g said branch = reason.Kernel
denial_reason_of kind A code answer g said branch = reason.Unaligned
denial_reason_of kind I code answer g said branch = fault_reason code branch
