-- What a reader returned, beside what a definition says.
use Rattle.std.specs.Prelude.{◌≡◌, ℕ, Result, Ok, Err}
use Rattle.ds_policy.specs.declared.unread.Unread.{Unread}
use Rattle.ds_policy.specs.declared.unread.Unread.TheVariants.{Reason, Memory}
use Rattle.ds_policy.specs.declared.fault.PolicyFault.{PolicyFault}
use Rattle.ds_policy.specs.declared.fault.PolicyFault.TheVariants as fault
use Rattle.ds_policy.specs.Refusal.{PolicyRefusal, limit, bad_rule, bad_toml}

-- nothing was read for this reason, or memory ran out
abbrev pub IsUnread : {Y R : Type 0} → Unread R → Result Y R → Type 0
IsUnread (Reason r) read = read ≡ Err r
IsUnread Memory read = Unit {0}

-- what a function returned, seen by view, is what was read, or why nothing was
abbrev pub IsRead : {X Y R : Type 0} → (X → Y) → Result X (Unread R) → Result Y R → Type 0
IsRead seen (Ok x) read = read ≡ Ok (seen x)
IsRead seen (Err e) read = IsUnread e read

-- the fault's number among the refusals
abbrev pub policy_fault_number : PolicyFault → ℕ
policy_fault_number fault.BadToml = 8
policy_fault_number (fault.BadRule n) = 9
policy_fault_number (fault.Limit key) = 10
policy_fault_number fault.Memory = 25

-- What a function returned, seen by view, is what reading gives, unless memory ran out.
abbrev pub Fails : {Y : Type 0} → PolicyFault → Result Y PolicyRefusal → Type 0
Fails fault.Memory read = Unit {0}
Fails fault.BadToml read = read ≡ Err bad_toml
Fails (fault.Limit key) read = read ≡ Err (limit key.now)
Fails (fault.BadRule n) read = read ≡ Err (bad_rule n)

-- what a function returned, seen by view, is what was read, or why nothing was
abbrev pub Gives : {X Y : Type 0} → (X → Y) → Result X PolicyFault → Result Y PolicyRefusal → Type 0
Gives seen (Ok x) read = read ≡ Ok (seen x)
Gives seen (Err e) read = Fails e read
