-- Calls and commands keep states lawful.
use Rattle.std.proofs.Common.{◌≡◌, ℕ, ◌+◌, ◌-◌, ◌^◌, ◌<◌, ◌≤◌, Bool, true, false, cond, not, ◌&&◌, nat_lt, List, [], ◌∷◌, length, length-set, Result, Ok, Err, refl, sym, ap, subst, arith, ltb-true}
use Rattle.std.specs.Prelude.{slice_set, slice_index_or}
use Rattle.ds_procs.specs.declared.process.Standing.TheVariants.{Waiting, Ended}
use Rattle.ds_procs.specs.declared.call.Call.{Call}
use Rattle.ds_procs.specs.declared.call.Call.TheVariants as call
use Rattle.ds_policy.specs.declared.command.Command.{Command}
use Rattle.ds_policy.specs.declared.command.Command.TheVariants as command
use Rattle.ds_policy.specs.declared.command.TimedCommand.{TimedCommand}
use Rattle.ds_policy.specs.Grants.{PageState, end_process}
use Rattle.ds_pagemap.specs.Machine.{State, Process, no_process, process_of, lives, is_parked, made_ready, made_unready}
use Rattle.ds_pagemap.specs.Calls.{with_pages, ended, refuse_command, or_logged, after_command, answered, or_number, or_denied, queue_of, after_put, after_get, after_wait, served}
use Rattle.ds_pagemap.specs.Boundary.{after_commands}
use Rattle.ds_pagemap_laws.specs.Lawful.{IsLawful}
use Rattle.ds_pagemap_laws.proofs.Tables.{IsAsLong, IsAsLongIfDone, give_long, take_long, drop_own_long, grant_long, narrow_long, revoke_long, drop_long, end_long}
use Rattle.ds_pagemap_laws.proofs.Formed.{as_many, formed_with, ready_formed, unready_formed, answered_formed}
use Rattle.ds_pagemap_laws.proofs.Sets.{shared}
use Rattle.ds_pagemap_laws.proofs.Asleep.{ready_asleep, unready_asleep, answered_asleep, taken_asleep}

answered_lawful : (m : State) (p v : ℕ) → IsLawful m → IsLawful (answered m p v)
answered_lawful m p v k = record { formed = answered_formed m p v k.formed; asleep = answered_asleep m p v k.asleep }

ready_lawful : (m : State) (p : ℕ) → 0 < p → p ≤ length m.processes → IsLawful m → IsLawful (made_ready m p)
ready_lawful m p above within k = record { formed = ready_formed m p above within k.formed; asleep = ready_asleep m p k.asleep }

pages_lawful : (m : State) (s : PageState) → IsAsLong m.memory s → IsLawful m → IsLawful (with_pages m s)
pages_lawful m s e k = record { formed = formed_with m s m.queues m.consoles m.log m.time m.commands m.characters m.owed e refl refl k.formed; asleep = k.asleep }

refused_lawful : (m : State) (n number : ℕ) → IsLawful m → IsLawful (refuse_command m n number)
refused_lawful m n number k = record { formed = formed_with m m.memory m.queues m.consoles (refuse_command m n number).log m.time m.commands m.characters m.owed refl refl refl k.formed; asleep = k.asleep }

ended_lawful : (m : State) (p : ℕ) → 0 < p → IsLawful m → IsLawful (ended m p)
ended_lawful m p above k = pages_lawful (made_unready m p Ended) (end_process m.memory p) (end_long m.memory p)
    (record { formed = unready_formed m p Ended above k.formed; asleep = unready_asleep m p Ended refl k.asleep })

number_lawful : (m : State) (p : ℕ) (r : Result PageState ℕ) → IsAsLongIfDone m.memory r → IsLawful m → IsLawful (or_number m p r)
number_lawful m p (Ok s) e k = answered_lawful (with_pages m s) p 0 (pages_lawful m s e k)
number_lawful m p (Err n) e k = answered_lawful m p n k

denied_lawful : (m : State) (p pc a : ℕ) (r : Result PageState ℕ) → IsAsLongIfDone m.memory r → IsLawful m → IsLawful (or_denied m p pc a r)
denied_lawful m p pc a (Ok s) e k = answered_lawful (with_pages m s) p 0 (pages_lawful m s e k)
denied_lawful m p pc a (Err n) e k =
    let l = answered_lawful m p n k in
    record { formed = formed_with (answered m p n) m.memory m.queues m.consoles (or_denied m p pc a (Err n)).log m.time m.commands m.characters m.owed refl refl refl l.formed; asleep = l.asleep }

put_lawful : (m : State) (p byte : ℕ) → IsLawful m → IsLawful (after_put m p byte)
put_lawful m p byte k = record {
  formed = formed_with m m.memory m.queues (after_put m p byte).consoles m.log m.time m.commands m.characters m.owed refl refl (length-set m.consoles (process_of m p).line _) k.formed;
  asleep = k.asleep;
}

get_lawful : (m : State) (p : ℕ) (q : List ℕ) → queue_of m p ≡ q → IsLawful m → IsLawful (after_get m p q)
get_lawful m p [] is k = answered_lawful m p (2 ^ 32 - 1) k
get_lawful m p (byte ∷ rest) is k =
    let l = (process_of m p).line in
    answered_lawful (record m { queues = slice_set m.queues l rest }) p byte (record {
      formed = formed_with m m.memory (slice_set m.queues l rest) m.consoles m.log m.time m.commands m.characters m.owed refl (length-set m.queues l rest) refl k.formed;
      asleep = taken_asleep m l byte rest is k.asleep;
    })

wait_lawful : (m : State) (p : ℕ) (q : List ℕ) → queue_of m p ≡ q → 0 < p → IsLawful m → IsLawful (after_wait m p q)
wait_lawful m p [] is above k = record { formed = unready_formed m p Waiting above k.formed; asleep = unready_asleep m p Waiting (ap (λ (l : List ℕ). nat_lt 0 (length l)) is) k.asleep }
wait_lawful m p (byte ∷ rest) is above k = k

-- an answer changes no queue and no line
same_queue : (m : State) (p v : ℕ) → 0 < p → p ≤ length m.processes → queue_of (answered m p v) p ≡ queue_of m p
same_queue m p v above within = ap (λ (l : ℕ). slice_index_or m.queues l []) (shared (λ (q : Process). q.line) m.processes (p - 1) (p - 1) _ no_process refl)

-- a call of a process that is there
pub served_lawful : (m : State) (p pc : ℕ) (c : Call) → 0 < p → p ≤ length m.processes → IsLawful m → IsLawful (served m p pc c)
served_lawful m p pc call.Exit above within k = ended_lawful m p above k
served_lawful m p pc (call.Put byte) above within k = answered_lawful (after_put m p byte) p 0 (put_lawful m p byte k)
served_lawful m p pc call.Get above within k = get_lawful m p (queue_of m p) refl k
served_lawful m p pc call.Yield above within k = ready_lawful (answered m p 0) p above (subst (λ (n : ℕ). p ≤ n) (sym (as_many m p _)) within) (answered_lawful m p 0 k)
served_lawful m p pc call.Time above within k = answered_lawful m p m.time k
served_lawful m p pc call.Own above within k = answered_lawful m p p k
served_lawful m p pc (call.Give a receiver to mode) above within k = denied_lawful m p pc a _ (give_long (lives m) m.memory p a receiver to mode) k
served_lawful m p pc (call.Take q a) above within k = number_lawful m p _ (take_long (lives m) m.memory p q a) k
served_lawful m p pc (call.Drop a) above within k = number_lawful m p _ (drop_own_long m.memory p a) k
served_lawful m p pc call.Wait above within k = wait_lawful (answered m p 0) p (queue_of m p) (same_queue m p 0 above within) above (answered_lawful m p 0 k)
served_lawful m p pc call.Unknown above within k = answered_lawful m p (2 ^ 32 - 1) k

-- Commands.

logged_lawful : (m : State) (n : ℕ) (r : Result PageState ℕ) → IsAsLongIfDone m.memory r → IsLawful m → IsLawful (or_logged m n r)
logged_lawful m n (Ok s) e k = pages_lawful m s e k
logged_lawful m n (Err number) e k = refused_lawful m n number k

-- who lives is there
both : (a b : Bool) → (a && b) ≡ true → (a ≡ true) × (b ≡ true)
both true b e = (refl, e)
both false b e = absurd cc

there : (m : State) (p : ℕ) → lives m p ≡ true → (0 < p) × (p ≤ length m.processes)
there m p alive =
    let parts = both (nat_lt 0 p) _ alive in
    let within = ltb-true p (length m.processes + 1) ((both (nat_lt p (length m.processes + 1)) _ parts.1).0) in
    (ltb-true 0 p parts.0, omega (arith, within))

resume_by : (alive parked : Bool) (m : State) (n p : ℕ) → (alive ≡ true → (0 < p) × (p ≤ length m.processes)) → IsLawful m → IsLawful (cond (not alive) (refuse_command m n 12) (cond (not parked) (refuse_command m n 15) (made_ready m p)))
resume_by false parked m n p is k = refused_lawful m n 12 k
resume_by true false m n p is k = refused_lawful m n 15 k
resume_by true true m n p is k = ready_lawful m p (is refl).0 (is refl).1 k

stop_by : (alive : Bool) (m : State) (n p : ℕ) → (alive ≡ true → (0 < p) × (p ≤ length m.processes)) → IsLawful m → IsLawful (cond (not alive) (refuse_command m n 12) (ended m p))
stop_by false m n p is k = refused_lawful m n 12 k
stop_by true m n p is k = ended_lawful m p (is refl).0 k

pub command_lawful : (m : State) (n : ℕ) (c : Command) → IsLawful m → IsLawful (after_command m n c)
command_lawful m n (command.Grant p a page right may) k = logged_lawful m n _ (grant_long (lives m) m.memory p a page right may (1000 + n)) k
command_lawful m n (command.Narrow p a) k = logged_lawful m n _ (narrow_long (lives m) m.memory p a) k
command_lawful m n (command.Revoke p a) k = logged_lawful m n _ (revoke_long (lives m) m.memory p a (1000 + n)) k
command_lawful m n (command.Drop p a) k = logged_lawful m n _ (drop_long (lives m) m.memory p a) k
command_lawful m n (command.Resume p) k = resume_by (lives m p) (is_parked (process_of m p).standing) m n p (there m p) k
command_lawful m n (command.Stop p) k = stop_by (lives m p) m n p (there m p) k

pub commands_lawful : (m : State) (cs : List TimedCommand) → IsLawful m → IsLawful (after_commands m cs)
commands_lawful m [] k = k
commands_lawful m (c ∷ rest) k = commands_lawful (after_command m c.number c.command) rest (command_lawful m c.number c.command k)
