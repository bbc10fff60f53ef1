-- What is counted of a run.
use Rattle.std.specs.Prelude.{ℕ, ◌+◌, ◌-◌, ◌^◌, min, Bool, false, ◌==◌, ◌&&◌, if◌then◌else◌, List, [], ◌∷◌, ◌++◌, drop, slice_index, slice_set, is_some, Option, Some, None}
use Rattle.ds_procs.specs.declared.call.Call.{Call}
use Rattle.ds_procs.specs.declared.call.Call.TheVariants as call
use Rattle.ds_words.specs.declared.view.View.{View}
use Rattle.ds_words.specs.Views.{has_lines, shows_turn}
use Rattle.ds_trace.specs.declared.counts.Lossy.{Lossy}
use Rattle.ds_trace.specs.declared.start.Start.{Start}
use Rattle.ds_trace.specs.Looks.{Looked, Found}
use Rattle.ds_trace.specs.Boundaries.{count_keys, taken_by}
use Rattle.ds_trace.specs.Changes.{same_first}

-- what is counted of the turns that a view wants
pub record Counted : Type 0 where
  -- the units, and the ticks in which nobody runs
  pub units : ℕ
  pub idle : ℕ
  -- the half turns after which another process is first than before, or nobody
  pub switches : ℕ
  -- the calls, and those of each number
  pub made : ℕ
  pub calls : List ℕ
  -- the gives by copy that were done
  pub copies : ℕ
  -- the characters that were lost
  pub lost : ℕ
  -- the boundaries that lost some
  pub losses : List Lossy
  -- what the units logged
  pub denied : List ℕ

-- nothing yet
abbrev pub none_counted : Counted
none_counted = record {
  units = 0;
  idle = 0;
  switches = 0;
  made = 0;
  calls = 0 ∷ 0 ∷ 0 ∷ 0 ∷ 0 ∷ 0 ∷ 0 ∷ 0 ∷ 0 ∷ 0 ∷ 0 ∷ [];
  copies = 0;
  lost = 0;
  losses = [];
  denied = [];
}

-- whether no turn is counted yet: the first half turn of each is a unit or a tick in which nobody runs
abbrev pub is_unbegun : Counted → Bool
is_unbegun k = (k.units == 0) && (k.idle == 0)

-- A count with so many more. It stops at the greatest number of 64 bits, to which no run of 1,000,000,000 ticks comes.
abbrev pub plus : ℕ → ℕ → ℕ
plus count more = min (count + more) (2 ^ 64 - 1)

-- the number of a call, and 10 for all others
abbrev pub call_number : Call → ℕ
call_number call.Exit = 0
call_number (call.Put byte) = 1
call_number call.Get = 2
call_number call.Yield = 3
call_number call.Time = 4
call_number call.Own = 5
call_number (call.Give address receiver to mode) = 6
call_number (call.Take process address) = 7
call_number (call.Drop address) = 8
call_number call.Wait = 9
call_number call.Unknown = 10

-- with the call of a unit, if it is one
abbrev pub with_call : List ℕ → Option Call → List ℕ
with_call calls None = calls
with_call calls (Some c) = slice_set calls (call_number c) (plus (slice_index calls (call_number c)) 1)

-- whether a unit was a give by copy that was done, by its answer
abbrev pub is_copy : Option Call → ℕ → Bool
is_copy (Some (call.Give address receiver to mode)) answer = (mode == 3) && (answer == 0)
is_copy other answer = false

-- with a unit that logged this and was answered this
abbrev pub unit_counted : Counted → Start → List ℕ → ℕ → Counted
unit_counted k s logged answer = record k {
  units = plus k.units 1;
  made = if is_some s.call then plus k.made 1 else k.made;
  calls = with_call k.calls s.call;
  copies = if is_copy s.call answer then plus k.copies 1 else k.copies;
  denied = k.denied ++ logged;
}

-- how many characters were lost
abbrev pub lost_of : Looked → Found → ℕ
lost_of b f = b.characters - f.characters - count_keys b.queued f.queues

-- a boundary and what came in there
abbrev pub lossy_of : Looked → Found → Lossy
lossy_of b f = record { time = f.time; before = b.characters; after = f.characters; taken = taken_by b.queued f.queues }

-- that boundary, if it lost any
abbrev pub loss_of : Looked → Found → List Lossy
loss_of b f = if lost_of b f == 0 then [] else lossy_of b f ∷ []

-- with a tick in which nobody runs, where no boundary was owed; and with a boundary, after which none is
abbrev pub rest_counted : Counted → Looked → Found → Counted
rest_counted k b f = record k {
  idle = if b.owed then k.idle else plus k.idle 1;
  lost = if f.owed then k.lost else plus k.lost (lost_of b f);
  losses = if f.owed then k.losses else k.losses ++ loss_of b f;
}

-- with what was done
abbrev pub done_counted : Counted → Looked → Found → Option Start → Counted
done_counted k b f None = rest_counted k b f
done_counted k b f (Some s) = unit_counted k s (drop b.logged f.log) (slice_index f.general 2)

-- with who was first before and is first after
abbrev pub switch_counted : Counted → Option ℕ → Option ℕ → Counted
switch_counted k before after = record k { switches = if same_first before after then k.switches else plus k.switches 1 }

-- whether a turn that began at a time is counted
abbrev pub is_counted : View → ℕ → Bool
is_counted v began = has_lines v && shows_turn v began

-- the counts after a half turn, by what was before it and what is found after it
abbrev pub counted_after : View → Counted → Looked → Found → Counted
counted_after v k b f = if is_counted v b.began then switch_counted (done_counted k b f b.start) b.runner f.runner else k
