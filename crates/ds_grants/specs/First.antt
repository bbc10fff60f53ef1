-- The grants that a policy begins with.
use Rattle.std.specs.Prelude.{false, length, replicate}
use Rattle.std.specs.List.{range_with_len}
use Rattle.ds_policy.specs.Value.{PolicyValue}
use Rattle.ds_policy.specs.FirstTable.{table_of}
use Rattle.ds_grants.specs.State.{GrantsState}

-- what a policy's rules grant, each page in the frame of its number
abbrev pub first_grants : PolicyValue → GrantsState
first_grants policy = record {
  table = table_of policy;
  frames = policy.frames;
  named = length policy.pages;
  ended = replicate (length policy.processes) false;
  lies = range_with_len 0 policy.frames;
  shared = replicate policy.frames false;
}
