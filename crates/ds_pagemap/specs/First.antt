-- The state that a run begins with.
use Rattle.std.specs.Prelude.{ℕ, zero, suc, ◌+◌, ◌-◌, List, [], ◌∷◌, ◌++◌, length, map, replicate, slice_index_or, bytes_eq, position, Option, Some, None}
use Rattle.ds_procs.specs.declared.process.Standing.TheVariants.{Ready}
use Rattle.ds_isa.specs.Registers.{zero_registers}
use Rattle.ds_policy.specs.declared.policy.PolicyProcess.{PolicyProcess}
use Rattle.ds_policy.specs.declared.policy.PolicyPage.{PolicyPage}
use Rattle.ds_policy.specs.declared.policy.Source.{Source}
use Rattle.ds_policy.specs.Value.{PolicyValue, InputValue}
use Rattle.ds_policy.specs.Pages.{Pages}
use Rattle.ds_policy.specs.FirstTable.{table_of}
use Rattle.ds_policy.specs.PolicyParts.{sources_of}
use Rattle.ds_asm.specs.Images.{page_of_image}
use Rattle.ds_pagemap.specs.Machine.{State, Process}

-- the image at a place
abbrev pub image_at : List (List ℕ) → Option ℕ → List ℕ
image_at images None = []
image_at images (Some i) = slice_index_or images i []

-- the image of a source, where there is one for each of these names
abbrev pub image_named : List (List ℕ) → List (List ℕ) → List ℕ → List ℕ
image_named names images name = image_at images (position (λ n. bytes_eq n name) names)

-- the bytes of a page with this source, or without one
abbrev pub source_bytes : List (List ℕ) → List (List ℕ) → Option Source → List ℕ
source_bytes names images None = replicate 4096 0
source_bytes names images (Some s) = page_of_image (image_named names images s.name) s.part

-- the named pages, and room for the others
abbrev pub first_pages : PolicyValue → List (List ℕ) → Pages
first_pages policy images =
    map (λ (page : PolicyPage). Some (source_bytes (sources_of policy.pages) images page.source)) policy.pages
    ++ replicate (policy.frames - length policy.pages) None

-- a process at its start
abbrev pub first_process : PolicyProcess → Process
first_process p = record { registers = zero_registers; pc = p.start; standing = Ready; line = p.line }

-- so many numbers, from k up
abbrev pub numbers : ℕ → ℕ → List ℕ
numbers zero k = []
numbers (suc n) k = k ∷ numbers n (k + 1)

-- the first state of a policy, the images of its sources in the order of their names, and an input
abbrev pub first_state : PolicyValue → List (List ℕ) → InputValue → State
first_state policy images input = record {
  memory = record { pages = first_pages policy images; table = table_of policy; named = length policy.pages };
  rate = policy.rate;
  processes = map first_process policy.processes;
  ready = numbers (length policy.processes) 1;
  queues = replicate 4 [];
  consoles = replicate 4 [];
  log = [];
  time = 0;
  commands = input.commands;
  characters = input.characters;
  owed = None;
}
