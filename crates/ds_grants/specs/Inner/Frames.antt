-- How many of the pages that live lie in each frame.
use Rattle.std.specs.Prelude.{◌≡◌, ℕ, zero, suc, ◌+◌, ◌<◌, ◌≤◌, ◌==◌, ◌&&◌, List, length, slice_index}
use Rattle.std.specs.List.{sum_by}
use Rattle.ds_word.specs.Word.{truth}
use Rattle.ds_grants.specs.State.{GrantsState, is_live}

-- how many of so many pages live and lie in a frame
abbrev pub count_lying : GrantsState → ℕ → ℕ → ℕ
count_lying g frame zero = 0
count_lying g frame (suc page) =
    truth (is_live g page && (slice_index g.lies page == frame)) + count_lying g frame page

-- all counts together
abbrev pub total : List ℕ → ℕ
total counts = sum_by (λ n. n) counts

-- the list has of each of 1,024 frames how many of so many pages live and lie there
pub record AreLying (g : GrantsState) (pages : ℕ) (counts : List ℕ) : Type 0 where
  pub size : length counts ≡ 1024
  pub each : (frame : ℕ) → frame < 1024 → slice_index counts frame ≡ count_lying g frame pages
  pub few : total counts ≤ pages
