-- Where the page tables of processes stand: each process has four places for tables, each in a frame of memory of its own.
use Rattle.std.specs.Prelude.{◌≡◌, ℕ, ◌+◌, ◌-◌, ◌*◌, ◌/◌, ◌^◌, ◌≤◌, Bool, false, ◌==◌, if◌then◌else◌, All, List, [], length, position, slice_index_or, Option, Some, None}

-- for each process its places, and for each place the region whose table stands there
abbrev pub Places : Type 0
Places = List (List (Option ℕ))

-- at most 100 processes, each with four places
pub record ArePlaces (t : Places) : Type 0 where
  pub few : length t ≤ 100
  pub four : All (λ places. length places ≡ 4) t

-- the region of 4 MiB in which an address lies
abbrev pub region_of : ℕ → ℕ
region_of address = address / 2 ^ 22

-- whether a region's table stands at a place
abbrev pub holds : ℕ → Option ℕ → Bool
holds region None = false
holds region (Some r) = r == region

-- the places of a process; who is no process has none
abbrev pub places_of : Places → ℕ → List (Option ℕ)
places_of t p = if p == 0 then [] else slice_index_or t (p - 1) []

-- the place of a region's table
abbrev pub region_place : Places → ℕ → ℕ → Option ℕ
region_place t p region = position (holds region) (places_of t p)

-- the frame of a process's place; those of the processes lie one after the other from frame 2 on
abbrev pub table_frame : ℕ → ℕ → ℕ
table_frame p place = 2 + 4 * (p - 1) + place

-- the frame of a place, if there is one, and else that of the empty table
abbrev pub frame_of_place : ℕ → Option ℕ → ℕ
frame_of_place p None = 1
frame_of_place p (Some place) = table_frame p place

-- the frame of a region's table, or of the empty table where the region has none
abbrev pub page_of_table : Places → ℕ → ℕ → ℕ
page_of_table t p region = frame_of_place p (region_place t p region)
