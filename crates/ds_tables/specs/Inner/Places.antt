-- Where the page tables of processes stand: each process has four places for tables, each in a frame of memory of its own.
use Rattle.std.specs.Prelude.{ℕ, ◌-◌, Bool, true, false, ◌==◌, ◌||◌, if◌then◌else◌, map, position, slice_set, Option, Some, None, is_some}
use Rattle.ds_tables.specs.Places.{Places, holds, places_of, region_place}

-- whether no table stands at a place
abbrev pub is_free : Option ℕ → Bool
is_free None = true
is_free (Some r) = false

-- a place once it isn't the region's
abbrev pub freed : ℕ → Option ℕ → Option ℕ
freed region place = if holds region place then None else place

-- the first place of a process where no table stands
abbrev pub free_place : Places → ℕ → Option ℕ
free_place t p = position is_free (places_of t p)

-- whether a region has a table, or there is a place for one
abbrev pub has_place : Places → ℕ → ℕ → Bool
has_place t p region = is_some (region_place t p region) || is_some (free_place t p)

-- a region's table at a place
abbrev pub with_place : Places → ℕ → ℕ → ℕ → Places
with_place t p place region = slice_set t (p - 1) (slice_set (places_of t p) place (Some region))

-- by the region's place and the first that is free
abbrev pub opened_by : Places → ℕ → ℕ → Option ℕ → Option ℕ → Places
opened_by t p region (Some place) free = t
opened_by t p region None None = t
opened_by t p region None (Some free) = with_place t p free region

-- the region has a table, where there is a place for it
abbrev pub opened : Places → ℕ → ℕ → Places
opened t p region = opened_by t p region (region_place t p region) (free_place t p)

-- the region has no table
abbrev pub closed : Places → ℕ → ℕ → Places
closed t p region = if p == 0 then t else slice_set t (p - 1) (map (freed region) (places_of t p))
