-- Pages that lie in one frame, and what the buffer has of a page whose frame or mark changed.
use Rattle.std.specs.Prelude.{◌≡◌, ◌≢◌, ℕ, true, false, slice_index, slice_set}
use Rattle.ds_grants.specs.State.{GrantsState, is_live, is_shared}

-- a page without bytes of its own yet lies where another lies, and both are marked
abbrev pub with_copy : GrantsState → ℕ → ℕ → GrantsState
with_copy g page copy = record g {
  lies = slice_set g.lies copy (slice_index g.lies page);
  shared = slice_set (slice_set g.shared page true) copy true;
}

-- a page lies in this frame, alone
abbrev pub with_own_frame : GrantsState → ℕ → ℕ → GrantsState
with_own_frame g page frame = record g {
  lies = slice_set g.lies page frame;
  shared = slice_set g.shared page false;
}

-- wherever another page that lives lies in its frame, both are marked
abbrev pub IsMarked : GrantsState → ℕ → Type 0
IsMarked g page = (other : ℕ) → is_live g other ≡ true → other ≢ page
    → slice_index g.lies other ≡ slice_index g.lies page
    → (is_shared g other ≡ true) × (is_shared g page ≡ true)

-- all is as before but where one page lies and whether it is marked
pub record LiesOtherwise (page : ℕ) (old new : GrantsState) : Type 0 where
  pub table : new.table ≡ old.table
  pub frames : new.frames ≡ old.frames
  pub named : new.named ≡ old.named
  pub ended : new.ended ≡ old.ended
  pub lies : (q : ℕ) → q ≢ page → slice_index new.lies q ≡ slice_index old.lies q
  pub shared : (q : ℕ) → q ≢ page → is_shared new q ≡ is_shared old q
