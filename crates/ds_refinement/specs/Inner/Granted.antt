-- What a user may reach in memory.
use Rattle.std.specs.Prelude.{◌≡◌, ℕ, ◌+◌, ◌*◌, ◌%◌, ◌^◌, ◌<◌, true, false}
use Rattle.ds_isa.specs.declared.instr.Kind.{Kind}
use Rattle.ds_isa.specs.declared.instr.Kind.TheVariants.{Store}
use Rattle.ds_isa.specs.declared.instr.Size.{Size}
use Rattle.ds_policy.specs.declared.access.Verdict.TheVariants.{Allowed}
use Rattle.ds_policy.specs.Pages.{decide}
use Rattle.ds_grants.specs.State.{GrantsState, is_live, is_shared, frame_of_page}

-- The table allows a process an access on a page that lives, and this place in memory lies in the
-- page's frame as the address does in its page. No other page lies there where it is stored to.
pub record IsGranted (g : GrantsState) (p : ℕ) (access : Kind) (size : Size)
    (address place : ℕ) : Type 0 where
  pub page : ℕ
  pub allowed : decide g.table p access size address ≡ Allowed page (address % 4096)
  pub lives : is_live g page ≡ true
  pub low : page < g.frames
  pub lies : place ≡ frame_of_page g page * 4096 + address % 4096
  pub small : place < 2 ^ 23
  pub alone : access ≡ Store → is_shared g page ≡ false
