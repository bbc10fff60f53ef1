-- How a session answers the data of a packet.
use Rattle.std.specs.Prelude.{◌≡◌, ℕ, List}
use Rattle.ds_bare_debug.specs.Sessions.{BareSession, after_data, data_text}

-- a session answers data so
pub record BareReplies (words : List ℕ) (old new : BareSession) (text : List ℕ) : Type 0 where
  pub now : new ≡ after_data words old
  pub told : text ≡ data_text words old
