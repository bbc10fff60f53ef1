-- What the program has done.
use Rattle.std.specs.Prelude.{[], Some}
use Rattle.ds_drive.specs.Done.{Stream, stream}

-- nothing was to be read
abbrev pub no_input : Stream
no_input = stream (Some []) (Some [])
