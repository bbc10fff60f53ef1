-- What the parts of a station hold.
use Rattle.std.specs.Prelude.{take}
use Rattle.ds_refinement.specs.Held.{Held, Own}
use Rattle.ds_monitor.specs.Inner.Kept.{kept_of}
use Rattle.ds_kernel.specs.declared.parts.Parts.{Parts}

-- the station's own marks and its counts
abbrev pub own_of : {L : Type 0} → Parts L → Own
own_of p = record {
  failed = p.failed;
  spent = p.spent;
  written = take p.refills p.written;
  since = p.since;
  wired = p.wired;
  tables = p.tables;
  services = p.services;
}

-- the parts of a station as what it holds
abbrev pub held : {L : Type 0} → Parts L → Held
held p = record { core = p.core; bus = p.bus; kept = kept_of p.monitor; own = own_of p }

-- the parts with other counts of the unit
abbrev pub with_counts_of : {L : Type 0} → Parts L → Parts L → Parts L
with_counts_of new old = record old {
  spent = new.spent;
  wired = new.wired;
  written = new.written;
  refills = new.refills;
  since = new.since;
  tables = new.tables;
  services = new.services;
}
