-- What a run writes whose station is given back, and what holds of it by what its run came to.
use Rattle.std.proofs.Common.{◌≡◌, ℕ, List, Option, Result, Ok, Err, refl, sym, ap, subst}
use Rattle.std.specs.Prelude.{OnOk, OnErr, IfErr}
use Rattle.std.specs.Io.KnownBytes.{Appends}
use Rattle.ds_pagemap.specs.Machine.{State}
use Rattle.ds_pagemap.specs.Inputs.{Refusal}
use Rattle.ds_refinement.specs.Held.{Held}
use Rattle.ds_refinement.specs.Runs.{RunsTo}
use Rattle.ds_refinement.specs.Stands.{Stands}
use Rattle.ds_station.specs.Faults.{is_unwritten}
use Rattle.ds_station.specs.Headline.{Begins, Writes, held_text}
use Rattle.ds_station.specs.Inner.Outcome.{WritesBy}
use Rattle.ds_station.specs.declared.fault.Fault.{Fault}
use Rattle.ds_station.specs.declared.fault.Fault.TheVariants as fault
use Rattle.ds_station.proofs.Headlines.{text_alike}

-- what a run writes that has ended in a state for which the station stands
pub writes_by : (old new : Option (List ℕ)) (n : ℕ) (read : Result State Refusal) (s t : Held) → Begins read (Stands s) → RunsTo n s t → Appends old new (held_text t) → Begins read (WritesBy t old new n)
writes_by old new n read s t b r a =
    let u = r.runs b.0 b.2 in
    (b.0, b.1, record { last = u.0; ends = u.1; stands = u.2; written = subst (Appends old new) (text_alike t u.0 u.2) a })

-- it is its text
pub writes_of : (old new : Option (List ℕ)) (n : ℕ) (read : Result State Refusal) (t : Held) → Begins read (WritesBy t old new n) → Begins read (Writes old new n)
writes_of old new n read t b = (b.0, b.1, record { last = b.2.last; ends = b.2.ends; written = b.2.written })

-- What is so by an answer is so of each value that it is known to be.

pub on_ok : {T E P : Type 0} (r : Result T E) (x : T) → r ≡ Ok x → OnOk r P → P
on_ok {P = P} r x is so = subst (λ r. OnOk r P) is so

pub if_err : {T E : Type 0} (P : E → Type 0) (r : Result T E) (e : E) → r ≡ Err e → IfErr r P → P e
if_err P r e is so = subst (λ r. IfErr r P) is so

pub on_err : {T E P : Type 0} (r : Result T E) (e : E) → r ≡ Err e → OnErr r P → P
on_err {P = P} r e is so = subst (λ r. OnErr r P) is so

-- whether a write failed does not hang on what there would be else
pub unwritten_alike : (T U : Type 0) (f : Fault) → is_unwritten {T = T} (Err f) ≡ is_unwritten {T = U} (Err f)
unwritten_alike T U fault.WriteFault = refl
unwritten_alike T U f = refl
