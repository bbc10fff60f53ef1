-- What a session answers to the data of a packet.
use Rattle.std.specs.Prelude.{◌≡◌, ⊤, ℕ, Bool, true, false, List, ◌++◌, Result, Ok, Err}
use Rattle.ds_packets.specs.Packets.{packet_of}
use Rattle.ds_packets.specs.declared.packet.Packet.{Packet}
use Rattle.ds_packets.specs.declared.packet.Refusal.{Refusal}
use Rattle.ds_pagemap.specs.Machine.{State}
use Rattle.ds_debug.specs.Sessions.{SessionState}
use Rattle.ds_debug.specs.Sights.{Sight}
use Rattle.ds_debug.specs.Inner.Sights.{sight_in}
use Rattle.ds_debug.specs.declared.session.Course.{Course}
use Rattle.ds_debug.specs.declared.session.Course.TheVariants as course
use Rattle.ds_debug.specs.Answering.{plain_text, course_by}

-- that is back
abbrev pub is_back : Course → Bool
is_back course.Nowhere = false
is_back (course.Forward action) = false
is_back (course.Backward action) = true

-- what the words say lets a session go back
abbrev pub goes_back_by : Result Packet Refusal → Bool
goes_back_by (Err refusal) = false
goes_back_by (Ok packet) = is_back (course_by packet)

-- the data of a packet do
abbrev pub goes_back : List ℕ → Bool
goes_back words = goes_back_by (packet_of words)

-- what is answered to a packet that lets a session go nowhere, where this is seen
abbrev pub TellsWhere : Course → Sight → SessionState → Packet → List ℕ → List ℕ → Type 0
TellsWhere course.Nowhere v s packet before after = after ≡ before ++ plain_text v s packet
TellsWhere (course.Forward action) v s packet before after = ⊤
TellsWhere (course.Backward action) v s packet before after = ⊤

-- by what the words say
abbrev pub TellsBy : Result Packet Refusal → Sight → SessionState → List ℕ → List ℕ → Type 0
TellsBy (Err refusal) v s before after = ⊤
TellsBy (Ok packet) v s before after = TellsWhere (course_by packet) v s packet before after

-- the answer to the data of a packet that lets a session go nowhere is told of a machine state
abbrev pub TellsOf : List ℕ → State → SessionState → List ℕ → List ℕ → Type 0
TellsOf words m = TellsBy (packet_of words) (sight_in m)
