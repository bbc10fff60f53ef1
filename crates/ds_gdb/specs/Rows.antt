-- Worked rows of what gdb is told, whatever it debugs.
use Rattle.std.specs.Prelude.{codes, ◌≡◌, true, false, [], ◌∷◌, Ok, Err, refl}
use Rattle.ds_text.specs.Digits.{hex4, hex8}
use Rattle.ds_packets.specs.Scanning.{start}
use Rattle.ds_packets.specs.Scans.{Half}
use Rattle.ds_packets.specs.Streams.{all_came}
use Rattle.ds_packets.specs.declared.packet.Packet.TheVariants.{NoAcknowledgements, End}
use Rattle.ds_packets.specs.declared.scan.PacketFault.TheVariants.{Sum}
use Rattle.ds_gdb.specs.Points.{watch_text, with_watch, without_watch}
use Rattle.ds_gdb.specs.Replies.{basic_features, features_text}
use Rattle.ds_gdb.specs.Stops.{stop_text}
use Rattle.ds_gdb.specs.Streams.{acknowledges_after, ends_session, mark_text, scan_through}
use Rattle.ds_gdb.specs.declared.points.Watchpoint.{Watchpoint}
use Rattle.ds_gdb.specs.declared.stops.Reason.TheVariants as reason

-- process 1 watches a word
abbrev watched : Watchpoint
watched = record { process = 1; address = 0x410000; length = 4 }

-- gdb may go back
pub what_gdb_may_ask : features_text false ≡ codes "PacketSize=1000;ReverseStep+;ReverseContinue+;vContSupported+;QStartNoAckMode+;swbreak+;qXfer:features:read+"
unfolding basic_features
what_gdb_may_ask = refl

-- a denial, a breakpoint, and both ends of a run
pub a_denial_is_a_signal : stop_text 2 (reason.Signal 11) ≡ codes "T0bthread:p2.1;"
unfolding stop_text
a_denial_is_a_signal = refl

pub a_breakpoint_is_told : stop_text 100 reason.Break ≡ codes "T05thread:p64.1;swbreak:;"
unfolding stop_text
a_breakpoint_is_told = refl

pub a_watch_is_told : stop_text 1 (reason.Watch 0x410000) ≡ codes "T05thread:p1.1;watch:00410000;"
unfolding stop_text hex4 hex8
a_watch_is_told = refl

pub the_beginning_is_told : stop_text 1 reason.Begin ≡ codes "T05thread:p1.1;replaylog:begin;"
unfolding stop_text
the_beginning_is_told = refl

pub the_end_is_told : stop_text 1 reason.End ≡ codes "T05thread:p1.1;replaylog:end;"
unfolding stop_text
the_end_is_told = refl

-- a watch is set once, and at most 64 bytes long
pub a_watch_that_is_there : with_watch (watched ∷ []) watched ≡ watched ∷ []
a_watch_that_is_there = refl

pub a_watch_that_is_too_long : watch_text [] (record watched { length = 65 }) ≡ codes "E16"
a_watch_that_is_too_long = refl

pub a_watch_is_taken_away : without_watch (watched ∷ []) watched ≡ []
a_watch_is_taken_away = refl

pub that_of_another_process_stays : without_watch (watched ∷ []) (record watched { process = 2 }) ≡ watched ∷ []
that_of_another_process_stays = refl

-- an acknowledgement and an interrupt of gdb's are passed over, with what else stands between packets
pub what_stands_between_packets : all_came start (43 ∷ 3 ∷ codes "$?#3f") ≡ Ok (codes "?") ∷ []
what_stands_between_packets = refl

-- the sum is 3f
pub a_wrong_sum : all_came start (codes "$?#3e") ≡ Err Sum ∷ []
a_wrong_sum = refl

-- of a packet that is not whole nothing is said
pub a_packet_that_is_cut : scan_through start (codes "$?#3") ≡ Half (codes "?") 51
a_packet_that_is_cut = refl

pub a_packet_in_two_chunks : all_came (scan_through start (codes "$?#3")) (codes "f$g#67") ≡ Ok (codes "?") ∷ Ok (codes "g") ∷ []
a_packet_in_two_chunks = refl

-- marks, until gdb asks for silence
pub a_packet_is_acknowledged : mark_text true 43 ≡ codes "+"
a_packet_is_acknowledged = refl

pub silence_is_kept : mark_text (acknowledges_after NoAcknowledgements true) 43 ≡ []
silence_is_kept = refl

-- k ends the session
pub the_session_ends : ends_session End ≡ true
the_session_ends = refl
