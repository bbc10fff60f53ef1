-- What a session answers without going on is told of each machine state for which its station stands.
use Rattle.std.proofs.Common.{◌≡◌, ℕ, List, ◌++◌, Result, Ok, Err, ap, ◌∙◌}
use Rattle.std.specs.Prelude.{OnOk}
use Rattle.ds_packets.specs.Packets.{packet_of}
use Rattle.ds_packets.specs.declared.packet.Packet.{Packet}
use Rattle.ds_packets.specs.declared.packet.Refusal.{Refusal}
use Rattle.ds_pagemap.specs.Machine.{State}
use Rattle.ds_refinement.specs.Stands.{Stands}
use Rattle.ds_debug.specs.Answering.{Answers, AnswersBy, AnswersWhere, course_by}
use Rattle.ds_debug.specs.Inner.Answering.{TellsBy, TellsOf, TellsWhere}
use Rattle.ds_debug.specs.Sessions.{SessionState}
use Rattle.ds_debug.specs.Sights.{sight_held}
use Rattle.ds_debug.specs.Inner.Sights.{sight_in}
use Rattle.ds_debug.specs.declared.session.Course.{Course}
use Rattle.ds_debug.specs.declared.session.Course.TheVariants as course
use Rattle.ds_debug.proofs.Alike.{plain_alike, sight_alike}

module _ (words : List ℕ) (s new : SessionState) (before after : List ℕ) (m : State) (k : Stands s.held m) (none : s.held.own.spent ≡ 0) where
  looks_where : (by : Course) (packet : Packet) → AnswersWhere by words packet s new before after → TellsWhere by (sight_in m) s packet before after
  looks_where course.Nowhere packet t = t.told ∙ ap (λ (text : List ℕ). before ++ text) (plain_alike (sight_held s.held) (sight_in m) (sight_alike s.held m k none) s packet)
  looks_where (course.Forward action) packet t = tt
  looks_where (course.Backward action) packet t = tt

  looks_by : (r : Result Packet Refusal) → AnswersBy words r s new before after → TellsBy r (sight_in m) s before after
  looks_by (Ok packet) t = looks_where (course_by packet) packet t
  looks_by (Err refusal) t = tt

  -- by the data of the packet
  pub looks : Answers words s new before after → TellsOf words m s before after
  looks t = looks_by (packet_of words) t

-- where all went well
pub on_ok : {A B : Type 0} (r : Result A B) (p q : Type 0) → (p → q) → OnOk r p → OnOk r q
on_ok (Ok x) p q f h = f h
on_ok (Err e) p q f h = h
