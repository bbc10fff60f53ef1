-- In the handler the process may be touched: registers 26 and 27 are lent, and nothing else of it shows.
use Rattle.std.proofs.Common.{◌≡◌, ℕ, Bool, true, false, List, ◌∷◌, None, sym, ap, subst, ◌∙◌, inl, inr}
use Rattle.ds_isa.specs.Registers.{Registers, settled}
use Rattle.ds_cp0.specs.System.{is_user}
use Rattle.ds_grants.specs.Words.{granted_word}
use Rattle.ds_core.specs.Core.{CoreState}
use Rattle.ds_pagemap.specs.Machine.{State, Process, process_of, with_process, touched, touched_process}
use Rattle.ds_refinement.specs.Held.{Held, Kept}
use Rattle.ds_refinement.specs.Inner.Services.{touched_registers}
use Rattle.ds_refinement.proofs.Registers.{HasSeat, process_put}
use Rattle.ds_refinement.proofs.Links.{touched_link}
use Rattle.ds_refinement.specs.Units.{has_left_user, is_general}
use Rattle.ds_refinement.specs.Handling.{Phase, next_of, Lends, AreUnits, InHandler}
use Rattle.ds_refinement.specs.Stands.{InKernel, OnProcessor, Agrees}
use Rattle.ds_refill.proofs.Lent.{lent_again}
use Rattle.ds_refinement.proofs.Standing.{in_handler, runs, stands_after, as_touched}

-- who is touched may be touched again
pub touched_twice : (q : Process) → touched_process q ≡ touched_process (touched_process q)
touched_twice q = ap (λ (g : List ℕ). record q { registers = record q.registers { general = g; late = None } }) (sym (lent_again q.registers.general 0 q.pc 0 q.pc))

-- the handler's stage, for the state with the process touched
module _ (phase : Phase) (c : CoreState) (k : Kept) (p : ℕ) (m : State) (seat : HasSeat m p) (z : InHandler phase c k p m) where
  abbrev q : Process
  q = touched_process (process_of m p)

  abbrev after_touch : State
  after_touch = with_process m p q

  put : process_of after_touch p ≡ q
  put = process_put m p q seat

  same_pc : (process_of m p).pc ≡ (process_of after_touch p).pc
  same_pc = ap (λ (x : Process). x.pc) (sym put)

  units : AreUnits (touched_registers z.base (process_of m p).pc) p after_touch
  units = elim z.units [
    | inl same ↦ inl (ap (λ (r : Registers). touched_registers r (process_of m p).pc) same ∙ ap (λ (x : Process). settled x.registers) (sym put))
    | inr link ↦ elim (touched_link m p z.base link.target seat link.branched) [
      | inl gone ↦ inl (ap settled (gone ∙ ap (λ (x : Process). x.registers) (sym put)))
      | inr again ↦ inr again
    ]
  ]

  pub is_touched : process_of after_touch p ≡ touched_process (process_of after_touch p)
  is_touched = put ∙ (touched_twice (process_of m p) ∙ ap touched_process (sym put))

  pub touched_handler : InHandler phase c k p after_touch
  touched_handler = record {
    whole = z.whole;
    owed = z.owed;
    pc = z.pc;
    next = z.next ∙ ap (λ (n : ℕ). next_of phase n c.pc) same_pc;
    slot = z.slot;
    status = z.status;
    epc = z.epc ∙ same_pc;
    vpn = z.vpn;
    user = z.user;
    hi = z.hi;
    context = z.context;
    answers = z.answers;
    base = touched_registers z.base (process_of m p).pc;
    first = z.first;
    second = z.second;
    late = z.late;
    registers = z.registers ∙ ap (λ (g : List ℕ). record z.base { general = g; late = z.late }) (sym (lent_again z.base.general 0 (process_of m p).pc z.first z.second));
    units = units;
    lends = subst (λ (n : ℕ). Lends phase
        (record { context = c.system.context; unit = n; entry = granted_word k.grants p z.vpn })
        (record { first = z.first; second = z.second; late = z.late; entry_lo = c.system.entry_lo })) same_pc z.lends;
    touch = λ written. is_touched;
  }

module _ (h : Held) (m : State) (p : ℕ) (rest : List ℕ) (k : Agrees h m) (ready : h.kept.state.ready ≡ p ∷ rest) (user : is_user h.core.system ≡ false) (general : is_general h.core ≡ false) where
  -- the word that the processor is at
  pub here : (phase : Phase) × InHandler phase h.core h.kept p m
  here =
      subst (λ (x : Bool). InKernel x (has_left_user h.core) h.core h.kept p m) general
      (subst (λ (x : Bool). OnProcessor x h.core.slot h.core h.kept p m) user (runs h m p rest k ready).on)

  -- the station stands for the state with the process touched
  pub stands_after_touch : Agrees h (with_process m p (touched_process (process_of m p)))
  stands_after_touch =
      let r = runs h m p rest k ready in
      stands_after h m p rest k ready h.core k.represented.buffer k.base r.set
      (in_handler here.0 h.core h.kept p (with_process m p (touched_process (process_of m p))) (touched_handler here.0 h.core h.kept p m r.seat here.1))

  pub unseen : Agrees h (touched true m)
  unseen = as_touched h m p rest k ready h stands_after_touch
