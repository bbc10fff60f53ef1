use Rattle.std.proofs.Common.{◌≡◌, ◌∙◌, ap, subst, List, ◌+◌, ◌-◌, ◌≤◌, take, ◌++◌, drop, length, arith, rules}
use Rattle.std.specs.Prelude.{Some}
use Rattle.std.proofs.lemmas.List.{length-drop, take_all}
use Rattle.ds_policy.specs.Value.{InputValue}
use Rattle.ds_policy.specs.declared.command.Character.{Character}
use Rattle.ds_check.specs.declared.due.Due.{Due}
use Rattle.ds_check.proofs.EventSteps.{event_more}
use Rattle.ds_check.specs.Coming.{events_from, step_count, step_text}
use Rattle.ds_check.proofs.coming.push_coming.Goals as goal

pub loop-character-preserved : goal.loop-character-preserved
loop-character-preserved c =
    let old = c.loop-character.events in
    let left : c.take_character.new.self.characters ≡ drop 1 old.characters = ap (λ (v : InputValue). v.characters) c.take_character.ensures.rest in
    let ks = c.args.due.now in
    let here : take (length ks - c.loop-character.done) (drop c.loop-character.done ks) ≡ drop c.loop-character.done ks =
    take_all (length ks - c.loop-character.done) (drop c.loop-character.done ks) (omega (arith, length-drop c.loop-character.done ks)) in
    let more = c.loop-character.done + c.in_ok-done.field-0 in
    record {
      text =
          ap (λ (cs : List Character). c.push_character.new.sheet.items ++ events_from c.args.pages.now (Some c.in-Some.character) (drop more ks) cs) left
          ∙ event_more c.args.pages.now c.loop-character.last ks old.characters c.in-Some.character c.loop-character.done c.in_ok-done.field-0 c.loop-character.sheet.items c.push_character.new.sheet.items _
          (search rules)
          (subst (λ (ks : List Due). c.in_ok-done.field-0 ≡ step_count c.loop-character.last ks c.in-Some.character) here c.in_ok-done.ensures.count)
          (subst (λ (ks : List Due). c.push_character.new.sheet.items ≡ c.loop-character.sheet.items ++ step_text c.args.pages.now c.loop-character.last ks c.in-Some.character) here c.in_ok-done.ensures.text)
          c.loop-character.invariant.text;
      within = omega (arith, length-drop c.loop-character.done ks, subst (λ (ks : List Due). c.in_ok-done.field-0 ≤ length ks) here c.in_ok-done.ensures.within, c.loop-character.invariant.within);
    }
