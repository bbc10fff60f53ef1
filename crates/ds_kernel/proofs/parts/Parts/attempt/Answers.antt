use Rattle.std.proofs.Common.{◌≡◌, ◌<◌, ◌≤◌, true, false, length, sym, ap, subst, ◌∙◌, arith}
use Rattle.ds_cp0.specs.System.{is_user}
use Rattle.ds_refinement.specs.declared.step.Step.{Step}
use Rattle.ds_refinement.specs.Held.{Held}
use Rattle.ds_kernel.specs.declared.parts.Parts.{Parts}
use Rattle.ds_kernel.specs.Inner.Parts.{held}
use Rattle.ds_kernel.specs.Inner.Good.{IsGood}
use Rattle.ds_refinement.specs.Handling.{touches}
use Rattle.ds_refinement.proofs.Tallied.{few_of}
use Rattle.ds_refinement.proofs.WordTallies.{word_room}
use Rattle.ds_kernel.specs.Inner.Ended.{DoesStep}
use Rattle.ds_kernel.proofs.Stepping.{at_seventh, attempt_does, attempt_good, word_does, word_good}
use Rattle.ds_kernel.proofs.parts.Parts.attempt.Goals as goal

-- What is counted before leaves room.

few_enough : {L : Type 0} (old : Parts L) → IsGood old → old.spent < 64
few_enough old good = let few : old.spent ≤ 61 = (few_of (held old) good.sound.state good.sound.stands).spent in omega (arith, few)

pub execute-step-requires-clause-spent : goal.execute-step-requires-clause-spent
execute-step-requires-clause-spent g c = subst (λ (x : Held). x.own.spent ≤ 64) (sym c.in_ok-begin.ensures.ok) c.requires.good.orderly.spent

pub execute-step-requires-clause-since : goal.execute-step-requires-clause-since
execute-step-requires-clause-since g c =
    let good = c.requires.good in
    subst (λ (x : Held). x.own.since < 56) (sym c.in_ok-begin.ensures.ok) (few_of (held c.args.self.now) good.sound.state good.sound.stands).since

pub word-requires-clause-spent : goal.word-requires-clause-spent
word-requires-clause-spent g c = subst (λ (x : Held). x.own.spent ≤ 64) (sym c.in_ok-begin.ensures.ok) c.requires.good.orderly.spent

pub word-requires-clause-since : goal.word-requires-clause-since
word-requires-clause-since g c =
    let good = c.requires.good in
    subst (λ (x : Held). x.own.since < 56) (sym c.in_ok-begin.ensures.ok) (few_of (held c.args.self.now) good.sound.state good.sound.stands).since

pub word-requires-clause-few : goal.word-requires-clause-few
word-requires-clause-few g c =
    let begun = c.in_ok-begin.ensures.ok in
    let kernel : is_user c.args.self.now.core.system ≡ false = sym (ap (λ (x : Held). is_user x.core.system) begun) ∙ (sym c.is_user.ensures ∙ c.if-is_user.false) in
    subst (λ (x : Held). touches x.core ≡ true → length x.own.written ≤ 3) (sym begun)
    (λ is. (word_room (held c.args.self.now) c.requires.good.sound c.requires.ready 6 (omega arith) kernel (at_seventh c.args.self.now.core.pc is)).0)

-- An instruction of the program.

pub returns-then-is_user-clause-good : goal.returns-then-is_user-clause-good
returns-then-is_user-clause-good g c =
    let begun = c.in_ok-begin.ensures.ok in
    let user : is_user c.args.self.now.core.system ≡ true = sym (ap (λ (x : Held). is_user x.core.system) begun) ∙ (sym c.is_user.ensures ∙ c.if-is_user.true) in
    attempt_good c.args.self.now c.begin.new.self c.execute-step.new.self c.execute-step.result c.requires.good c.requires.working c.requires.unowed c.requires.ready user
    c.show_pc_has_32_bits.ensures (few_enough c.args.self.now c.requires.good) c.requires.early begun c.begin.ensures.next c.in_ok-begin.ensures.room c.execute-step.ensures.held c.execute-step.ensures.rest c.show_whole_processor.ensures.whole

pub returns-then-is_user-clause-does : goal.returns-then-is_user-clause-does
returns-then-is_user-clause-does g c =
    let begun = c.in_ok-begin.ensures.ok in
    let user : is_user c.args.self.now.core.system ≡ true = sym (ap (λ (x : Held). is_user x.core.system) begun) ∙ (sym c.is_user.ensures ∙ c.if-is_user.true) in
    attempt_does c.args.self.now c.begin.new.self c.execute-step.new.self c.execute-step.result c.requires.good c.requires.working c.requires.unowed c.requires.ready user
    c.show_pc_has_32_bits.ensures (few_enough c.args.self.now c.requires.good) c.requires.early begun c.begin.ensures.next c.in_ok-begin.ensures.room c.execute-step.ensures.held c.execute-step.ensures.rest c.show_whole_processor.ensures.whole

-- A word of the refill handler.

pub returns-else-is_user-clause-good : goal.returns-else-is_user-clause-good
returns-else-is_user-clause-good g c =
    let begun = c.in_ok-begin.ensures.ok in
    let kernel : is_user c.args.self.now.core.system ≡ false = sym (ap (λ (x : Held). is_user x.core.system) begun) ∙ (sym c.is_user.ensures ∙ c.if-is_user.false) in
    word_good c.args.self.now c.begin.new.self c.word.new.self c.requires.good c.requires.unowed c.requires.ready kernel c.requires.unserved
    (few_enough c.args.self.now c.requires.good) begun c.begin.ensures.next c.in_ok-begin.ensures.room c.word.ensures.held c.word.ensures.rest

pub returns-else-is_user-clause-does : goal.returns-else-is_user-clause-does
returns-else-is_user-clause-does g c =
    let begun = c.in_ok-begin.ensures.ok in
    let kernel : is_user c.args.self.now.core.system ≡ false = sym (ap (λ (x : Held). is_user x.core.system) begun) ∙ (sym c.is_user.ensures ∙ c.if-is_user.false) in
    subst (λ (kind : Step). DoesStep kind (held c.args.self.now) (held c.word.new.self)) (sym c.word.ensures.inside)
    (word_does c.args.self.now c.begin.new.self c.word.new.self c.requires.good c.requires.unowed c.requires.ready kernel c.requires.unserved
    (few_enough c.args.self.now c.requires.good) begun c.begin.ensures.next c.in_ok-begin.ensures.room c.word.ensures.held c.word.ensures.rest)
