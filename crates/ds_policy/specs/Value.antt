-- What a policy says, and what an input says.
use Rattle.std.specs.Prelude.{ℕ, List}
use Rattle.ds_policy.specs.declared.policy.PolicyProcess.{PolicyProcess}
use Rattle.ds_policy.specs.declared.policy.PolicyPage.{PolicyPage}
use Rattle.ds_policy.specs.declared.policy.PolicyRule.{PolicyRule}
use Rattle.ds_policy.specs.declared.command.TimedCommand.{TimedCommand}
use Rattle.ds_policy.specs.declared.command.Character.{Character}

-- what a policy says: frames, rate, processes, pages, rules
pub record PolicyValue : Type 0 where
  pub frames : ℕ
  pub rate : ℕ
  pub processes : List PolicyProcess
  pub pages : List PolicyPage
  pub rules : List PolicyRule

-- commands and characters, each in their order in the text
pub record InputValue : Type 0 where
  pub commands : List TimedCommand
  pub characters : List Character
