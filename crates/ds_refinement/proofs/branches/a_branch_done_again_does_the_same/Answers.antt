use Rattle.ds_pagemap.specs.Machine.{process_of}
use Rattle.ds_refinement.proofs.Links.{branches_again, linked_settled}
use Rattle.ds_refinement.proofs.branches.a_branch_done_again_does_the_same.Goals as goal

pub returns-clause-again : goal.returns-clause-again
returns-clause-again c = λ m p r target. branches_again m p (process_of m p).pc r target

pub returns-clause-settled : goal.returns-clause-settled
returns-clause-settled c = λ m p r target. linked_settled m p (process_of m p).pc r target
