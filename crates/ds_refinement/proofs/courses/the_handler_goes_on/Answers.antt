use Rattle.ds_refinement.proofs.NineWords as handler
use Rattle.ds_refinement.proofs.courses.the_handler_goes_on.Goals as goal

pub returns-clause-passes : goal.returns-clause-passes
returns-clause-passes c = λ h b n dirty pages word low two six words mode outside at next. handler.passes h b n dirty pages words mode word low two six outside at next

pub returns-clause-loads : goal.returns-clause-loads
returns-clause-loads c = λ h b n dirty pages place words mode. handler.loads h b n dirty pages words mode place

pub returns-clause-misses : goal.returns-clause-misses
returns-clause-misses c = λ h b n dirty pages words mode. handler.misses h b n dirty pages words mode

pub returns-clause-writes : goal.returns-clause-writes
returns-clause-writes c = λ h b n dirty pages words mode. handler.writes h b n dirty pages words mode

pub returns-clause-returns : goal.returns-clause-returns
returns-clause-returns c = λ h b n dirty pages words mode. handler.returns h b n dirty pages words mode

pub returns-clause-third : goal.returns-clause-third
returns-clause-third c = λ h b n dirty pages words mode at next low address found. handler.third h b n dirty pages words mode at next low address found
