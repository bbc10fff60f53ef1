use Rattle.std.proofs.Common.{◌+◌, List, refl, sym, ap, subst}
use Rattle.ds_policy.specs.declared.command.Command.{Command}
use Rattle.ds_policy.specs.declared.command.Command.TheVariants as command
use Rattle.ds_policy.specs.Grants.{grant, narrow, revoke, drop_by_command}
use Rattle.ds_log.specs.declared.line.Line.{Line}
use Rattle.ds_grants.specs.Inner.Changes.{family_places}
use Rattle.ds_grants.specs.State.{page_state}
use Rattle.ds_grants.specs.Inner.State.{lives_in}
use Rattle.ds_pagemap.specs.Machine.{lives}
use Rattle.ds_pagemap.specs.Calls.{or_logged}
use Rattle.ds_refinement.specs.Inner.Held.{whole}
use Rattle.ds_monitor.specs.Inner.Kept.{kept_of}
use Rattle.ds_monitor.specs.Inner.Commands.{Obeys}
use Rattle.ds_monitor.proofs.Commanding.{grants_obey}
use Rattle.ds_monitor.proofs.Forgetting.{answered_pairs, family_pairs}
use Rattle.ds_monitor.proofs.Living.{lives_as, grant_as, narrow_as, revoke_as, drop_as}
use Rattle.ds_monitor.proofs.monitor.Monitor.obey.Goals as goal

pub returns-in-Grant-clause-obeys : goal.returns-in-Grant-clause-obeys
returns-in-Grant-clause-obeys g c =
    let k = kept_of c.args.self.now in
    let n = c.args.number in
    let x = c.args.memory.now in
    let p = c.in-Grant.process in
    let a = c.in-Grant.address in
    subst (λ (z : Command). Obeys n z k x (record k { grants = c.grant.new.self; tables = c.grant.new.tables; spaces = c.grant.new.spaces }) c.grant.new.memory c.grant.result) (sym c.in-Grant.is)
    (grants_obey _ n (command.Grant c.in-Grant.process c.in-Grant.address c.in-Grant.page c.in-Grant.right c.in-Grant.give) k c.grant.new.self c.grant.new.tables c.grant.new.spaces x c.grant.new.memory c.grant.result (grant (lives_in k.grants) (page_state k.grants x) p a c.in-Grant.page c.in-Grant.right c.in-Grant.give (1000 + n))
    (λ (log : List Line). ap (or_logged (whole k x log) n) (grant_as (lives (whole k x log)) (lives_in k.grants) (page_state k.grants x) p a (lives_as (whole k x log) k.grants p c.requires.marks) c.in-Grant.page c.in-Grant.right c.in-Grant.give (1000 + n)))
    (record { memory = refl; log = refl }) c.grant.ensures.does c.grant.ensures.refused c.grant.ensures.spaces)

pub returns-in-Narrow-clause-obeys : goal.returns-in-Narrow-clause-obeys
returns-in-Narrow-clause-obeys g c =
    let k = kept_of c.args.self.now in
    let n = c.args.number in
    let x = c.args.memory.now in
    let p = c.in-Narrow.process in
    let a = c.in-Narrow.address in
    subst (λ (z : Command). Obeys n z k x (record k { grants = c.narrow.new.self; tables = c.narrow.new.tables; spaces = c.narrow.new.spaces }) c.narrow.new.memory c.narrow.result) (sym c.in-Narrow.is)
    (grants_obey _ n (command.Narrow c.in-Narrow.process c.in-Narrow.address) k c.narrow.new.self c.narrow.new.tables c.narrow.new.spaces x c.narrow.new.memory c.narrow.result (narrow (lives_in k.grants) (page_state k.grants x) p a)
    (λ (log : List Line). ap (or_logged (whole k x log) n) (narrow_as (lives (whole k x log)) (lives_in k.grants) (page_state k.grants x) p a (lives_as (whole k x log) k.grants p c.requires.marks)))
    (record { memory = refl; log = refl }) c.narrow.ensures.does c.narrow.ensures.refused c.narrow.ensures.spaces)

pub returns-in-Revoke-clause-obeys : goal.returns-in-Revoke-clause-obeys
returns-in-Revoke-clause-obeys g c =
    let k = kept_of c.args.self.now in
    let n = c.args.number in
    let x = c.args.memory.now in
    let p = c.in-Revoke.process in
    let a = c.in-Revoke.address in
    subst (λ (z : Command). Obeys n z k x (record k { grants = c.revoke.new.self; tables = c.revoke.new.tables; spaces = c.revoke.new.spaces }) c.revoke.new.memory c.revoke.result) (sym c.in-Revoke.is)
    (grants_obey _ n (command.Revoke c.in-Revoke.process c.in-Revoke.address) k c.revoke.new.self c.revoke.new.tables c.revoke.new.spaces x c.revoke.new.memory c.revoke.result (revoke (lives_in k.grants) (page_state k.grants x) p a (1000 + n))
    (λ (log : List Line). ap (or_logged (whole k x log) n) (revoke_as (lives (whole k x log)) (lives_in k.grants) (page_state k.grants x) p a (lives_as (whole k x log) k.grants p c.requires.marks) (1000 + n)))
    (record { memory = refl; log = refl }) c.revoke.ensures.does c.revoke.ensures.refused c.revoke.ensures.spaces)

pub returns-in-Drop-clause-obeys : goal.returns-in-Drop-clause-obeys
returns-in-Drop-clause-obeys g c =
    let k = kept_of c.args.self.now in
    let n = c.args.number in
    let x = c.args.memory.now in
    let p = c.in-Drop.process in
    let a = c.in-Drop.address in
    subst (λ (z : Command). Obeys n z k x (record k { grants = c.drop_page.new.self; tables = c.drop_page.new.tables; spaces = c.drop_page.new.spaces }) c.drop_page.new.memory c.drop_page.result) (sym c.in-Drop.is)
    (grants_obey _ n (command.Drop c.in-Drop.process c.in-Drop.address) k c.drop_page.new.self c.drop_page.new.tables c.drop_page.new.spaces x c.drop_page.new.memory c.drop_page.result (drop_by_command (lives_in k.grants) (page_state k.grants x) p a)
    (λ (log : List Line). ap (or_logged (whole k x log) n) (drop_as (lives (whole k x log)) (lives_in k.grants) (page_state k.grants x) p a (lives_as (whole k x log) k.grants p c.requires.marks)))
    (record { memory = refl; log = refl }) c.drop_page.ensures.does c.drop_page.ensures.refused c.drop_page.ensures.spaces)

pub returns-in-Resume-clause-obeys : goal.returns-in-Resume-clause-obeys
returns-in-Resume-clause-obeys g c =
    subst (λ (z : Command). Obeys c.args.number z (kept_of c.args.self.now) c.args.memory.now (kept_of c.resume.new.self) c.args.memory.now c.resume.result) (sym c.in-Resume.is) (c.resume.ensures.obeys c.args.number c.args.memory.now)

pub returns-in-Stop-clause-obeys : goal.returns-in-Stop-clause-obeys
returns-in-Stop-clause-obeys g c =
    subst (λ (z : Command). Obeys c.args.number z (kept_of c.args.self.now) c.args.memory.now (kept_of c.stop.new.self) c.stop.new.memory c.stop.result) (sym c.in-Stop.is) (c.stop.ensures.obeys c.args.number)

pub returns-in-Grant-clause-pairs : goal.returns-in-Grant-clause-pairs
returns-in-Grant-clause-pairs g c =
    answered_pairs _ _ _ c.grant.result (g.L.Lookaside.entries c.args.tlb.now) (g.L.Lookaside.entries c.grant.new.tlb) c.in-Grant.address _ c.grant.ensures.entries c.grant.ensures.refused

pub returns-in-Narrow-clause-pairs : goal.returns-in-Narrow-clause-pairs
returns-in-Narrow-clause-pairs g c =
    answered_pairs _ _ _ c.narrow.result (g.L.Lookaside.entries c.args.tlb.now) (g.L.Lookaside.entries c.narrow.new.tlb) c.in-Narrow.address _ c.narrow.ensures.entries c.narrow.ensures.refused

pub returns-in-Revoke-clause-pairs : goal.returns-in-Revoke-clause-pairs
returns-in-Revoke-clause-pairs g c =
    family_pairs _ _ _ c.revoke.result (g.L.Lookaside.entries c.args.tlb.now) (g.L.Lookaside.entries c.revoke.new.tlb) c.args.self.now.spaces (family_places c.args.self.now.grants.table c.in-Revoke.process c.in-Revoke.address) c.revoke.ensures.entries c.revoke.ensures.refused

pub returns-in-Drop-clause-pairs : goal.returns-in-Drop-clause-pairs
returns-in-Drop-clause-pairs g c =
    answered_pairs _ _ _ c.drop_page.result (g.L.Lookaside.entries c.args.tlb.now) (g.L.Lookaside.entries c.drop_page.new.tlb) c.in-Drop.address _ c.drop_page.ensures.entries c.drop_page.ensures.refused
