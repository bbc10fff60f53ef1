use Rattle.std.proofs.Common.{◌≡◌, sym, subst, ◌∙◌, List, [], ℕ, Ok}
use Rattle.ds_policy.specs.PolicyParts.{sources_of}
use Rattle.ds_pagemap.specs.First.{first_state}
use Rattle.ds_pagemap.specs.Inputs.{Sources, images_from, inputs_under}
use Rattle.ds_refinement.specs.First.{IsFirst}
use Rattle.ds_refinement.specs.Stands.{Stands}
use Rattle.ds_station.specs.Inner.Faults.{of_events}
use Rattle.ds_station.specs.Headline.{BeginsWith, Refuses, loaded_with, sources_seen}
use Rattle.ds_station.specs.declared.fault.Fault.TheVariants.{BadRandom}
use Rattle.ds_station.proofs.Preparing.{refused_by_image, under_images, refused_by_input, under_input, refused_by_ticks, under_all, of_first_state, prepared, unprepared_by, ok_is_no_err}
use Rattle.ds_station.proofs.files.prepare.Goals as goal

-- the images are those of the policy's sources
images_are : (s : Sources) (names sources images : List (List ℕ)) → names ≡ sources → images_from s [] names ≡ Ok images → images_from s [] sources ≡ Ok images
images_are s names sources images is read = subst (λ (n : List (List ℕ)). images_from s [] n ≡ Ok images) is read

pub returns-in-Err-clause-err : goal.returns-in-Err-clause-err
returns-in-Err-clause-err c =
    let s = sources_seen c.args.sources.now in
    refused_by_image c.in-Err.refused c.args.policy.now s c.args.input.now c.args.n c.args.random
    (subst (λ (names : List (List ℕ)). Refuses c.in-Err.refused (images_from s [] names)) c.sources.ensures.all c.in-Err.ensures.images)

pub returns-in-Err-read-clause-err : goal.returns-in-Err-read-clause-err
returns-in-Err-read-clause-err c =
    let s = sources_seen c.args.sources.now in
    let images = images_are s _ (sources_of c.args.policy.now.pages) c.in-Ok.images.items c.sources.ensures.all c.in-Ok.ensures.images in
    let is : inputs_under c.args.policy.now s c.args.input.now c.args.n c.args.random ≡ _ =
    of_first_state c.args.policy.now s c.args.input.now c.args.n c.args.random
    ∙ under_images first_state c.args.policy.now c.in-Ok.images.items s c.args.input.now c.args.n c.args.random images in
    rw c.from.ensures (subst (Refuses (of_events c.in-Err-read.wrong)) (sym is)
    (refused_by_input c.in-Err-read.wrong c.args.policy.now c.in-Ok.images.items c.args.input.now c.args.n c.args.random c.in-Err-read.ensures.exact))

pub returns-then-n-gt-MOST_TICKS-clause-err : goal.returns-then-n-gt-MOST_TICKS-clause-err
returns-then-n-gt-MOST_TICKS-clause-err c =
    let s = sources_seen c.args.sources.now in
    let images = images_are s _ (sources_of c.args.policy.now.pages) c.in-Ok.images.items c.sources.ensures.all c.in-Ok.ensures.images in
    of_first_state c.args.policy.now s c.args.input.now c.args.n c.args.random
    ∙ (under_images first_state c.args.policy.now c.in-Ok.images.items s c.args.input.now c.args.n c.args.random images
    ∙ (under_input first_state c.args.policy.now c.in-Ok.images.items c.in-Ok-read.events c.args.input.now c.args.n c.args.random c.in-Ok-read.ensures.exact
    ∙ refused_by_ticks first_state c.args.policy.now c.in-Ok.images.items c.in-Ok-read.events c.args.n c.args.random c.if-n-gt-MOST_TICKS.true))

pub returns-in-Ok-new-clause-ok : goal.returns-in-Ok-new-clause-ok
returns-in-Ok-new-clause-ok c =
    let s = sources_seen c.args.sources.now in
    let images = images_are s _ (sources_of c.args.policy.now.pages) c.in-Ok.images.items c.sources.ensures.all c.in-Ok.ensures.images in
    let is =
    of_first_state c.args.policy.now s c.args.input.now c.args.n c.args.random
    ∙ under_all first_state c.args.policy.now c.in-Ok.images.items c.in-Ok-read.events s c.args.input.now c.args.n c.args.random images c.in-Ok-read.ensures.exact c.if-n-gt-MOST_TICKS.false in
    prepared first_state (Stands c.in-Ok-new.station.held) _ c.args.policy.now c.in-Ok.images.items c.in-Ok-read.events c.args.random is
    (subst (λ (xs : List (List ℕ)). Stands c.in-Ok-new.station.held (first_state c.args.policy.now xs c.in-Ok-read.events)) c.deref.ensures.value c.in-Ok-new.ensures.first)
    (λ b. ok_is_no_err c.in-Ok-new.station BadRandom (c.in-Ok-new.ensures.refused b))

pub returns-in-Ok-new-clause-real : goal.returns-in-Ok-new-clause-real
returns-in-Ok-new-clause-real c =
    let s = sources_seen c.args.sources.now in
    let images = images_are s _ (sources_of c.args.policy.now.pages) c.in-Ok.images.items c.sources.ensures.all c.in-Ok.ensures.images in
    let is = under_all loaded_with c.args.policy.now c.in-Ok.images.items c.in-Ok-read.events s c.args.input.now c.args.n c.args.random images c.in-Ok-read.ensures.exact c.if-n-gt-MOST_TICKS.false in
    prepared loaded_with (BeginsWith c.args.random c.in-Ok-new.station.held) _ c.args.policy.now c.in-Ok.images.items c.in-Ok-read.events c.args.random is
    (subst (λ (xs : List (List ℕ)). IsFirst c.args.policy.now xs c.in-Ok-read.events c.args.random c.in-Ok-new.station.held) c.deref.ensures.value c.in-Ok-new.ensures.begins)
    (λ b. ok_is_no_err c.in-Ok-new.station BadRandom (c.in-Ok-new.ensures.refused b))

pub returns-clause-err : goal.returns-clause-err
returns-clause-err c =
    let s = sources_seen c.args.sources.now in
    let images = images_are s _ (sources_of c.args.policy.now.pages) c.in-Ok.images.items c.sources.ensures.all c.in-Ok.ensures.images in
    let is =
    of_first_state c.args.policy.now s c.args.input.now c.args.n c.args.random
    ∙ under_all first_state c.args.policy.now c.in-Ok.images.items c.in-Ok-read.events s c.args.input.now c.args.n c.args.random images c.in-Ok-read.ensures.exact c.if-n-gt-MOST_TICKS.false in
    unprepared_by first_state c.in-Err-new.refused _ c.args.policy.now c.in-Ok.images.items c.in-Ok-read.events c.args.random is c.in-Err-new.ensures.faults
