use Rattle.std.proofs.Common.{rules, ◌≡◌, ◌∙◌, sym}
use Rattle.ds_grants.proofs.Seen.{unseen, known_there}
use Rattle.ds_grants.proofs.origins.find.Goals as goal

pub returns-then-after-eq0 : goal.returns-then-after-eq0
returns-then-after-eq0 c =
    let never : c.place_after-after.result ≡ 0 = search rules in
    sym (unseen c.args.places.now c.args.known.now c.args.addr c.requires.seen (sym c.place_after-after.ensures ∙ never))

pub returns-then-is_known_at : goal.returns-then-is_known_at
returns-then-is_known_at c =
    sym (known_there c.args.known.now c.args.addr _ (record { address = 0; receivers = 0 }) c.requires.apart (c.is_known_at.ensures.within (search rules)) (c.is_known_at.ensures.same (search rules)))
