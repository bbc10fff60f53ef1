use Rattle.std.proofs.Common.{◌≡◌, ◌≢◌, arith, length, rules}
use Rattle.ds_listing.specs.Pages.{place_of_address, plain_pages}
use Rattle.ds_trace.proofs.Adding.{gives}
use Rattle.ds_trace.proofs.Sourcing.{no_place, some_place}
use Rattle.ds_trace.proofs.lines.push_place.Goals as goal

pub returns-then-len-start : goal.returns-then-len-start
returns-then-len-start c =
    let same : length c.push_address_place.new.text.items ≡ length c.args.text.now.items = omega (arith, c.len.ensures, c.len-start.ensures, c.if-len-start.true) in
    no_place c.args.text.now.items (place_of_address (plain_pages c.args.view.now.pages.now) c.args.told.page c.args.told.address) c.push_address_place.new.text.items
    c.in_ok-push_address_place.ensures same

pub returns : goal.returns
returns c =
    let other : length c.push_address_place.new.text.items ≢ length c.args.text.now.items = omega (arith, c.len.ensures, c.len-start.ensures, c.if-len-start.false) in
    gives c.extend_from_slice.result
    (λ last. some_place c.args.text.now.items (place_of_address (plain_pages c.args.view.now.pages.now) c.args.told.page c.args.told.address) c.push_address_place.new.text.items
    c.extend_from_slice.new.self.items c.in_ok-push_address_place.ensures other last)
    (search rules)
