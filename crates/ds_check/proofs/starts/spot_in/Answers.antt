use Rattle.std.proofs.Common.{◌∙◌, refl, sym, ap, option_map, rules}
use Rattle.ds_check.proofs.StartSteps.{at_index, no_name}
use Rattle.ds_check.proofs.starts.spot_in.Goals as goal

pub returns-in_err-index : goal.returns-in_err-index
returns-in_err-index c =
    let none = sym (no_name c.args.sources c.args.name.now c.args.byte c.place_of_name.result c.place_of_name.ensures (search rules)) in
    search (rules, none)

pub returns-in_err-text : goal.returns-in_err-text
returns-in_err-text c =
    let none = sym (at_index c.args.sources c.args.name.now c.args.byte c.place_of_name.result c.place_of_name.ensures c.in_ok-index.index _ _ (search rules) (sym c.text_at.ensures ∙ ap (option_map (λ t. t.now)) c.in_err-text.was) refl) in
    search (rules, none)

pub returns-in_err-image : goal.returns-in_err-image
returns-in_err-image c =
    let none = sym (at_index c.args.sources c.args.name.now c.args.byte c.place_of_name.result c.place_of_name.ensures c.in_ok-index.index _ _ (search rules) (sym c.text_at.ensures ∙ ap (option_map (λ t. t.now)) c.in_ok-text.was) (sym c.image_at.ensures ∙ ap (option_map (λ i. i.now)) c.in_err-image.was)) in
    search (rules, none)

pub returns : goal.returns
returns c =
    c.spot_of.ensures
    ∙ sym (at_index c.args.sources c.args.name.now c.args.byte c.place_of_name.result c.place_of_name.ensures c.in_ok-index.index _ _ (search rules) (sym c.text_at.ensures ∙ ap (option_map (λ t. t.now)) c.in_ok-text.was) (sym c.image_at.ensures ∙ ap (option_map (λ i. i.now)) c.in_ok-image.was))
