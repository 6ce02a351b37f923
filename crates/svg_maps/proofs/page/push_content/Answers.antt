use Rattle.std.proofs.Common.{◌++◌, ◌∙◌, ap, sym, string_bytes}
use Rattle.std.proofs.lemmas.Result.{on_ok_weaker}
use Rattle.svg_maps.specs.Pages.{page_view}
use Rattle.svg_maps.proofs.PageLaws.{five_joined}
use Rattle.svg_maps.proofs.NodeLaws.{content_text}
use Rattle.svg_maps.proofs.page.push_content.Goals as goal

pub returns : goal.returns
returns c =
    let old = string_bytes c.args.text.now in
    let view = page_view c.args.page c.args.chart in
    on_ok_weaker c.push_placed.result (λ e. five_joined old _ _ _ _ _ (string_bytes c.push_head.new.text)
    (string_bytes c.push_labels.new.text) (string_bytes c.push_labels-2.new.text)
    (string_bytes c.push_swatches.new.text) (string_bytes c.push_placed.new.text)
    c.in_ok-push_head.ensures c.in_ok-push_labels.ensures c.in_ok-push_labels-2.ensures
    c.in_ok-push_swatches.ensures e ∙ ap (λ z. old ++ z) (sym (content_text view))) c.push_placed.ensures
