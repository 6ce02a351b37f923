use Rattle.std.proofs.Common.{◌≡◌, ◌↔◌, ◌∙◌, Some, length, codes, sym, ap, subst}
use Rattle.std.proofs.lemmas.Bool.{eqb-true, eqb-false}
use Rattle.serde_json.specs.View.{view}
use Rattle.netset_origins.specs.Fields.{IsAsn}
use Rattle.netset_origins.specs.VrpJson.{text_at, number_at}
use Rattle.netset_origins.proofs.VrpLaws.{nil_of, asn_empty, asn_text}
use Rattle.netset_origins.proofs.vrp_json.asn_in.Goals as goal

pub returns-then-is_empty : goal.returns-then-is_empty
returns-then-is_empty c = λ n.
    let text = c.text_in-text.result.now in
    asn_empty (text_at (codes "asn") (view c.args.value.now)) (number_at (codes "asn") (view c.args.value.now))
    c.number_in.result n
    (sym c.text_in-text.ensures
    ∙ nil_of text (eqb-true (length text) 0 (sym c.is_empty.ensures ∙ c.if-is_empty.true)))
    (c.number_in.ensures n)

pub returns-else-is_empty : goal.returns-else-is_empty
returns-else-is_empty c = λ n.
    let text = c.text_in-text.result.now in
    let at = text_at (codes "asn") (view c.args.value.now) in
    asn_text at (number_at (codes "asn") (view c.args.value.now)) c.asn_of.result n
    (λ e. eqb-false (length text) 0 (sym c.is_empty.ensures ∙ c.if-is_empty.false)
    (ap length (c.text_in-text.ensures ∙ e)))
    (subst (λ z. (c.asn_of.result ≡ Some n) ↔ IsAsn z n) c.text_in-text.ensures (c.asn_of.ensures n))
