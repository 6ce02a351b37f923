-- The fields of the text.
use Rattle.std.proofs.Common.{◌≡◌, ◌↔◌, ◌∙◌, Some, ap, sym, subst}
use Rattle.ipnet_lists.specs.Entries.{IsNetworkOrMasked}
use Rattle.ipnet.specs.NetworkOf.{ip_network}
use Rattle.netset_lib.specs.NetworkEntries.{IsArgumentCause}
use Rattle.netset_origins.specs.Fields.{first_field, after_field, IsNumber, IsAsn}
use Rattle.netset_origins.specs.VrpLines.{network_field, length_field}
use Rattle.netset_origins.proofs.VrpLaws.{is_divided, line_vrp, line_cause}
use Rattle.netset_origins.proofs.vrp_line.read_vrp.Goals as goal

pub returns-in_default-clause-cause : goal.returns-in_default-clause-cause
returns-in_default-clause-cause c = (
  is_divided c.has_byte.result c.has_byte-2.result c.args.text.now _ _ _ _ c.cut_field.ensures.rest
      c.cut_field-2.ensures.rest c.cut_field-3.ensures.rest c.cut_field-4.ensures.rest
      (λ has. c.has_byte.ensures ∙ has) c.if-has_byte.false (λ has. c.has_byte-2.ensures ∙ has)
      c.if-has_byte-2.false,
  λ n h.
      let found = (c.asn_of.ensures n).1 (subst (λ z. IsAsn z n) (sym c.cut_field.ensures.field) h) in
      let none = c.in_default.is in
      absurd cc,
)

pub returns-in-Ok-clause-vrp : goal.returns-in-Ok-clause-vrp
returns-in-Ok-clause-vrp c =
    let text = c.args.text.now in
    let grammar = c.args.grammar in
    let network_is : c.cut_field-2.result.0.now ≡ network_field text
    = c.cut_field-2.ensures.field ∙ ap first_field c.cut_field.ensures.rest in
    let rest_is : c.cut_field-2.result.1.now ≡ after_field (after_field text)
    = c.cut_field-2.ensures.rest ∙ ap after_field c.cut_field.ensures.rest in
    let length_is : c.cut_field-3.result.0.now ≡ length_field text
    = c.cut_field-3.ensures.field ∙ ap first_field rest_is in
    line_vrp grammar text c.in-Some.asn (ip_network c.in-Ok.network) c.number_of.result
    (subst (λ z. IsAsn z c.in-Some.asn) c.cut_field.ensures.field ((c.asn_of.ensures c.in-Some.asn).0 c.in-Some.is))
    (subst (λ z. IsNetworkOrMasked grammar z (ip_network c.in-Ok.network)) network_is c.in-Ok.ensures.network)
    (λ m. subst (λ z. (c.number_of.result ≡ Some m) ↔ IsNumber z m) length_is (c.number_of.ensures m))
    c.vrp_with.result
    (is_divided c.has_byte.result c.has_byte-2.result c.args.text.now _ _ _ _ c.cut_field.ensures.rest
    c.cut_field-2.ensures.rest c.cut_field-3.ensures.rest c.cut_field-4.ensures.rest
    (λ has. c.has_byte.ensures ∙ has) c.if-has_byte.false (λ has. c.has_byte-2.ensures ∙ has)
    c.if-has_byte-2.false)
    c.vrp_with.ensures.vrp

pub returns-in-Ok-clause-cause : goal.returns-in-Ok-clause-cause
returns-in-Ok-clause-cause c =
    let text = c.args.text.now in
    let grammar = c.args.grammar in
    let network_is : c.cut_field-2.result.0.now ≡ network_field text
    = c.cut_field-2.ensures.field ∙ ap first_field c.cut_field.ensures.rest in
    let length_is : c.cut_field-3.result.0.now ≡ length_field text
    = c.cut_field-3.ensures.field
    ∙ ap first_field (c.cut_field-2.ensures.rest ∙ ap after_field c.cut_field.ensures.rest) in
    line_cause grammar text c.in-Some.asn (ip_network c.in-Ok.network) c.number_of.result
    (subst (λ z. IsAsn z c.in-Some.asn) c.cut_field.ensures.field ((c.asn_of.ensures c.in-Some.asn).0 c.in-Some.is))
    (subst (λ z. IsNetworkOrMasked grammar z (ip_network c.in-Ok.network)) network_is c.in-Ok.ensures.network)
    (λ m. subst (λ z. (c.number_of.result ≡ Some m) ↔ IsNumber z m) length_is (c.number_of.ensures m))
    c.vrp_with.result
    (is_divided c.has_byte.result c.has_byte-2.result c.args.text.now _ _ _ _ c.cut_field.ensures.rest
    c.cut_field-2.ensures.rest c.cut_field-3.ensures.rest c.cut_field-4.ensures.rest
    (λ has. c.has_byte.ensures ∙ has) c.if-has_byte.false (λ has. c.has_byte-2.ensures ∙ has)
    c.if-has_byte-2.false)
    c.vrp_with.ensures.cause

pub returns-in-Err-clause-cause : goal.returns-in-Err-clause-cause
returns-in-Err-clause-cause c = (
  (
    is_divided c.has_byte.result c.has_byte-2.result c.args.text.now _ _ _ _ c.cut_field.ensures.rest
        c.cut_field-2.ensures.rest c.cut_field-3.ensures.rest c.cut_field-4.ensures.rest
        (λ has. c.has_byte.ensures ∙ has) c.if-has_byte.false (λ has. c.has_byte-2.ensures ∙ has)
        c.if-has_byte-2.false,
    (
      c.in-Some.asn,
      subst (λ z. IsAsn z c.in-Some.asn) c.cut_field.ensures.field ((c.asn_of.ensures c.in-Some.asn).0 c.in-Some.is),
    ),
  ),
  subst (λ z. IsArgumentCause c.args.grammar z c.in-Err.cause)
      (c.cut_field-2.ensures.field ∙ ap first_field c.cut_field.ensures.rest) c.in-Err.ensures.cause,
)
