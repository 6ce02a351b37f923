use Rattle.std.proofs.Common.{sym, ◌∙◌}
use Rattle.ipnet_lists.proofs.CauseTexts.{is_true, is_false}
use Rattle.ipnet_lists.proofs.cause_words.is_netmask.Goals as goal

pub returns-in-Ok : goal.returns-in-Ok
returns-in-Ok c = is_true (c.in-Ok.field-0, (c.ipv4_mask_to_prefix.ensures c.in-Ok.field-0).0 c.in-Ok.is)

pub returns-in-Err : goal.returns-in-Err
returns-in-Err c =
    is_false (λ p. let clash = sym c.in-Err.is ∙ (c.ipv4_mask_to_prefix.ensures p.0).1 p.1 in absurd cc)
