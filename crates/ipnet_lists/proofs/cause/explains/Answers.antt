use Rattle.std.proofs.Common.{◌≡◌, ◌==◌, ap, sym, ◌∙◌}
use Rattle.std.specs.List.{list_any}
use Rattle.ipnet_lists.proofs.cause.explains.Goals as goal

pub returns-in-NulByte : goal.returns-in-NulByte
returns-in-NulByte c =
    let same : c.has_byte.result ≡ list_any (λ b. b == 0) c.args.text.now =
    c.has_byte.ensures ∙ ap (list_any (λ b. b == 0)) c.as_bytes.ensures.value in
    rw c.in-NulByte.is (λ e. sym same ∙ e, λ e. same ∙ e)

pub returns-in-CarriageReturn : goal.returns-in-CarriageReturn
returns-in-CarriageReturn c =
    let same : c.has_byte-in-CarriageReturn.result ≡ list_any (λ b. b == 13) c.args.text.now =
    c.has_byte-in-CarriageReturn.ensures
    ∙ ap (list_any (λ b. b == 13)) c.as_bytes-in-CarriageReturn.ensures.value in
    rw c.in-CarriageReturn.is (λ e. sym same ∙ e, λ e. same ∙ e)

pub returns-in-LegacyAlone : goal.returns-in-LegacyAlone
returns-in-LegacyAlone c = rw c.in-LegacyAlone.is c.is_entry.ensures

pub returns-in-MaskAfterBlank : goal.returns-in-MaskAfterBlank
returns-in-MaskAfterBlank c = rw c.in-MaskAfterBlank.is c.has_mask_word.ensures

pub returns-in-TwoEntries : goal.returns-in-TwoEntries
returns-in-TwoEntries c = rw c.in-TwoEntries.is c.has_two_entries.ensures

pub returns-in-NotFourNumbers : goal.returns-in-NotFourNumbers
returns-in-NotFourNumbers c = rw c.in-NotFourNumbers.is c.is_no_ipv4.ensures

pub returns-in-HasStar : goal.returns-in-HasStar
returns-in-HasStar c = rw c.in-HasStar.is c.has_star.ensures

pub returns-in-TextFollows : goal.returns-in-TextFollows
returns-in-TextFollows c = rw c.in-TextFollows.is c.is_followed.ensures

pub returns-in-AllAddresses : goal.returns-in-AllAddresses
returns-in-AllAddresses c = rw c.in-AllAddresses.is c.is_all_word.ensures

pub returns-in-HostName : goal.returns-in-HostName
returns-in-HostName c = rw c.in-HostName.is c.is_host_name.ensures
