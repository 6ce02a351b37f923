use Rattle.std.proofs.Common.{refl, ap, inl, inr, subst}
use Rattle.std.specs.declared.net.ip_addr.IpAddr.TheVariants as Ip
use Rattle.ipnet_base.specs.Address.{ip_address}
use Rattle.ipnet_lists.specs.Entries.{IsAddressText}
use Rattle.netset_words.proofs.PlaceLaws.{ipv6_is_no_ipv4, v4_text}
use Rattle.netset_words.proofs.host.read_ipv4.Goals as goal

pub returns-in-Some-V4 : goal.returns-in-Some-V4
returns-in-Some-V4 c =
    let g = c.args.grammar in
    let text = c.args.text.now in
    let x = ip_address (Ip.V4 c.in-Some-V4.address) in
    let writes : IsAddressText g text x =
    subst (λ z. IsAddressText g text (ip_address z)) c.in-Some-V4.field-0-is c.in-Some-V4.ensures.some in
    record {
      is = (refl, (x, v4_text g text c.in-Some-V4.address writes));
      entry = inl (inr record { address = x; writes = writes; is = refl });
      kind = writes;
    }

pub returns-in-Some-V6 : goal.returns-in-Some-V6
returns-in-Some-V6 c = λ place is.
    ipv6_is_no_ipv4 c.args.grammar c.args.text.now (ip_address c.in-Some-V6.field-0)
    (ap (λ z. (ip_address z).family) c.in-Some-V6.field-0-is) c.in-Some-V6.ensures.some is.1

pub returns-in-None : goal.returns-in-None
returns-in-None c = λ place is. c.in-None.ensures.none (is.1.0, inl is.1.1)
