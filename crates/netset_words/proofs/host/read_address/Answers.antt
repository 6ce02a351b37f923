use Rattle.std.proofs.Common.{refl, inl, inr}
use Rattle.ipnet_base.specs.Address.{ip_address}
use Rattle.netset_words.proofs.host.read_address.Goals as goal

pub returns-in-Some : goal.returns-in-Some
returns-in-Some c =
    let x = ip_address c.in-Some.address in
    let writes = c.in-Some.ensures.some in
    record {
      is = (refl, (x, writes));
      entry = inl (inr record { address = x; writes = writes; is = refl });
      kind = writes;
    }

pub returns-in-None : goal.returns-in-None
returns-in-None c = λ place is. c.in-None.ensures.none is.1
