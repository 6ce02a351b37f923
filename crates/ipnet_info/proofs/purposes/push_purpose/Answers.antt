use Rattle.std.proofs.Common.{rules, ◌≡◌, ◌∷◌, ◌++◌, [], ◌∙◌, ◌↔◌, IsTrue, refl, ap, subst, inl, inr}
use Rattle.std.proofs.lemmas.List.{map-append}
use Rattle.ipnet_base.specs.Network.{AreDisjoint, IsSubnetOf}
use Rattle.ipnet.specs.NetworkOf.{ip_network}
use Rattle.ipnet_info.specs.declared.purposes.SpecialPurpose.{SpecialPurpose}
use Rattle.ipnet_info.specs.Registries.{IsPurposeOf}
use Rattle.ipnet_info.specs.RegistryRows.{block_of, purpose_of, purposes_of}
use Rattle.ipnet_info.proofs.purposes.push_purpose.Goals as goal

pub returns : goal.returns
returns c =
    let n = ip_network c.args.network.now in
    let row = c.args.row.now in
    let block = block_of n.family row in
    let made : SpecialPurpose = record {
      block = c.block_network-block.result;
      name = row.2;
      rfc = row.3;
      is_whole = c.contains.result;
    } in
    let same = c.block_network-block.ensures in
    let shares : ¬ (AreDisjoint n (ip_network c.block_network-block.result)) = search rules in
    let whole : IsTrue c.contains.result ↔ IsSubnetOf n (ip_network c.block_network-block.result) = search rules in
    let is : IsPurposeOf n block (purpose_of made) = record {
      is = ap (λ net. record { network = net; name = row.2.now; rfc = row.3.now }) same;
      shares = subst (λ net. ¬ (AreDisjoint n net)) same shares;
      whole = subst (λ net. IsTrue c.contains.result ↔ IsSubnetOf n net) same whole;
    } in
    let items : purposes_of c.push.new.self.items ≡ purposes_of c.args.purposes.now.items ++ purpose_of made ∷ [] =
    ap purposes_of c.in_ok-push.ensures.items ∙ map-append purpose_of c.args.purposes.now.items (made ∷ []) in
    (purpose_of made ∷ [], items, inl (purpose_of made, [], is, refl, refl))
