use Rattle.std.proofs.Common.{◌≡◌, ◌++◌, ◌∷◌, ◌≢◌, ◌∙◌, All, ap₂, refl, sym, subst, lit<, inl, inr}
use Rattle.ipnet_base.specs.Address.{ip_address}
use Rattle.ipnet.specs.NetworkOf.{ip_network}
use Rattle.ipnet.specs.NetworkTexts.{IsNetworkText}
use Rattle.ipnet_lists.specs.declared.entry.Entry.TheVariants.{Network, Address}
use Rattle.ipnet_lists.specs.Entries.{IsPlainEntry}
use Rattle.ipnet_lists.specs.EntryOf.{entry_range}
use Rattle.ipnet_lists.proofs.AddressBytes.{cut_at, all_lack, front_lacks}
use Rattle.ipnet_lists.proofs.EntryTexts.{reads_some, reads_none, none_of, cut_no_address, uncut_no_network}
use Rattle.ipnet_lists.proofs.EntryTexts.{masked_cut, unmasked_cut}
use Rattle.ipnet_lists.proofs.entry.read_plain.Goals as goal

pub returns-in-Some-read_network-clause-reads : goal.returns-in-Some-read_network-clause-reads
returns-in-Some-read_network-clause-reads c =
    let n = c.in-Some-read_network.network in
    reads_some entry_range (IsPlainEntry c.args.grammar) c.args.text.now (Network n)
    (inl record { network = ip_network n; writes = inl c.in-Some-read_network.ensures.some; is = refl })

pub returns-in-Some-read_masked-clause-reads : goal.returns-in-Some-read_masked-clause-reads
returns-in-Some-read_masked-clause-reads c =
    let grammar = c.args.grammar in
    let text = c.args.text.now in
    let address = c.in-Some.address.now in
    let mask = c.in-Some.mask.now in
    let n = c.in-Some-read_masked.network in
    let cut = c.in-Some.ensures.byte (lit< tt) (λ w o h. h) in
    let spelled : text ≡ address ++ 47 ∷ mask =
    cut_at 47 text cut.2 ∙ ap₂ (λ a b. a ++ 47 ∷ b) (sym cut.0) (sym cut.1) in
    let lacks : All (λ b. b ≢ 47) address = subst (All (λ b. b ≢ 47)) (sym cut.0) (front_lacks 47 text cut.2) in
    reads_some entry_range (IsPlainEntry grammar) text (Network n)
    (inl record {
      network = ip_network n;
      writes = masked_cut grammar text address mask (ip_network n) spelled lacks c.in-Some-read_masked.ensures.some;
      is = refl;
    })

pub returns-in-None-read_masked-clause-reads : goal.returns-in-None-read_masked-clause-reads
returns-in-None-read_masked-clause-reads c =
    let grammar = c.args.grammar in
    let text = c.args.text.now in
    let address = c.in-Some.address.now in
    let mask = c.in-Some.mask.now in
    let cut = c.in-Some.ensures.byte (lit< tt) (λ w o h. h) in
    let spelled : text ≡ address ++ 47 ∷ mask =
    cut_at 47 text cut.2 ∙ ap₂ (λ a b. a ++ 47 ∷ b) (sym cut.0) (sym cut.1) in
    let lacks : All (λ b. b ≢ 47) address = subst (All (λ b. b ≢ 47)) (sym cut.0) (front_lacks 47 text cut.2) in
    let plain = none_of ip_network (IsNetworkText grammar) text c.read_network.result c.read_network.ensures
    c.in_default.not-Some in
    let masked = c.in-None-read_masked.ensures.none.0 refl in
    reads_none entry_range (IsPlainEntry grammar) text (λ range is. elim is [
      | inl h ↦
          unmasked_cut grammar text address mask h.network spelled lacks (plain h.network) (masked h.network) h.writes
      | inr h ↦ cut_no_address grammar text _ _ h.address (cut_at 47 text cut.2) h.writes
    ])

pub returns-in-Some-parse_address-clause-reads : goal.returns-in-Some-parse_address-clause-reads
returns-in-Some-parse_address-clause-reads c =
    let a = c.in-Some-parse_address.address in
    reads_some entry_range (IsPlainEntry c.args.grammar) c.args.text.now (Address a)
    (inr record { address = ip_address a; writes = c.in-Some-parse_address.ensures.some; is = refl })

pub returns-in-None-parse_address-clause-reads : goal.returns-in-None-parse_address-clause-reads
returns-in-None-parse_address-clause-reads c =
    let text = c.args.text.now in
    let lacks = all_lack 47 text (c.in-None.ensures.byte (lit< tt) (λ w o h. h)) in
    reads_none entry_range (IsPlainEntry c.args.grammar) text (λ range is. elim is [
      | inl h ↦ uncut_no_network c.args.grammar text h.network lacks h.writes
      | inr h ↦ c.in-None-parse_address.ensures.none.0 refl h.address h.writes
    ])
