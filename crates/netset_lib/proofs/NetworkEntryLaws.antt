-- Texts that are one network.
use Rattle.std.proofs.Common.{◌≡◌, ◌≢◌, ℕ, ◌+◌, ◌-◌, ◌^◌, List, [], ◌∷◌, All, refl, sym, ap}
use Rattle.std.proofs.Common.{◌∙◌, subst, inl, inr, append_assoc, Result, Ok, Err, IfErr}
use Rattle.ipnet_base.specs.Address.{Address, width}
use Rattle.ipnet_base.specs.Network.{Network, IsNetwork, IsTruncationOf, host_bits}
use Rattle.ipnet_base.proofs.NetworkLaws.{truncation_from_relation, truncation_twice, truncated_from_number}
use Rattle.ipnet.specs.declared.parser.Grammar.{Grammar}
use Rattle.ipnet.specs.NetworkParts.{network_at}
use Rattle.ipnet_sets.specs.SetRanges.{range_of}
use Rattle.ipnet_lists.specs.declared.entry.Entry.{Entry}
use Rattle.ipnet_lists.specs.declared.entry.Entry.TheVariants as Entries
use Rattle.netset_lib.specs.declared.network_entry.NetworkCause.{NetworkCause}
use Rattle.netset_lib.specs.declared.network_entry.NetworkCause.TheVariants as Causes
use Rattle.ipnet_lists.specs.Entries.{block_range, IsNetworkOrMasked, IsAddressText, IsEntryText, IsNoEntry}
use Rattle.ipnet_lists.specs.EntryOf.{entry_range, IsWrittenAs}
use Rattle.netset_lib.specs.NetworkEntries.{IsNetworkWord, IsNoNetworkWord, IsSomeRange, IsNetworkCause}
use Rattle.netset_lib.specs.NetworkSteps.{IsRange}
use Rattle.ipnet_lists.proofs.AddressBytes.{middle}
use Rattle.ipnet_lists.proofs.EntryTexts.{plain_no_dash}
use Rattle.ipnet_lists.proofs.RangeCovers.{whole_block}

-- a network and its truncation have one block
same_range : (t n : Network) → IsTruncationOf t n → block_range t ≡ block_range n
same_range t n h =
    ap block_range (truncation_from_relation t n h)
    ∙ ap (λ a. range_of n.family a (a + (2 ^ host_bits n - 1))) (ap (λ z. z.number) (truncation_twice n))

pub network_word : (grammar : Grammar) (text : List ℕ) (t n : Network) → IsTruncationOf t n
    → IsNetworkOrMasked grammar text n → IsNetworkWord grammar text t
network_word grammar text t n h writes = record {
  network = h.network;
  truncated = h.truncated;
  entry = inl (record { network = n; writes = writes; is = same_range t n h });
}

-- the network of one address
pub address_word : (grammar : Grammar) (text : List ℕ) (x : Address) (n : Network) → IsNetwork n
    → n ≡ network_at x (width x.family) → IsAddressText grammar text x → IsNetworkWord grammar text n
address_word grammar text x n u is writes =
    let range : block_range n ≡ range_of x.family x.number x.number =
    ap block_range is ∙ whole_block x.family x.number in
    record {
      network = u;
      truncated = truncated_from_number n (ap (λ z. z.number) is ∙ sym (ap (λ r. r.start) range));
      entry = inr (record { address = x; writes = writes; is = range });
    }

-- a range is not a network
range_cause : (grammar : Grammar) (text : List ℕ) (entry : Entry) → IsRange entry → IsWrittenAs grammar text entry
    → IsEntryText grammar text (entry_range entry) → IsSomeRange grammar text
range_cause grammar text entry kind written (inr h) = (entry_range entry, h)
range_cause grammar text (Entries.Network n) kind written (inl h) = absurd kind
range_cause grammar text (Entries.Address a) kind written (inl h) = absurd kind
range_cause grammar text (Entries.Ipv4Range first last) kind written (inl h) =
    absurd (middle (λ b. b ≢ 45) written.first_text 45 written.last_text
    (subst (All (λ b. b ≢ 45)) (written.spelled ∙ append_assoc written.first_text (45 ∷ []) written.last_text)
    (plain_no_dash grammar text (entry_range (Entries.Ipv4Range first last)) h)) refl)
range_cause grammar text (Entries.Ipv6Range first last) kind written (inl h) =
    absurd (middle (λ b. b ≢ 45) written.first_text 45 written.last_text
    (subst (All (λ b. b ≢ 45)) (written.spelled ∙ append_assoc written.first_text (45 ∷ []) written.last_text)
    (plain_no_dash grammar text (entry_range (Entries.Ipv6Range first last)) h)) refl)

range_is_no_network : (grammar : Grammar) (text : List ℕ) → IsSomeRange grammar text
    → IsNoNetworkWord grammar text
range_is_no_network grammar text (range, h) n word =
    middle (λ b. b ≢ 45) h.first_text 45 h.last_text
    (subst (All (λ b. b ≢ 45)) (h.spelled ∙ append_assoc h.first_text (45 ∷ []) h.last_text)
    (plain_no_dash grammar text (block_range n) word.entry)) refl

pub no_entry_is_no_network : (grammar : Grammar) (text : List ℕ) → IsNoEntry grammar text
    → IsNoNetworkWord grammar text
no_entry_is_no_network grammar text none n word = none (block_range n) (inl word.entry)

-- what is refused of an entry is a range
pub network_none : {N : Type 0} (grammar : Grammar) (text : List ℕ) (entry : Entry) (r : Result N NetworkCause)
    → IfErr r (λ cause. (cause ≡ Causes.Range) × IsRange entry) → IsWrittenAs grammar text entry
    → IsEntryText grammar text (entry_range entry) → IfErr r (λ _. IsNoNetworkWord grammar text)
network_none grammar text entry (Ok n) h written is = tt
network_none grammar text entry (Err cause) h written is =
    range_is_no_network grammar text (range_cause grammar text entry h.1 written is)

pub network_reported : {N : Type 0} (grammar : Grammar) (text : List ℕ) (entry : Entry) (r : Result N NetworkCause)
    → IfErr r (λ cause. (cause ≡ Causes.Range) × IsRange entry) → IsWrittenAs grammar text entry
    → IsEntryText grammar text (entry_range entry) → IfErr r (IsNetworkCause grammar text)
network_reported grammar text entry (Ok n) h written is = tt
network_reported grammar text entry (Err cause) h written is =
    subst (IsNetworkCause grammar text) (sym h.0) (range_cause grammar text entry h.1 written is)
