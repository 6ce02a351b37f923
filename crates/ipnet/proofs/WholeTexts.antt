-- The readers of whole networks are the grammar, and a text writes one network at most.
use Rattle.std.proofs.Common.{◌≡◌, ◌≢◌, ℕ, ◌≤◌, List, [], ◌∷◌, ◌++◌, length, get_or, Some, None, Result, Ok, Err}
use Rattle.std.proofs.Common.{MatchResult, refl, sym, ap, ◌∙◌, subst, arith, inl, inr, append_assoc, lit≤}
use Rattle.std.proofs.lemmas.Option.{none-some, option_and_then_some, some_pair_parts}
use Rattle.std.specs.Int.{w32, w128, from_be_bytes}
use Rattle.std.specs.Str.Parse.{AllDigits}
use Rattle.std.proofs.NetLemmas.Numbers.{NoDigit}
use Rattle.std.specs.Net.Addr.{octets_of}
use Rattle.ipnet_base.specs.Address.{IPv4, IPv6}
use Rattle.ipnet_base.specs.Network.{Network}
use Rattle.ipnet_base.proofs.NetworkLaws.{same_network}
use Rattle.ipnet.specs.declared.net.IpNet.{IpNet}
use Rattle.ipnet.specs.declared.net.ipv4_net.Ipv4Net.{Ipv4Net}
use Rattle.ipnet.specs.declared.net.ipv6_net.Ipv6Net.{Ipv6Net}
use Rattle.ipnet.specs.NetLaws.{ipv4_one_to_one, ipv6_one_to_one, ip_one_to_one}
use Rattle.ipnet.specs.NetworkOf.{ipv6_network_of, ipv4_network, ipv6_network, ip_network}
use Rattle.ipnet.specs.declared.parser.Grammar.{Grammar}
use Rattle.ipnet.specs.Numerals.{IsDecimal, IsGroup}
use Rattle.ipnet.specs.AddressTexts.{IsGroups, EndsInIpv4, IsIpv6AddressText}
use Rattle.ipnet.specs.NetworkTexts.{IsIpv4NetworkText, IsIpv6NetworkText, IsNetworkText, WritesNone, ReadsNetwork}
use Rattle.ipnet.specs.ReaderSteps.{digit_run, decimal_run, hex_run, read_prefix_len, read_ipv4_network, read_ipv6}
use Rattle.ipnet.specs.ReaderSteps.{read_ipv6_network}
use Rattle.ipnet.proofs.DigitTexts.{AllDigits_hex, digit_run-append, digit_run_sound}
use Rattle.ipnet.proofs.Ipv4Texts.{Dots-from, Dots-rest, octet_run, read_prefix_len_complete, read_prefix_len_sound}
use Rattle.ipnet.proofs.Ipv4Texts.{read_ipv4_network_complete}
use Rattle.ipnet.proofs.Ipv6Texts.{read_ipv6_complete, read_ipv6_sound}

read_ipv6_network_complete : (grammar : Grammar) (text : List ℕ) (network : Network)
    (h : IsIpv6NetworkText grammar text network) → read_ipv6_network grammar text ≡ Some (h.groups, network.prefix_len)
unfolding read_ipv6_network
read_ipv6_network_complete grammar text network h =
    let shown = h.spelled ∙ append_assoc h.address_text (47 ∷ []) h.length_text in
    rw (
      shown,
      read_ipv6_complete grammar h.address_text h.groups h.length_text h.writes_address,
      read_prefix_len_complete grammar 3 128 h.length_text network.prefix_len (lit≤ tt) (lit≤ tt) h.writes_length,
    )

pub read_ipv6_network_sound : (grammar : Grammar) (text groups : List ℕ) (n : ℕ)
    → read_ipv6_network grammar text ≡ Some (groups, n)
    → IsIpv6NetworkText grammar text (ipv6_network_of (from_be_bytes w128 (octets_of groups)) n)
unfolding read_ipv6_network
read_ipv6_network_sound grammar text groups n e =
    option_and_then_some _ (read_ipv6 grammar text) _ e λ address read e₁.
    option_and_then_some _ (read_prefix_len grammar 3 128 address.1) _ e₁ λ m length_read e₂.
    let (groups_are, n_is) = some_pair_parts address.0 groups m n e₂ in
    let (front, split, is) = read_ipv6_sound grammar text address.0 address.1 read in
    let (digits, slash, decimal) = read_prefix_len_sound grammar 3 128 address.1 m length_read in
    record {
      address_text = front;
      length_text = digits;
      groups = groups;
      spelled = split ∙ ap (λ t. front ++ t) slash ∙ sym (append_assoc front (47 ∷ []) digits);
      writes_address = subst (λ gs. IsIpv6AddressText grammar front gs) groups_are is;
      writes_length = subst (λ k. IsDecimal grammar 3 128 digits k) n_is decimal;
      family = refl;
      number = refl;
    }

-- ---- one value a text

ipv4_unique : (grammar : Grammar) (text : List ℕ) (m n : Network) → IsIpv4NetworkText grammar text m
    → IsIpv4NetworkText grammar text n → m ≡ n
ipv4_unique grammar text m n h k =
    let (octets, len) =
    some_pair_parts h.octets k.octets m.prefix_len n.prefix_len
    (sym (read_ipv4_network_complete grammar text m h) ∙ read_ipv4_network_complete grammar text n k) in
    same_network m n (h.family ∙ sym k.family) (h.number ∙ ap (from_be_bytes w32) octets ∙ sym k.number) len

ipv6_unique : (grammar : Grammar) (text : List ℕ) (m n : Network) → IsIpv6NetworkText grammar text m
    → IsIpv6NetworkText grammar text n → m ≡ n
ipv6_unique grammar text m n h k =
    let (groups, len) =
    some_pair_parts h.groups k.groups m.prefix_len n.prefix_len
    (sym (read_ipv6_network_complete grammar text m h) ∙ read_ipv6_network_complete grammar text n k) in
    same_network m n (h.family ∙ sym k.family)
    (h.number ∙ ap (λ gs. from_be_bytes w128 (octets_of gs)) groups ∙ sym k.number) len

-- ---- which family: the byte after the first digits

dot_after : (grammar : Grammar) (text : List ℕ) (network : Network) → IsIpv4NetworkText grammar text network
    → get_or (decimal_run text).1 0 0 ≡ 46
dot_after grammar text network h =
    let dots = Dots-from grammar h.address_text h.octets h.writes_address in
    let after = 47 ∷ h.length_text in
    let shown =
    h.spelled ∙ append_assoc h.address_text (47 ∷ []) h.length_text
    ∙ Dots-rest grammar h.address_text h.octets after dots in
    rw (shown, octet_run grammar dots.t₁ dots.a _ dots.is_a (lit≤ tt))

after_group : (first more text : List ℕ) (g : ℕ) → IsGroup first g → text ≡ first ++ (58 ∷ more)
    → get_or (hex_run text).1 0 0 ≡ 58
after_group first more text g h e = rw (e, digit_run-append 16 4 first (58 ∷ more) h.digits.1 h.short (lit≤ tt))

colon_after : (grammar : Grammar) (text more groups : List ℕ) → IsIpv6AddressText grammar text groups
    → get_or (hex_run (text ++ more)).1 0 0 ≡ 58
colon_after grammar text more groups (inl h) = by_groups groups h.0 h.1
  where
    by_groups : (groups : List ℕ) → length groups ≡ 8 → IsGroups text groups
        → get_or (hex_run (text ++ more)).1 0 0 ≡ 58
    by_groups [] eight h = absurd (omega arith)
    by_groups (g ∷ []) eight h = absurd (omega arith)
    by_groups (g ∷ i ∷ groups) eight h = after_group h.0 (h.1 ++ more) _ g h.3 (rw h.2 (simp append_assoc))
colon_after grammar text more groups (inr (inl h)) = by_mixed groups h.0 h.1
  where
    by_mixed : (groups : List ℕ) → length groups ≡ 8 → EndsInIpv4 grammar text groups
        → get_or (hex_run (text ++ more)).1 0 0 ≡ 58
    by_mixed [] eight h = absurd h
    by_mixed (g ∷ []) eight h = absurd h
    by_mixed (g ∷ i ∷ []) eight h = absurd (omega arith)
    by_mixed (g ∷ i ∷ j ∷ groups) eight h = after_group h.0 (h.1 ++ more) _ g h.3 (rw h.2 (simp append_assoc))
colon_after grammar text more groups (inr (inr h)) = by_head h.head h.head_groups
  where
    by_head : (head : List ℕ) → IsGroups h.head_text head → get_or (hex_run (text ++ more)).1 0 0 ≡ 58
    by_head [] k = unfold digit_run in rw (h.spelled, k)
    by_head (g ∷ []) k = after_group h.head_text (58 ∷ (h.tail_text ++ more)) _ g k (rw h.spelled (simp append_assoc))
    by_head (g ∷ i ∷ head) k =
        after_group k.0 (k.1 ++ (58 ∷ 58 ∷ (h.tail_text ++ more))) _ g k.3 (rw (h.spelled, k.2) (simp append_assoc))

-- a "." that follows decimal digits also follows the same digits read as hexadecimal ones
dot_at : (text ds rest : List ℕ) → text ≡ ds ++ rest → AllDigits 10 ds → length ds ≤ 3 → get_or rest 0 0 ≡ 46
    → get_or (hex_run text).1 0 0 ≡ 46
dot_at text ds rest split all few dot =
    let stop : NoDigit 16 rest = rw dot (lit≤ tt) in
    rw (split, digit_run-append 16 4 ds rest (AllDigits_hex ds all) (omega (arith, few)) stop) dot

not_ipv6 : (grammar : Grammar) (text : List ℕ) (network : Network) → get_or (decimal_run text).1 0 0 ≡ 46
    → IsIpv6NetworkText grammar text network → ⊥
not_ipv6 grammar text network dot h =
    let run = digit_run_sound 10 3 text in
    let shown = h.spelled ∙ append_assoc h.address_text (47 ∷ []) h.length_text in
    let colon : get_or (hex_run text).1 0 0 ≡ 58 =
    rw shown (colon_after grammar h.address_text (47 ∷ h.length_text) h.groups h.writes_address) in
    omega (arith, sym (dot_at text _ _ run.spelled run.all run.fits dot) ∙ colon)

not_ipv4 : (grammar : Grammar) (text : List ℕ) (network : Network) → get_or (decimal_run text).1 0 0 ≢ 46
    → IsIpv4NetworkText grammar text network → ⊥
not_ipv4 grammar text network other h = other (dot_after grammar text network h)

-- no text is a text of both families
pub families_apart : (grammar : Grammar) (text : List ℕ) (m n : Network) → IsIpv4NetworkText grammar text m
    → IsIpv6NetworkText grammar text n → ⊥
families_apart grammar text m n h k = not_ipv6 grammar text n (dot_after grammar text m h) k

-- a text writes one network at most
pub one_network : (grammar : Grammar) (text : List ℕ) (m n : Network) → IsNetworkText grammar text m
    → IsNetworkText grammar text n → m ≡ n
one_network grammar text m n (inl h) (inl k) = ipv4_unique grammar text m n h k
one_network grammar text m n (inl h) (inr k) = absurd (families_apart grammar text m n h k)
one_network grammar text m n (inr h) (inl k) = absurd (families_apart grammar text n m k h)
one_network grammar text m n (inr h) (inr k) = ipv6_unique grammar text m n h k

-- what is a text of a network is a text of its family
pub of_ipv4 : (grammar : Grammar) (text : List ℕ) (n : Network) → n.family ≡ IPv4 → IsNetworkText grammar text n
    → IsIpv4NetworkText grammar text n
of_ipv4 grammar text n is (inl h) = h
of_ipv4 grammar text n is (inr h) = let clash : IPv4 ≡ IPv6 = sym is ∙ h.family in absurd cc

pub of_ipv6 : (grammar : Grammar) (text : List ℕ) (n : Network) → n.family ≡ IPv6 → IsNetworkText grammar text n
    → IsIpv6NetworkText grammar text n
of_ipv6 grammar text n is (inl h) = let clash : IPv6 ≡ IPv4 = sym is ∙ h.family in absurd cc
of_ipv6 grammar text n is (inr h) = h

-- what was read from a text that writes the network of a value
pub read_back : {N E : Type 0} (network_of : N → Network) (Writes : List ℕ → Network → Type 0) (text written : List ℕ)
    (value : N) (result : Result N E)
    → ReadsNetwork network_of Writes text result → text ≡ written → Writes written (network_of value)
    → result ≡ Ok value
read_back network_of Writes text written value result read same h =
    (read.ok value).1 (subst (λ t. Writes t (network_of value)) (sym same) h)

-- If each value has a network of its own: the contract of a reader, from the network that the text writes.
pub reads : {N E : Type 0} (network_of : N → Network) (one : (x y : N) → network_of x ≡ network_of y → x ≡ y)
    (Writes : List ℕ → Network → Type 0)
    (text : List ℕ) (one_network : (m n : Network) → Writes text m → Writes text n → m ≡ n) (result : Result N E)
    → MatchResult result (λ n. Writes text (network_of n)) (λ _. WritesNone Writes text)
    → ReadsNetwork network_of Writes text result
reads network_of one Writes text one_network (Ok m) writes = record {
  ok =
      λ n. (
        λ e. let same : m ≡ n =
            cc in
            subst (λ x. Writes text (network_of x)) same writes,
        λ h. ap Ok (one m n (one_network (network_of m) (network_of n) writes h)),
      );
  error = (λ e. absurd (cc), λ none. absurd (none (network_of m) writes));
}
reads network_of one Writes text one_network (Err _) none = record {
  ok = λ n. (λ e. absurd (cc), λ h. absurd (none (network_of n) h));
  error = (λ _. none, λ _. refl);
}

pub reads_ip : {E : Type 0} (grammar : Grammar) (text : List ℕ) (result : Result IpNet E)
    → MatchResult result (λ n. IsNetworkText grammar text (ip_network n)) (λ _. WritesNone (IsNetworkText grammar) text)
    → ReadsNetwork ip_network (IsNetworkText grammar) text result
reads_ip grammar text = reads ip_network ip_one_to_one (IsNetworkText grammar) text (one_network grammar text)

pub reads_ipv4 : {E : Type 0} (grammar : Grammar) (text : List ℕ) (result : Result Ipv4Net E)
    → MatchResult result (λ n. IsIpv4NetworkText grammar text (ipv4_network n))
    (λ _. WritesNone (IsIpv4NetworkText grammar) text)
    → ReadsNetwork ipv4_network (IsIpv4NetworkText grammar) text result
reads_ipv4 grammar text = reads ipv4_network ipv4_one_to_one (IsIpv4NetworkText grammar) text (ipv4_unique grammar text)

pub reads_ipv6 : {E : Type 0} (grammar : Grammar) (text : List ℕ) (result : Result Ipv6Net E)
    → MatchResult result (λ n. IsIpv6NetworkText grammar text (ipv6_network n))
    (λ _. WritesNone (IsIpv6NetworkText grammar) text)
    → ReadsNetwork ipv6_network (IsIpv6NetworkText grammar) text result
reads_ipv6 grammar text = reads ipv6_network ipv6_one_to_one (IsIpv6NetworkText grammar) text (ipv6_unique grammar text)

-- ---- what the reader of a whole text met

-- a text whose first decimal digits "." follows writes a network only as an IPv4 one, any other only as an IPv6 one
pub ipv4_none : (grammar : Grammar) (text : List ℕ) → get_or (decimal_run text).1 0 0 ≡ 46
    → None ≡ read_ipv4_network grammar text → (network : Network) → ¬ (IsNetworkText grammar text network)
ipv4_none grammar text dot none network (inl h) = none-some _ (none ∙ read_ipv4_network_complete grammar text network h)
ipv4_none grammar text dot none network (inr h) = not_ipv6 grammar text network dot h

pub ipv6_none : (grammar : Grammar) (text : List ℕ) → get_or (decimal_run text).1 0 0 ≢ 46
    → None ≡ read_ipv6_network grammar text → (network : Network) → ¬ (IsNetworkText grammar text network)
ipv6_none grammar text other none network (inl h) = not_ipv4 grammar text network other h
ipv6_none grammar text other none network (inr h) =
    none-some _ (none ∙ read_ipv6_network_complete grammar text network h)
