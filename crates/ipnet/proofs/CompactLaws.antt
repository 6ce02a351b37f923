-- Bytes split into octets and a length are the bytes of exactly one network.
use Rattle.std.proofs.Common.{◌≡◌, ◌↔◌, ℕ, zero, suc, ◌+◌, ◌^◌, ◌<◌, List, [], ◌∷◌, ◌++◌, length, get_or, take, drop}
use Rattle.std.proofs.Common.{Ok, refl, sym, ap, ◌∙◌, subst, arith, lit<}
use Rattle.std.proofs.lemmas.List.{take-append-drop, length-take-le}
use Rattle.std.proofs.lemmas.Nat.{from_be_bytes-to_be_bytes_4, be_bytes_4}
use Rattle.std.specs.Int.{w32, w128, from_be_bytes}
use Rattle.ipnet_base.specs.Address.{Family, IPv4, IPv6, width, family_index}
use Rattle.ipnet_base.specs.Network.{Network, IsNetwork}
use Rattle.ipnet.specs.CanonicalTexts.{address_octets}
use Rattle.ipnet_base.specs.Results.{IsOkExactlyAt}
use Rattle.ipnet.specs.Bytes.{network_bytes, octet_count, HasUnknownVariant}
use Rattle.ipnet_base.proofs.DigitLaws.{number_back}
use Rattle.ipnet_base.proofs.NetworkLaws.{same_network}
use Rattle.ipnet.proofs.NumberOctets.{sixteen_again}

-- the number that the octets write
abbrev octets_number : Family → List ℕ → ℕ
octets_number IPv4 octets = from_be_bytes w32 octets
octets_number IPv6 octets = from_be_bytes w128 octets

octets-number-again : (family : Family) (octets : List ℕ) → length octets ≡ octet_count family
    → ((k : ℕ) → get_or octets k 0 < 2 ^ 8)
    → address_octets family (octets_number family octets) ≡ octets
octets-number-again IPv4 octets four fit = be_bytes_4 octets (from_be_bytes w32 octets) four fit refl
octets-number-again IPv6 octets sixteen fit = sixteen_again octets sixteen fit

front_fits : (xs ys : List ℕ) → ((k : ℕ) → get_or (xs ++ ys) k 0 < 2 ^ 8) → (k : ℕ) → get_or xs k 0 < 2 ^ 8
front_fits [] ys fit k = lit< tt
front_fits (x ∷ xs) ys fit zero = fit 0
front_fits (x ∷ xs) ys fit (suc k) = front_fits xs ys (λ j. fit (suc j)) k

one_item : (xs : List ℕ) → length xs ≡ 1 → xs ≡ get_or xs 0 0 ∷ []
one_item [] one = absurd (omega arith)
one_item (x ∷ []) one = refl
one_item (x ∷ y ∷ xs) one = absurd (omega arith)

-- Bytes that are octets and one byte more are the bytes of the network with the number that the octets write.
pub split_bytes : (family : Family) (bytes octets last : List ℕ) (number prefix_len : ℕ) (n : Network)
    → octets ≡ take (octet_count family) bytes
    → last ≡ drop (octet_count family) bytes → length last + octet_count family ≡ length bytes → length last ≡ 1
    → ((k : ℕ) → get_or bytes k 0 < 2 ^ 8)
    → number ≡ octets_number family octets → prefix_len ≡ get_or last 0 0
    → n ≡ record { family = family; number = number; prefix_len = prefix_len } → bytes ≡ network_bytes n
split_bytes family bytes octets last number prefix_len n front back whole one fit a p e =
    let split : bytes ≡ octets ++ last =
    sym (take-append-drop (octet_count family) bytes) ∙ ap (λ os. os ++ drop (octet_count family) bytes) (sym front)
    ∙ ap (λ l. octets ++ l) (sym back) in
    let fit' : (k : ℕ) → get_or (octets ++ last) k 0 < 2 ^ 8 =
    subst (λ bs. (k : ℕ) → get_or bs k 0 < 2 ^ 8) split fit in
    let count : length octets ≡ octet_count family =
    ap length front ∙ length-take-le (octet_count family) bytes (omega arith) in
    let again : address_octets family number ≡ octets =
    ap (address_octets family) a ∙ octets-number-again family octets count (front_fits octets last fit') in
    split ∙ ap (λ os. os ++ last) (sym again)
    ∙ ap (λ l. address_octets family number ++ l) (one_item last one ∙ ap (λ q. q ∷ []) (sym p))
    ∙ ap network_bytes (sym e)

-- The bytes show the number and the length.
same_parts : (family : Family) (a b p q : ℕ) → a < 2 ^ width family → b < 2 ^ width family
    → address_octets family a ++ p ∷ [] ≡ address_octets family b ++ q ∷ []
    → (a ≡ b) × (p ≡ q)
same_parts IPv4 a b p q fit fit' e = (
  sym (from_be_bytes-to_be_bytes_4 a fit) ∙ ap (λ bytes. from_be_bytes w32 (take 4 bytes)) e
      ∙ from_be_bytes-to_be_bytes_4 b fit',
  ap (λ bytes. get_or bytes 4 0) e,
)
same_parts IPv6 a b p q fit fit' e = (
  sym (number_back a fit) ∙ ap (λ bytes. from_be_bytes w128 (take 16 bytes)) e ∙ number_back b fit',
  ap (λ bytes. get_or bytes 16 0) e,
)

-- and so the network
network_from_bytes : (family : Family) (n k : Network) → n.family ≡ family → k.family ≡ family → IsNetwork n
    → IsNetwork k
    → network_bytes n ≡ network_bytes k → n ≡ k
network_from_bytes family n k of_n of_k u v e =
    let fit : n.number < 2 ^ width family = subst (λ f. n.number < 2 ^ width f) of_n u.address_fits in
    let fit' : k.number < 2 ^ width family = subst (λ f. k.number < 2 ^ width f) of_k v.address_fits in
    let bytes : address_octets family n.number ++ n.prefix_len ∷ []
    ≡ address_octets family k.number ++ k.prefix_len ∷ [] =
    ap (λ f. address_octets f n.number ++ n.prefix_len ∷ []) (sym of_n) ∙ e
    ∙ ap (λ f. address_octets f k.number ++ k.prefix_len ∷ []) of_k in
    let parts = same_parts family n.number k.number n.prefix_len k.prefix_len fit fit' bytes in
    same_network n k (of_n ∙ sym of_k) parts.0 parts.1

-- If each value has a network of its own, all of one family, then no two values have the same bytes.
pub ok_at_bytes : {N E : Type 0} (network_of : N → Network) (family : Family)
    (of_family : (x : N) → (network_of x).family ≡ family)
    (valid : (x : N) → IsNetwork (network_of x)) (one : (x y : N) → network_of x ≡ network_of y → x ≡ y) (value : N)
    (bytes : List ℕ)
    → bytes ≡ network_bytes (network_of value)
    → IsOkExactlyAt {E = E} (Ok value) (λ n. bytes ≡ network_bytes (network_of n))
ok_at_bytes network_of family of_family valid one value bytes e = λ n. (
  λ ok. let same : value ≡ n = cc in subst (λ x. bytes ≡ network_bytes (network_of x)) same e,
  λ e'. ap Ok (one value n (network_from_bytes family (network_of value) (network_of n) (of_family value) (of_family n)
      (valid value) (valid n) (sym e ∙ e'))),
)

-- If the first byte stands for a family, the variant is never refused.
pub no_other_tag : {P : Type 0} (family : Family) (bytes rest : List ℕ) (tag : ℕ) → bytes ≡ tag ∷ rest
    → tag ≡ family_index family → ¬ P → P ↔ HasUnknownVariant bytes
no_other_tag family bytes rest tag e is never =
    (λ p. absurd (never p), λ h. let first : h.0 ≡ tag = cc (h.2) in absurd (h.3 family (first ∙ is)))
