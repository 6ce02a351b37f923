-- The readings of a word, one after another.
use Rattle.std.proofs.Common.{◌≡◌, ◌+◌, ◌-◌, ◌==◌, ◌||◌, ◌⊎◌, ℕ, true, false, List, [], refl}
use Rattle.std.proofs.Common.{sym, ap, ◌∙◌, subst, arith, inl, inr, Option, Some, None, length, take, drop}
use Rattle.std.specs.List.{after_first, before_first, position_or_len}
use Rattle.std.proofs.lemmas.List.Sums.{position_or_len_is}
use Rattle.std.proofs.lemmas.Bool.{false_from_ne_true}
use Rattle.std.proofs.Common.{get_or}
use Rattle.memchr.specs.Find.{NoneBefore, Nowhere, Passes, is_byte, is_byte2}
use Rattle.std.specs.declared.net.ipv4_addr.Ipv4Addr.{Ipv4Addr}
use Rattle.std.specs.declared.net.ip_addr.IpAddr.{IpAddr}
use Rattle.std.specs.declared.net.ip_addr.IpAddr.TheVariants as Ip
use Rattle.std.proofs.lemmas.List.{take_all}
use Rattle.ipnet_base.specs.Address.{Address, IPv4, IPv6, ip_address}
use Rattle.ipnet.specs.declared.parser.Grammar.{Grammar}
use Rattle.ipnet_lists.specs.Causes.{IsCutAt}
use Rattle.ipnet_lists.specs.Entries.{IsAddressText, IsIpv4Text, ReadsAs}
use Rattle.ipnet_lists.proofs.CommentLaws.{behind}
use Rattle.ipnet_lists.proofs.EntryTexts.{one_address}
use Rattle.netset_words.specs.declared.host.Place.{Place}
use Rattle.netset_words.specs.Places.{AreLastParts, Else, IsAfterSlash, IsAtColon, IsAtDot, IsAtSlash, IsAtUser}
use Rattle.netset_words.specs.Places.{IsBeforeLastPort, IsBeforePath, IsBeforePort, IsHost, IsInside, IsPort, IsNamed}
use Rattle.netset_words.specs.Places.{IsOnlyAddress, IsOnlyIpv4}
use Rattle.netset_words.specs.Places.{IsPacketEnd, IsSomeAddress, IsSomeIpv4, before_sign, begins_with_slash, is_name}
use Rattle.netset_words.specs.Places.{trimmed}
use Rattle.netset_words.specs.Words.{Word}
use Rattle.netset_words.specs.PlaceSteps.{AreParts, IsFound, Finds}
use Rattle.netset_words.proofs.Cases.{match_none}
use Rattle.netset_words.proofs.PlaceBytes.{one_last}
use Rattle.std.proofs.Common.{IfNone}

-- ---- what was found

-- nothing was found
pub none_found : (grammar : Grammar) (IsSo : List ℕ → Type 0) (r : Option Place) → Finds grammar IsSo r
    → ((p : Place) → r ≡ Some p → ⊥) → (place : List ℕ) → ¬ (IsSo place)
none_found grammar IsSo r = match_none r ((place : List ℕ) → ¬ (IsSo place)) (IsFound grammar IsSo)

module _ (grammar : Grammar) (First Second : List ℕ → Type 0) where
  pub found_as : (p : Place) → (First p.text.now → Second p.text.now) → IsFound grammar First p
      → IsFound grammar Second p
  found_as p so h = record { is = so h.is; entry = h.entry; kind = h.kind }

  pub finds_as : (r : Option Place) → ((place : List ℕ) → First place → Second place)
      → ((place : List ℕ) → Second place → First place) → Finds grammar First r → Finds grammar Second r
  finds_as None so back h = λ place is. h place (back place is)
  finds_as (Some p) so back h = found_as p (so p.text.now) h

  pub else_first : (p : Place) → IsFound grammar First p → IsFound grammar (Else First Second) p
  else_first p h = record { is = inl h.is; entry = h.entry; kind = h.kind }

  pub else_second : (r : Option Place) → ((place : List ℕ) → ¬ (First place)) → Finds grammar Second r
      → Finds grammar (Else First Second) r
  else_second None none h = λ place is. elim is [ inl first ↦ none place first | inr both ↦ h place both.1 ]
  else_second (Some p) none h = record { is = inr (none, h.is); entry = h.entry; kind = h.kind }

  pub or_first : (p : Place) → IsFound grammar First p → IsFound grammar (λ place. First place ⊎ Second place) p
  or_first p h = record { is = inl h.is; entry = h.entry; kind = h.kind }

  pub or_second : (r : Option Place) → ((place : List ℕ) → ¬ (First place)) → Finds grammar Second r
      → Finds grammar (λ place. First place ⊎ Second place) r
  or_second None none h = λ place is. elim is [ inl first ↦ none place first | inr second ↦ h place second ]
  or_second (Some p) none h = record { is = inr h.is; entry = h.entry; kind = h.kind }

  pub none_of_two : ((place : List ℕ) → ¬ (First place)) → ((place : List ℕ) → ¬ (Second place)) → (place : List ℕ)
      → ¬ (First place ⊎ Second place)
  none_of_two lacks lacks_too place is = elim is [ inl first ↦ lacks place first | inr second ↦ lacks_too place second ]

  -- only one of two readings may be
  pub only_first : (r : Option Place) → ((place : List ℕ) → ¬ (Second place)) → Finds grammar First r
      → Finds grammar (λ place. First place ⊎ Second place) r
  only_first None none h = λ place is. elim is [ inl first ↦ h place first | inr second ↦ none place second ]
  only_first (Some p) none h = record { is = inl h.is; entry = h.entry; kind = h.kind }

-- with a condition that holds, or that does not
module _ (grammar : Grammar) (So : Type 0) (Is : List ℕ → Type 0) where
  pub with_so : (r : Option Place) → So → Finds grammar Is r → Finds grammar (λ place. So × Is place) r
  with_so None so h = λ place both. h place both.1
  with_so (Some p) so h = record { is = (so, h.is); entry = h.entry; kind = h.kind }

  pub with_both : (Too : Type 0) (r : Option Place) → So → Too → Finds grammar Is r
      → Finds grammar (λ place. So × Too × Is place) r
  with_both Too None so too h = λ place both. h place both.2
  with_both Too (Some p) so too h = record { is = (so, too, h.is); entry = h.entry; kind = h.kind }

  pub with_both_after : (Too : Type 0) (r : Option Place) → So → Too → Finds grammar Is r
      → Finds grammar (λ place. Is place × So × Too) r
  with_both_after Too None so too h = λ place all. h place all.0
  with_both_after Too (Some p) so too h = record { is = (h.is, so, too); entry = h.entry; kind = h.kind }

  pub with_so_after : (r : Option Place) → So → Finds grammar Is r → Finds grammar (λ place. Is place × So) r
  with_so_after None so h = λ place both. h place both.0
  with_so_after (Some p) so h = record { is = (h.is, so); entry = h.entry; kind = h.kind }

-- ---- cuts

module _ (grammar : Grammar) (sign : ℕ) (IsSo : List ℕ → List ℕ → List ℕ → Type 0) (text : List ℕ) where
  pub cut_finds : (front back : List ℕ) (r : Option Place) → AreParts sign text front back
      → Finds grammar (λ place. IsSo place front back) r → Finds grammar (λ place. IsCutAt sign (IsSo place) text) r
  cut_finds front back r parts h =
      finds_as grammar (λ place. IsSo place front back) (λ place. IsCutAt sign (IsSo place) text) r
      (λ place is. (
        parts.within,
        subst (λ z. IsSo place z (after_first (λ c. c == sign) text)) parts.front_is
            (subst (λ z. IsSo place front z) parts.back_is is),
      ))
      (λ place is. subst (λ z. IsSo place z back) (sym parts.front_is)
      (subst (λ z. IsSo place (before_first (λ c. c == sign) text) z) (sym parts.back_is) is.1)) h

  pub no_cut : position_or_len (λ c. c == sign) text ≡ length text → (place : List ℕ)
      → ¬ (IsCutAt sign (IsSo place) text)
  no_cut none place is = absurd (omega (arith, none, is.0))

-- the first place of a sign
place_of : (c : ℕ) (text : List ℕ) (i : ℕ) → NoneBefore (Passes (is_byte c) text) 0 (length text) i
    → Passes (is_byte c) text i → position_or_len (λ b. b == c) text ≡ i
place_of c text i before found =
    position_or_len_is (λ b. b == c) text i 0 (omega (arith, before.high))
    (λ k less. false_from_ne_true (get_or text k 0 == c) (before.before k (omega arith) less)) (λ less. found)

pub parts_at : (c : ℕ) (text : List ℕ) (i : ℕ) → NoneBefore (Passes (is_byte c) text) 0 (length text) i
    → Passes (is_byte c) text i
    → AreParts c text (take i text) (take (length text - (i + 1)) (drop (i + 1) text))
parts_at c text i before found =
    let is = place_of c text i before found in
    record {
      within = omega (arith, is, before.high);
      front_is = ap (λ n. take n text) (sym is);
      back_is = behind text (i + 1) ∙ ap (λ k. drop (k + 1) text) (sym is);
    }

pub parts_nowhere : (c : ℕ) (text : List ℕ) → Nowhere (Passes (is_byte c) text) 0 (length text)
    → position_or_len (λ b. b == c) text ≡ length text
parts_nowhere c text none =
    position_or_len_is (λ b. b == c) text (length text) 0 (omega arith)
    (λ k less. false_from_ne_true (get_or text k 0 == c) (none k (omega arith) less))
    (λ less. absurd (omega (arith, less)))

-- a text that has no such sign
pub uncut : (c : ℕ) (text : List ℕ) → position_or_len (λ b. b == c) text ≡ length text
    → text ≡ before_first (λ b. b == c) text
uncut c text none = sym (ap (λ n. take n text) none ∙ take_all (length text) text (omega arith))

-- ---- the front of a text

pub sign_at : (text : List ℕ) (i : ℕ) → NoneBefore (Passes (is_byte2 58 47) text) 0 (length text) i
    → Passes (is_byte2 58 47) text i → take i text ≡ before_sign text
sign_at text i before found =
    ap (λ n. take n text)
    (sym (position_or_len_is (λ b. (b == 58) || (b == 47)) text i 0 (omega (arith, before.high))
    (λ k less. false_from_ne_true ((get_or text k 0 == 58) || (get_or text k 0 == 47))
    (before.before k (omega arith) less)) (λ less. found)))

pub sign_nowhere : (text : List ℕ) → Nowhere (Passes (is_byte2 58 47) text) 0 (length text) → text ≡ before_sign text
sign_nowhere text none =
    sym (ap (λ n. take n text)
    (position_or_len_is (λ b. (b == 58) || (b == 47)) text (length text) 0 (omega arith)
    (λ k less. false_from_ne_true ((get_or text k 0 == 58) || (get_or text k 0 == 47)) (none k (omega arith) less))
    (λ less. absurd (omega (arith, less))))
    ∙ take_all (length text) text (omega arith))

-- ---- addresses

pub no_address_read : (grammar : Grammar) (text : List ℕ) (r : Option IpAddr)
    → ReadsAs ip_address (IsAddressText grammar) text r → IfNone r (¬ (IsSomeAddress grammar text))
no_address_read grammar text None h = λ is. h.none.0 refl is.0 is.1
no_address_read grammar text (Some a) h = tt

pub v4_text : (grammar : Grammar) (text : List ℕ) (a : Ipv4Addr) → IsAddressText grammar text (ip_address (Ip.V4 a))
    → IsIpv4Text grammar text (ip_address (Ip.V4 a))
v4_text grammar text a (inl h) = h
v4_text grammar text a (inr h) = let clash : IPv4 ≡ IPv6 = h.family in absurd cc

pub ipv6_is_no_ipv4 : (grammar : Grammar) (text : List ℕ) (x : Address) → x.family ≡ IPv6
    → IsAddressText grammar text x → ¬ (IsSomeIpv4 grammar text)
ipv6_is_no_ipv4 grammar text x family h (y, writes) =
    let same = one_address grammar text y x (inl writes) h in
    let clash : IPv4 ≡ IPv6 = sym writes.family ∙ ap (λ z. z.family) same ∙ family in
    absurd cc

-- ---- the last place of a sign

pub last_port_finds : (grammar : Grammar) (text front back : List ℕ) (r : Option Place)
    → AreLastParts 58 text front back → Finds grammar (λ place. IsBeforePort grammar place front back) r
    → Finds grammar (IsBeforeLastPort grammar text) r
last_port_finds grammar text front back r parts h =
    finds_as grammar (λ place. IsBeforePort grammar place front back) (IsBeforeLastPort grammar text) r
    (λ place is. record {
      port = back;
      parts = subst (λ z. AreLastParts 58 text z back) (sym is.0.0) parts;
      digits = is.1;
      address = subst (IsSomeAddress grammar) (sym is.0.0) is.0.1;
    })
    (λ place is.
    let same = one_last 58 text place is.port front back is.parts parts in
    ((same.0, subst (IsSomeAddress grammar) same.0 is.address), subst IsPort same.1 is.digits))
    h

pub dot_finds : (grammar : Grammar) (w : Word) (front back : List ℕ) (r : Option Place)
    → AreLastParts 46 (trimmed w.text) front back → IsPacketEnd w
    → Finds grammar (IsOnlyAddress grammar front) r → Finds grammar (IsAtDot grammar w) r
dot_finds grammar w front back r parts packet h =
    finds_as grammar (IsOnlyAddress grammar front) (IsAtDot grammar w) r
    (λ place is. record {
      packet = packet;
      port = back;
      parts = subst (λ z. AreLastParts 46 (trimmed w.text) z back) (sym is.0) parts;
      address = subst (IsSomeAddress grammar) (sym is.0) is.1;
    })
    (λ place is.
    let same = one_last 46 (trimmed w.text) place is.port front back is.parts parts in
    (same.0, subst (IsSomeAddress grammar) same.0 is.address))
    h

-- ---- the readings of a host, and inside a word, one after another

abbrev pub BySign : Grammar → (text place : List ℕ) → Type 0
BySign g text place = IsOnlyIpv4 g (before_sign text) place

abbrev pub BySlashPort : Grammar → (text place : List ℕ) → Type 0
BySlashPort g text place = IsCutAt 47 (IsBeforePort g place) text

abbrev pub AfterSign : Grammar → (text place : List ℕ) → Type 0
AfterSign g text place = BySlashPort g text place ⊎ IsBeforeLastPort g text place

abbrev pub AfterAddress : Grammar → (text place : List ℕ) → Type 0
AfterAddress g text place = BySign g text place ⊎ BySlashPort g text place ⊎ IsBeforeLastPort g text place

abbrev pub AfterSlashes : Grammar → (back place : List ℕ) → Type 0
AfterSlashes g back place = (begins_with_slash back ≡ true) × IsHost g (drop 1 back) place

abbrev pub AtStart : Grammar → (front back place : List ℕ) → Type 0
AtStart g front back place = (begins_with_slash back ≡ false) × (front ≡ []) × IsHost g back place

abbrev pub AfterName : Grammar → Word → (front back place : List ℕ) → Type 0
AfterName g w front back place =
    (begins_with_slash back ≡ false) × (is_name front ≡ true) × IsNamed g w place front back

abbrev pub AtSlashFirst : Grammar → Word → (front back place : List ℕ) → Type 0
AtSlashFirst g w front back place = IsBeforePort g place front back ⊎ IsAfterSlash g w place front back

abbrev pub ToPath : Grammar → (front back place : List ℕ) → Type 0
ToPath g front back place = IsBeforePath g place front back

abbrev pub ByUser : Grammar → (text place : List ℕ) → Type 0
ByUser g text place = IsCutAt 64 (IsAtUser g place) text

abbrev pub BySlash : Grammar → Word → (text place : List ℕ) → Type 0
BySlash g w text place = IsCutAt 47 (IsAtSlash g w place) text

abbrev pub ByColon : Grammar → (text place : List ℕ) → Type 0
ByColon g text place = IsCutAt 58 (IsAtColon g place) text

abbrev pub AfterColon : Grammar → Word → List ℕ → List ℕ → Type 0
AfterColon g w text = Else (IsBeforeLastPort g text) (IsAtDot g w)

abbrev pub AfterSlash : Grammar → Word → List ℕ → List ℕ → Type 0
AfterSlash g w text = Else (ByColon g text) (AfterColon g w text)

abbrev pub AfterUser : Grammar → Word → List ℕ → List ℕ → Type 0
AfterUser g w text = Else (BySlash g w text) (AfterSlash g w text)

module _ (g : Grammar) (w : Word) (text : List ℕ) (is : text ≡ trimmed w.text) where
  pub inside_so : (r : Option Place) → Finds g (Else (ByUser g text) (AfterUser g w text)) r
      → Finds g (IsInside g w) r
  inside_so r h = subst (λ z. Finds g (Else (ByUser g z) (AfterUser g w z)) r) is h
