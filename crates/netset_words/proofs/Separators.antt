-- Each address has three ".", seven ":" or "::".
use Rattle.std.proofs.Common.{◌≡◌, ◌≤◌, ℕ, ◌||◌, ◌==◌, ◌-◌, ◌+◌, Bool, true, false, cond, List, [], ◌∷◌, ◌++◌, length}
use Rattle.std.proofs.Common.{refl, append_assoc, ap, sym, ◌∙◌, subst, arith, drop, inl, inr, take, if◌then◌else◌}
use Rattle.std.specs.Char.{is_ascii_whitespace}
use Rattle.std.specs.List.{after_first, before_first, count_by, list_any, position_or_len, suffix_len}
use Rattle.std.proofs.lemmas.List.{take-append-drop}
use Rattle.std.proofs.lemmas.List.Sums.{sum_by-append}
use Rattle.ipnet_base.specs.Address.{Address}
use Rattle.ipnet_base.specs.Network.{Network}
use Rattle.ipnet_base.specs.Ranges.{AddressRange}
use Rattle.ipnet.specs.declared.parser.Grammar.{Grammar}
use Rattle.ipnet.specs.AddressTexts.{IsIpv4AddressText, IsIpv6AddressText, IsGroups, EndsInIpv4}
use Rattle.ipnet.proofs.Ipv4Texts.{Dots-from}
use Rattle.ipnet_lists.specs.Entries.{IsAddressText, IsEntryText, IsNetworkOrMasked, before_blanks}
use Rattle.ipnet_lists.specs.Causes.{IsCutAt}
use Rattle.netset_words.specs.Places.{AreLastParts, HasNoPlace, IsAtColon, IsAtSlash, IsAtUser, IsBefore}
use Rattle.netset_words.specs.Places.{IsBeforeLastPort, IsHost, IsInside, IsOnlyAddress, IsOnlyIpv4, IsSomeAddress}
use Rattle.netset_words.specs.Places.{before_sign, ends_in_colon, is_end, trimmed}
use Rattle.netset_words.specs.PlaceSteps.{HasFewColons, HasFewSigns}
use Rattle.netset_words.specs.Words.{Word}

abbrev dot : ℕ → ℕ
dot b = cond (b == 46) 1 0

abbrev colon : ℕ → ℕ
colon b = cond (b == 58) 1 0

abbrev dots : List ℕ → ℕ
dots text = count_by (λ b. b == 46) text

abbrev colons : List ℕ → ℕ
colons text = count_by (λ b. b == 58) text

dots_at : (front back : List ℕ) → dots (front ++ 46 ∷ back) ≡ dots front + (1 + dots back)
dots_at front back =
    sum_by-append dot front (46 ∷ back) ∙ ap (λ n. dots front + n) (sum_by-append dot (46 ∷ []) back)

colons_at : (front back : List ℕ) → colons (front ++ 58 ∷ back) ≡ colons front + (1 + colons back)
colons_at front back =
    sum_by-append colon front (58 ∷ back) ∙ ap (λ n. colons front + n) (sum_by-append colon (58 ∷ []) back)

-- no sign at all
neither : (p : Bool) (q : Bool) → (p || q) ≡ false → (p ≡ false) × (q ≡ false)
neither true q e = absurd cc
neither false q e = (refl, e)

none_counted : (text : List ℕ) → list_any (λ b. (b == 46) || (b == 58)) text ≡ false
    → (dots text ≡ 0) × (colons text ≡ 0)
none_counted [] e = (refl, refl)
none_counted (b ∷ text) e =
    let both = neither ((b == 46) || (b == 58)) (list_any (λ c. (c == 46) || (c == 58)) text) e in
    let each = neither (b == 46) (b == 58) both.0 in
    let rest = none_counted text both.1 in
    let no_dot : dots (b ∷ []) ≡ 0 = ap (λ t. 0 + cond t 1 0) each.0 in
    let no_colon : colons (b ∷ []) ≡ 0 = ap (λ t. 0 + cond t 1 0) each.1 in
    let dot_count : dots (b ∷ text) ≡ dots (b ∷ []) + dots text = sum_by-append dot (b ∷ []) text in
    let colon_count : colons (b ∷ text) ≡ colons (b ∷ []) + colons text = sum_by-append colon (b ∷ []) text in
    (omega (arith, dot_count, no_dot, rest.0), omega (arith, colon_count, no_colon, rest.1))

-- "::" has two ":"
pair_colons : (text front back : List ℕ) → text ≡ front ++ 58 ∷ 58 ∷ back → 2 ≤ colons text
pair_colons text front back is =
    let all : colons text ≡ colons (front ++ 58 ∷ 58 ∷ back) = ap colons is in
    let one = colons_at front (58 ∷ back) in
    let two : colons (58 ∷ back) ≡ 1 + colons back = sum_by-append colon (58 ∷ []) back in
    omega (arith, all, one, two)

few_colons : (text : List ℕ) → colons text ≤ 1 → HasFewColons text
few_colons text few = (
  omega (arith, few),
  λ front back is. let two = pair_colons text front back is in omega (arith, few, two),
)

pub few_none : (text : List ℕ) → list_any (λ b. (b == 46) || (b == 58)) text ≡ false → HasFewSigns text
few_none text e =
    let none = none_counted text e in
    (omega (arith, none.0), few_colons text (omega (arith, none.1)))

few_front : (front back : List ℕ) → HasFewSigns (front ++ back) → HasFewSigns front
few_front front back (few, (few_too, none)) = (
  let count : dots (front ++ back) ≡ dots front + dots back = sum_by-append dot front back in
      omega (arith, count, few),
  (
    let count : colons (front ++ back) ≡ colons front + colons back = sum_by-append colon front back in
        omega (arith, count, few_too),
    λ f b is. none f (b ++ back) (ap (λ z. z ++ back) is ∙ append_assoc f (58 ∷ 58 ∷ b) back),
  ),
)

few_back : (front back : List ℕ) → HasFewSigns (front ++ back) → HasFewSigns back
few_back front back (few, (few_too, none)) = (
  let count : dots (front ++ back) ≡ dots front + dots back = sum_by-append dot front back in
      omega (arith, count, few),
  (
    let count : colons (front ++ back) ≡ colons front + colons back = sum_by-append colon front back in
        omega (arith, count, few_too),
    λ f b is. none (front ++ f) b (ap (λ z. front ++ z) is ∙ sym (append_assoc front f (58 ∷ 58 ∷ b))),
  ),
)

few_take : (n : ℕ) (text : List ℕ) → HasFewSigns text → HasFewSigns (take n text)
few_take n text h = few_front (take n text) (drop n text) (subst HasFewSigns (sym (take-append-drop n text)) h)

few_drop : (n : ℕ) (text : List ℕ) → HasFewSigns text → HasFewSigns (drop n text)
few_drop n text h = few_back (take n text) (drop n text) (subst HasFewSigns (sym (take-append-drop n text)) h)

-- no address has so few signs
no_ipv4 : (grammar : Grammar) (text octets : List ℕ) → HasFewSigns text → IsIpv4AddressText grammar text octets → ⊥
no_ipv4 grammar text octets h is =
    let d = Dots-from grammar text octets is in
    let one = dots_at d.t₁ (d.t₂ ++ (46 ∷ (d.t₃ ++ (46 ∷ d.t₄)))) in
    let two = dots_at d.t₂ (d.t₃ ++ (46 ∷ d.t₄)) in
    let three = dots_at d.t₃ d.t₄ in
    let all : dots text ≡ dots (d.t₁ ++ (46 ∷ (d.t₂ ++ (46 ∷ (d.t₃ ++ (46 ∷ d.t₄)))))) = ap dots d.spelled in
    omega (arith, h.0, all, one, two, three)

-- groups are one more than the ":" between them
groups_colons : (text groups : List ℕ) → IsGroups text groups → length groups ≤ 1 + colons text
groups_colons text [] is = omega arith
groups_colons text (g ∷ []) is = omega arith
groups_colons text (g ∷ i ∷ groups) (first, rest, spelled, group, more) =
    let all : colons text ≡ colons (first ++ 58 ∷ rest) = ap colons (spelled ∙ append_assoc first (58 ∷ []) rest) in
    let one = colons_at first rest in
    let less = groups_colons rest (i ∷ groups) more in
    omega (arith, all, one, less)

no_groups : (text groups : List ℕ) → HasFewSigns text → length groups ≡ 8 → IsGroups text groups → ⊥
no_groups text groups (few, (few_too, none)) eight is =
    let many = groups_colons text groups is in omega (arith, few_too, eight, many)

-- the end is an IPv4 address
no_mixed : (grammar : Grammar) (text groups : List ℕ) → HasFewSigns text → EndsInIpv4 grammar text groups → ⊥
no_mixed grammar text [] h is = absurd is
no_mixed grammar text (g ∷ []) h is = absurd is
no_mixed grammar text (g ∷ i ∷ []) h is = no_ipv4 grammar text is.0 h is.1
no_mixed grammar text (g ∷ i ∷ j ∷ groups) h (first, rest, spelled, group, more) =
    no_mixed grammar rest (i ∷ j ∷ groups) (few_back (first ++ 58 ∷ []) rest (subst HasFewSigns spelled h)) more

no_ipv6 : (grammar : Grammar) (text groups : List ℕ) → HasFewSigns text → IsIpv6AddressText grammar text groups → ⊥
no_ipv6 grammar text groups h (inl is) = no_groups text groups h is.0 is.1
no_ipv6 grammar text groups h (inr (inl is)) = no_mixed grammar text groups h is.1
no_ipv6 grammar text groups (few, (few_too, none)) (inr (inr is)) =
    none is.head_text is.tail_text (is.spelled ∙ append_assoc is.head_text (58 ∷ 58 ∷ []) is.tail_text)

pub no_address : (grammar : Grammar) (text : List ℕ) (x : Address) → HasFewSigns text → IsAddressText grammar text x
    → ⊥
no_address grammar text x h (inl is) = no_ipv4 grammar text is.octets h is.writes
no_address grammar text x h (inr is) = no_ipv6 grammar text is.groups h is.writes

-- the part before a slash
before_slash : (text front back : List ℕ) → HasFewSigns text → text ≡ front ++ (47 ∷ []) ++ back → HasFewSigns front
before_slash text front back h e =
    few_front front (47 ∷ back) (subst HasFewSigns (e ∙ append_assoc front (47 ∷ []) back) h)

no_network : (grammar : Grammar) (text : List ℕ) (n : Network) → HasFewSigns text → IsNetworkOrMasked grammar text n
    → ⊥
no_network grammar text n h (inl (inl is)) =
    no_ipv4 grammar is.address_text is.octets (before_slash text is.address_text is.length_text h is.spelled)
    is.writes_address
no_network grammar text n h (inl (inr is)) =
    no_ipv6 grammar is.address_text is.groups (before_slash text is.address_text is.length_text h is.spelled)
    is.writes_address
no_network grammar text n h (inr is) =
    no_address grammar is.address_text is.parts.address
    (before_slash text is.address_text is.mask_text h is.spelled) is.parts.writes_address

no_entry : (grammar : Grammar) (text : List ℕ) (range : AddressRange) → HasFewSigns text
    → IsEntryText grammar text range → ⊥
no_entry grammar text range h (inl (inl is)) = no_network grammar text is.network h is.writes
no_entry grammar text range h (inl (inr is)) = no_address grammar text is.address h is.writes
no_entry grammar text range h (inr is) =
    no_address grammar (before_blanks is.first_text) is.ends.first
    (few_take (length is.first_text - suffix_len is_ascii_whitespace is.first_text) is.first_text
    (few_front is.first_text (45 ∷ is.last_text)
    (subst HasFewSigns (is.spelled ∙ append_assoc is.first_text (45 ∷ []) is.last_text) h)))
    is.ends.writes_first

-- a text with so few is not an entry
pub no_entry_without : (grammar : Grammar) (text : List ℕ) (range : AddressRange) → HasFewSigns text
    → IsEntryText grammar text range → ⊥
no_entry_without = no_entry

-- ---- nor has it a place

lone_address : (grammar : Grammar) (text place : List ℕ) → HasFewSigns text → IsOnlyAddress grammar text place → ⊥
lone_address grammar text place h is = no_address grammar text is.1.0 h is.1.1

lone_ipv4 : (grammar : Grammar) (text place : List ℕ) → HasFewSigns text → IsOnlyIpv4 grammar text place → ⊥
lone_ipv4 grammar text place h is = no_address grammar text is.1.0 h (inl is.1.1)

front_of_cut : (sign : ℕ) (text : List ℕ) → HasFewSigns text → HasFewSigns (before_first (λ c. c == sign) text)
front_of_cut sign text h = few_take (position_or_len (λ c. c == sign) text) text h

back_of_cut : (sign : ℕ) (text : List ℕ) → HasFewSigns text → HasFewSigns (after_first (λ c. c == sign) text)
back_of_cut sign text h = few_drop (position_or_len (λ c. c == sign) text + 1) text h

no_front : (grammar : Grammar) (text place : List ℕ) → HasFewSigns text → IsCutAt 58 (IsBefore grammar place) text → ⊥
no_front grammar text place h is =
    lone_ipv4 grammar (before_first (λ c. c == 58) text) place (front_of_cut 58 text h) is.1

no_part : (grammar : Grammar) (sign : ℕ) (text front back : List ℕ) → HasFewSigns text
    → AreLastParts sign text front back → IsSomeAddress grammar front → ⊥
no_part grammar sign text front back h parts is =
    no_address grammar front is.0 (few_front front (sign ∷ back) (subst HasFewSigns parts.spelled h)) is.1

no_last_port : (grammar : Grammar) (text place : List ℕ) → HasFewSigns text → IsBeforeLastPort grammar text place → ⊥
no_last_port grammar text place h is = no_part grammar 58 text place is.port h is.parts is.address

no_host : (grammar : Grammar) (text place : List ℕ) → HasFewSigns text → IsHost grammar text place → ⊥
no_host grammar text place h (inl is) = lone_address grammar text place h is
no_host grammar text place h (inr (not_whole, inl is)) =
    lone_ipv4 grammar (before_sign text) place
    (few_take (position_or_len (λ b. (b == 58) || (b == 47)) text) text h) is
no_host grammar text place h (inr (not_whole, inr (inl is))) =
    lone_address grammar (before_first (λ c. c == 47) text) place (front_of_cut 47 text h) is.1.0
no_host grammar text place h (inr (not_whole, inr (inr is))) = no_last_port grammar text place h is

no_user : (grammar : Grammar) (text place : List ℕ) → HasFewSigns text → IsCutAt 64 (IsAtUser grammar place) text → ⊥
no_user grammar text place h (within, inl is) =
    no_host grammar (after_first (λ c. c == 64) text) place (back_of_cut 64 text h) is
no_user grammar text place h (within, inr is) =
    lone_address grammar (before_first (λ c. c == 64) text) place (front_of_cut 64 text h) is.0

no_slash : (grammar : Grammar) (w : Word) (text place : List ℕ) → HasFewSigns text
    → IsCutAt 47 (IsAtSlash grammar w place) text → ⊥
no_slash grammar w text place h (within, inl (inl is)) =
    lone_address grammar (before_first (λ c. c == 47) text) place (front_of_cut 47 text h) is.0
no_slash grammar w text place h (within, inl (inr (inl is))) =
    no_host grammar (drop 1 (after_first (λ c. c == 47) text)) place
    (few_drop 1 (after_first (λ c. c == 47) text) (back_of_cut 47 text h)) is.1
no_slash grammar w text place h (within, inl (inr (inr (inl is)))) =
    no_host grammar (after_first (λ c. c == 47) text) place (back_of_cut 47 text h) is.2
no_slash grammar w text place h (within, inl (inr (inr (inr (other, name, inl is))))) =
    no_front grammar (after_first (λ c. c == 47) text) place (back_of_cut 47 text h) is
no_slash grammar w text place h (within, inl (inr (inr (inr (other, name, inr is))))) =
    no_host grammar (after_first (λ c. c == 47) text) place (back_of_cut 47 text h) is.1
no_slash grammar w text place h (within, inr (not_first, is)) =
    lone_address grammar (before_first (λ c. c == 47) text) place (front_of_cut 47 text h) is.0

no_colon : (grammar : Grammar) (text place : List ℕ) → HasFewSigns text → IsCutAt 58 (IsAtColon grammar place) text → ⊥
no_colon grammar text place h (within, inl is) =
    no_entry grammar (after_first (λ c. c == 58) text) is.1.1.0 (back_of_cut 58 text h) is.1.1.1
no_colon grammar text place h (within, inr (other, inl is)) =
    lone_ipv4 grammar (before_first (λ c. c == 58) text) place (front_of_cut 58 text h) is.1
no_colon grammar text place h (within, inr (other, inr is)) =
    no_host grammar (after_first (λ c. c == 58) text) place (back_of_cut 58 text h) is.1

trimmed_low : (text : List ℕ) → HasFewSigns text → HasFewSigns (trimmed text)
trimmed_low text h = by (ends_in_colon text)
  where
    by : (t : Bool) → HasFewSigns (if t then take (length text - 1) text
        else take (length text - suffix_len is_end text) text)
    by true = few_take (length text - 1) text h
    by false = few_take (length text - suffix_len is_end text) text h

no_inside : (grammar : Grammar) (w : Word) (place : List ℕ) → HasFewSigns w.text → IsInside grammar w place → ⊥
no_inside grammar w place h is = elim is [
  | inl user ↦ no_user grammar (trimmed w.text) place low user
  | inr next ↦ elim next.1 [
    | inl slash ↦ no_slash grammar w (trimmed w.text) place low slash
    | inr more ↦ elim more.1 [
      | inl at ↦ no_colon grammar (trimmed w.text) place low at
      | inr last ↦ elim last.1 [
        | inl port ↦ no_last_port grammar (trimmed w.text) place low port
        | inr end ↦ no_part grammar 46 (trimmed w.text) place end.1.port low end.1.parts end.1.address
      ]
    ]
  ]
]
  where
    low : HasFewSigns (trimmed w.text)
    low = trimmed_low w.text h

-- a word with so few has no place
pub no_place_without : (grammar : Grammar) (w : Word) → HasFewSigns w.text → HasNoPlace grammar w
no_place_without grammar w few place (inl is) = no_entry grammar w.text is.1.0 few is.1.1
no_place_without grammar w few place (inr (not_whole, inl is)) =
    no_entry grammar (trimmed w.text) is.1.0 (trimmed_low w.text few) is.1.1
no_place_without grammar w few place (inr (not_whole, inr (not_trimmed, is))) = no_inside grammar w place few is
