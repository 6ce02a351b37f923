-- A list can be read in only one way.
use Rattle.std.proofs.Common.{◌≡◌, ◌≢◌, ℕ, ◌+◌, ◌<◌, List, [], ◌∷◌, ◌++◌, All, refl, sym, ap, ◌∙◌, subst}
use Rattle.std.proofs.Common.{arith, inl, inr, append_assoc, take, Option, ◌⊎◌, ap₂}
use Rattle.std.proofs.lemmas.Bool.{cases_order}
use Rattle.std.specs.Char.{digit_value}
use Rattle.std.specs.Str.Parse.{AllDigits}
use Rattle.std.proofs.lemmas.Bool.Decides.{nat_tests}
use Rattle.std.proofs.lemmas.List.Elements.{All-nil, All-cons, All-weaker}
use Rattle.ipnet_base.specs.Address.{Address, IPv4}
use Rattle.ipnet_base.specs.Network.{Network}
use Rattle.ipnet_base.specs.Ranges.{AddressRange}
use Rattle.ipnet_base.proofs.MaskLaws.{IsNetmaskOf-unique}
use Rattle.ipnet_base.proofs.NetworkLaws.{same_network}
use Rattle.ipnet.specs.declared.parser.Grammar.{Grammar}
use Rattle.ipnet.specs.AddressTexts.{IsIpv4AddressText}
use Rattle.ipnet.specs.Lines.{lines_of}
use Rattle.ipnet.specs.NetworkParts.{own_address}
use Rattle.ipnet.specs.NetworkTexts.{IsNetworkText}
use Rattle.ipnet.proofs.WholeTexts.{one_network}
use Rattle.ipnet_sets.specs.SetRanges.{range_of}
use Rattle.ipnet_lists.specs.declared.cause.Cause.{Cause}
use Rattle.ipnet_lists.specs.Causes.{causes, IsFirstOf, IsReportedCause}
use Rattle.ipnet_lists.specs.Entries.{IsAddressText, IsMaskedBy, IsMaskedText, IsNetworkOrMasked}
use Rattle.ipnet_lists.specs.Entries.{IsPlainEntry, IsEntryText, IsRangeEntry, IsRangeFrom, before_blanks}
use Rattle.ipnet_lists.specs.Entries.{after_blanks, block_range}
use Rattle.ipnet_lists.specs.Comments.{IsCommentAt}
use Rattle.ipnet_lists.specs.Lists.{IsContents, AreContents, ListEntry, Refusal, refusal_at, AreRead, IsListRead}
use Rattle.ipnet_lists.specs.Lists.{IsUndivided, without_blanks, after_mark}
use Rattle.ipnet_lists.proofs.AddressBytes.{IsAddressByte, ipv4_bytes, ipv6_bytes, middle, one_front}
use Rattle.ipnet_lists.proofs.BlankTexts.{undashed_front}
use Rattle.ipnet_lists.proofs.EntryTexts.{one_address, address_bytes, network_cut, cut_no_address, plain_no_dash}

-- ---- a text is one entry

-- an IPv4 address has a dot, so it is not a number
dotted : (grammar : Grammar) (text octets : List ℕ) → IsIpv4AddressText grammar text octets
    → All (λ b. b ≢ 46) text → ⊥
dotted grammar text [] h lacks = omega (arith, h.1)
dotted grammar text (a ∷ []) h lacks = omega (arith, h.1)
dotted grammar text (a ∷ b ∷ octets) h lacks =
    let (first, rest, spelled, writes, more) = h.0 in
    middle (λ b. b ≢ 46) first 46 rest
    (subst (All (λ b. b ≢ 46)) (spelled ∙ append_assoc first (46 ∷ []) rest) lacks) refl

no_dot : (b : ℕ) → digit_value b < 10 → b ≢ 46
no_dot b h e = grind (arith, nat_tests, h, e)

undotted : (ds : List ℕ) → AllDigits 10 ds → All (λ b. b ≢ 46) ds
undotted [] h = All-nil (λ b. b ≢ 46)
undotted (d ∷ ds) h = All-cons (λ b. b ≢ 46) d ds (no_dot d h.0) (undotted ds h.1)

-- a netmask is not a prefix length
mask_is_no_number : (grammar : Grammar) (text mask_text : List ℕ) (x : Address) → IsAddressText grammar mask_text x
    → x.family ≡ IPv4 → mask_text ≡ text → AllDigits 10 text → ⊥
mask_is_no_number grammar text mask_text x (inl h) family same digits =
    dotted grammar text h.octets (subst (λ z. IsIpv4AddressText grammar z h.octets) same h.writes)
    (undotted text digits)
mask_is_no_number grammar text mask_text x (inr h) family same digits = absurd (let e = h.family in cc)

-- two cuts at "/"
module _ (text front back front' back' : List ℕ) (e : text ≡ front ++ 47 ∷ back) (e' : text ≡ front' ++ 47 ∷ back')
    (h : All IsAddressByte front) (h' : All IsAddressByte front') where
  one_cut : (front ≡ front') × (back ≡ back')
  one_cut =
      one_front (λ b. b ≢ 47) 47 (λ not. not refl) front back front' back' (sym e ∙ e') (no_slashes front h)
      (no_slashes front' h')
    where
      no_slashes : (ds : List ℕ) → All IsAddressByte ds → All (λ b. b ≢ 47) ds
      no_slashes ds k = All-weaker IsAddressByte (λ b. b ≢ 47) (λ b is. is.no_slash) ds k

network_is_not_masked : (grammar : Grammar) (text : List ℕ) (n m : Network) → IsNetworkText grammar text n
    → IsMaskedText grammar text m → ⊥
network_is_not_masked grammar text n m (inl h) k =
    let cut = one_cut text h.address_text h.length_text k.address_text k.mask_text
    (h.spelled ∙ append_assoc h.address_text (47 ∷ []) h.length_text)
    (k.spelled ∙ append_assoc k.address_text (47 ∷ []) k.mask_text)
    (ipv4_bytes grammar h.address_text h.octets h.writes_address)
    (address_bytes grammar k.address_text k.parts.address k.parts.writes_address) in
    mask_is_no_number grammar h.length_text k.mask_text k.parts.mask k.parts.writes_mask k.parts.addresses.mask_family
    (sym cut.1) h.writes_length.digits.1
network_is_not_masked grammar text n m (inr h) k =
    let cut = one_cut text h.address_text h.length_text k.address_text k.mask_text
    (h.spelled ∙ append_assoc h.address_text (47 ∷ []) h.length_text)
    (k.spelled ∙ append_assoc k.address_text (47 ∷ []) k.mask_text)
    (ipv6_bytes grammar h.address_text h.groups h.writes_address)
    (address_bytes grammar k.address_text k.parts.address k.parts.writes_address) in
    mask_is_no_number grammar h.length_text k.mask_text k.parts.mask k.parts.writes_mask k.parts.addresses.mask_family
    (sym cut.1) h.writes_length.digits.1

-- an address and a netmask are one network
one_masked : (x mask : Address) (n m : Network) → IsMaskedBy x mask n → IsMaskedBy x mask m → n ≡ m
one_masked x mask n m h k =
    let address : own_address n ≡ own_address m = h.has.address ∙ sym k.has.address in
    same_network n m (ap (λ z. z.family) address) (ap (λ z. z.number) address)
    (IsNetmaskOf-unique mask.family mask.number n.prefix_len m.prefix_len h.has.prefix k.has.prefix)

one_network_or_masked : (grammar : Grammar) (text : List ℕ) (n m : Network) → IsNetworkOrMasked grammar text n
    → IsNetworkOrMasked grammar text m → n ≡ m
one_network_or_masked grammar text n m (inl h) (inl k) = one_network grammar text n m h k
one_network_or_masked grammar text n m (inl h) (inr k) = absurd (network_is_not_masked grammar text n m h k)
one_network_or_masked grammar text n m (inr h) (inl k) = absurd (network_is_not_masked grammar text m n k h)
one_network_or_masked grammar text n m (inr h) (inr k) =
    let cut = one_cut text h.address_text h.mask_text k.address_text k.mask_text
    (h.spelled ∙ append_assoc h.address_text (47 ∷ []) h.mask_text)
    (k.spelled ∙ append_assoc k.address_text (47 ∷ []) k.mask_text)
    (address_bytes grammar h.address_text h.parts.address h.parts.writes_address)
    (address_bytes grammar k.address_text k.parts.address k.parts.writes_address) in
    let address = one_address grammar h.address_text h.parts.address k.parts.address h.parts.writes_address
    (subst (λ z. IsAddressText grammar z k.parts.address) (sym cut.0) k.parts.writes_address) in
    let mask = one_address grammar h.mask_text h.parts.mask k.parts.mask h.parts.writes_mask
    (subst (λ z. IsAddressText grammar z k.parts.mask) (sym cut.1) k.parts.writes_mask) in
    one_masked h.parts.address h.parts.mask n m h.parts.addresses
    (subst (λ z. IsMaskedBy z h.parts.mask m) (sym address)
    (subst (λ z. IsMaskedBy k.parts.address z m) (sym mask) k.parts.addresses))

pub one_plain : (grammar : Grammar) (text : List ℕ) (r s : AddressRange) → IsPlainEntry grammar text r
    → IsPlainEntry grammar text s → r ≡ s
one_plain grammar text r s (inl h) (inl k) =
    h.is ∙ ap block_range (one_network_or_masked grammar text h.network k.network h.writes k.writes) ∙ sym k.is
one_plain grammar text r s (inl h) (inr k) =
    let cut = network_cut grammar text h.network h.writes in
    absurd (cut_no_address grammar text cut.front cut.back k.address cut.spelled k.writes)
one_plain grammar text r s (inr h) (inl k) =
    let cut = network_cut grammar text k.network k.writes in
    absurd (cut_no_address grammar text cut.front cut.back h.address cut.spelled h.writes)
one_plain grammar text r s (inr h) (inr k) =
    h.is
    ∙ ap (λ x. range_of x.family x.number x.number)
    (one_address grammar text h.address k.address h.writes k.writes)
    ∙ sym k.is

plain_is_no_range : (grammar : Grammar) (text : List ℕ) (r s : AddressRange) → IsPlainEntry grammar text r
    → IsRangeEntry grammar text s → ⊥
plain_is_no_range grammar text r s plain h =
    middle (λ b. b ≢ 45) h.first_text 45 h.last_text
    (subst (All (λ b. b ≢ 45)) (h.spelled ∙ append_assoc h.first_text (45 ∷ []) h.last_text)
    (plain_no_dash grammar text r plain)) refl

one_range : (first last : Address) (r s : AddressRange) → IsRangeFrom first last r → IsRangeFrom first last s → r ≡ s
one_range first last r s h k = h.is ∙ sym k.is

pub one_entry : (grammar : Grammar) (text : List ℕ) (r s : AddressRange) → IsEntryText grammar text r
    → IsEntryText grammar text s → r ≡ s
one_entry grammar text r s (inl h) (inl k) = one_plain grammar text r s h k
one_entry grammar text r s (inl h) (inr k) = absurd (plain_is_no_range grammar text r s h k)
one_entry grammar text r s (inr h) (inl k) = absurd (plain_is_no_range grammar text s r k h)
one_entry grammar text r s (inr h) (inr k) =
    let cut = one_front (λ b. b ≢ 45) 45 (λ not. not refl) h.first_text h.last_text k.first_text k.last_text
    (sym (h.spelled ∙ append_assoc h.first_text (45 ∷ []) h.last_text)
    ∙ k.spelled ∙ append_assoc k.first_text (45 ∷ []) k.last_text)
    (undashed_front h.first_text
    (address_bytes grammar (before_blanks h.first_text) h.ends.first h.ends.writes_first))
    (undashed_front k.first_text
    (address_bytes grammar (before_blanks k.first_text) k.ends.first k.ends.writes_first)) in
    let first = one_address grammar (before_blanks h.first_text) h.ends.first k.ends.first h.ends.writes_first
    (subst (λ z. IsAddressText grammar (before_blanks z) k.ends.first) (sym cut.0) k.ends.writes_first) in
    let last = one_address grammar (after_blanks h.last_text) h.ends.last k.ends.last h.ends.writes_last
    (subst (λ z. IsAddressText grammar (after_blanks z) k.ends.last) (sym cut.1) k.ends.writes_last) in
    one_range h.ends.first h.ends.last r s h.ends.addresses
    (subst (λ z. IsRangeFrom z h.ends.last s) (sym first)
    (subst (λ z. IsRangeFrom k.ends.first z s) (sym last) k.ends.addresses))

-- ---- a line has one contents

one_comment : (line : List ℕ) (i j : ℕ) → IsCommentAt line i → IsCommentAt line j → i ≡ j
one_comment line i j h k = elim (cases_order i j) [
  | inl e ↦ e
  | inr (inl less) ↦ absurd (k.first i less (h.opens (omega (arith, less, k.within))))
  | inr (inr less) ↦ absurd (h.first j less (k.opens (omega (arith, less, h.within))))
]

pub one_contents : (line text other : List ℕ) → IsContents line text
    → IsContents line other → text ≡ other
one_contents line text other h k = of h.is k.is
  where
    at : h.start ≡ k.start
    at = one_comment line h.start k.start h.comment k.comment

    of : ((text ≡ without_blanks (take h.start line)) × ¬ (IsUndivided line h.start))
        ⊎ ((text ≡ without_blanks line) × IsUndivided line h.start)
        → ((other ≡ without_blanks (take k.start line)) × ¬ (IsUndivided line k.start))
        ⊎ ((other ≡ without_blanks line) × IsUndivided line k.start)
        → text ≡ other
    of (inl (e, not)) (inl (d, nor)) = e ∙ ap (λ i. without_blanks (take i line)) at ∙ sym d
    of (inr (e, so)) (inr (d, too)) = e ∙ sym d
    of (inl (e, not)) (inr (d, so)) = absurd (not (subst (IsUndivided line) (sym at) so))
    of (inr (e, so)) (inl (d, not)) = absurd (not (subst (IsUndivided line) at so))

pub all_contents : (lines texts others : List (List ℕ)) → AreContents lines texts
    → AreContents lines others → texts ≡ others
all_contents [] texts others h k = h ∙ sym k
all_contents (line ∷ lines) texts others (text, more, is, one, h) (other, rest, was, two, k) =
    is
    ∙ ap₂ (λ z zs. z ∷ zs) (one_contents line text other one two) (all_contents lines more rest h k)
    ∙ sym was

-- ---- the cause of a text

first_cause : (order : List Cause) (text : List ℕ) (reported other : Option Cause) → IsFirstOf order text reported
    → IsFirstOf order text other → reported ≡ other
first_cause [] text reported other h k = h ∙ sym k
first_cause (cause ∷ order) text reported other (inl h) (inl k) = h.1 ∙ sym k.1
first_cause (cause ∷ order) text reported other (inl h) (inr k) = absurd (k.0 h.0)
first_cause (cause ∷ order) text reported other (inr h) (inl k) = absurd (h.0 k.0)
first_cause (cause ∷ order) text reported other (inr h) (inr k) = first_cause order text reported other h.1 k.1

pub one_cause : (grammar : Grammar) (text : List ℕ) (reported other : Option Cause)
    → IsReportedCause grammar text reported → IsReportedCause grammar text other → reported ≡ other
one_cause grammar text reported other (inl (e, h)) (inl (d, k)) = h ∙ sym k
one_cause grammar text reported other (inl ((range, e), h)) (inr (none, k)) = absurd (none range e)
one_cause grammar text reported other (inr (none, h)) (inl ((range, d), k)) = absurd (none range d)
one_cause grammar text reported other (inr (none, h)) (inr (nor, k)) = first_cause causes text reported other h k

-- ---- the entries and the refused lines

one_list : (grammar : Grammar) (list line : ℕ) (texts : List (List ℕ)) (entries others : List ListEntry)
    (refusals more : List Refusal) → AreRead grammar list line texts entries refusals
    → AreRead grammar list line texts others more → (entries ≡ others) × (refusals ≡ more)
one_list grammar list line [] entries others refusals more h k = (h.0 ∙ sym k.0, h.1 ∙ sym k.1)
one_list grammar list line ([] ∷ texts) entries others refusals more h k =
    one_list grammar list (line + 1) texts entries others refusals more h k
one_list grammar list line ((b ∷ text) ∷ texts) entries others refusals more (inl (e, next, h)) (inl (d, also, k)) =
    let rest = one_list grammar list (line + 1) texts e d refusals more h k in
    let range = one_entry grammar (b ∷ text) next.range also.range next.writes also.writes in (
      next.next
          ∙ ap₂ (λ r zs. record { text = b ∷ text; range = r } ∷ zs) range rest.0
          ∙ sym also.next,
      rest.1,
    )
one_list grammar list line ((b ∷ text) ∷ texts) entries others refusals more (inl (e, next, h)) (inr (d, also, k)) =
    absurd (also.no_entry next.range next.writes)
one_list grammar list line ((b ∷ text) ∷ texts) entries others refusals more (inr (e, next, h)) (inl (d, also, k)) =
    absurd (next.no_entry also.range also.writes)
one_list grammar list line ((b ∷ text) ∷ texts) entries others refusals more (inr (e, next, h)) (inr (d, also, k)) =
    let rest = one_list grammar list (line + 1) texts entries others e d h k in (
      rest.0,
      next.next ∙ ap (λ zs. refusal_at grammar list line (b ∷ text) ∷ zs) rest.1 ∙ sym also.next,
    )

pub one_reading : (grammar : Grammar) (list : ℕ) (bytes : List ℕ) (entries others : List ListEntry)
    (refusals more : List Refusal) → IsListRead grammar list bytes entries refusals
    → IsListRead grammar list bytes others more → (entries ≡ others) × (refusals ≡ more)
one_reading grammar list bytes entries others refusals more (texts, are, h) (again, also, k) =
    let same = all_contents (lines_of (after_mark bytes)) texts again are also in
    one_list grammar list 1 texts entries others refusals more h
    (subst (λ z. AreRead grammar list 1 z others more) (sym same) k)
