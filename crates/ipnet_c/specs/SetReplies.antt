-- The result of each C function on images of sets: its status, and what it leaves in the caller's memory. `old` and
-- `new` are a buffer before and after the call; `count_old` and `count` are a number that the call may write.
use Rattle.std.specs.Prelude.{◌≡◌, ◌≢◌, ℕ, ◌+◌, ◌*◌, ◌^◌, ◌<◌, ◌↔◌, ◌⊎◌, List, length, take, drop, slice_index}
use Rattle.std.specs.Prelude.{IsUtf8}
use Rattle.ipnet.specs.Address.{IPv4, IPv6, Address, IsAddress}
use Rattle.ipnet.specs.Network.{Network, InBlock}
use Rattle.ipnet.specs.Bytes.{HasWrongTaggedLen, HasUnknownVariant, HasLongTaggedPrefix}
use Rattle.ipnet.specs.CanonicalTexts.{address_octets}
use Rattle.ipnet.specs.declared.parser.Grammar.{Grammar}
use Rattle.ipnet.specs.Lines.{lines_of, AreNetworksOf, IsFirstBadLine}
use Rattle.ipnet_sets.specs.declared.set.IpSet.{IpSet}
use Rattle.ipnet_sets.specs.Images.{HasHeader, IsImage, IsImageOf}
use Rattle.ipnet_sets.specs.Members.{IsMember, IsMemberOf, IsSubset, HasAddressesOf, IsComplement, IsResultOf}
use Rattle.ipnet_sets.specs.Members.{IsCountOf}
use Rattle.ipnet_lists.specs.SetLines.{AreNetworkLines, AreRangeLines}
use Rattle.ipnet_c.specs.Statuses as statuses
use Rattle.ipnet_c.specs.Buffers.{IsWritten, IsTooLong}
use Rattle.ipnet_c.specs.Replies.{IsYesExactlyAt, AreBytesOf}
use Rattle.ipnet_sets.specs.declared.operation.Operation.{Operation}

-- ---- images into the buffer

-- The bytes are the image of a set with this property.
pub record IsImageWith (Holds : IpSet → Type 0) (image : List ℕ) : Type 0 where
  pub set : IpSet
  pub image_of : IsImageOf image set
  pub holds : Holds set

-- The set has exactly the addresses of the networks of the text's lines, in the grammar.
pub record HasAddressesOfText (grammar : Grammar) (text : List ℕ) (s : IpSet) : Type 0 where
  pub networks : List Network
  pub written : AreNetworksOf grammar (lines_of text) networks
  pub addresses : HasAddressesOf s networks

-- Compiling a text: `count` is the length of the image, or the number of the first bad line.
-- Example: `"10.0.0.0/30\n"` with a buffer of 40 bytes or more gives `ok`, the image of 10.0.0.0/30 and 40;
-- `"10.0.0.0/24\n\nx\n"` gives `bad_line` and 3; `"10.0.01.0/24"` gives `bad_line` and 1 in the strict grammar, and
-- `ok` in the legacy grammar.
pub record IsCompileReply (grammar : Grammar) (text old new : List ℕ) (count_old count status : ℕ) : Type 0 where
  pub known : (status ≡ statuses.ok) ⊎ ((status ≡ statuses.buffer_too_short) ⊎ ((status ≡ statuses.bad_line)
      ⊎ ((status ≡ statuses.not_utf8) ⊎ (status ≡ statuses.out_of_memory))))
  pub ok : status ≡ statuses.ok
      → (image : List ℕ) × IsImageWith (HasAddressesOfText grammar text) image × IsWritten image old new count
  pub too_short : status ≡ statuses.buffer_too_short
      → (image : List ℕ) × IsImageWith (HasAddressesOfText grammar text) image × IsTooLong image old new count
  pub bad_line : status ≡ statuses.bad_line → IsFirstBadLine grammar (lines_of text) count
  pub not_utf8 : (status ≡ statuses.not_utf8) ↔ ¬ (IsUtf8 text)
  pub buffer_kept : status ≢ statuses.ok → new ≡ old
  pub count_kept : (status ≡ statuses.not_utf8) ⊎ (status ≡ statuses.out_of_memory) → count ≡ count_old

-- The set is the result of the operation on the two sets whose images the bytes are.
pub record IsMadeOfImages (operation : Operation) (set other : List ℕ) (s : IpSet) : Type 0 where
  pub first : IpSet
  pub second : IpSet
  pub first_image : IsImageOf set first
  pub second_image : IsImageOf other second
  pub made : IsResultOf operation s first second

-- An operation on two images: `count` is the length of the image of the result.
pub record IsCombineReply (operation : Operation) (set other old new : List ℕ) (count_old count status : ℕ) : Type
    0 where
  pub known : (status ≡ statuses.ok) ⊎ ((status ≡ statuses.buffer_too_short) ⊎ ((status ≡ statuses.not_a_set)
      ⊎ ((status ≡ statuses.other_not_a_set) ⊎ (status ≡ statuses.out_of_memory))))
  pub ok : status ≡ statuses.ok
      → (image : List ℕ) × IsImageWith (IsMadeOfImages operation set other) image × IsWritten image old new count
  pub too_short : status ≡ statuses.buffer_too_short
      → (image : List ℕ) × IsImageWith (IsMadeOfImages operation set other) image × IsTooLong image old new count
  pub not_a_set : (status ≡ statuses.not_a_set) ↔ ¬ (IsImage set)
  pub other_not_a_set : (status ≡ statuses.other_not_a_set) ↔ (IsImage set × ¬ (IsImage other))
  pub buffer_kept : status ≢ statuses.ok → new ≡ old
  pub count_kept : status ≢ statuses.ok → status ≢ statuses.buffer_too_short → count ≡ count_old

-- The set is the complement of the set of which the bytes are the image.
pub record IsComplementOfImage (set : List ℕ) (s : IpSet) : Type 0 where
  pub first : IpSet
  pub first_image : IsImageOf set first
  pub made : IsComplement s first

-- The lines are the fewest networks of the set of which the bytes are the image.
pub record IsTextOfImage (set answer : List ℕ) : Type 0 where
  pub first : IpSet
  pub first_image : IsImageOf set first
  pub text : AreNetworkLines (IsMember first) answer

-- The lines are the fewest ranges of the set of which the bytes are the image.
-- Example: `"10.0.0.0-10.0.0.2\n"` of the image of 10.0.0.0/31 and 10.0.0.2/32.
pub record IsRangesOfImage (set answer : List ℕ) : Type 0 where
  pub first : IpSet
  pub first_image : IsImageOf set first
  pub ranges : AreRangeLines (IsMember first) answer

-- A call that makes an answer of one image, into the buffer: `count` is the length of the answer.
-- Example: the complement of the image of no addresses is the image of all addresses, of 52 bytes.
pub record IsImageReply (IsAnswer : List ℕ → Type 0) (set old new : List ℕ) (count_old count status : ℕ) : Type 0 where
  pub known : (status ≡ statuses.ok) ⊎ ((status ≡ statuses.buffer_too_short) ⊎ ((status ≡ statuses.not_a_set)
      ⊎ (status ≡ statuses.out_of_memory)))
  pub ok : status ≡ statuses.ok → (answer : List ℕ) × IsAnswer answer × IsWritten answer old new count
  pub too_short : status ≡ statuses.buffer_too_short
      → (answer : List ℕ) × IsAnswer answer × IsTooLong answer old new count
  pub not_a_set : (status ≡ statuses.not_a_set) ↔ ¬ (IsImage set)
  pub buffer_kept : status ≢ statuses.ok → new ≡ old
  pub count_kept : status ≢ statuses.ok → status ≢ statuses.buffer_too_short → count ≡ count_old

-- ---- questions

-- The bytes are the octets of the address, the most significant first: 4 for IPv4, 16 for IPv6.
-- Example: 10, 0, 0, 1 for 10.0.0.1.
pub record AreOctetsOf (bytes : List ℕ) (x : Address) : Type 0 where
  pub address : IsAddress x
  pub octets_are : bytes ≡ address_octets x.family x.number

-- The number of bytes is the number of octets of an address.
abbrev pub HasAddressLen : List ℕ → Type 0
HasAddressLen bytes = (length bytes ≡ 4) ⊎ (length bytes ≡ 16)

-- The bytes are `count` addresses of `width` octets each, 4 or 16.
abbrev pub AreAddresses : List ℕ → ℕ → ℕ → Type 0
AreAddresses bytes width count = ((width ≡ 4) ⊎ (width ≡ 16)) × (length bytes ≡ count * width)

-- Whether the set contains an address: the status is 1 or 0, or says why there is no answer.
-- Example: of the image of 10.0.0.0/30, 10, 0, 0, 1 gives 1, and 10, 0, 0, 4 gives 0; 10, 0, 0 gives `wrong_length`.
pub record IsContainsReply (set address : List ℕ) (status : ℕ) : Type 0 where
  pub answer : (s : IpSet) (x : Address) → IsImageOf set s → AreOctetsOf address x
      → IsYesExactlyAt (IsMember s x) status
  pub known : HasAddressLen address → HasHeader set → (status ≡ 0) ⊎ (status ≡ 1)
  pub wrong_length : (status ≡ statuses.wrong_length) ↔ ¬ (HasAddressLen address)
  pub not_a_set : (status ≡ statuses.not_a_set) ↔ (HasAddressLen address × ¬ (HasHeader set))

-- Whether the set contains every address of a network, given as bytes.
-- Example: of the image of 10.0.0.0/30, 0, 10, 0, 0, 2, 31 gives 1, and 0, 10, 0, 0, 0, 29 gives 0.
pub record IsCoversReply (set network : List ℕ) (status : ℕ) : Type 0 where
  pub answer : (status ≡ 0) ⊎ (status ≡ 1) → (n : Network) × AreBytesOf network n × ((s : IpSet) → IsImageOf set s
      → IsYesExactlyAt ((x : Address) → InBlock n x → IsMember s x) status)
  pub known : (n : Network) → AreBytesOf network n → HasHeader set → (status ≡ 0) ⊎ (status ≡ 1)
  pub wrong_length : (status ≡ statuses.wrong_length) ↔ HasWrongTaggedLen network
  pub unknown_family : (status ≡ statuses.unknown_family) ↔ HasUnknownVariant network
  pub prefix_too_long : (status ≡ statuses.prefix_too_long) ↔ HasLongTaggedPrefix network
  pub not_a_set : (status ≡ statuses.not_a_set) ↔ (((n : Network) × AreBytesOf network n) × ¬ (HasHeader set))

-- An answer about an address is 1 or 0, whatever the bytes of the set are. If they are the image of a set, the answer
-- says whether the set contains the address.
pub record IsAnswerAt (set : List ℕ) (x : Address) (answer : ℕ) : Type 0 where
  pub exact : (s : IpSet) → IsImageOf set s → IsYesExactlyAt (IsMember s x) answer
  pub bit : (answer ≡ 0) ⊎ (answer ≡ 1)

-- Whether the set contains each of many addresses: `addresses` has `width` octets for each, one after the other, and
-- the byte of the address in `new` is 1 or 0.
-- Example: of the image of 10.0.0.0/30, with the width 4, 10, 0, 0, 1, 10, 0, 0, 4 gives 1, 0.
pub record IsContainsAllReply (set addresses : List ℕ) (width : ℕ) (old new : List ℕ) (status : ℕ) : Type 0 where
  pub known : (status ≡ statuses.ok) ⊎ ((status ≡ statuses.wrong_length) ⊎ (status ≡ statuses.not_a_set))
  pub ok : status ≡ statuses.ok → (i : ℕ) → i < length old → (x : Address)
      → AreOctetsOf (take width (drop (i * width) addresses)) x → IsAnswerAt set x (slice_index new i)
  pub as_many : length new ≡ length old
  pub wrong_length : (status ≡ statuses.wrong_length) ↔ ¬ (AreAddresses addresses width (length old))
  pub not_a_set : (status ≡ statuses.not_a_set) ↔ (AreAddresses addresses width (length old) × ¬ (HasHeader set))
  pub kept : status ≢ statuses.ok → new ≡ old

-- The bytes are `count` networks in byte form of `width` bytes each, 6 or 18.
abbrev pub AreNetworksInBytes : List ℕ → ℕ → ℕ → Type 0
AreNetworksInBytes bytes width count = ((width ≡ 6) ⊎ (width ≡ 18)) × (length bytes ≡ count * width)

-- Whether the set contains every address of each of many networks: `networks` has `width` bytes for each, one after the
-- other, and the byte of the network in `new` is what the question about this network returns.
-- Example: of the image of 10.0.0.0/30, with the width 6, 0, 10, 0, 0, 2, 31, 0, 10, 0, 0, 0, 29, 0, 10, 0, 0, 0, 33
-- gives 1, 0 and `prefix_too_long`.
pub record IsCoversAllReply (set networks : List ℕ) (width : ℕ) (old new : List ℕ) (status : ℕ) : Type 0 where
  pub known : (status ≡ statuses.ok) ⊎ ((status ≡ statuses.wrong_length) ⊎ (status ≡ statuses.not_a_set))
  pub ok : status ≡ statuses.ok → (i : ℕ) → i < length old
      → IsCoversReply set (take width (drop (i * width) networks)) (slice_index new i)
  pub as_many : length new ≡ length old
  pub wrong_length : (status ≡ statuses.wrong_length) ↔ ¬ (AreNetworksInBytes networks width (length old))
  pub not_a_set : (status ≡ statuses.not_a_set)
      ↔ (AreNetworksInBytes networks width (length old) × ¬ (HasHeader set))
  pub kept : status ≢ statuses.ok → new ≡ old

-- Whether the first set is a subset of the second.
pub record IsSubsetReply (set other : List ℕ) (status : ℕ) : Type 0 where
  pub known : IsImage set → IsImage other
      → (status ≡ 0) ⊎ ((status ≡ 1) ⊎ (status ≡ statuses.out_of_memory))
  pub answer : (s t : IpSet) → IsImageOf set s → IsImageOf other t → status ≢ statuses.out_of_memory
      → IsYesExactlyAt (IsSubset s t) status
  pub not_a_set : (status ≡ statuses.not_a_set) ↔ ¬ (IsImage set)
  pub other_not_a_set : (status ≡ statuses.other_not_a_set) ↔ (IsImage set × ¬ (IsImage other))

-- Whether the bytes are the image of a set.
pub record IsCheckReply (set : List ℕ) (status : ℕ) : Type 0 where
  pub known : (status ≡ statuses.ok) ⊎ (status ≡ statuses.not_a_set)
  pub ok : (status ≡ statuses.ok) ↔ IsImage set

-- The numbers of addresses of the set: the first is that of IPv4, and the others are digits to base 2^64 of the number
-- of IPv6 addresses, the lowest first. The last digit is 1 if and only if the set has all of them.
-- Example: 4, 0, 2, 0 for 10.0.0.0/30 and fd00::/63; 0, 0, 0, 1 for ::/0.
pub record AreCountsOf (s : IpSet) (counts : List ℕ) : Type 0 where
  pub four : length counts ≡ 4
  pub ipv4 : IsCountOf (IsMemberOf IPv4 s) (slice_index counts 0)
  pub some : slice_index counts 3 ≡ 0
      → IsCountOf (IsMemberOf IPv6 s) (slice_index counts 1 + 2 ^ 64 * slice_index counts 2)
  pub all : (slice_index counts 3 ≡ 1) ↔ ((x : Address) → IsAddress x → x.family ≡ IPv6 → IsMember s x)
  pub digit : (slice_index counts 3 ≡ 0) ⊎ ((slice_index counts 3 ≡ 1) × (slice_index counts 1 ≡ 0)
      × (slice_index counts 2 ≡ 0))

-- How many addresses the set has.
pub record IsCountsReply (set old new : List ℕ) (status : ℕ) : Type 0 where
  pub known : (status ≡ statuses.ok) ⊎ ((status ≡ statuses.wrong_length) ⊎ ((status ≡ statuses.not_a_set)
      ⊎ (status ≡ statuses.out_of_memory)))
  pub ok : status ≡ statuses.ok → (s : IpSet) × IsImageOf set s × AreCountsOf s new
  pub wrong_length : (status ≡ statuses.wrong_length) ↔ (length old ≢ 4)
  pub not_a_set : (status ≡ statuses.not_a_set) ↔ ((length old ≡ 4) × ¬ (IsImage set))
  pub kept : status ≢ statuses.ok → new ≡ old
