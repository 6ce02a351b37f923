-- Images of sets: what the bytes of an image say of the addresses of its set, and the bytes that make an image.
use Rattle.std.proofs.Common.{◌≡◌, ℕ, ◌+◌, ◌*◌, ◌≤◌, ◌↔◌, Bool, true, IsTrue, List, [], ◌++◌, length, map}
use Rattle.std.proofs.Common.{sym, ap, ap₂, ◌∙◌, subst, arith, append_assoc}
use Rattle.std.proofs.lemmas.List.{length-append, append-nil}
use Rattle.ipnet_base.specs.Address.{Family, IPv4, IPv6, Address, greatest_number}
use Rattle.ipnet_sets.specs.declared.set.IpSet.{IpSet}
use Rattle.ipnet_sets.specs.Boundaries.{is_inside, AreBoundaries}
use Rattle.ipnet_sets.specs.Members.{boundaries_of, IsMember, IsFromTo}
use Rattle.ipnet_sets.specs.Images.{number_from, numbers_from, stated_count, stored_boundaries, image_magic}
use Rattle.ipnet_sets.specs.Images.{HasHeader, IsImage, IsImageOf, IsAppended, AreAppended}
use Rattle.ipnet_sets.proofs.MemberLaws.{covers_from_to}
use Rattle.ipnet_sets.proofs.SetEqualLaws.{words_are_numbers}
use Rattle.ipnet_sets.proofs.ImageLaws.{number_front, number_later, numbers_front, numbers_later}

pub boundaries_are : (s : IpSet) (f : Family) → AreBoundaries f (boundaries_of s f)
boundaries_are s IPv4 = s.ipv4_boundaries
boundaries_are s IPv6 = s.ipv6_boundaries

-- what a search says of the stored numbers holds of the boundaries of the set
reported : (f : Family) (ns boundaries : List ℕ) (first last : ℕ) (answer : Bool) → ns ≡ boundaries
    → AreBoundaries f boundaries
    → (AreBoundaries f ns → IsTrue answer ↔ ((x : ℕ) → first ≤ x → x ≤ last → is_inside ns x ≡ true))
    → IsTrue answer ↔ ((x : ℕ) → first ≤ x → x ≤ last → is_inside (map (λ n. n) boundaries) x ≡ true)
reported f ns boundaries first last answer same good h =
    subst (λ ts. IsTrue answer ↔ ((x : ℕ) → first ≤ x → x ≤ last → is_inside ts x ≡ true))
    (same ∙ sym (words_are_numbers boundaries)) (h (subst (AreBoundaries f) (sym same) good))

pub covers_range_image : (s : IpSet) (f : Family) (start end : Address) (ns : List ℕ) (first last : ℕ) (answer : Bool)
    → start.family ≡ f → end.family ≡ f → last ≤ greatest_number f → first ≡ start.number → last ≡ end.number
    → ns ≡ boundaries_of s f
    → (AreBoundaries f ns → IsTrue answer ↔ ((x : ℕ) → first ≤ x → x ≤ last → is_inside ns x ≡ true))
    → IsTrue answer ↔ ((x : Address) → IsFromTo start end x → IsMember s x)
covers_range_image s f start end ns first last answer d e fits g h same reported_of =
    covers_from_to s f start end (boundaries_of s f) first last answer d e fits g h
    (words_are_numbers (boundaries_of s f))
    (reported f ns (boundaries_of s f) first last answer same (boundaries_are s f) reported_of)

pub image_from : (bytes : List ℕ) → HasHeader bytes → AreBoundaries IPv4 (stored_boundaries bytes IPv4)
    → AreBoundaries IPv6 (stored_boundaries bytes IPv6) → IsImage bytes
image_from bytes header ipv4 ipv6 = record { header = header; boundaries = go }
  where
    go : (f : Family) → AreBoundaries f (stored_boundaries bytes f)
    go IPv4 = ipv4
    go IPv6 = ipv6

image_of_from : (bytes : List ℕ) (s : IpSet) → HasHeader bytes → stored_boundaries bytes IPv4 ≡ boundaries_of s IPv4
    → stored_boundaries bytes IPv6 ≡ boundaries_of s IPv6 → IsImageOf bytes s
image_of_from bytes s header ipv4 ipv6 = record { header = header; boundaries = go }
  where
    go : (f : Family) → stored_boundaries bytes f ≡ boundaries_of s f
    go IPv4 = ipv4
    go IPv6 = ipv6

-- ---- bytes that grow

pub record IsLonger (old new : List ℕ) : Type 0 where
  pub more : List ℕ
  pub is : new ≡ old ++ more

pub longer : (a b c : List ℕ) → IsLonger a b → IsLonger b c → IsLonger a c
longer a b c f g = record {
  more = f.more ++ g.more;
  is = g.is ∙ ap (λ z. z ++ g.more) f.is ∙ append_assoc a f.more g.more;
}

pub by_one : (w n : ℕ) (old new : List ℕ) → IsAppended w n old new → IsLonger old new
by_one w n old new h = record { more = h.added; is = h.bytes_are }

pub by_many : (w : ℕ) (ns old new : List ℕ) → AreAppended w ns old new → IsLonger old new
by_many w ns old new h = record { more = h.added; is = h.bytes_are }

pub size_one : (w n : ℕ) (old new : List ℕ) → IsAppended w n old new → length new ≡ length old + w
size_one w n old new h = omega (arith, ap length h.bytes_are, length-append old h.added, h.width_is)

pub size_many : (w : ℕ) (ns old new : List ℕ) → AreAppended w ns old new → length new ≡ length old + length ns * w
size_many w ns old new h = omega (arith, ap length h.bytes_are, length-append old h.added, h.width_is)

-- an appended number is read back, also after more bytes
pub read_back : (w n at : ℕ) (old new all : List ℕ) → IsAppended w n old new → length old ≡ at → IsLonger new all
    → number_from w all at ≡ n
read_back w n at old new all h e l =
    let here : at + 0 ≡ at = omega arith in
    ap (λ z. number_from w z at) l.is
    ∙ number_front w new l.more at (omega (arith, size_one w n old new h, e))
    ∙ ap₂ (number_from w) h.bytes_are (sym here)
    ∙ number_later w old h.added at 0 e
    ∙ h.number_is

pub read_all_back : (w at count : ℕ) (ns old new all : List ℕ) → AreAppended w ns old new → length old ≡ at
    → length ns ≡ count → IsLonger new all → numbers_from w count all at ≡ ns
read_all_back w at count ns old new all h e size l =
    let here : at + 0 ≡ at = omega arith in
    let total : length ns * w ≡ count * w = ap (λ m. m * w) size in
    ap (λ z. numbers_from w count z at) l.is
    ∙ numbers_front w count new l.more at (omega (arith, size_many w ns old new h, e, total))
    ∙ ap₂ (numbers_from w count) h.bytes_are (sym here)
    ∙ numbers_later w count old h.added at 0 e
    ∙ ap (λ m. numbers_from w m h.added 0) (sym size)
    ∙ h.numbers_are

pub same_bytes : (bytes : List ℕ) → IsLonger bytes bytes
same_bytes bytes = record { more = []; is = sym (append-nil bytes) }

-- the bytes that are appended one after the other are the image
pub image_made : (s : IpSet) (ns4 ns6 : List ℕ) (c4 c6 : ℕ) (b0 b1 b2 b3 b4 b5 b6 : List ℕ) → b0 ≡ []
    → IsAppended 8 image_magic b0 b1 → IsAppended 8 1 b1 b2 → IsAppended 8 c4 b2 b3 → IsAppended 8 c6 b3 b4
    → AreAppended 16 ns6 b4 b5 → AreAppended 4 ns4 b5 b6 → length ns4 ≡ c4 → length ns6 ≡ c6
    → ns4 ≡ boundaries_of s IPv4 → ns6 ≡ boundaries_of s IPv6 → IsImageOf b6 s
image_made s ns4 ns6 c4 c6 b0 b1 b2 b3 b4 b5 b6 none h1 h2 h3 h4 h5 h6 size4 size6 is4 is6 =
    image_of_from b6 s
    (record {
      room = omega (arith, size);
      magic = read_back 8 image_magic 0 b0 b1 b6 h1 l0 to1;
      version = read_back 8 1 8 b1 b2 b6 h2 l1 to2;
      stated = omega (arith, size, count4, count6);
    })
    (ap₂ (λ n at. numbers_from 4 n b6 (32 + at * 16)) count4 count6
    ∙ read_all_back 4 (32 + c6 * 16) c4 ns4 b5 b6 b6 h6 l5 size4 (same_bytes b6) ∙ is4)
    (ap (λ n. numbers_from 16 n b6 32) count6
    ∙ read_all_back 16 32 c6 ns6 b4 b5 b6 h5 l4 size6 to5 ∙ is6)
  where
    l0 : length b0 ≡ 0
    l0 = ap length none

    l1 : length b1 ≡ 8
    l1 = omega (arith, size_one 8 image_magic b0 b1 h1, l0)

    l2 : length b2 ≡ 16
    l2 = omega (arith, size_one 8 1 b1 b2 h2, l1)

    l3 : length b3 ≡ 24
    l3 = omega (arith, size_one 8 c4 b2 b3 h3, l2)

    l4 : length b4 ≡ 32
    l4 = omega (arith, size_one 8 c6 b3 b4 h4, l3)

    l5 : length b5 ≡ 32 + c6 * 16
    l5 = omega (arith, size_many 16 ns6 b4 b5 h5, l4, size6)

    size : length b6 ≡ 32 + c6 * 16 + c4 * 4
    size = omega (arith, size_many 4 ns4 b5 b6 h6, l5, size4)

    to5 : IsLonger b5 b6
    to5 = by_many 4 ns4 b5 b6 h6

    to4 : IsLonger b4 b6
    to4 = longer b4 b5 b6 (by_many 16 ns6 b4 b5 h5) to5

    to3 : IsLonger b3 b6
    to3 = longer b3 b4 b6 (by_one 8 c6 b3 b4 h4) to4

    to2 : IsLonger b2 b6
    to2 = longer b2 b3 b6 (by_one 8 c4 b2 b3 h3) to3

    to1 : IsLonger b1 b6
    to1 = longer b1 b2 b6 (by_one 8 1 b1 b2 h2) to2

    count4 : stated_count b6 IPv4 ≡ c4
    count4 = read_back 8 c4 16 b2 b3 b6 h3 l2 to3

    count6 : stated_count b6 IPv6 ≡ c6
    count6 = read_back 8 c6 24 b3 b4 b6 h4 l3 to4
