-- Values that are written over the values of an image: what is kept, and which table the bytes then hold.
use Rattle.std.proofs.Common.{◌≡◌, ℕ, zero, suc, ◌+◌, ◌-◌, ◌*◌, ◌^◌, ◌<◌, ◌≤◌, ◌⊎◌, ◌↔◌, List, [], ◌++◌, length, get_or}
use Rattle.std.proofs.Common.{take, drop, Contains, All, inl, inr, refl, sym, ap, ap₂, ◌∙◌, subst, subst₂, arith}
use Rattle.std.proofs.Common.{le-leb}
use Rattle.std.proofs.lemmas.Bool.{cases_lt, cases_order, lt-leb}
use Rattle.std.proofs.lemmas.List.{get_or-take, get_or-drop, length-map, length-take-le, length-drop}
use Rattle.std.proofs.lemmas.Slice.{take-put_mid_below, drop-put_mid}
use Rattle.std.proofs.lemmas.Slice.Zip.{get_or-zip, firsts-zip}
use Rattle.std.specs.Int.{w32, to_le_bytes}
use Rattle.std.specs.List.{zip}
use borrow.Rule.Slice.PartMut.{put_mid, post_of, same_len_mid}
use Rattle.ipnet_base.specs.Address.{Family, IPv4, IPv6}
use Rattle.ipnet_base.specs.Blocks.{IsAscending}
use Rattle.ipnet_base.specs.Network.{Network, IsNetwork, IsTruncated}
use Rattle.ipnet_base.proofs.ListLaws.{at_place}
use Rattle.ipnet_sets.specs.Images.{number_from, IsAppended}
use Rattle.ipnet_sets.proofs.ImageLaws.{number_front, number_later, appended_four}
use Rattle.ipnet_routes.specs.Routes.{Route, networks_of}
use Rattle.ipnet_routes.specs.RouteSteps.{IsPlaceOf, IsNearest}
use Rattle.ipnet_routes.specs.TableImages.{stated_routes, stated_index, stated_bits, route_count, route_place}
use Rattle.ipnet_routes.specs.TableImages.{index_place, index_bits, index_size, number_width, link_width, bucket_start}
use Rattle.ipnet_routes.specs.TableImages.{HasTableHeader, IsRowAt, IsRouteAt, IsLinkedAt, AreRoutesIn, AreStartsIn}
use Rattle.ipnet_routes.specs.TableImages.{IsTableImageOf, HasOtherValues, value_place, IsNumberWritten}
use Rattle.ipnet_routes.specs.TableImages.{AreValuesWritten}
use Rattle.ipnet_routes.proofs.TableImageLaws.{stored_route}
use Rattle.ipnet_routes.proofs.TableRowLaws.{row_size}

-- ---- one number

-- numbers are the same if their bytes are
number_same : (w : ℕ) (a b : List ℕ) (at : ℕ) → ((k : ℕ) → at ≤ k → k < at + w → get_or a k 0 ≡ get_or b k 0)
    → number_from w a at ≡ number_from w b at
unfolding number_from
number_same zero a b at same = refl
number_same (suc w) a b at same =
    ap₂ (λ x r. x + 256 * r) (same at (omega arith) (omega arith))
    (number_same w a b (at + 1) (λ k ge lt. same k (omega (arith, ge)) (omega (arith, lt))))

-- a number, written into a part of the bytes
pub number_put : (bytes part : List ℕ) (at number : ℕ) → at + 4 ≤ length bytes → number < 2 ^ 32
    → part ≡ to_le_bytes w32 number → IsNumberWritten at number bytes (put_mid at (at + 4 - at) bytes part)
number_put bytes part at number within fits e = record {
  as_long = same_len_mid at (at + 4 - at) bytes part
      (omega (arith, four, length-take-le (at + 4 - at) (drop at bytes) (omega (arith, within, length-drop at bytes))));
  number_is = ap (number_from 4 new) here
      ∙ number_later 4 (take at bytes) (part ++ post_of at (at + 4 - at) bytes) at 0
      (length-take-le at bytes (omega (arith, within)))
      ∙ number_front 4 part (post_of at (at + 4 - at) bytes) 0 (omega (arith, four))
      ∙ ap (λ z. number_from 4 z 0) stored.bytes_are
      ∙ stored.number_is;
  others = λ k out. elim out [
    | inl before ↦ sym (get_or-take at new k 0 before)
        ∙ ap (λ z. get_or z k 0)
        (take-put_mid_below at (at + 4 - at) bytes part at (omega arith) (omega (arith, within)))
        ∙ get_or-take at bytes k 0 before
    | inr after ↦
        let parts : k ≡ at + 4 + (k - (at + 4)) = omega (arith, after) in
        ap (λ i. get_or new i 0) parts ∙ sym (get_or-drop (at + 4) new (k - (at + 4)) 0)
        ∙ ap (λ z. get_or z (k - (at + 4)) 0)
        (drop-put_mid at (at + 4 - at) bytes part (at + 4) (omega arith) (omega (arith, within)) (omega (arith, four)))
        ∙ get_or-drop (at + 4) bytes (k - (at + 4)) 0 ∙ ap (λ i. get_or bytes i 0) (sym parts)
  ];
}
  where
    new : List ℕ
    new = put_mid at (at + 4 - at) bytes part

    four : length part ≡ 4
    four = ap length e

    stored : IsAppended 4 number [] part
    stored = appended_four number [] part part fits e refl

    here : at ≡ at + 0
    here = omega arith

-- ---- the places of the values

pub ipv4_value : (m i : ℕ) → i < m → value_place m i ≡ 40 + i * 16
unfolding value_place
ipv4_value m i l = rw (lt-leb m i l)

pub ipv6_value : (m i : ℕ) → m ≤ i → value_place m i ≡ 52 + m * 16 + (i - m) * 32
unfolding value_place
ipv6_value m i l = rw (le-leb m i l)

-- the byte at which a row begins
abbrev row_start : ℕ → ℕ → ℕ
row_start m i = 32 + i * 16 + (i - m) * 16

-- a value lies within its row
value_from : (m i : ℕ) → row_start m i + 8 ≤ value_place m i
value_from m i = elim (cases_lt i m) [
  | inl l ↦ omega (arith, l, ipv4_value m i l)
  | inr ge ↦ omega (arith, ge, ipv6_value m i ge)
]

value_to : (m i : ℕ) → value_place m i + 8 ≤ row_start m (i + 1)
value_to m i = elim (cases_lt i m) [
  | inl l ↦ omega (arith, l, ipv4_value m i l)
  | inr ge ↦ omega (arith, ge, ipv6_value m i ge)
]

later : (i j m : ℕ) → i ≤ j → row_start m i ≤ row_start m j
later i j m le = omega (arith, le)

-- and ends before the rows after it
pub value_within : (m i count : ℕ) → i < count → value_place m i + 4 ≤ row_start m count
value_within m i count l = omega (arith, value_to m i, later (i + 1) count m (omega (arith, l)))

value_of_row : (f : Family) (m i : ℕ) → (f ≡ IPv4) ↔ (i < m)
    → value_place m i ≡ row_start m i + number_width f + 4
value_of_row IPv4 m i part = let l = part.0 refl in omega (arith, l, ipv4_value m i l)
value_of_row IPv6 m i part = elim (cases_lt i m) [
  | inl l ↦ let apart : IPv6 ≡ IPv4 = part.1 l in absurd (cc)
  | inr ge ↦ omega (arith, ge, ipv6_value m i ge)
]

-- bytes of a row that are not of its value are of no other value
outside : (m i k : ℕ) → row_start m i ≤ k → k < row_start m (i + 1)
    → (k < value_place m i) ⊎ (value_place m i + 4 ≤ k) → (j : ℕ)
    → (k < value_place m j) ⊎ (value_place m j + 4 ≤ k)
outside m i k ge lt own j = elim (cases_order i j) [
  | inl same ↦ subst (λ z. (k < value_place m z) ⊎ (value_place m z + 4 ≤ k)) same own
  | inr (inl less) ↦ inl (omega (arith, lt, value_from m j, later (i + 1) j m (omega (arith, less))))
  | inr (inr more) ↦ inr (omega (arith, ge, value_to m j, later (j + 1) i m (omega (arith, more))))
]

-- ---- the values up to an index

pub written_none : (m : ℕ) (values old : List ℕ) → AreValuesWritten m 0 values old old
written_none m values old = record {
  as_long = refl;
  written = λ i l. absurd (omega (arith, l));
  others = λ k out. refl;
}

pub written_more : (m count : ℕ) (values old now new : List ℕ) → AreValuesWritten m count values old now
    → IsNumberWritten (value_place m count) (get_or values count 0) now new
    → AreValuesWritten m (count + 1) values old new
written_more m count values old now new h one = record {
  as_long = one.as_long ∙ h.as_long;
  written = λ i l. elim (cases_lt i count) [
    | inl lt ↦ number_same 4 new now (value_place m i)
        (λ k ge less. one.others k (inl (omega (arith, less, value_within m i count lt, value_from m count))))
        ∙ h.written i lt
    | inr ge ↦ let same : count ≡ i = omega (arith, l, ge) in
        subst (λ z. number_from 4 new (value_place m z) ≡ get_or values z 0) same one.number_is
  ];
  others = λ k out. one.others k (out count (omega arith)) ∙ h.others k (λ i l. out i (omega (arith, l)));
}

-- ---- the table of the new bytes

module _ (old values new : List ℕ) (w : AreValuesWritten (stated_routes old IPv4) (length values) values old new)
    (as_many : length values ≡ route_count old) where
  abbrev m : ℕ
  m = stated_routes old IPv4

  head_same : (at : ℕ) → at + 8 ≤ 32 → number_from 8 new at ≡ number_from 8 old at
  head_same at within = number_same 8 new old at
      (λ k ge lt. w.others k (λ i l. inl (omega (arith, lt, within, value_from m i))))

  ipv4_same : stated_routes new IPv4 ≡ stated_routes old IPv4
  ipv4_same = head_same 16 (omega arith)

  ipv6_same : stated_routes new IPv6 ≡ stated_routes old IPv6
  ipv6_same = head_same 24 (omega arith)

  count_same : route_count new ≡ route_count old
  count_same = ap₂ (λ x y. x + y) ipv4_same ipv6_same

  place_same : (i : ℕ) → route_place new i ≡ route_place old i
  place_same i = ap (λ x. 32 + i * 16 + (i - x) * 16) ipv4_same

  index_same : index_place new ≡ index_place old
  index_same = place_same (route_count new) ∙ ap (route_place old) count_same

  entries_same : stated_index new ≡ stated_index old
  entries_same = ap₂ (λ x y. index_size (index_bits x) (index_bits y)) ipv4_same ipv6_same

  header_kept : HasTableHeader old → HasTableHeader new
  header_kept h = record {
    room = omega (arith, h.room, w.as_long);
    magic = head_same 0 (omega arith) ∙ h.magic;
    version = head_same 8 (omega arith) ∙ h.version;
    stated = w.as_long ∙ h.stated ∙ sym (ap₂ (λ i k. i + k * 4) index_same entries_same);
  }

  -- the fields of a row beside its value
  field : (i width at : ℕ) → row_start m i ≤ at → at + width ≤ row_start m (i + 1)
      → (at + width ≤ value_place m i) ⊎ (value_place m i + 4 ≤ at)
      → number_from width new at ≡ number_from width old at
  field i width at ge within own = number_same width new old at
      (λ k from to. w.others k (λ j l. outside m i k (omega (arith, ge, from)) (omega (arith, to, within))
      (elim own [ inl before ↦ inl (omega (arith, to, before)) | inr after ↦ inr (omega (arith, from, after)) ]) j))

  row_kept : (i : ℕ) (n : Network) (value link : ℕ) → i < route_count old → IsRouteAt old i n value link
      → IsRouteAt new i n (get_or values i 0) link
  row_kept i n value link l h = record {
    in_part = subst (λ x. (n.family ≡ IPv4) ↔ (i < x)) (sym ipv4_same) h.in_part;
    row = subst (λ at. IsRowAt new at n (get_or values i 0) link) (sym (place_same i)) (record {
      number = field i (number_width n.family) (row_start m i) (omega arith) (omega (arith, size))
          (inl (omega (arith, place))) ∙ h.row.number;
      prefix_len = field i 4 (row_start m i + number_width n.family) (omega arith) (omega (arith, size))
          (inl (omega (arith, place))) ∙ h.row.prefix_len;
      value_is = ap (number_from 4 new) (sym place) ∙ w.written i (omega (arith, l, as_many));
      link_is = field i (link_width n.family) (row_start m i + number_width n.family + 8) (omega arith)
          (omega (arith, size)) (inr (omega (arith, place))) ∙ h.row.link_is;
    });
  }
    where
      place : value_place m i ≡ row_start m i + number_width n.family + 4
      place = value_of_row n.family m i h.in_part

      size : i * 16 + (i - m) * 16 + (number_width n.family + link_width n.family + 8)
          ≡ (i + 1) * 16 + (i + 1 - m) * 16
      size = row_size n.family i m h.in_part

  -- an entry of the index
  entry_same : (bucket : ℕ)
      → number_from 4 new (index_place new + bucket * 4) ≡ number_from 4 old (index_place old + bucket * 4)
  entry_same bucket = ap (λ i. number_from 4 new (i + bucket * 4)) index_same
      ∙ number_same 4 new old (index_place old + bucket * 4)
      (λ k from to. w.others k (λ i l. inr (omega (
        arith,
        from,
        value_within m i (route_count old)
            (omega (arith, l, as_many)),
      ))))

  module _ (t : List (Route ℕ)) (h : IsTableImageOf old t) where
    held : AreRoutesIn old (route_count old) t
    held = h.table.held

    abbrev networks : List Network
    networks = networks_of t

    abbrev routes : List (Route ℕ)
    routes = zip networks values

    all : length values ≡ length networks
    all = as_many ∙ sym held.as_many ∙ sym (length-map t (λ (r : Route ℕ). r.0))

    same_networks : networks_of routes ≡ networks
    same_networks = firsts-zip networks values all

    count : length routes ≡ route_count new
    count = sym (length-map routes (λ (r : Route ℕ). r.0)) ∙ ap length same_networks ∙ sym all ∙ as_many
        ∙ sym count_same

    linked : (r : Route ℕ) (c : Contains routes r) → IsLinkedAt new (networks_of routes) c.0 r
    linked r c =
        let i = c.0 in
        let inside : i < route_count old = omega (arith, c.1, count, count_same) in
        let s = stored_route old t held i inside in
        let here : i < length networks = omega (arith, inside, as_many, all) in
        let both = sym c.2 ∙ get_or-zip networks values i r here (omega (arith, here, all)) in
        let first : r.0 ≡ s.0.0 =
        ap (λ (z : Route ℕ). z.0) both ∙ at_place networks i r.0 s.0.0 here
        ∙ ap (λ k. get_or networks k s.0.0) (sym s.1.at_is) ∙ s.1.at.2 in
        let second : r.1 ≡ get_or values i 0 =
        ap (λ (z : Route ℕ). z.1) both ∙ at_place values i r.1 0 (omega (arith, here, all)) in
        record {
          link = s.1.linked.link;
          stored = subst₂ (λ n v. IsRouteAt new i n v s.1.linked.link) (sym first) (sym second)
              (row_kept i s.0.0 s.0.1 s.1.linked.link inside s.1.linked.stored);
          nearest = subst₂ (λ ns n. IsNearest ns n i s.1.linked.link) (sym same_networks) (sym first)
              s.1.linked.nearest;
        }

    starts : AreStartsIn new (networks_of routes)
    starts bucket l =
        subst (λ ns. IsPlaceOf ns (bucket_start (stated_bits new IPv4) (stated_bits new IPv6) bucket)
        (number_from 4 new (index_place new + bucket * 4))) (sym same_networks)
        (subst (IsPlaceOf networks (bucket_start (stated_bits new IPv4) (stated_bits new IPv6) bucket))
        (sym (entry_same bucket))
        (subst₂ (λ x y. IsPlaceOf networks (bucket_start (index_bits x) (index_bits y) bucket)
        (number_from 4 old (index_place old + bucket * 4))) (sym ipv4_same) (sym ipv6_same)
        (h.table.starts bucket (omega (arith, l, entries_same)))))

    table_made : IsTableImageOf new routes
    table_made = record {
      header = header_kept h.header;
      table = record {
        held = record {
          as_many = count;
          valid = subst (All IsNetwork) (sym same_networks) held.valid;
          truncated = subst (All IsTruncated) (sym same_networks) held.truncated;
          ascending = subst IsAscending (sym same_networks) held.ascending;
          held = linked;
        };
        starts = starts;
      };
    }

  pub other_values : HasOtherValues old values new
  other_values = record {
    as_long = w.as_long;
    header = header_kept;
    routes = row_kept;
    table = table_made;
  }
