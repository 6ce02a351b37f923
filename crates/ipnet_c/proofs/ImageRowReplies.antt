-- Replies with the content of images as rows: ranges, networks and values.
use Rattle.std.proofs.Common.{◌≡◌, ◌≢◌, ℕ, ◌+◌, ◌*◌, ◌^◌, ◌<◌, ◌≤◌, true, false, List, [], ◌∷◌, ◌++◌}
use Rattle.std.proofs.Common.{length, get_or, slice_set, Contains, Option, Some, None, IfSome, IsSomeAnd, option_map}
use Rattle.std.proofs.Common.{inl, inr, refl, sym, ap, subst, subst₂, ◌∙◌, arith, length-append, append_assoc}
use Rattle.std.proofs.Common.{append-nil}
use Rattle.std.proofs.lemmas.Bool.{cases_lt}
use Rattle.std.proofs.lemmas.Grind.{get_or-set_at}
use Rattle.std.proofs.lemmas.List.{length-set, get_or-set_other, get_or_push, get_or_append_left}
use Rattle.std.specs.Option.{SomeIff}
use Rattle.std.specs.declared.net.ip_addr.IpAddr.{IpAddr}
use Rattle.ipnet_base.specs.Address.{Address, IsAddress, width, ip_address, address_at}
use Rattle.ipnet_base.specs.Ranges.{AddressRange}
use Rattle.ipnet.specs.Network.{IsNetwork}
use Rattle.ipnet.specs.NetworkOf.{ip_network}
use Rattle.ipnet.specs.NetworkParts.{own_address}
use Rattle.ipnet.specs.NetLaws.{ip_valid}
use Rattle.ipnet.specs.declared.net.IpNet.{IpNet}
use Rattle.ipnet_sets.specs.Images.{IsImage}
use Rattle.ipnet_routes.specs.Routes.{Route}
use Rattle.ipnet_routes.specs.TableImages.{route_count, HasTableHeader, HasRouteAt, IsTableImageOf}
use Rattle.ipnet_c.specs.Rows.{AreRows, row_bytes, IsWrittenRow, written_family, written_octets}
use Rattle.ipnet_c.specs.ImageRows.{AreEndsAt, AreRowsOfRanges, IsRangeCount, IsRangeRowsReply, length_of, IsNetworkRow}
use Rattle.ipnet_c.specs.ImageRows.{NetworkRows, network_rows, AreRowsOfRoutes, IsNetworksReply, IsValueOfRoute}
use Rattle.ipnet_c.proofs.StatusLaws.{differ}

-- ---- the ends of a range

-- the value that there is
made_of : {X : Type 0} (o : Option X) (P : Type 0) (x : X) → P → SomeIff o P x → o ≡ Some x
made_of None P x p h = absurd (h p)
made_of (Some y) P x p h = ap (λ z. Some z) h.1

-- a row of an address that was written
row_written : (families octets : List ℕ) (i : ℕ) (row : Option IpAddr) (x : Address)
    → option_map ip_address row ≡ Some x → IsAddress x
    → get_or families i 0 ≡ written_family (option_map ip_address row)
    → row_bytes octets i ≡ written_octets (option_map ip_address row) → IsWrittenRow families octets i (Some x)
row_written families octets i row x is valid family bytes = record {
  address = valid;
  family_is = family ∙ ap written_family is;
  bytes_are = bytes ∙ ap written_octets is;
}

-- a row that no other write changed
row_kept : (families octets new_families new_octets : List ℕ) (i : ℕ) (row : Option Address)
    → get_or new_families i 0 ≡ get_or families i 0 → row_bytes new_octets i ≡ row_bytes octets i
    → IsWrittenRow families octets i row → IsWrittenRow new_families new_octets i row
row_kept families octets new_families new_octets i row family bytes h = record {
  address = h.address;
  family_is = family ∙ h.family_is;
  bytes_are = bytes ∙ h.bytes_are;
}

-- the first row is of the first address, and the next row of the last address
pub ends_written : (now_families now_octets new_families new_octets : List ℕ) (index : ℕ) (r : AddressRange)
    (first last : Option IpAddr) → r.start ≤ r.end → r.end < 2 ^ width r.family
    → SomeIff (option_map ip_address first) (r.start ≤ r.end) (address_at r.family r.start)
    → SomeIff (option_map ip_address last) (r.start ≤ r.end) (address_at r.family r.end)
    → get_or now_families index 0 ≡ written_family (option_map ip_address first)
    → row_bytes now_octets index ≡ written_octets (option_map ip_address first)
    → get_or new_families (index + 1) 0 ≡ written_family (option_map ip_address last)
    → row_bytes new_octets (index + 1) ≡ written_octets (option_map ip_address last)
    → get_or new_families index 0 ≡ get_or now_families index 0
    → row_bytes new_octets index ≡ row_bytes now_octets index
    → AreEndsAt new_families new_octets index r
ends_written now_families now_octets new_families new_octets index r first last some fits least greatest family bytes
    last_family last_bytes same same_bytes = record {
      first = row_kept now_families now_octets new_families new_octets index (Some (address_at r.family r.start)) same
          same_bytes
          (row_written now_families now_octets index first (address_at r.family r.start)
          (made_of (option_map ip_address first) (r.start ≤ r.end) (address_at r.family r.start) some least)
          (omega (arith, some, fits)) family bytes);
      last = row_written new_families new_octets (index + 1) last (address_at r.family r.end)
          (made_of (option_map ip_address last) (r.start ≤ r.end) (address_at r.family r.end) some greatest) fits
          last_family last_bytes;
    }

-- ---- the ranges so far

-- The rows before the index are the ends of the ranges that are done, and the others are what they were.
pub record AreRangesTo (all left : List AddressRange) (index : ℕ) (families octets new_families new_octets : List ℕ) :
    Type 0 where
  pub done : List AddressRange
  pub cut : all ≡ done ++ left
  pub index_is : index ≡ 2 * length done
  pub as_many : length new_families ≡ length families
  pub as_long : length new_octets ≡ length octets
  pub rows : (r : AddressRange) (c : Contains done r) → AreEndsAt new_families new_octets (2 * c.0) r
  pub others : (i : ℕ) → index ≤ i
      → (get_or new_families i 0 ≡ get_or families i 0) × (row_bytes new_octets i ≡ row_bytes octets i)

-- one range more
pub one_range : (all old left : List AddressRange) (r : AddressRange) (index : ℕ)
    (families octets now_families now_octets new_families new_octets : List ℕ) → old ≡ r ∷ left
    → AreRangesTo all old index families octets now_families now_octets
    → length new_families ≡ length now_families → length new_octets ≡ length now_octets
    → AreEndsAt new_families new_octets index r
    → ((i : ℕ) → i ≢ index → i ≢ index + 1 → get_or new_families i 0 ≡ get_or now_families i 0)
    → ((i : ℕ) → i ≢ index → i ≢ index + 1 → row_bytes new_octets i ≡ row_bytes now_octets i)
    → AreRangesTo all left (index + 2) families octets new_families new_octets
one_range all old left r index families octets now_families now_octets new_families new_octets next h len len_octets
    ends other other_octets = record {
      done = h.done ++ r ∷ [];
      cut = h.cut ∙ ap (λ z. h.done ++ z) next ∙ sym (append_assoc h.done (r ∷ []) left);
      index_is = omega (arith, h.index_is, length-append h.done (r ∷ []));
      as_many = len ∙ h.as_many;
      as_long = len_octets ∙ h.as_long;
      rows = λ q c. elim (cases_lt c.0 (length h.done)) [
        | inl before ↦
            let d : Contains h.done q =
            (c.0, before, sym (get_or_append_left h.done (r ∷ []) q c.0 before) ∙ c.2) in
            let one = h.rows q d in
            record {
              first = kept (2 * c.0) (Some (address_at q.family q.start)) (omega (arith, before, h.index_is)) one.first;
              last = kept (2 * c.0 + 1) (Some (address_at q.family q.end)) (omega (arith, before, h.index_is)) one.last;
            }
        | inr not ↦
            let here : c.0 ≡ length h.done = omega (arith, c.1, not, length-append h.done (r ∷ [])) in
            let same : r ≡ q = sym (get_or_push h.done r q c.0 (sym here)) ∙ c.2 in
            let place : index ≡ 2 * c.0 = omega (arith, here, h.index_is) in
            subst₂ (λ i z. AreEndsAt new_families new_octets i z) place same ends
      ];
      others = λ i le. (
        other i (apart i le) (after i le) ∙ (h.others i (omega (arith, le))).0,
        other_octets i (apart i le) (after i le) ∙ (h.others i (omega (arith, le))).1,
      );
    }
  where
    apart : (i : ℕ) → index + 2 ≤ i → i ≢ index
    apart i le same = omega (arith, le, same)

    after : (i : ℕ) → index + 2 ≤ i → i ≢ index + 1
    after i le same = omega (arith, le, same)

    kept : (i : ℕ) (row : Option Address) → i < index → IsWrittenRow now_families now_octets i row
        → IsWrittenRow new_families new_octets i row
    kept i row less = row_kept now_families now_octets new_families new_octets i row
        (other i (λ same. omega (arith, same, less)) (λ same. omega (arith, same, less)))
        (other_octets i (λ same. omega (arith, same, less)) (λ same. omega (arith, same, less)))

pub all_ranges : (all left : List AddressRange) (index : ℕ) (families octets new_families new_octets : List ℕ)
    → left ≡ [] → AreRangesTo all left index families octets new_families new_octets
    → AreRowsOfRanges all families octets new_families new_octets
all_ranges all left index families octets new_families new_octets none h =
    subst (λ z. AreRowsOfRanges z families octets new_families new_octets) (sym whole) (record {
      as_many = h.as_many;
      as_long = h.as_long;
      rows = h.rows;
      others = λ i le. h.others i (omega (arith, le, h.index_is));
    })
  where
    whole : all ≡ h.done
    whole = h.cut ∙ ap (λ z. h.done ++ z) none ∙ append-nil h.done

-- ---- the network and the value of a route

-- what an image has at an index
pub record IsRouteFound (table : List ℕ) (i : ℕ) (route : Option (IpNet × ℕ)) : Type 0 where
  pub of_table : (t : List (Route ℕ)) → IsTableImageOf table t → (r : Route ℕ) (c : Contains t r) → c.0 ≡ i
      → IsSomeAnd route (λ z. let q : Route ℕ = (ip_network z.0, z.1) in q ≡ r)
  pub stored : IfSome route (λ z. (i < route_count table) × HasRouteAt table i (ip_network z.0, z.1))
  pub read : i < route_count table → (r : Route ℕ) → IsNetwork r.0 → HasRouteAt table i r
      → IsSomeAnd route (λ z. let q : Route ℕ = (ip_network z.0, z.1) in q ≡ r)

pub network_row : (table : List ℕ) (i : ℕ) (route : Option (IpNet × ℕ)) (row : Option IpAddr) (family : ℕ)
    (bytes : List ℕ) (len : ℕ) → i < route_count table → IsRouteFound table i route
    → option_map ip_address row ≡ option_map (λ (z : IpNet × ℕ). own_address (ip_network z.0)) route
    → len ≡ length_of (option_map (λ (z : IpNet × ℕ). ip_network z.0) route)
    → family ≡ written_family (option_map ip_address row) → bytes ≡ written_octets (option_map ip_address row)
    → IsNetworkRow table i family bytes len
network_row table i None row family bytes len within h address size shown octets = record {
  network = None;
  written = record {
    address = tt;
    family_is = shown ∙ ap written_family address;
    bytes_are = octets ∙ ap written_octets address;
  };
  len = size;
  of_table = λ t image r c e. absurd (h.of_table t image r c e);
  stored = tt;
  none = λ none r valid has. h.read within r valid has;
}
network_row table i (Some (n, value)) row family bytes len within h address size shown octets = record {
  network = Some (ip_network n);
  written = record {
    address = (ip_valid n).address_fits;
    family_is = shown ∙ ap written_family address;
    bytes_are = octets ∙ ap written_octets address;
  };
  len = size;
  of_table = λ t image r c e. ap (λ (q : Route ℕ). Some q.0) (h.of_table t image r c e);
  stored = (value, h.stored.1);
  none = λ none. let apart : true ≡ false = none in absurd (cc);
}

pub value_of_route : (table : List ℕ) (i : ℕ) (route : IpNet × ℕ) → i < route_count table
    → IsRouteFound table i (Some route) → IsValueOfRoute table i route.1
value_of_route table i route within h = record {
  of_table = λ t image r c e. ap (λ (q : Route ℕ). q.1) (h.of_table t image r c e);
  stored = λ r valid has. ap (λ (q : Route ℕ). q.1) (h.read within r valid has);
  none = λ none. absurd (none (ip_network route.0, route.1) (ip_valid route.0) h.stored.1);
}

pub value_of_none : (table : List ℕ) (i : ℕ) → i < route_count table → IsRouteFound table i None
    → IsValueOfRoute table i 0
value_of_none table i within h = record {
  of_table = λ t image r c e. absurd (h.of_table t image r c e);
  stored = λ r valid has. absurd (h.read within r valid has);
  none = λ none. refl;
}

-- ---- the networks so far

pub record AreNetworksTo (table : List ℕ) (start index : ℕ) (old new : NetworkRows) : Type 0 where
  pub as_many : length new.families ≡ length old.families
  pub as_long : length new.octets ≡ length old.octets
  pub as_many_lengths : length new.lengths ≡ length old.lengths
  pub done : (i : ℕ) → i < index
      → IsNetworkRow table (start + i) (get_or new.families i 0) (row_bytes new.octets i) (get_or new.lengths i 0)

pub one_network : (table : List ℕ) (start index : ℕ) (old : NetworkRows) (families octets lengths new : List ℕ)
    (family len : ℕ) → AreNetworksTo table start index old (network_rows families octets lengths)
    → index < length families → index < length lengths → length new ≡ length octets
    → ((i : ℕ) → i ≢ index → row_bytes new i ≡ row_bytes octets i)
    → IsNetworkRow table (start + index) family (row_bytes new index) len
    → AreNetworksTo table start (index + 1) old
    (network_rows (slice_set families index family) new (slice_set lengths index len))
one_network table start index old families octets lengths new family len h within within_lengths long others here =
    record {
      as_many = length-set families index family ∙ h.as_many;
      as_long = long ∙ h.as_long;
      as_many_lengths = length-set lengths index len ∙ h.as_many_lengths;
      done = λ i less. elim (cases_lt i index) [
        | inl before ↦
            let apart : i ≢ index = λ same. omega (arith, same, before) in
            subst (λ z. IsNetworkRow table (start + i) z (row_bytes new i) (get_or (slice_set lengths index len) i 0))
            (sym (get_or-set_other families index i family 0 apart))
            (subst₂ (λ y z. IsNetworkRow table (start + i) (get_or families i 0) y z) (sym (others i apart))
            (sym (get_or-set_other lengths index i len 0 apart)) (h.done i before))
        | inr not ↦
            let same : index ≡ i = omega (arith, less, not) in
            subst (λ k. IsNetworkRow table (start + k) (get_or (slice_set families index family) k 0) (row_bytes new k)
            (get_or (slice_set lengths index len) k 0)) same
            (subst₂ (λ y z. IsNetworkRow table (start + index) y (row_bytes new index) z)
            (sym (get_or-set_at families index index family 0 refl within))
            (sym (get_or-set_at lengths index index len 0 refl within_lengths)) here)
      ];
    }

pub all_networks : (table : List ℕ) (start index : ℕ) (old new : NetworkRows) → HasTableHeader table
    → AreRowsOfRoutes table start old → AreNetworksTo table start index old new → length old.families ≤ index
    → IsNetworksReply table start old new 0
all_networks table start index old new header fit h all = record {
  known = inl refl;
  ok = λ e i less. h.done i (omega (arith, less, all));
  as_many = h.as_many;
  as_long = h.as_long;
  as_many_lengths = h.as_many_lengths;
  wrong_length = (λ e. absurd (differ 0 6 refl e), λ both. absurd (both.1 fit));
  not_a_table = (λ e. absurd (differ 0 13 refl e), λ none. absurd (none header));
  kept = λ not_ok. absurd (not_ok refl);
}

-- ---- replies with ranges

pub ranges_written : (set families octets new_families new_octets : List ℕ) (count_old count : ℕ)
    → AreRows families octets → IsImage set → (made : IsRangeCount set count)
    → AreRowsOfRanges made.ranges families octets new_families new_octets
    → IsRangeRowsReply set families octets new_families new_octets count_old count 0
ranges_written set families octets new_families new_octets count_old count fit image made rows = record {
  known = inl refl;
  ok = λ e. (made, rows);
  too_short = λ e. absurd (differ 0 4 refl e);
  wrong_length = (λ e. absurd (differ 0 6 refl e), λ wrong. absurd (wrong fit));
  not_a_set = (λ e. absurd (differ 0 11 refl e), λ both. absurd (both.1 image));
  families_kept = λ not_ok. absurd (not_ok refl);
  octets_kept = λ not_ok. absurd (not_ok refl);
  count_kept = λ not_ok. absurd (not_ok refl);
}

pub ranges_short : (set families octets : List ℕ) (count_old count : ℕ) → AreRows families octets → IsImage set
    → IsRangeCount set count → length families < 2 * count
    → IsRangeRowsReply set families octets families octets count_old count 4
ranges_short set families octets count_old count fit image made less = record {
  known = inr (inl refl);
  ok = λ e. absurd (differ 4 0 refl e);
  too_short = λ e. (made, less);
  wrong_length = (λ e. absurd (differ 4 6 refl e), λ wrong. absurd (wrong fit));
  not_a_set = (λ e. absurd (differ 4 11 refl e), λ both. absurd (both.1 image));
  families_kept = λ e. refl;
  octets_kept = λ e. refl;
  count_kept = λ not_ok not_short. absurd (not_short refl);
}
