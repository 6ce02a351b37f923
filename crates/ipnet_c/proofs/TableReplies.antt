-- Replies with images of tables, and to questions about tables that are given by their images.
use Rattle.std.proofs.Common.{◌≡◌, ℕ, ◌+◌, ◌-◌, ◌*◌, ◌^◌, ◌<◌, ◌≤◌, ◌⊎◌, List, [], ◌∷◌, ◌++◌, length, map, take}
use Rattle.std.proofs.Common.{drop}
use Rattle.std.proofs.Common.{get_or, slice_set, inl, inr, refl, sym, ap, subst, subst₂, ◌∙◌, arith, IsUtf8}
use Rattle.std.proofs.lemmas.Bool.{cases_lt}
use Rattle.std.proofs.lemmas.Grind.{get_or-set_at}
use Rattle.std.proofs.lemmas.List.{length-set, get_or-set_other, take_more, take_all, get_or-map, map-append}
use Rattle.std.proofs.lemmas.List.{length-map}
use Rattle.std.specs.Int.{w32, w128, from_be_bytes}
use Rattle.std.proofs.lemmas.Nat.{from_be_bytes-to_be_bytes_4}
use Rattle.ipnet_base.specs.Address.{Family, IPv4, IPv6, width}
use Rattle.ipnet_base.specs.Blocks.{IsCoveredBy}
use Rattle.ipnet_base.proofs.DigitLaws.{number_back}
use Rattle.ipnet.specs.CanonicalTexts.{address_octets}
use Rattle.ipnet.specs.Address.{Address}
use Rattle.ipnet.specs.Network.{Network, InBlock}
use Rattle.ipnet.specs.NetworkOf.{ip_network}
use Rattle.ipnet.specs.declared.net.IpNet.{IpNet}
use Rattle.ipnet_routes.specs.Routes.{Route, networks_of, ip_routes, IsLongestMatch}
use Rattle.ipnet_routes.specs.TableImages.{HasTableHeader, IsStoredRoute, IsTableImageOf}
use Rattle.ipnet_c.specs.Buffers.{IsWritten, IsTooLong}
use Rattle.ipnet_c.specs.SetReplies.{AreOctetsOf, HasAddressLen}
use Rattle.ipnet_c.specs.TableReplies.{ArePairs, IsTableOfText, IsTableReply, IsStoredValue, IsValueAt, IsMatchReply}
use Rattle.ipnet_c.specs.TableReplies.{IsMatchAllReply}
use Rattle.ipnet_c.proofs.StatusLaws.{not_other, differ}

-- The values before the index are of the addresses there.
pub record AreValuesTo (table addresses : List ℕ) (width missing index : ℕ) (old values : List ℕ) : Type 0 where
  pub as_many : length values ≡ length old
  pub done : (i : ℕ) → i < index → (x : Address) → AreOctetsOf (take width (drop (i * width) addresses)) x
      → IsValueAt table x missing (get_or values i 0)

one_width : (index width : ℕ) → (index + 1) * width - index * width ≡ width
one_width index width = omega arith

-- one value more
pub valued_more : (table addresses : List ℕ) (width missing index : ℕ) (old values : List ℕ) (value : ℕ)
    → AreValuesTo table addresses width missing index old values → index < length values
    → ((x : Address)
    → AreOctetsOf (take ((index + 1) * width - index * width) (drop (index * width) addresses)) x
    → IsValueAt table x missing value)
    → AreValuesTo table addresses width missing (index + 1) old (slice_set values index value)
valued_more table addresses width missing index old values value h within answer = record {
  as_many = length-set values index value ∙ h.as_many;
  done = λ i less x octets. elim (cases_lt i index) [
    | inl before ↦ subst (IsValueAt table x missing)
        (sym (get_or-set_other values index i value 0 (λ same. let wrong : ⊥ = omega (arith, same, before) in wrong)))
        (h.done i before x octets)
    | inr not ↦ let same : i ≡ index = omega (arith, less, not) in
        subst (IsValueAt table x missing) (sym (get_or-set_at values index i value 0 same within))
        (answer x (subst (λ k. AreOctetsOf (take k (drop (index * width) addresses)) x)
        (sym (one_width index width)) (subst (λ j. AreOctetsOf (take width (drop (j * width) addresses)) x) same
        octets)))
  ];
}

-- all values
pub valued_all : (table addresses : List ℕ) (width missing index : ℕ) (old values : List ℕ) → HasTableHeader table
    → ((width ≡ 4) ⊎ (width ≡ 16)) × (length addresses ≡ length old * width)
    → AreValuesTo table addresses width missing index old values → length old ≤ index
    → IsMatchAllReply table addresses width missing old values 0
valued_all table addresses width missing index old values header as_shown h all = record {
  known = inl refl;
  ok = λ e i less. h.done i (omega (arith, less, all));
  as_many = h.as_many;
  wrong_length = (λ e. absurd (differ 0 6 refl e), λ wrong. absurd (wrong as_shown));
  not_a_table = (λ e. absurd (differ 0 13 refl e), λ both. absurd (both.1 header));
  kept = λ not_ok. absurd (not_ok refl);
}

-- one route more
pub paired_more : (networks : List IpNet) (values : List ℕ) (i : ℕ) (n : IpNet) (v : ℕ) (routes : List (IpNet × ℕ))
    → i < length networks → i < length values → n ≡ get_or networks i n → v ≡ get_or values i v
    → ArePairs (take i (map ip_network networks)) (take i values) (ip_routes routes)
    → ArePairs (take (i + 1) (map ip_network networks)) (take (i + 1) values) (ip_routes (routes ++ (n, v) ∷ []))
paired_more networks values i n v routes l m is_n is_v h = record {
  networks_are = ap networks_of grown ∙ map-append (λ (r : Route ℕ). r.0) (ip_routes routes) _
      ∙ ap (λ z. z ++ ip_network n ∷ []) h.networks_are
      ∙ ap (λ z. take i (map ip_network networks) ++ z ∷ [])
      (sym (get_or-map ip_network networks i n (ip_network n) l ∙ ap ip_network (sym is_n)))
      ∙ sym (take_more (map ip_network networks) i (ip_network n) (omega (arith, l, length-map networks ip_network)));
  values_are = ap (map (λ (r : Route ℕ). r.1)) grown ∙ map-append (λ (r : Route ℕ). r.1) (ip_routes routes) _
      ∙ ap (λ z. z ++ v ∷ []) h.values_are
      ∙ ap (λ z. take i values ++ z ∷ []) is_v
      ∙ sym (take_more values i v m);
}
  where
    route : IpNet × ℕ → Route ℕ
    route z = (ip_network z.0, z.1)

    grown : ip_routes (routes ++ (n, v) ∷ []) ≡ ip_routes routes ++ (ip_network n, v) ∷ []
    grown = map-append route routes ((n, v) ∷ [])

pub paired_all : (networks : List IpNet) (values : List ℕ) (i : ℕ) (routes : List (Route ℕ)) → length networks ≤ i
    → length values ≤ i → ArePairs (take i (map ip_network networks)) (take i values) routes
    → ArePairs (map ip_network networks) values routes
paired_all networks values i routes l m h = record {
  networks_are =
      h.networks_are ∙ take_all i (map ip_network networks) (omega (arith, l, length-map networks ip_network));
  values_are = h.values_are ∙ take_all i values m;
}

-- the image of a text's table, which is written if there is room
pub table_compiled : (text values image old new : List ℕ) (count_old count status : ℕ) → IsUtf8 text
    → IsTableOfText text values image → (status ≡ 0) ⊎ (status ≡ 4)
    → (status ≡ 0 → IsWritten image old new count) → (status ≡ 4 → IsTooLong image old new count)
    → IsTableReply text values old new count_old count status
table_compiled text values image old new count_old count status utf8 is known ok short = record {
  known = elim known [ inl e ↦ inl e | inr e ↦ inr (inl e) ];
  ok = λ e. (image, is, ok e);
  too_short = λ e. (image, is, short e);
  bad_line = λ e. absurd (not_other status 1 known refl refl e);
  not_utf8 = (λ e. absurd (not_other status 2 known refl refl e), λ invalid. absurd (invalid utf8));
  wrong_length = λ e. absurd (not_other status 6 known refl refl e);
  buffer_kept = λ not_ok. elim known [ inl e ↦ absurd (not_ok e) | inr e ↦ (short e).kept ];
  count_kept = λ e. elim e [
    | inl e ↦ absurd (not_other status 2 known refl refl e)
    | inr (inl e) ↦ absurd (not_other status 6 known refl refl e)
    | inr (inr e) ↦ absurd (not_other status 3 known refl refl e)
  ];
}

-- one list of octets is of one address
octets_parts : (f g : Family) (a b : ℕ) → a < 2 ^ width f → b < 2 ^ width g → address_octets f a ≡ address_octets g b
    → (f ≡ g) × (a ≡ b)
octets_parts IPv4 IPv4 a b u v e =
    (refl, sym (from_be_bytes-to_be_bytes_4 a u) ∙ ap (from_be_bytes w32) e ∙ from_be_bytes-to_be_bytes_4 b v)
octets_parts IPv4 IPv6 a b u v e = let sizes : 4 ≡ 16 = ap length e in absurd (omega (arith, sizes))
octets_parts IPv6 IPv4 a b u v e = let sizes : 16 ≡ 4 = ap length e in absurd (omega (arith, sizes))
octets_parts IPv6 IPv6 a b u v e = (refl, sym (number_back a u) ∙ ap (from_be_bytes w128) e ∙ number_back b v)

pub address_once : (bytes : List ℕ) (x y : Address) → AreOctetsOf bytes x → AreOctetsOf bytes y → x ≡ y
address_once bytes x y a b =
    let parts = octets_parts x.family y.family x.number y.number a.address b.address
    (sym a.octets_are ∙ b.octets_are) in
    λ i. record { family = parts.0 i; number = parts.1 i }

pub address_len : (f : Family) (a : ℕ) (bytes : List ℕ) → bytes ≡ address_octets f a → HasAddressLen bytes
address_len IPv4 a bytes e = inl (ap length e)
address_len IPv6 a bytes e = inr (ap length e)

-- the value of an address with a match, and of an address without one
pub value_found : (table : List ℕ) (x : Address) (n : Network) (missing value : ℕ) → IsStoredRoute table (n, value)
    → InBlock n x → ((t : List (Route ℕ)) → IsTableImageOf table t → IsLongestMatch t x (n, value))
    → ((t : List (Route ℕ)) → IsTableImageOf table t → (IsCoveredBy (networks_of t) x → ⊥) → ⊥)
    → IsValueAt table x missing value
value_found table x n missing value stored holds found held = record {
  of_table = λ t image. record { some = λ h. (n, found t image); none = λ out. absurd (held t image out) };
  of_bytes = inr (record { network = n; stored = stored; holds = holds });
}

pub value_missing : (table : List ℕ) (x : Address) (missing : ℕ)
    → ((t : List (Route ℕ)) → IsTableImageOf table t → IsCoveredBy (networks_of t) x → ⊥)
    → IsValueAt table x missing missing
value_missing table x missing out = record {
  of_table = λ t image. record { some = λ h. absurd (out t image h); none = λ h. refl };
  of_bytes = inl refl;
}

-- a match, and none
pub match_found : (table bytes octets : List ℕ) (y : Address) (n : Network) (old value : ℕ) → bytes ≡ table
    → HasTableHeader bytes → AreOctetsOf octets y
    → ((t : List (Route ℕ)) → IsTableImageOf bytes t → IsLongestMatch t y (n, value))
    → ((t : List (Route ℕ)) → IsTableImageOf bytes t → (IsCoveredBy (networks_of t) y → ⊥) → ⊥)
    → IsStoredValue bytes y value → IsMatchReply table octets old value 1
match_found table bytes octets y n old value same header of_y found held stored = record {
  some = λ t x image of_x e. (
    n,
    subst (λ z. IsLongestMatch t z (n, value)) (address_once octets y x of_y of_x)
        (found t (subst (λ z. IsTableImageOf z t) (sym same) image)),
  );
  none = λ t x image of_x. (
    λ e. absurd (differ 1 0 refl e),
    λ out. absurd (held t (subst (λ z. IsTableImageOf z t) (sym same) image)
        (subst (λ z. IsCoveredBy (networks_of t) z → ⊥) (sym (address_once octets y x of_y of_x)) out)),
  );
  stored = λ x of_x e. subst₂ (λ b z. IsStoredValue b z value) same (address_once octets y x of_y of_x) stored;
  known = λ l h. inr refl;
  wrong_length = (
    λ e. absurd (differ 1 6 refl e),
    λ wrong. absurd (wrong (address_len y.family y.number octets of_y.octets_are)),
  );
  not_a_table = (λ e. absurd (differ 1 13 refl e), λ both. absurd (both.1 (subst HasTableHeader same header)));
  kept = λ other. absurd (other refl);
}

pub match_missing : (table bytes octets : List ℕ) (y : Address) (old : ℕ) → bytes ≡ table → HasTableHeader bytes
    → AreOctetsOf octets y
    → ((t : List (Route ℕ)) → IsTableImageOf bytes t → IsCoveredBy (networks_of t) y → ⊥)
    → IsMatchReply table octets old old 0
match_missing table bytes octets y old same header of_y out = record {
  some = λ t x image of_x e. absurd (differ 0 1 refl e);
  none = λ t x image of_x. (
    λ e. subst (λ z. IsCoveredBy (networks_of t) z → ⊥) (address_once octets y x of_y of_x)
        (out t (subst (λ z. IsTableImageOf z t) (sym same) image)),
    λ no. refl,
  );
  stored = λ x of_x e. absurd (differ 0 1 refl e);
  known = λ l h. inl refl;
  wrong_length = (
    λ e. absurd (differ 0 6 refl e),
    λ wrong. absurd (wrong (address_len y.family y.number octets of_y.octets_are)),
  );
  not_a_table = (λ e. absurd (differ 0 13 refl e), λ both. absurd (both.1 (subst HasTableHeader same header)));
  kept = λ other. refl;
}
