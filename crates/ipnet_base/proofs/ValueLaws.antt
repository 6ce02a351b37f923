-- Values of the range types are equal if their ends are equal, and if they feed a hasher the same bytes.
use Rattle.std.proofs.Common.{◌≡◌, ◌↔◌, ◌⊎◌, ℕ, ◌^◌, ◌<◌, List, [], ◌∷◌, refl, sym, ap, ◌∙◌, arith, inl, inr}
use mathlib.Core.HLevel.{is_prop→PathP}
use Rattle.std.specs.Coded.{le_prop}
use Rattle.std.specs.Hash.{le_bytes}
use Rattle.ipnet_base.specs.Ranges.{AddressRange}
use Rattle.ipnet_base.specs.RangeOf.{ipv4_range, ipv6_range, ip_range}
use Rattle.ipnet_base.specs.declared.ipext.ip_range.IpAddrRange.{IpAddrRange}
use Rattle.ipnet_base.specs.declared.ipext.ipv4_range.Ipv4AddrRange.{Ipv4AddrRange}
use Rattle.ipnet_base.specs.declared.ipext.ipv6_range.Ipv6AddrRange.{Ipv6AddrRange}
use Rattle.ipnet_base.proofs.DigitLaws.{same_by_bytes}
use Rattle.ipnet_base.specs.declared.ipext.ip_range.IpAddrRange.TheVariants as Ip

-- of a type of two families a hasher is fed the family's place, and then the value of that family
pub record FeedsByFamily {A B S : Type 0} (four : A → S) (six : B → S) (ipv4_fed : A → List (List ℕ))
    (ipv6_fed : B → List (List ℕ)) (fed : S → List (List ℕ)) : Type 0 where
  pub feeds_four : (a : A) → fed (four a) ≡ le_bytes 8 0 ∷ ipv4_fed a
  pub feeds_six : (b : B) → fed (six b) ≡ le_bytes 8 1 ∷ ipv6_fed b

-- so no input is one of both
families_fed_apart : (xs ys : List (List ℕ)) → le_bytes 8 0 ∷ xs ≡ le_bytes 8 1 ∷ ys → ⊥
families_fed_apart xs ys e =
    let first : le_bytes 8 0 ≡ le_bytes 8 1 = cc in
    omega (arith, same_by_bytes 8 0 1 (omega arith) (omega arith) first)

fed_rest : (x : List ℕ) (xs ys : List (List ℕ)) → x ∷ xs ≡ x ∷ ys → xs ≡ ys
fed_rest x xs ys e = cc

-- and values that feed it the same have one view, if the values of each family do
same_view : {A B S V : Type 0} {four : A → S} {six : B → S} {ipv4_fed : A → List (List ℕ)}
    {ipv6_fed : B → List (List ℕ)} {fed : S → List (List ℕ)}
    → ((s : S) → ((a : A) × (s ≡ four a)) ⊎ ((b : B) × (s ≡ six b)))
    → FeedsByFamily four six ipv4_fed ipv6_fed fed → (view : S → V)
    → ((a b : A) → ipv4_fed a ≡ ipv4_fed b → view (four a) ≡ view (four b))
    → ((a b : B) → ipv6_fed a ≡ ipv6_fed b → view (six a) ≡ view (six b))
    → (r s : S) → fed r ≡ fed s → view r ≡ view s
same_view {A} {B} {S} {V} {four} {six} {ipv4_fed} {ipv6_fed} {fed} either f view hash4 hash6 r s e =
    elim (either r) [
      | inl (a, is) ↦ elim (either s) [
        | inl (b, is') ↦
            ap view is
            ∙ hash4 a b (fed_rest (le_bytes 8 0) (ipv4_fed a) (ipv4_fed b)
            (sym (f.feeds_four a) ∙ sym (ap fed is) ∙ e ∙ ap fed is' ∙ f.feeds_four b))
            ∙ sym (ap view is')
        | inr (b, is') ↦ absurd (families_fed_apart (ipv4_fed a) (ipv6_fed b)
            (sym (f.feeds_four a) ∙ sym (ap fed is) ∙ e ∙ ap fed is' ∙ f.feeds_six b))
      ]
      | inr (a, is) ↦ elim (either s) [
        | inl (b, is') ↦ absurd (families_fed_apart (ipv4_fed b) (ipv6_fed a)
            (sym (f.feeds_four b) ∙ sym (ap fed is') ∙ sym e ∙ ap fed is ∙ f.feeds_six a))
        | inr (b, is') ↦
            ap view is
            ∙ hash6 a b (fed_rest (le_bytes 8 1) (ipv6_fed a) (ipv6_fed b)
            (sym (f.feeds_six a) ∙ sym (ap fed is) ∙ e ∙ ap fed is' ∙ f.feeds_six b))
            ∙ sym (ap view is')
      ]
    ]

-- so values of either family feed it the same exactly if their views are equal
pub hashed_by_family : {A B S V : Type 0} {four : A → S} {six : B → S} {ipv4_fed : A → List (List ℕ)}
    {ipv6_fed : B → List (List ℕ)} {fed : S → List (List ℕ)}
    → ((s : S) → ((a : A) × (s ≡ four a)) ⊎ ((b : B) × (s ≡ six b)))
    → FeedsByFamily four six ipv4_fed ipv6_fed fed → (view : S → V)
    → ((a b : A) → (ipv4_fed a ≡ ipv4_fed b) ↔ (view (four a) ≡ view (four b)))
    → ((a b : B) → (ipv6_fed a ≡ ipv6_fed b) ↔ (view (six a) ≡ view (six b)))
    → ((r s : S) → view r ≡ view s → r ≡ s) → (r s : S) → (fed r ≡ fed s) ↔ (view r ≡ view s)
hashed_by_family {A} {B} {S} {V} {four} {six} {ipv4_fed} {ipv6_fed} {fed} either f view hash4 hash6 one_to_one r s =
    (same_view either f view (λ a b. (hash4 a b).0) (λ a b. (hash6 a b).0) r s, λ e. ap fed (one_to_one r s e))

same_range : (r s : AddressRange) → r.family ≡ s.family → r.start ≡ s.start → r.end ≡ s.end → r ≡ s
same_range r s f a b i = record { family = f i; start = a i; end = b i }

-- ranges of the same ends are equal
pub ipv4_one_to_one : (r s : Ipv4AddrRange) → ipv4_range r ≡ ipv4_range s → r ≡ s
ipv4_one_to_one r s e i = record {
  start = (e i).start;
  end = (e i).end;
  start_fits = is_prop→PathP (λ j. (e j).start < 2 ^ 32) (λ j. le_prop) r.start_fits s.start_fits i;
  end_fits = is_prop→PathP (λ j. (e j).end < 2 ^ 32) (λ j. le_prop) r.end_fits s.end_fits i;
}

pub ipv6_one_to_one : (r s : Ipv6AddrRange) → ipv6_range r ≡ ipv6_range s → r ≡ s
ipv6_one_to_one r s e i = record {
  start = (e i).start;
  end = (e i).end;
  start_fits = is_prop→PathP (λ j. (e j).start < 2 ^ 128) (λ j. le_prop) r.start_fits s.start_fits i;
  end_fits = is_prop→PathP (λ j. (e j).end < 2 ^ 128) (λ j. le_prop) r.end_fits s.end_fits i;
}

pub ip_one_to_one : (r s : IpAddrRange) → ip_range r ≡ ip_range s → r ≡ s
ip_one_to_one (Ip.V4 r) (Ip.V4 s) e = ap Ip.V4 (ipv4_one_to_one r s e)
ip_one_to_one (Ip.V4 r) (Ip.V6 s) e = let apart = ap (λ x. x.family) e in cc
ip_one_to_one (Ip.V6 r) (Ip.V4 s) e = let apart = ap (λ x. x.family) e in cc
ip_one_to_one (Ip.V6 r) (Ip.V6 s) e = ap Ip.V6 (ipv6_one_to_one r s e)

-- what a hasher is fed of a range
abbrev pub ipv4_fed : Ipv4AddrRange → List (List ℕ)
ipv4_fed r = le_bytes 4 r.start ∷ le_bytes 4 r.end ∷ []

abbrev pub ipv6_fed : Ipv6AddrRange → List (List ℕ)
ipv6_fed r = le_bytes 16 r.start ∷ le_bytes 16 r.end ∷ []

pub ipv4_hash : (r s : Ipv4AddrRange) → (ipv4_fed r ≡ ipv4_fed s) ↔ (ipv4_range r ≡ ipv4_range s)
ipv4_hash r s = (to, λ e. ap ipv4_fed (ipv4_one_to_one r s e))
  where
    to : ipv4_fed r ≡ ipv4_fed s → ipv4_range r ≡ ipv4_range s
    to e =
        let start : le_bytes 4 r.start ≡ le_bytes 4 s.start = cc in
        let end : le_bytes 4 r.end ≡ le_bytes 4 s.end = cc in
        same_range (ipv4_range r) (ipv4_range s) refl
        (same_by_bytes 4 r.start s.start r.start_fits s.start_fits start)
        (same_by_bytes 4 r.end s.end r.end_fits s.end_fits end)

pub ipv6_hash : (r s : Ipv6AddrRange) → (ipv6_fed r ≡ ipv6_fed s) ↔ (ipv6_range r ≡ ipv6_range s)
ipv6_hash r s = (to, λ e. ap ipv6_fed (ipv6_one_to_one r s e))
  where
    to : ipv6_fed r ≡ ipv6_fed s → ipv6_range r ≡ ipv6_range s
    to e =
        let start : le_bytes 16 r.start ≡ le_bytes 16 s.start = cc in
        let end : le_bytes 16 r.end ≡ le_bytes 16 s.end = cc in
        same_range (ipv6_range r) (ipv6_range s) refl
        (same_by_bytes 16 r.start s.start r.start_fits s.start_fits start)
        (same_by_bytes 16 r.end s.end r.end_fits s.end_fits end)

either_family : (r : IpAddrRange) → ((a : Ipv4AddrRange) × (r ≡ Ip.V4 a)) ⊎ ((b : Ipv6AddrRange) × (r ≡ Ip.V6 b))
either_family (Ip.V4 r) = inl (r, refl)
either_family (Ip.V6 r) = inr (r, refl)

pub ip_hash : (fed : IpAddrRange → List (List ℕ)) → FeedsByFamily Ip.V4 Ip.V6 ipv4_fed ipv6_fed fed
    → (r s : IpAddrRange) → (fed r ≡ fed s) ↔ (ip_range r ≡ ip_range s)
ip_hash fed f = hashed_by_family either_family f ip_range ipv4_hash ipv6_hash ip_one_to_one
