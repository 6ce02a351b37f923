-- Values of the types of walks: equal if they store the same, and then a hasher is fed the same bytes.
use Rattle.std.proofs.Common.{◌≡◌, ◌↔◌, ◌⊎◌, ℕ, ◌^◌, ◌<◌, ◌≤◌, List, [], ◌∷◌, refl, ap, arith, inl, inr}
use mathlib.Core.HLevel.{is_prop→PathP}
use Rattle.std.specs.Coded.{le_prop}
use Rattle.std.specs.Hash.{le_bytes}
use Rattle.ipnet_base.specs.Subnets.{SubnetRange}
use Rattle.ipnet_base.proofs.DigitLaws.{same_by_bytes}
use Rattle.ipnet_base.proofs.ValueLaws.{FeedsByFamily, hashed_by_family}
use Rattle.ipnet.specs.SubnetsLeft.{ipv4_subnet_range, ipv6_subnet_range, ip_subnet_range}
use Rattle.ipnet.specs.declared.subnets.IpSubnets.{IpSubnets}
use Rattle.ipnet.specs.declared.subnets.ipv4_subnets.Ipv4Subnets.{Ipv4Subnets}
use Rattle.ipnet.specs.declared.subnets.ipv6_subnets.Ipv6Subnets.{Ipv6Subnets}
use Rattle.ipnet.specs.declared.subnets.IpSubnets.TheVariants as Ip

same_range : (r s : SubnetRange) → r.family ≡ s.family → r.start ≡ s.start → r.end ≡ s.end
    → r.min_prefix_len ≡ s.min_prefix_len → r ≡ s
same_range r s f a b p i = record { family = f i; start = a i; end = b i; min_prefix_len = p i }

-- walks of the same stored ends and minimum prefix length are equal
pub ipv4_one_to_one : (r s : Ipv4Subnets) → ipv4_subnet_range r ≡ ipv4_subnet_range s → r ≡ s
ipv4_one_to_one r s e i = record {
  start = (e i).start;
  end = (e i).end;
  min_prefix_len = (e i).min_prefix_len;
  start_fits = is_prop→PathP (λ j. (e j).start < 2 ^ 32) (λ j. le_prop) r.start_fits s.start_fits i;
  end_fits = is_prop→PathP (λ j. (e j).end < 2 ^ 32) (λ j. le_prop) r.end_fits s.end_fits i;
  min_prefix_fits = is_prop→PathP (λ j. (e j).min_prefix_len ≤ 32)
      (λ j. le_prop) r.min_prefix_fits s.min_prefix_fits i;
}

pub ipv6_one_to_one : (r s : Ipv6Subnets) → ipv6_subnet_range r ≡ ipv6_subnet_range s → r ≡ s
ipv6_one_to_one r s e i = record {
  start = (e i).start;
  end = (e i).end;
  min_prefix_len = (e i).min_prefix_len;
  start_fits = is_prop→PathP (λ j. (e j).start < 2 ^ 128) (λ j. le_prop) r.start_fits s.start_fits i;
  end_fits = is_prop→PathP (λ j. (e j).end < 2 ^ 128) (λ j. le_prop) r.end_fits s.end_fits i;
  min_prefix_fits = is_prop→PathP (λ j. (e j).min_prefix_len ≤ 128)
      (λ j. le_prop) r.min_prefix_fits s.min_prefix_fits i;
}

pub ip_one_to_one : (r s : IpSubnets) → ip_subnet_range r ≡ ip_subnet_range s → r ≡ s
ip_one_to_one (Ip.V4 r) (Ip.V4 s) e = ap Ip.V4 (ipv4_one_to_one r s e)
ip_one_to_one (Ip.V4 r) (Ip.V6 s) e = let apart = ap (λ x. x.family) e in cc
ip_one_to_one (Ip.V6 r) (Ip.V4 s) e = let apart = ap (λ x. x.family) e in cc
ip_one_to_one (Ip.V6 r) (Ip.V6 s) e = ap Ip.V6 (ipv6_one_to_one r s e)

-- the bytes that a walk feeds a hasher
abbrev pub ipv4_fed : Ipv4Subnets → List (List ℕ)
ipv4_fed s = le_bytes 4 s.start ∷ le_bytes 4 s.end ∷ le_bytes 4 s.min_prefix_len ∷ []

abbrev pub ipv6_fed : Ipv6Subnets → List (List ℕ)
ipv6_fed s = le_bytes 16 s.start ∷ le_bytes 16 s.end ∷ le_bytes 4 s.min_prefix_len ∷ []

pub ipv4_hash : (r s : Ipv4Subnets) → (ipv4_fed r ≡ ipv4_fed s) ↔ (ipv4_subnet_range r ≡ ipv4_subnet_range s)
ipv4_hash r s = (to, λ e. ap ipv4_fed (ipv4_one_to_one r s e))
  where
    to : ipv4_fed r ≡ ipv4_fed s → ipv4_subnet_range r ≡ ipv4_subnet_range s
    to e =
        let start : le_bytes 4 r.start ≡ le_bytes 4 s.start = cc in
        let end : le_bytes 4 r.end ≡ le_bytes 4 s.end = cc in
        let len : le_bytes 4 r.min_prefix_len ≡ le_bytes 4 s.min_prefix_len = cc in
        same_range (ipv4_subnet_range r) (ipv4_subnet_range s) refl
        (same_by_bytes 4 r.start s.start r.start_fits s.start_fits start)
        (same_by_bytes 4 r.end s.end r.end_fits s.end_fits end)
        (same_by_bytes 4 r.min_prefix_len s.min_prefix_len
        (omega (arith, r.min_prefix_fits)) (omega (arith, s.min_prefix_fits)) len)

pub ipv6_hash : (r s : Ipv6Subnets) → (ipv6_fed r ≡ ipv6_fed s) ↔ (ipv6_subnet_range r ≡ ipv6_subnet_range s)
ipv6_hash r s = (to, λ e. ap ipv6_fed (ipv6_one_to_one r s e))
  where
    to : ipv6_fed r ≡ ipv6_fed s → ipv6_subnet_range r ≡ ipv6_subnet_range s
    to e =
        let start : le_bytes 16 r.start ≡ le_bytes 16 s.start = cc in
        let end : le_bytes 16 r.end ≡ le_bytes 16 s.end = cc in
        let len : le_bytes 4 r.min_prefix_len ≡ le_bytes 4 s.min_prefix_len = cc in
        same_range (ipv6_subnet_range r) (ipv6_subnet_range s) refl
        (same_by_bytes 16 r.start s.start r.start_fits s.start_fits start)
        (same_by_bytes 16 r.end s.end r.end_fits s.end_fits end)
        (same_by_bytes 4 r.min_prefix_len s.min_prefix_len
        (omega (arith, r.min_prefix_fits)) (omega (arith, s.min_prefix_fits)) len)

either_family : (n : IpSubnets) → ((a : Ipv4Subnets) × (n ≡ Ip.V4 a)) ⊎ ((b : Ipv6Subnets) × (n ≡ Ip.V6 b))
either_family (Ip.V4 n) = inl (n, refl)
either_family (Ip.V6 n) = inr (n, refl)

pub ip_hash : (fed : IpSubnets → List (List ℕ)) → FeedsByFamily Ip.V4 Ip.V6 ipv4_fed ipv6_fed fed
    → (x y : IpSubnets) → (fed x ≡ fed y) ↔ (ip_subnet_range x ≡ ip_subnet_range y)
ip_hash fed f = hashed_by_family either_family f ip_subnet_range ipv4_hash ipv6_hash ip_one_to_one
