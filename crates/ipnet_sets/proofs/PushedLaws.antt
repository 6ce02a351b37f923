-- The set that a builder makes of the numbers of each family.
use Rattle.std.proofs.Common.{◌≡◌, ℕ, ◌≤◌, ◌↔◌, true}
use Rattle.ipnet_base.specs.Address.{Family, IPv4, IPv6, Address, greatest_number}
use Rattle.ipnet_sets.specs.declared.set.IpSet.{IpSet}
use Rattle.ipnet_sets.specs.declared.set.builder.IpSetBuilder.{IpSetBuilder}
use Rattle.ipnet_sets.specs.Members.{boundaries_of, IsMember}
use Rattle.ipnet_sets.specs.Pushed.{IsHeldOf, IsPushed}
use Rattle.ipnet_sets.specs.Boundaries.{is_inside}
use Rattle.ipnet_sets.proofs.MemberLaws.{fits_to}

pub made_of_both : (b : IpSetBuilder) (s : IpSet)
    → ((x : ℕ) → x ≤ greatest_number IPv4 → (is_inside (boundaries_of s IPv4) x ≡ true) ↔ IsHeldOf b IPv4 x)
    → ((x : ℕ) → x ≤ greatest_number IPv6 → (is_inside (boundaries_of s IPv6) x ≡ true) ↔ IsHeldOf b IPv6 x)
    → (x : Address) → IsMember s x ↔ IsPushed b x
made_of_both b s four six x = (
  λ m. record { fits = m.fits; held = (held x.family x.number (fits_to x.family x.number m.fits)).0 m.inside },
  λ p. record { fits = p.fits; inside = (held x.family x.number (fits_to x.family x.number p.fits)).1 p.held },
)
  where
    held : (f : Family) (n : ℕ) → n ≤ greatest_number f → (is_inside (boundaries_of s f) n ≡ true) ↔ IsHeldOf b f n
    held IPv4 = four
    held IPv6 = six
