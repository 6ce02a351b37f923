-- The two families: they are equal or not, and each has its place in the order.
use Rattle.std.proofs.Common.{◌≡◌, arith, inl, ◌⊎◌, refl, inr}
use Rattle.ipnet_base.specs.Address.{Family, IPv4, IPv6, family_index}

-- two families are equal or not
pub cases_family : (f g : Family) → (f ≡ g) ⊎ (f ≡ g → ⊥)
cases_family IPv4 IPv4 = inl refl
cases_family IPv4 IPv6 = inr (λ e. cc)
cases_family IPv6 IPv4 = inr (λ e. cc)
cases_family IPv6 IPv6 = inl refl

-- families with the same place in the order are the same
pub same_family_from_index : (f g : Family) → family_index f ≡ family_index g → f ≡ g
same_family_from_index IPv4 IPv4 e = refl
same_family_from_index IPv4 IPv6 e = absurd (omega (arith, e))
same_family_from_index IPv6 IPv4 e = absurd (omega (arith, e))
same_family_from_index IPv6 IPv6 e = refl
