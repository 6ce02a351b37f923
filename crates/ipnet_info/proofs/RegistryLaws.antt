-- The rows of the registries are networks, and the rows for a network are found one after another.
use Rattle.std.proofs.Common.{◌≡◌, ◌<◌, ◌≤◌, ◌^◌, ◌++◌, ℕ, List, [], ◌∷◌, All, Bool, true, false, if◌then◌else◌}
use Rattle.std.proofs.Common.{length, get_or, refl, inl, inr, ap, sym, subst, ◌∙◌, append-nil, append_assoc}
use Rattle.std.proofs.lemmas.List.{length-map}
use Rattle.std.proofs.Math.ListN.{get_or-map}
use Rattle.std.proofs.Math.Dec.{ltb, leb}
use Rattle.std.proofs.lemmas.Bool.{ltb-true, leb-true}
use Rattle.std.proofs.lemmas.List.Elements.{All-cons, All-nil}
use Rattle.ipnet_base.specs.Address.{Family, width}
use Rattle.ipnet_base.specs.Network.{Network, IsNetwork}
use Rattle.ipnet_info.specs.Registries.{SpecialBlock, SpecialPurpose, ArePurposes}
use Rattle.ipnet_info.specs.RegistryRows.{block_of, blocks_of}
use Rattle.ipnet_info.specs.declared.registry.Row.{Row}

-- whether the block is a network
abbrev pub fits : SpecialBlock → Bool
fits b = if ltb b.network.number (2 ^ width b.network.family)
    then leb b.network.prefix_len (width b.network.family) else false

both : (p q : Bool) → (if p then q else false) ≡ true → (p ≡ true) × (q ≡ true)
both true q e = (refl, e)
both false q e = absurd (let wrong = e in cc)

fits_network : (b : SpecialBlock) → fits b ≡ true → IsNetwork b.network
fits_network b e =
    let h = both (ltb b.network.number (2 ^ width b.network.family)) (leb b.network.prefix_len (width b.network.family))
    e in
    record {
      address_fits = ltb-true b.network.number (2 ^ width b.network.family) h.0;
      prefix_fits = leb-true b.network.prefix_len (width b.network.family) h.1;
    }

-- rows that all fit
abbrev pub all_fit : List SpecialBlock → Bool
all_fit [] = true
all_fit (b ∷ blocks) = if fits b then all_fit blocks else false

pub are_networks : (blocks : List SpecialBlock) → all_fit blocks ≡ true → All (λ b. IsNetwork b.network) blocks
are_networks [] e = All-nil (λ b. IsNetwork b.network)
are_networks (b ∷ blocks) e =
    let h = both (fits b) (all_fit blocks) e in
    All-cons (λ b. IsNetwork b.network) b blocks (fits_network b h.0) (are_networks blocks h.1)

-- the rows of one more block come first
purposes_step : (n : Network) (block : SpecialBlock) (blocks : List SpecialBlock)
    (first more : List SpecialPurpose) → ArePurposes n (block ∷ []) first → ArePurposes n blocks more
    → ArePurposes n (block ∷ blocks) (first ++ more)
purposes_step n block blocks first more (inl (purpose, none, is, starts, ends)) rest =
    inl (purpose, more, is, ap (λ z. z ++ more) (starts ∙ ap (λ z. purpose ∷ z) ends), rest)
purposes_step n block blocks first more (inr (disjoint, ends)) rest =
    inr (disjoint, subst (λ z. ArePurposes n blocks (z ++ more)) (sym ends) rest)

-- the rows before the others are found
pub record FoundBefore (n : Network) (blocks others : List SpecialBlock) (old now : List SpecialPurpose) : Type 0 where
  pub made : List SpecialPurpose
  pub is : now ≡ old ++ made
  pub all : (more : List SpecialPurpose) → ArePurposes n others more → ArePurposes n blocks (made ++ more)

pub found_more : (n : Network) (blocks : List SpecialBlock) (block : SpecialBlock) (others : List SpecialBlock)
    (old now after first : List SpecialPurpose) → FoundBefore n blocks (block ∷ others) old now
    → after ≡ now ++ first → ArePurposes n (block ∷ []) first → FoundBefore n blocks others old after
found_more n blocks block others old now after first h grown found = record {
  made = h.made ++ first;
  is = grown ∙ ap (λ z. z ++ first) h.is ∙ append_assoc old h.made first;
  all = λ more rest. subst (ArePurposes n blocks) (sym (append_assoc h.made first more))
      (h.all (first ++ more) (purposes_step n block others first more found rest));
}

pub found_end : (n : Network) (blocks : List SpecialBlock) (old now : List SpecialPurpose)
    → FoundBefore n blocks [] old now
    → (more : List SpecialPurpose) × (now ≡ old ++ more) × ArePurposes n blocks more
found_end n blocks old now h =
    (h.made, h.is, subst (ArePurposes n blocks) (append-nil h.made) (h.all [] refl))

-- the row at this index is a network
pub network_at_index : (family : Family) (rows : List Row) (i : ℕ) (d : Row) → i < length rows
    → All (λ b. IsNetwork b.network) (blocks_of family rows) → IsNetwork (block_of family (get_or rows i d)).network
network_at_index family rows i d inside all =
    subst (λ b. IsNetwork b.network) (get_or-map (block_of family) rows i d)
    (all i (block_of family d) (subst (λ z. i < z) (sym (length-map rows (block_of family))) inside))
