-- The levels of cells, and the cells that are known by level.
use Rattle.std.proofs.Common.{◌≡◌, ◌≢◌, ℕ, ◌+◌, ◌-◌, ◌^◌, ◌<◌, ◌≤◌, ◌⊎◌, ◌↔◌, inl, inr}
use Rattle.std.proofs.Common.{List, [], ◌∷◌, ◌++◌, length, Contains, Option, Some, IfSome}
use Rattle.std.proofs.Common.{refl, ◌∙◌, subst, arith}
use Rattle.std.proofs.lemmas.List.{length-append}
use Rattle.std.proofs.lemmas.List.Elements.{Contains-append_left, Contains-append_right, Contains-append_cases}
use Rattle.std.proofs.lemmas.Nat.{pow_pos}
use Rattle.ipnet_base.specs.Address.{Address, width}
use Rattle.ipnet_base.specs.Network.{Network, InBlock, IsSubnetOf}
use Rattle.ipnet_base.proofs.ListLaws.{contains_here, pairs_append}
use Rattle.ipnet.specs.NetworkOf.{ip_network}
use Rattle.ipnet_sets.specs.Members.{IsCountOf}
use Rattle.ipnet_sets.specs.Pushed.{IsPushed}
use Rattle.ipnet_sets.proofs.CountSums.{one_count}
use Rattle.ipnet_maps.specs.declared.level.Level.{Level}
use Rattle.ipnet_maps.specs.declared.level.Level.TheVariants.{Nothing, Sparse, BelowQuarter, FromQuarter, Whole}
use Rattle.ipnet_sets.specs.Parts.{IsInPart}
use Rattle.ipnet_bars.specs.Parts.{HasSome, block_size}
use Rattle.ipnet_maps.specs.Levels.{IsShare, IsLevelOf}
use Rattle.ipnet_bars.proofs.PartLaws.{same_count, block_counted, most_addresses}
use Rattle.ipnet_maps.specs.declared.levels.KnownCells.{KnownCells}
use Rattle.ipnet_maps.specs.declared.levels.OpenCell.{OpenCell}
use Rattle.ipnet_maps.specs.LevelSteps.{IsPushedAs}

-- ---- counts

-- the counts of two sets that share no address add up
pub joined_count : (First Second Both : Address → Type 0) (m n : ℕ) → ((x : Address) → Both x ↔ (First x ⊎ Second x))
    → ((x : Address) → First x → Second x → ⊥) → IsCountOf First m → IsCountOf Second n → IsCountOf Both (m + n)
joined_count First Second Both m n parts apart a b = record {
  addresses = a.addresses ++ b.addresses;
  once = pairs_append (λ x y. x ≢ y) a.addresses b.addresses a.once b.once
      (λ x y c d e. apart y (subst First e ((a.members x).0 c)) ((b.members y).0 d));
  members = λ x. (
    λ c. elim (Contains-append_cases a.addresses b.addresses x c) [
      | inl d ↦ (parts x).1 (inl ((a.members x).0 d))
      | inr d ↦ (parts x).1 (inr ((b.members x).0 d))
    ],
    λ h. elim ((parts x).0 h) [
      | inl first ↦ Contains-append_left a.addresses b.addresses x ((a.members x).1 first)
      | inr second ↦ Contains-append_right a.addresses b.addresses x ((b.members x).1 second)
    ],
  );
  count = length-append a.addresses b.addresses ∙ omega (arith, a.count, b.count);
}

-- a set with a count above 0 has an address
pub some_counted : (A : Address → Type 0) (count : ℕ) → 0 < count → IsCountOf A count → (x : Address) × A x
some_counted A count some h = of_list h.addresses h.count (λ x. (h.members x).0)
  where
    of_list : (xs : List Address) → length xs ≡ count → ((x : Address) → Contains xs x → A x) → (x : Address) × A x
    of_list [] e all = absurd (omega (arith, some, e))
    of_list (x ∷ xs) e all = (x, all x (contains_here x xs))

-- ---- levels

-- of a count there is one level
one_share : (l k : Level) (count size : ℕ) → 0 < size → IsShare l count size → IsShare k count size → l ≡ k
one_share Nothing Nothing count size some a b = refl
one_share Nothing Sparse count size some a b = absurd (omega (arith, a, b))
one_share Nothing BelowQuarter count size some a b = absurd (omega (arith, a, b))
one_share Nothing FromQuarter count size some a b = absurd (omega (arith, a, b))
one_share Nothing Whole count size some a b = absurd (omega (arith, some, a, b))
one_share Sparse Nothing count size some a b = absurd (omega (arith, a, b))
one_share Sparse Sparse count size some a b = refl
one_share Sparse BelowQuarter count size some a b = absurd (omega (arith, a, b))
one_share Sparse FromQuarter count size some a b = absurd (omega (arith, a, b))
one_share Sparse Whole count size some a b = absurd (omega (arith, a, b))
one_share BelowQuarter Nothing count size some a b = absurd (omega (arith, a, b))
one_share BelowQuarter Sparse count size some a b = absurd (omega (arith, a, b))
one_share BelowQuarter BelowQuarter count size some a b = refl
one_share BelowQuarter FromQuarter count size some a b = absurd (omega (arith, a, b))
one_share BelowQuarter Whole count size some a b = absurd (omega (arith, a, b))
one_share FromQuarter Nothing count size some a b = absurd (omega (arith, a, b))
one_share FromQuarter Sparse count size some a b = absurd (omega (arith, a, b))
one_share FromQuarter BelowQuarter count size some a b = absurd (omega (arith, a, b))
one_share FromQuarter FromQuarter count size some a b = refl
one_share FromQuarter Whole count size some a b = absurd (omega (arith, a, b))
one_share Whole Nothing count size some a b = absurd (omega (arith, a, b))
one_share Whole Sparse count size some a b = absurd (omega (arith, a, b))
one_share Whole BelowQuarter count size some a b = absurd (omega (arith, a, b))
one_share Whole FromQuarter count size some a b = absurd (omega (arith, a, b))
one_share Whole Whole count size some a b = refl

pub one_level : (InSet : Address → Type 0) (n : Network) (l k : Level) → IsLevelOf InSet n l → IsLevelOf InSet n k
    → l ≡ k
one_level InSet n l k a b =
    let same : b.count ≡ a.count = one_count (IsInPart InSet n) b.count a.count b.is_count a.is_count in
    one_share l k a.count (block_size n) (pow_pos (width n.family - n.prefix_len)) a.share
    (subst (λ z. IsShare k z (block_size n)) same b.share)

some_share : (l : Level) (count size : ℕ) → l ≢ Nothing → 0 < size → IsShare l count size → 0 < count
some_share Nothing count size ne some h = absurd (ne refl)
some_share Sparse count size ne some h = omega (arith, h)
some_share BelowQuarter count size ne some h = omega (arith, h)
some_share FromQuarter count size ne some h = omega (arith, h)
some_share Whole count size ne some h = omega (arith, h)

-- only the lowest level is of a cell without an address
pub some_level : (InSet : Address → Type 0) (n : Network) (l : Level) → l ≢ Nothing → IsLevelOf InSet n l
    → HasSome InSet n
some_level InSet n l ne h =
    some_counted (IsInPart InSet n) h.count
    (some_share l h.count (block_size n) ne (pow_pos (width n.family - n.prefix_len)) h.share) h.is_count

-- a cell with only addresses of the set has the highest level
pub all_level : (InSet : Address → Type 0) (n : Network) → ((x : Address) → InBlock n x → InSet x)
    → IsLevelOf InSet n Whole
all_level InSet n all = record {
  count = block_size n;
  is_count = same_count (InBlock n) (IsInPart InSet n) (block_size n)
      (λ x. (λ b. record { in_block = b; in_set = all x b }, λ i. i.in_block)) (block_counted n);
  share = refl;
}

-- ---- the cells that are known, by level

pub none_pushed : (known : KnownCells) → ((x : Address) → ¬ (IsPushed known.some x))
    → ((x : Address) → ¬ (IsPushed known.below_quarter x)) → ((x : Address) → ¬ (IsPushed known.from_quarter x))
    → ((x : Address) → ¬ (IsPushed known.whole x)) → (l : Level) (x : Address) → ¬ (IsPushedAs known l x)
none_pushed known a b c d Nothing x = λ p. p
none_pushed known a b c d Sparse x = a x
none_pushed known a b c d BelowQuarter x = b x
none_pushed known a b c d FromQuarter x = c x
none_pushed known a b c d Whole x = d x

-- the addresses of the open cell and of a network in it fit in a word
pub joined_room : (o : Option OpenCell) (c : OpenCell) (n : Network) → o ≡ Some c
    → IfSome o (λ d. IsSubnetOf n (ip_network d.network)
    → d.more + 1 + block_size n ≤ block_size (ip_network d.network))
    → IsSubnetOf n (ip_network c.network) → c.more + 1 + block_size n ≤ 2 ^ 128
joined_room o c n is h within =
    let fits = subst (λ z. IfSome z (λ d. IsSubnetOf n (ip_network d.network)
    → d.more + 1 + block_size n ≤ block_size (ip_network d.network))) is h within in
    omega (arith, fits, most_addresses (ip_network c.network))
