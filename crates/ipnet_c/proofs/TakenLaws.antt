-- Sets of the networks that are taken from the lines of a text.
use Rattle.std.proofs.Common.{◌≡◌, ℕ, ◌⊎◌, ◌↔◌, List, [], ◌∷◌, ◌++◌, All, subst, inl, inr}
use Rattle.std.proofs.lemmas.List.Elements.{All-head, All-tail}
use Rattle.ipnet.specs.Address.{Address}
use Rattle.ipnet.specs.Network.{Network, InBlock}
use Rattle.ipnet.specs.Blocks.{IsCoveredBy}
use Rattle.ipnet.specs.Lines.{lines_of, AreNetworksOf}
use Rattle.ipnet.specs.declared.parser.Grammar.{Grammar}
use Rattle.ipnet_base.proofs.CoverLaws.{cover_nil, cover_push}
use Rattle.ipnet_sets.specs.declared.set.IpSet.{IpSet}
use Rattle.ipnet_sets.specs.declared.set.builder.IpSetBuilder.{IpSetBuilder}
use Rattle.ipnet_sets.specs.Members.{IsMember, HasNoAddress}
use Rattle.ipnet_sets.specs.Pushed.{IsPushed}
use Rattle.ipnet_c.specs.SetReplies.{HasAddressesOfText}

-- one network more
pub one_taken : (old new : IpSetBuilder) (networks : List Network) (n : Network)
    → ((x : Address) → IsPushed new x ↔ (IsPushed old x ⊎ InBlock n x))
    → ((x : Address) → IsPushed old x ↔ IsCoveredBy networks x)
    → (x : Address) → IsPushed new x ↔ IsCoveredBy (networks ++ n ∷ []) x
one_taken old new networks n pushed h x =
    let cover = cover_push networks n x in (
      λ p. cover.1 (elim ((pushed x).0 p) [ inl o ↦ inl ((h x).0 o) | inr b ↦ inr b ]),
      λ c. (pushed x).1 (elim (cover.0 c) [ inl o ↦ inl ((h x).1 o) | inr b ↦ inr b ]),
    )

-- the set of the networks that were taken, the first of them by an empty builder
pub set_of_taken : (grammar : Grammar) (text : List ℕ) (networks : List Network) (old new : IpSetBuilder) (set : IpSet)
    → AreNetworksOf grammar (lines_of text) networks → ((x : Address) → ¬ (IsPushed old x))
    → (((x : Address) → IsPushed old x ↔ IsCoveredBy [] x) → (x : Address) → IsPushed new x ↔ IsCoveredBy networks x)
    → ((x : Address) → IsMember set x ↔ IsPushed new x) → HasAddressesOfText grammar text set
set_of_taken grammar text networks old new set written none taken made =
    let all = taken (λ x. (λ p. absurd (none x p), λ c. absurd (cover_nil x c))) in
    record {
      networks = networks;
      written = written;
      addresses = λ x. (λ m. (all x).0 ((made x).0 m), λ c. (made x).1 ((all x).1 c));
    }

-- empty lines write no network, so their set is empty
none_of_none : (grammar : Grammar) (lines : List (List ℕ)) (networks : List Network)
    → AreNetworksOf grammar lines networks
    → All (λ line. line ≡ []) lines → networks ≡ []
none_of_none grammar [] networks written h = written
none_of_none grammar ([] ∷ lines) networks written h =
    none_of_none grammar lines networks written (All-tail (λ line. line ≡ []) [] lines h)
none_of_none grammar ((b ∷ line) ∷ lines) networks written h =
    let none : b ∷ line ≡ [] = All-head (λ line. line ≡ []) (b ∷ line) lines h in
    absurd cc

pub empty_set : (grammar : Grammar) (text : List ℕ) (set : IpSet) → HasAddressesOfText grammar text set
    → All (λ line. line ≡ []) (lines_of text) → HasNoAddress set
empty_set grammar text set h none x m =
    cover_nil x (subst (λ z. IsCoveredBy z x) (none_of_none grammar (lines_of text) h.networks h.written none)
    ((h.addresses x).0 m))
