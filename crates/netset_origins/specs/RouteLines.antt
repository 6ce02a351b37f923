-- Lists of routes: on each line a network and its origin, with blanks between, or a comma and no blank. The origin is
-- the AS number that announced the network, or a set of AS numbers in braces.
use Rattle.std.specs.Prelude.{◌≡◌, ◌||◌, ◌==◌, ℕ, Bool, true, List, [], ◌∷◌, ◌++◌, codes, Option, Some, None}
use Rattle.std.specs.Char.{is_ascii_digit, is_ascii_whitespace}
use Rattle.std.specs.List.{list_all, list_any}
use Rattle.ipnet_base.specs.Network.{Network}
use Rattle.ipnet.specs.declared.parser.Grammar.{Grammar}
use Rattle.ipnet_lists.specs.declared.cause.Cause.TheVariants.{CarriageReturn}
use Rattle.ipnet_lists.specs.ContentLines.{IsItemList, OrBroken}
use Rattle.netset_lib.specs.declared.network_entry.ArgumentCause.TheVariants.{NoEntry}
use Rattle.ipnet_lists.specs.Entries.{IsNetworkOrMasked}
use Rattle.ipnet_lists.specs.Lists.{RefusalFor}
use Rattle.ipnet_lists.specs.Words.{leading_word, after_word}
use Rattle.netset_lib.specs.NetworkEntries.{IsArgumentCause}
use Rattle.netset_origins.specs.Fields.{first_field, after_field, IsAsn}
use Rattle.netset_origins.specs.declared.route_line.RouteCause.{RouteCause}
use Rattle.netset_origins.specs.declared.route_line.RouteCause.TheVariants.{NoNetwork, NoOrigin}

-- A route of a list: its text, its network, and its origin. The origin is `None` if a set of AS numbers announced it.
-- Example: of `192.0.2.0/24 {64496,64497}`, the network 192.0.2.0/24 and the origin `None`.
pub record ListRoute : Type 0 where
  pub text : List ℕ
  pub network : Network
  pub origin : Option ℕ

-- A digit, a comma (44) or a blank.
abbrev pub is_set_byte : ℕ → Bool
is_set_byte b = is_ascii_digit b || (b == 44 || is_ascii_whitespace b)

-- The text is a set of AS numbers: braces around digits, commas and blanks, with at least one digit.
-- Example: `{64496,64497}`; not `{}` or `{,}`.
abbrev pub IsAsSet : List ℕ → Type 0
IsAsSet text = (inner : List ℕ) × (text ≡ codes "{" ++ inner ++ codes "}") × (list_all is_set_byte inner ≡ true)
    × (list_any is_ascii_digit inner ≡ true)

-- The text is this origin. Example: `AS64496` is 64496, and `{64496,64497}` is `None`.
abbrev pub IsOrigin : List ℕ → Option ℕ → Type 0
IsOrigin text (Some asn) = IsAsn text asn
IsOrigin text None = IsAsSet text

-- The word, or if no other word follows it, the field.
abbrev pub word_or_field : (word field after : List ℕ) → List ℕ
word_or_field word field [] = field
word_or_field word field (b ∷ after) = word

-- The part of a line that has to be the network: the first word, or if there is only one word, what is before its
-- comma.
-- Example: `192.0.2.0/24` of `192.0.2.0/24 64496` and of `192.0.2.0/24,64496`.
abbrev pub network_part : List ℕ → List ℕ
network_part text = word_or_field (leading_word text) (first_field text) (after_word text)

-- The part of a line that has to be the origin: what follows the first word, or if there is only one word, what is
-- after its comma. Example: `64496` of `192.0.2.0/24 64496` and of `192.0.2.0/24,64496`.
abbrev pub origin_part : List ℕ → List ℕ
origin_part text = word_or_field (after_word text) (after_field text) (after_word text)

-- The text is this route. Example: `192.0.2.0/24 AS64496` is 192.0.2.0/24 with the origin 64496.
pub record IsRouteText (grammar : Grammar) (text : List ℕ) (r : ListRoute) : Type 0 where
  pub same_text : r.text ≡ text
  pub network : IsNetworkOrMasked grammar (network_part text) r.network
  pub origin : IsOrigin (origin_part text) r.origin

-- The first part of the text is a network. Example: `192.0.2.0/24 x`, but not `192.0.2.0 64496`.
abbrev pub HasNetwork : Grammar → List ℕ → Type 0
HasNetwork grammar text = (n : Network) × IsNetworkOrMasked grammar (network_part text) n

-- Why a text is not a route: its first part is not a network, or its second part is not an origin.
-- Example: `192.0.2.0 64496`; `192.0.2.0/24 x`.
abbrev pub IsRouteCause : Grammar → List ℕ → RouteCause → Type 0
IsRouteCause grammar text (NoNetwork cause) = IsArgumentCause grammar (network_part text) cause
IsRouteCause grammar text NoOrigin =
    HasNetwork grammar text × ((origin : Option ℕ) → ¬ (IsOrigin (origin_part text) origin))

-- Why a line of a list of routes is refused: it has a carriage return in it, or it is not a route.
-- Example: `192.0.2.0/24 64496 # a\r::/0 64496`; `192.0.2.0/24 x`.
abbrev pub IsRouteLineCause : Grammar → List ℕ → RouteCause → Type 0
IsRouteLineCause grammar = OrBroken (NoNetwork (NoEntry (Some CarriageReturn))) (IsRouteCause grammar)

-- The bytes are a list of routes: each line is a route, or is refused. Blanks, comments and a byte order mark are as in
-- lists of entries. Example: of `192.0.2.0/24 64496\n192.0.2.0 64496\n`, line 2 is refused.
abbrev pub IsRouteList : Grammar → List ℕ → List ListRoute → List (RefusalFor RouteCause) → Type 0
IsRouteList grammar = IsItemList (λ line. IsRouteText grammar line.text) (IsRouteLineCause grammar)
