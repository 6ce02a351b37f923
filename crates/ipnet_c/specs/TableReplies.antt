-- The result of each C function on images of tables of routes: its status, and what it leaves in the caller's memory.
-- `old` and `new` are a buffer before and after the call; `count_old` and `count`, `value_old` and `value` are a number
-- that the call may write.
use Rattle.std.specs.Prelude.{◌≡◌, ◌≢◌, ℕ, ◌*◌, ◌<◌, ◌↔◌, ◌⊎◌, List, map, length, take, drop, slice_index}
use Rattle.std.specs.Prelude.{IsUtf8}
use Rattle.ipnet.specs.Address.{Address}
use Rattle.ipnet.specs.Network.{Network, InBlock}
use Rattle.ipnet.specs.Blocks.{IsCoveredBy}
use Rattle.ipnet.specs.declared.parser.Grammar.TheVariants.{Strict}
use Rattle.ipnet.specs.Lines.{lines_of, AreNetworksOf, IsFirstBadLine}
use Rattle.ipnet_routes.specs.Routes.{Route, networks_of, IsTableOf, IsLongestMatch}
use Rattle.ipnet_routes.specs.TableImages.{route_count, HasTableHeader, IsStoredRoute, IsTableImageOf, IsTableImage}
use Rattle.ipnet_c.specs.Statuses as statuses
use Rattle.ipnet_c.specs.Buffers.{IsWritten, IsTooLong}
use Rattle.ipnet_c.specs.SetReplies.{AreOctetsOf, HasAddressLen, AreAddresses}

-- The routes are the networks, each with the value at its place.
-- Example: 10.0.0.0/8 with 1 and 10.1.0.0/16 with 2 are the networks 10.0.0.0/8, 10.1.0.0/16 and the values 1, 2.
pub record ArePairs (networks : List Network) (values : List ℕ) (routes : List (Route ℕ)) : Type 0 where
  pub networks_are : networks_of routes ≡ networks
  pub values_are : map (λ r. r.1) routes ≡ values

-- The bytes are the image of the table of the networks, each with the value at its place.
pub record IsTableWith (networks : List Network) (values image : List ℕ) : Type 0 where
  pub given : List (Route ℕ)
  pub pairs : ArePairs networks values given
  pub routes : List (Route ℕ)
  pub table : IsTableOf given routes
  pub image_of : IsTableImageOf image routes

-- The bytes are the image of the table of the networks of the text's lines, each with the value at its place.
pub record IsTableOfText (text values image : List ℕ) : Type 0 where
  pub networks : List Network
  pub written : AreNetworksOf Strict (lines_of text) networks
  pub made : IsTableWith networks values image

-- Compiling a text with values: `count` is the length of the image, or the number of the first bad line.
-- Example: `"10.0.0.0/8\n"` and the value 1 with a buffer of 64 bytes or more gives `ok`, the image and 64; with two
-- values it gives `wrong_length`.
pub record IsTableReply (text values old new : List ℕ) (count_old count status : ℕ) : Type 0 where
  pub known : (status ≡ statuses.ok) ⊎ ((status ≡ statuses.buffer_too_short) ⊎ ((status ≡ statuses.bad_line)
      ⊎ ((status ≡ statuses.not_utf8) ⊎ ((status ≡ statuses.wrong_length) ⊎ (status ≡ statuses.out_of_memory)))))
  pub ok : status ≡ statuses.ok → (image : List ℕ) × IsTableOfText text values image × IsWritten image old new count
  pub too_short : status ≡ statuses.buffer_too_short
      → (image : List ℕ) × IsTableOfText text values image × IsTooLong image old new count
  pub bad_line : status ≡ statuses.bad_line → IsFirstBadLine Strict (lines_of text) count
  pub not_utf8 : (status ≡ statuses.not_utf8) ↔ ¬ (IsUtf8 text)
  pub wrong_length : status ≡ statuses.wrong_length → (networks : List Network)
      × AreNetworksOf Strict (lines_of text) networks × (length networks ≢ length values)
  pub buffer_kept : status ≢ statuses.ok → new ≡ old
  pub count_kept : (status ≡ statuses.not_utf8) ⊎ ((status ≡ statuses.wrong_length)
      ⊎ (status ≡ statuses.out_of_memory)) → count ≡ count_old

-- How many routes the table has. Whatever the bytes are, it is the number that their header states.
pub record IsTableCountReply (table : List ℕ) (count_old count status : ℕ) : Type 0 where
  pub known : (status ≡ statuses.ok) ⊎ (status ≡ statuses.not_a_table)
  pub ok : (t : List (Route ℕ)) → status ≡ statuses.ok → IsTableImageOf table t → count ≡ length t
  pub stated : status ≡ statuses.ok → count ≡ route_count table
  pub not_a_table : (status ≡ statuses.not_a_table) ↔ ¬ (HasTableHeader table)
  pub kept : status ≢ statuses.ok → count ≡ count_old

-- Whether the bytes are the image of a table.
pub record IsTableCheckReply (table : List ℕ) (status : ℕ) : Type 0 where
  pub known : (status ≡ statuses.ok) ⊎ (status ≡ statuses.not_a_table)
  pub ok : (status ≡ statuses.ok) ↔ IsTableImage table

-- The value of the longest match of the address, or `missing` if no network of the table holds it.
pub record IsValueFor (t : List (Route ℕ)) (x : Address) (missing value : ℕ) : Type 0 where
  pub some : IsCoveredBy (networks_of t) x → (n : Network) × IsLongestMatch t x (n, value)
  pub none : ¬ (IsCoveredBy (networks_of t) x) → value ≡ missing

-- The bytes hold a route with this value, and its network contains the address. The bytes need not be the image of a
-- table.
-- Example: the image of 10.0.0.0/8 with 7 has 7 for 10.0.0.1, and nothing for 11.0.0.1.
pub record IsStoredValue (table : List ℕ) (x : Address) (value : ℕ) : Type 0 where
  pub network : Network
  pub stored : IsStoredRoute table (network, value)
  pub holds : InBlock network x

-- If the bytes are the image of a table, the number is the value of the longest match of the address. It is `missing`
-- if no network of the table holds the address. Whatever the bytes are, it is `missing` or the value of a route in the
-- bytes whose network contains the address.
pub record IsValueAt (table : List ℕ) (x : Address) (missing value : ℕ) : Type 0 where
  pub of_table : (t : List (Route ℕ)) → IsTableImageOf table t → IsValueFor t x missing value
  pub of_bytes : (value ≡ missing) ⊎ IsStoredValue table x value

-- The longest match of an address: the status is 1 and `value` its value, or 0, or says why there is no answer.
-- Whatever the bytes of the table are, a value comes from a route in them whose network contains the address.
-- Example: of the image of 10.0.0.0/8 with 7, 10, 0, 0, 1 gives 1 and 7, and 11, 0, 0, 1 gives 0.
pub record IsMatchReply (table address : List ℕ) (value_old value status : ℕ) : Type 0 where
  pub some : (t : List (Route ℕ)) (x : Address) → IsTableImageOf table t → AreOctetsOf address x → status ≡ 1
      → (n : Network) × IsLongestMatch t x (n, value)
  pub none : (t : List (Route ℕ)) (x : Address) → IsTableImageOf table t → AreOctetsOf address x
      → (status ≡ 0) ↔ ¬ (IsCoveredBy (networks_of t) x)
  pub stored : (x : Address) → AreOctetsOf address x → status ≡ 1 → IsStoredValue table x value
  pub known : HasAddressLen address → HasTableHeader table → (status ≡ 0) ⊎ (status ≡ 1)
  pub wrong_length : (status ≡ statuses.wrong_length) ↔ ¬ (HasAddressLen address)
  pub not_a_table : (status ≡ statuses.not_a_table) ↔ (HasAddressLen address × ¬ (HasTableHeader table))
  pub kept : status ≢ 1 → value ≡ value_old

-- The longest matches of many addresses: `addresses` has `width` octets for each, one after the other, and the number
-- of the address in `new` is the value of its longest match, or `missing`.
pub record IsMatchAllReply (table addresses : List ℕ) (width missing : ℕ) (old new : List ℕ) (status : ℕ) : Type 0 where
  pub known : (status ≡ statuses.ok) ⊎ ((status ≡ statuses.wrong_length) ⊎ (status ≡ statuses.not_a_table))
  pub ok : status ≡ statuses.ok → (i : ℕ) → i < length old → (x : Address)
      → AreOctetsOf (take width (drop (i * width) addresses)) x → IsValueAt table x missing (slice_index new i)
  pub as_many : length new ≡ length old
  pub wrong_length : (status ≡ statuses.wrong_length) ↔ ¬ (AreAddresses addresses width (length old))
  pub not_a_table : (status ≡ statuses.not_a_table)
      ↔ (AreAddresses addresses width (length old) × ¬ (HasTableHeader table))
  pub kept : status ≢ statuses.ok → new ≡ old
