-- Compiling a list as people keep it: what it leaves in the caller's memory. `old` and `new` are the buffer before and
-- after the call; `count_old` and `count` are the number that the call may write.
use Rattle.std.specs.Prelude.{◌≡◌, ◌≢◌, ℕ, ◌⊎◌, List, [], ◌∷◌}
use Rattle.ipnet.specs.declared.parser.Grammar.{Grammar}
use Rattle.ipnet_sets.specs.declared.set.IpSet.{IpSet}
use Rattle.ipnet_sets.specs.Members.{IsMember}
use Rattle.ipnet_lists.specs.Lists.{ListEntry, Refusal, IsListRead, HaveAddresses}
use Rattle.ipnet_c.specs.Statuses as statuses
use Rattle.ipnet_c.specs.Buffers.{IsWritten, IsTooLong}
use Rattle.ipnet_c.specs.SetReplies.{IsImageWith}

-- Every line of the list is an entry or empty, and the set has exactly the addresses of the entries.
-- Example: of `"10.0.0.0-10.0.0.2 # ours\n"` the set of three addresses.
abbrev pub HasAddressesOfList : Grammar → List ℕ → IpSet → Type 0
HasAddressesOfList grammar text s = (entries : List ListEntry) × IsListRead grammar 0 text entries []
    × HaveAddresses (IsMember s) entries

-- The first line of the list that is neither an entry nor empty has this number, counted from 1.
-- Example: 2 of `"10.0.0.1\nx\ny\n"`.
abbrev pub IsFirstRefused : Grammar → List ℕ → ℕ → Type 0
IsFirstRefused grammar text line = (entries : List ListEntry) × (first : Refusal) × (others : List Refusal)
    × IsListRead grammar 0 text entries (first ∷ others) × (first.number ≡ line)

-- Compiling a list: `count` is the length of the image, or the number of the first line that is not an entry.
-- Example: `"10.0.0.0-10.0.0.3\r\n"` with a buffer of 40 bytes or more gives `ok`, the image of 10.0.0.0/30 and 40;
-- `"10.0.0.1\nx\n"` gives `bad_line` and 2.
pub record IsListReply (grammar : Grammar) (text old new : List ℕ) (count_old count status : ℕ) : Type 0 where
  pub known : (status ≡ statuses.ok) ⊎ ((status ≡ statuses.buffer_too_short) ⊎ ((status ≡ statuses.bad_line)
      ⊎ (status ≡ statuses.out_of_memory)))
  pub ok : status ≡ statuses.ok
      → (image : List ℕ) × IsImageWith (HasAddressesOfList grammar text) image × IsWritten image old new count
  pub too_short : status ≡ statuses.buffer_too_short
      → (image : List ℕ) × IsImageWith (HasAddressesOfList grammar text) image × IsTooLong image old new count
  pub bad_line : status ≡ statuses.bad_line → IsFirstRefused grammar text count
  pub buffer_kept : status ≢ statuses.ok → new ≡ old
  pub count_kept : status ≡ statuses.out_of_memory → count ≡ count_old
