-- The names of a firewall's sets.
use Rattle.std.specs.Prelude.{◌≡◌, ◌≢◌, ◌≤◌, ◌⊎◌, ℕ, Bool, ◌||◌, ◌==◌, true, List, [], ◌∷◌, length, codes}
use Rattle.std.specs.Char.{is_ascii_alphabetic, is_ascii_alphanumeric}
use Rattle.std.specs.List.{list_all}
use Rattle.ipnet_lists.specs.Causes.{IsCutAt}
use Rattle.netset_forms.specs.Layouts.{new_name}

-- A letter or "_" (95).
abbrev pub is_name_start : ℕ → Bool
is_name_start b = is_ascii_alphabetic b || (b == 95)

-- A letter, a digit, "_", "-" (45) or "." (46).
abbrev pub is_name_byte : ℕ → Bool
is_name_byte b = is_ascii_alphanumeric b || ((b == 95) || ((b == 45) || (b == 46)))

-- The text is a letter or "_", and then such bytes. Example: `allowed`, `f2b-sshd`, `_x.4`.
abbrev pub IsNameWord : List ℕ → Type 0
IsNameWord [] = ⊥
IsNameWord (b ∷ text) = (is_name_start b ≡ true) × (list_all is_name_byte text ≡ true)

-- The text is the family of a table of nft.
abbrev pub IsNftFamily : List ℕ → Type 0
IsNftFamily text = (text ≡ codes "ip") ⊎ (text ≡ codes "ip6") ⊎ (text ≡ codes "inet") ⊎ (text ≡ codes "arp")
    ⊎ (text ≡ codes "bridge") ⊎ (text ≡ codes "netdev")

-- The text names a table or a set of nft. The kernel takes at most 255 bytes: NFT_NAME_MAXLEN is 256, with the zero
-- byte at the end.
abbrev pub IsNftWord : List ℕ → Type 0
IsNftWord text = (length text ≤ 255) × IsNameWord text

-- Two such names.
abbrev pub AreNftWords : List ℕ → List ℕ → Type 0
AreNftWords table set = IsNftWord table × IsNftWord set

-- A family, and then two such names with a space (32) between.
abbrev pub AreFamilyAndWords : List ℕ → List ℕ → Type 0
AreFamilyAndWords family rest = IsNftFamily family × IsCutAt 32 AreNftWords rest

-- The text names a set of nft: the family of a table, the table and the set, with a space between.
-- Example: `inet filter allowed`.
abbrev pub IsNftName : List ℕ → Type 0
IsNftName text = IsCutAt 32 AreFamilyAndWords text

-- The text names a set of ipset, and still does with ".new" after it. The kernel takes at most 31 bytes:
-- IPSET_MAXNAMELEN is 32, with the zero byte at the end. Example: `allowed`.
abbrev pub IsIpsetName : List ℕ → Type 0
IsIpsetName text = (length text ≤ 27) × IsNameWord text

-- The text names a prefix list of FRR: one word of at most 128 bytes, as FRR's model `frr-filter` has it.
abbrev pub IsFrrName : List ℕ → Type 0
IsFrrName text = (length text ≤ 128) × IsNameWord text

-- A letter, a digit or "_".
abbrev pub is_symbol_byte : ℕ → Bool
is_symbol_byte b = is_ascii_alphanumeric b || (b == 95)

-- The text is a symbol of BIRD: a letter or "_", and then letters, digits and "_". BIRD takes at most 64 bytes, its
-- SYM_MAX_LEN. Example: `ALLOWED4`.
abbrev pub IsBirdName : List ℕ → Type 0
IsBirdName text = (length text ≤ 64) × IsNameWord text × (list_all is_symbol_byte text ≡ true)

-- The text is a chain or a target that iptables itself has in the table `filter`.
abbrev pub IsBuiltIn : List ℕ → Type 0
IsBuiltIn text = (text ≡ codes "ACCEPT") ⊎ (text ≡ codes "DROP") ⊎ (text ≡ codes "QUEUE") ⊎ (text ≡ codes "RETURN")
    ⊎ (text ≡ codes "INPUT") ⊎ (text ≡ codes "FORWARD") ⊎ (text ≡ codes "OUTPUT")

-- The text names a target of iptables: one word of at most 28 bytes. The kernel has 29 for XT_EXTENSION_MAXNAMELEN,
-- with the zero byte at the end. Example: `DROP`, `blocked`.
abbrev pub IsTargetName : List ℕ → Type 0
IsTargetName text = (length text ≤ 28) × IsNameWord text

-- The text names a chain that a user creates: it is a target's name, and not built in. Example: `blocked`.
abbrev pub IsChainName : List ℕ → Type 0
IsChainName text = IsTargetName text × ¬ (IsBuiltIn text)

-- The commands of `ipset` for each of the sets leave the other as it is: the names are different, and neither is the
-- other with ".new", the name of its new set. Example: `a` and `b`; `a` and `a.new` are not apart.
abbrev pub AreApart : List ℕ → List ℕ → Type 0
AreApart name other = (name ≢ other) × (name ≢ new_name other) × (other ≢ new_name name)
