-- The words of a command line: its flags, the names of its lists, and the entries of `-e`.
use Rattle.std.specs.Prelude.{◌≡◌, ◌<◌, ◌⊎◌, ◌↔◌, ℕ, Bool, true, false, List, [], ◌∷◌, ◌++◌, length, codes}
use Rattle.std.specs.Prelude.{Some, None, option_map, unwrap_or, count_by}
use Rattle.std.specs.Char.{is_ascii_control}
use Rattle.std.specs.List.{list_any}
use Rattle.std.specs.Str.{bytes_eq}
use Rattle.clap.specs.declared.parser.matches.ArgMatches.{ArgMatches}
use Rattle.clap.specs.Matches.{found_of, first_value, matched_of, one_text, raw_values}
use Rattle.ipnet_rules.specs.declared.rules.Action.{Action}
use Rattle.ipnet_rules.specs.declared.rules.Action.TheVariants.{Permit}
use Rattle.netset_files.specs.Files.{entry_list, standard_input}
use Rattle.netset_files.specs.declared.lists.Empties.{Empties}
use Rattle.netset_files.specs.declared.lists.Empties.TheVariants.{Report, Allow, Refuse}
use Rattle.ipnet_lists.specs.Names.{Names}

-- The values of the argument with this id, in order; none if it was not given.
-- Example: `b`, `c` for the id `others` of `union a b c`.
abbrev pub values_of : ArgMatches → List ℕ → List (List ℕ)
values_of matches id = unwrap_or (option_map raw_values (matched_of (found_of matches) id)) []

-- Whether the flag with this id is set. A flag that the command does not have is not set.
pub record IsFlag (matches : ArgMatches) (id : List ℕ) (flag : Bool) : Type 0 where
  pub set : one_text (found_of matches) id ≡ Some (codes "true") → flag ≡ true
  pub unset : one_text (found_of matches) id ≡ Some (codes "false") → flag ≡ false
  pub absent : one_text (found_of matches) id ≡ None → flag ≡ false

-- The name of the list with this id: what was given, or `-` for standard input.
-- Example: of `changes a b` it is `a` for the id `first`, and `b` for the id `others`.
abbrev pub list_name : ArgMatches → List ℕ → List ℕ
list_name matches id = unwrap_or (first_value (found_of matches) id) standard_input

-- The choice for files without an entry, by the flags `--no-empty` and `--allow-empty`. Without a flag they are
-- reported.
abbrev pub empties_of : Bool → Bool → Empties
empties_of true allows = Refuse
empties_of false true = Allow
empties_of false false = Report

-- How many of the names are `-`, the name of standard input.
abbrev pub input_count : Names → ℕ
input_count names = count_by (λ name. bytes_eq name.now standard_input) names

-- Whether one of the names has a control character, such as a tab.
abbrev pub have_control : Names → Bool
have_control names = list_any (λ name. list_any is_ascii_control name.now) names

-- The entries that the options `-e` name, in order. Example: `10.1.2.3`, `::1` of `route t -e 10.1.2.3 -e ::1`.
abbrev pub entries_of : ArgMatches → List (List ℕ)
entries_of matches = values_of matches (codes "entry")

-- The names of any number of lists: those that are given, and then the list of entries. If nothing is given and there
-- are no entries, the list is standard input.
-- Example: `union` has the name `-`; `union a b` has `a`, `b`; `union a -e ::1` has `a`, `-e`.
abbrev pub AreListNames : (given entries names : List (List ℕ)) → Type 0
AreListNames given entries names =
    ((0 < length entries) × (names ≡ given ++ entry_list ∷ []))
    ⊎ ((length entries ≡ 0) × (length given ≡ 0) × (names ≡ given ++ standard_input ∷ []))
    ⊎ ((length entries ≡ 0) × (0 < length given) × (names ≡ given))

-- The name of the last list of a command, which has this id: the list of entries; or else what is given, or `-` for
-- standard input. Example: for the id `others`, `b` of `changes a b`, and `-e` of `changes a -e ::1`.
abbrev pub IsLastName : ArgMatches → List ℕ → List ℕ → Type 0
IsLastName matches id name = ((0 < length (entries_of matches)) × (name ≡ entry_list))
    ⊎ ((length (entries_of matches) ≡ 0) × (name ≡ list_name matches id))

-- The addresses that no rule matches are permitted if and only if the value of `--default` is `permit`.
abbrev pub IsDefault : ArgMatches → Action → Type 0
IsDefault matches action =
    (action ≡ Permit) ↔ (first_value (found_of matches) (codes "default") ≡ Some (codes "permit"))
