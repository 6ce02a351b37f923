-- The names of a program's commands, while they are added one after another.
use Rattle.std.proofs.Common.{◌≡◌, ◌∙◌, ◌<◌, ◌+◌, ◌++◌, ◌∷◌, [], ℕ, List, ap, sym, drop, length, get_or, map}
use Rattle.std.proofs.Common.{append_assoc}
use Rattle.std.proofs.lemmas.List.{drop_more, map-append}
use Rattle.clap.specs.Built.{AddsSubcommand}
use Rattle.clap.specs.Facts.{subcommands_of}
use Rattle.clap.specs.declared.builder.command.Command.{Command}
use Rattle.netset_commands.specs.CommandLines.{command_name, command_names, names_in, IsOfRow}
use Rattle.netset_commands.specs.declared.table.Subcommand.{Subcommand}

-- a command that is added comes last
added_name : (old sub new : Command) (row : Subcommand) → AddsSubcommand old sub new → IsOfRow row sub
    → command_names new ≡ command_names old ++ row.name.now ∷ []
added_name old sub new row adds is =
    let last : command_name adds.added ≡ row.name.now = ap (λ name. name.now) adds.name ∙ is.name in
    ap (map command_name) adds.subcommands ∙ map-append command_name (subcommands_of old) (adds.added ∷ [])
    ∙ ap (λ name. command_names old ++ name ∷ []) last

-- with the names of the other rows they are all names, as before
pub next_row : (old sub new : Command) (rows : List Subcommand) (i : ℕ) (row : Subcommand) (all : List (List ℕ))
    → i < length rows → AddsSubcommand old sub new → IsOfRow (get_or rows i row) sub
    → command_names old ++ names_in (drop i rows) ≡ all → command_names new ++ names_in (drop (i + 1) rows) ≡ all
next_row old sub new rows i row all inside adds is before =
    let others = names_in (drop (i + 1) rows) in
    let name = (get_or rows i row).name.now in
    ap (λ names. names ++ others) (added_name old sub new (get_or rows i row) adds is)
    ∙ append_assoc (command_names old) (name ∷ []) others
    ∙ sym (ap (λ left. command_names old ++ names_in left) (drop_more rows i row inside)) ∙ before
