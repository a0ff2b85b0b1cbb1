-- The program's commands, as the parser has them.
use Rattle.std.specs.Prelude.{◌∷◌, ◌++◌, List, [], Option, Some, None, true, codes, map}
use Rattle.clap.specs.Lexer.{usize_max}
use Rattle.clap.specs.Simple.{Shape}
use Rattle.clap.specs.Words.{App, Rule, Text, new_rule}
use Rattle.clap.specs.declared.builder.action.ArgAction.TheVariants.{SetTrue}

-- An option of this name.
abbrev pub option : Text → Rule
option name = record (new_rule name) { long = Some name }

-- A flag.
abbrev pub flag : Text → Rule
flag name = record (option name) { action = Some SetTrue }

-- An option with a value.
abbrev pub valued : Text → Rule
valued name = record (option name) { value_names = 1 }

-- An option with a value and a default.
abbrev pub defaulted : Text → Text → Rule
defaulted name text = record (valued name) { defaults = text ∷ [] }

-- A required positional value.
abbrev pub placed_one : Text → Rule
placed_one name = record (new_rule name) { value_names = 1; required = true }

-- Positional values, one or more.
abbrev pub placed_some : Rule
placed_some = record (new_rule (codes "files")) {
  value_names = 1;
  range = Some (record { start_inclusive = 1; end_inclusive = usize_max });
  required = true;
}

-- The options of new tables.
abbrev pub table_options : List Rule
table_options =
    defaulted (codes "index") (codes "full")
    ∷ defaulted (codes "filter") (codes "10")
    ∷ defaulted (codes "block-size") (codes "4096")
    ∷ defaulted (codes "partition-size") (codes "4096")
    ∷ defaulted (codes "level") (codes "0")
    ∷ valued (codes "target")
    ∷ []

-- Each command with its arguments.
unfoldable pub commands : List (Text × List Rule)
commands = (
  codes "write",
  placed_one (codes "file")
      ∷ (table_options ++ (flag (codes "sort") ∷ flag (codes "json") ∷ [])),
)
    ∷ (
      codes "dump",
      placed_some
          ∷ valued (codes "from")
          ∷ valued (codes "to")
          ∷ flag (codes "reverse")
          ∷ valued (codes "limit")
          ∷ flag (codes "merged")
          ∷ valued (codes "at")
          ∷ flag (codes "json")
          ∷ [],
    )
    ∷ (codes "get", placed_some ∷ valued (codes "at") ∷ flag (codes "loads") ∷ flag (codes "json") ∷ [])
    ∷ (codes "stat", placed_some ∷ flag (codes "json") ∷ [])
    ∷ (codes "verify", placed_some ∷ flag (codes "json") ∷ [])
    ∷ (
      codes "compact",
      placed_some
          ∷ record (valued (codes "to")) { required = true }
          ∷ defaulted (codes "watermark") (codes "0")
          ∷ flag (codes "evict")
          ∷ flag (codes "zero")
          ∷ (table_options ++ (flag (codes "json") ∷ [])),
    )
    ∷ (codes "pack", placed_some ∷ flag (codes "json") ∷ [])
    ∷ (codes "completion", placed_one (codes "shell") ∷ [])
    ∷ (codes "man", [])
    ∷ []

-- The commands of a program with their arguments, without the types of values.
abbrev pub commands_in : App → List (Text × List Rule)
commands_in a = map {A = Shape} (λ s. (s.name, map {A = Rule} (λ r. record r { parser = None }) s.rules)) a.subs
