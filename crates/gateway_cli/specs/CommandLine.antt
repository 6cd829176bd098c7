-- The meaning of the command line, in terms of `clap`. Own choice.
use Rattle.std.specs.Prelude.{◌≡◌, ◌≤◌, ◌⊎◌, ◌||◌, ℕ, Bool, List, [], codes, true, false, if◌then◌else◌}
use Rattle.std.specs.Prelude.{Option, Some, None, is_some, option_and_then}
use Rattle.std.specs.Option.{option_map_or}
use Rattle.std.specs.Str.{bytes_eq}
use Rattle.std.specs.Str.Parse.{IsNumeral, digits_value, without_leading_plus}
use Rattle.clap.specs.Values.{IsUnsignedIn}
use Rattle.clap.specs.Words.{App, HasKind, Row, Rule, Text, fault_of, first_of, kind_of, new_app, new_rule, one_of}
use Rattle.clap.specs.Words.{subcommand_of, with_rule, with_subcommand}
use Rattle.clap.specs.declared.builder.ArgAction.TheVariants.{Set, SetTrue}
use Rattle.clap.specs.declared.builder.value_parser.ValueParser.TheVariants.{Unsigned}
use Rattle.clap.specs.declared.error.ErrorKind.TheVariants.{OutOfMemory}
use Rattle.gateway_cli.specs.Bases.{base_in}
use Rattle.gateway_cli.specs.declared.CommandLineFault.{CommandLineFault}
use Rattle.gateway_cli.specs.declared.CommandLineFault.TheVariants.{ClapError, BadBase}
use Rattle.gateway_cli.specs.declared.service.Access.{Access}
use Rattle.gateway_cli.specs.declared.service.Access.TheVariants.{Read, ReadAndWrite, WriteAnew}
use Rattle.gateway_cli.specs.declared.service.FileToOpen.{FileToOpen}
use Rattle.gateway_cli.specs.declared.service.Service.{Service}
use Rattle.gateway_cli.specs.declared.service.Service.TheVariants.{Replay, Live}

-- `--NAME VALUE`, which is required
abbrev pub required_rule : Text → Rule
required_rule name = record (new_rule name) { long = Some name; action = Some Set; value_names = 1; required = true }

-- `--base ID`
abbrev pub base_rule : Rule
base_rule = required_rule (codes "base")

-- `--turns N`, with N from 1 to 4294967295
abbrev pub turns_rule : Rule
turns_rule = record (required_rule (codes "turns")) { parser = Some (Unsigned 1 4294967295) }

-- `--db PATH`
abbrev pub db_rule : Rule
db_rule = record (new_rule (codes "db")) { long = Some (codes "db"); action = Some Set; value_names = 1 }

-- `--explain`, a flag, which has no value
abbrev pub explain_rule : Rule
explain_rule = record (new_rule (codes "explain")) { long = Some (codes "explain"); action = Some SetTrue }

abbrev pub replay_app : App
replay_app = with_rule (with_rule (with_rule (new_app (codes "replay")) base_rule) db_rule) explain_rule

-- `live` with its base, and with the paths too
abbrev pub live_app_with_base : App
live_app_with_base = with_rule (new_app (codes "live")) base_rule

abbrev pub live_app_with_paths : App
live_app_with_paths =
    with_rule (with_rule (with_rule live_app_with_base (required_rule (codes "serial"))) (required_rule (codes "desk")))
    (required_rule (codes "out"))

abbrev pub live_app : App
live_app = with_rule (with_rule (with_rule live_app_with_paths turns_rule) db_rule) explain_rule

-- a command that prints its version
abbrev pub with_version : App → App
with_version app = record app { top = record app.top { has_version = true } }

-- a command that requires a subcommand
abbrev pub with_subcommand_required : App → App
with_subcommand_required app = record app { top = record app.top { subcommand_required = true } }

-- `enogate`, with the subcommands `replay` and `live`
abbrev pub enogate_app : App
enogate_app =
    with_subcommand
    (with_subcommand (with_subcommand_required (with_version (new_app (codes "enogate")))) replay_app.top) live_app.top

-- the options of the subcommand, if it is `replay` or `live`
abbrev pub rows_if_replay_or_live : Text × List Row → Option (List Row)
rows_if_replay_or_live (name, rows) =
    if bytes_eq name (codes "replay") || bytes_eq name (codes "live") then Some rows else None

-- the text of its option of this name
abbrev pub option_text : Text → Option (Text × List Row) → Option Text
option_text name found = option_and_then (first_of name) (option_and_then rows_if_replay_or_live found)

-- its flag of this name was given: `clap` then finds the text `true` for it, and otherwise `false`
abbrev pub option_flag : Text → Option (Text × List Row) → Bool
option_flag name found = option_map_or (λ text. bytes_eq text (codes "true")) (option_text name found) false

-- the base ID of a command line that `clap` accepts
abbrev pub base_of_command_line : List Text → Option ℕ
base_of_command_line words = option_and_then base_in (option_text (codes "base") (subcommand_of enogate_app words))

-- the path of its registry, if it names one
abbrev pub db_of_command_line : List Text → Option Text
db_of_command_line words = option_text (codes "db") (subcommand_of enogate_app words)

-- whether it asks for explanations
abbrev pub explain_of_command_line : List Text → Bool
explain_of_command_line words = option_flag (codes "explain") (subcommand_of enogate_app words)

-- the text spells this number in decimal digits, after one optional `+`
abbrev pub SpellsUnsignedDecimal : Text → ℕ → Type 0
SpellsUnsignedDecimal text n =
    IsNumeral 10 (without_leading_plus text) × (n ≡ digits_value 10 (without_leading_plus text))

-- the turns are the number, 1 to 4294967295, that the text of `--turns` spells
pub record AreTurns (rows : List Row) (turns : ℕ) : Type 0 where
  pub text : Text
  pub given : first_of (codes "turns") rows ≡ Some text
  pub spelled : SpellsUnsignedDecimal text turns
  pub least : 1 ≤ turns
  pub most : turns ≤ 4294967295

-- the file whose path is the value of the option of this name, with this access
abbrev pub IsGivenFile : List Row → (name : Text) → Access → FileToOpen → Type 0
IsGivenFile rows name access file = (first_of name rows ≡ Some file.path.now) × (file.access ≡ access)

-- The files and the number of turns of `live` as they were given. The gateway reads and writes the serial line, reads
-- the orders of the desk, and writes the answers to a new or emptied file.
pub record AreLiveOptions (rows : List Row) (line orders answers : FileToOpen) (number : ℕ) : Type 0 where
  pub serial : IsGivenFile rows (codes "serial") ReadAndWrite line
  pub desk : IsGivenFile rows (codes "desk") Read orders
  pub out : IsGivenFile rows (codes "out") WriteAnew answers
  pub turns : AreTurns rows number

-- the maximum number of reads of a replay
abbrev pub max_reads : ℕ
max_reads = 4000000000

-- the service of a subcommand, by its name and its options
abbrev pub SubcommandAsksFor : Option (Text × List Row) → Service → Type 0
SubcommandAsksFor None service = ⊥
SubcommandAsksFor (Some (name, rows)) (Replay reads) = (name ≡ codes "replay") × (reads ≡ max_reads)
SubcommandAsksFor (Some (name, rows)) (Live serial desk out turns) =
    (name ≡ codes "live") × AreLiveOptions rows serial desk out turns

-- the service of a command line that `clap` accepts
abbrev pub AsksFor : List Text → Service → Type 0
AsksFor words service = SubcommandAsksFor (subcommand_of enogate_app words) service

-- a text was given for `--turns` that spells a number from 1 to 4294967295
pub record HasValidTurns (rows : List Row) : Type 0 where
  pub text : Text
  pub given : first_of (codes "turns") rows ≡ Some text
  pub read : one_of (codes "turns") rows ≡ Some text
  pub passes : IsUnsignedIn 1 4294967295 text

-- `true` or `false` was found for `--explain`
pub record HasExplain (rows : List Row) : Type 0 where
  pub text : Text
  pub found : first_of (codes "explain") rows ≡ Some text
  pub read : one_of (codes "explain") rows ≡ Some text
  pub is : (text ≡ codes "true") ⊎ (text ≡ codes "false")

-- each option that `live` requires was given
pub record HasLiveOptions (rows : List Row) : Type 0 where
  pub serial : is_some (first_of (codes "serial") rows) ≡ true
  pub desk : is_some (first_of (codes "desk") rows) ≡ true
  pub out : is_some (first_of (codes "out") rows) ≡ true
  pub turns : HasValidTurns rows

-- a subcommand is `replay`, or `live` with everything that it requires, and `--explain` was given or not
abbrev pub HasRequiredOptions : Option (Text × List Row) → Type 0
HasRequiredOptions None = ⊥
HasRequiredOptions (Some (name, rows)) =
    HasExplain rows × ((name ≡ codes "replay") ⊎ ((name ≡ codes "live") × HasLiveOptions rows))

-- it was rejected because memory ran out
abbrev pub IsOutOfMemory : CommandLineFault → Type 0
IsOutOfMemory BadBase = ⊥
IsOutOfMemory (ClapError error) = kind_of error ≡ OutOfMemory

-- `clap` accepts the line
abbrev pub IsAcceptedByClap : List Text → Type 0
IsAcceptedByClap words = fault_of enogate_app words ≡ []

-- `clap` rejects the line for a cause that the line has, or because memory ran out; or it accepts it, and the base is
-- invalid
abbrev pub RejectsCommandLine : List Text → CommandLineFault → Type 0
RejectsCommandLine words (ClapError error) = HasKind (fault_of enogate_app words) error
RejectsCommandLine words BadBase = IsAcceptedByClap words × (base_of_command_line words ≡ None)
