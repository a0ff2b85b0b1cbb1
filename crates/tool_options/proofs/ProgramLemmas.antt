-- A command that grows by an argument or a subcommand, in words of what a parse reads of it.
use Rattle.std.proofs.Common.{◌≡◌, ◌∙◌, ◌<◌, ◌+◌, ◌||◌, ℕ, List, Bool, true, false, ap, ap₂, sym, take, length}
use Rattle.std.specs.List.{fold, slice_index_or}
use Rattle.std.proofs.lemmas.List.Sums.{fold_more}
use Rattle.clap.specs.Words.{AddsArg, AddsSubcommand, App, app_of, rule_of, with_rule, with_subcommand}
use Rattle.clap.specs.declared.builder.arg.Arg.{Arg}
use Rattle.clap.specs.declared.builder.command.Command.{Command}
use Rattle.clap.specs.declared.builder.command.Command.TheViews.{out-Command}
use Rattle.tool_options.specs.Program.{argument_rule, command_app, with_argument, with_command}
use Rattle.tool_options.specs.declared.texts.ArgumentText.{ArgumentText}
use Rattle.tool_options.specs.declared.texts.CommandText.{CommandText}

pub still_local : (old added new : Bool) → new ≡ (old || added) → added ≡ false → new ≡ old
still_local true added new is none = is
still_local false added new is none = is ∙ none

pub argument_added : (old new : Command) (a : Arg) → AddsArg old a new → a.global ≡ false
    → (base : App) (xs : List ArgumentText) (i : ℕ) (d : ArgumentText) → i < length xs
    → app_of old ≡ fold with_argument base (take i xs) → rule_of a ≡ argument_rule (slice_index_or xs i d)
    → app_of new ≡ fold with_argument base (take (i + 1) xs)
argument_added old new a adds local base xs i d within before rule =
    adds.shape local ∙ ap₂ with_rule before rule ∙ sym (fold_more with_argument base xs i d within)

pub command_added : (old sub new : Command) → AddsSubcommand old sub new → (out-Command sub).has_globals ≡ false
    → (base : App) (xs : List CommandText) (i : ℕ) (d : CommandText) → i < length xs
    → app_of old ≡ fold with_command base (take i xs) → app_of sub ≡ command_app (slice_index_or xs i d)
    → app_of new ≡ fold with_command base (take (i + 1) xs)
command_added old sub new adds local base xs i d within before app =
    adds.shape local ∙ ap₂ with_subcommand before (ap (λ (a : App). a.top) app) ∙ sym (fold_more with_command base xs i d within)
