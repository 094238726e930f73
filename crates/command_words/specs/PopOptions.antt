-- The options of a POP3 session, as `clap` has them.
use Rattle.std.specs.Prelude.{ℕ, List, codes, Some, true}
use Rattle.clap.specs.Words.{App, Rule, new_app, new_rule, with_rule}
use Rattle.clap.specs.declared.builder.action.ArgAction.TheVariants.{Set}
use Rattle.command_words.specs.Options.{store_rule}

-- `--NAME VALUE`, which must be given
abbrev pub required_rule : List ℕ → Rule
required_rule name = record (new_rule name) { long = Some name; action = Some Set; required = true }

-- all words are arguments: the program's name is not among them
abbrev pub bare_pop_app : App
bare_pop_app = let a = new_app (codes "tapestry_pop") in record a { top = record a.top { no_binary_name = true } }

-- the command with its four options: `--store PATH`, and `--user USER`, `--box NAME` and `--pass SECRET`, which must be given
abbrev pub pop_app : App
pop_app =
    with_rule (with_rule (with_rule (with_rule bare_pop_app store_rule) (required_rule (codes "user"))) (required_rule (codes "box")))
    (required_rule (codes "pass"))
