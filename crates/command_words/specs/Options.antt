-- The command line's options, as `clap` has them.
use Rattle.std.specs.Prelude.{ℕ, pos, List, [], ◌∷◌, codes, Some, true}
use Rattle.clap.specs.Words.{App, Rule, new_app, new_rule, with_rule}
use Rattle.clap.specs.declared.builder.ArgAction.TheVariants.{Set}
use Rattle.clap.specs.declared.builder.value_parser.ValueParser.TheVariants as parser

-- the path of a store that no word names
abbrev pub default_path : List ℕ
default_path = codes ":memory:"

-- `--store PATH`
abbrev pub store_rule : Rule
store_rule = record (new_rule (codes "store")) { long = Some (codes "store"); action = Some Set; defaults = default_path ∷ [] }

-- `--sample N`, a whole number from 1 to 100,000
abbrev pub sample_rule : Rule
sample_rule = record (new_rule (codes "sample"))
    { long = Some (codes "sample"); action = Some Set; parser = Some (parser.Signed (pos 1) (pos 100000)) }

-- all words are arguments: the program's name is not among them
abbrev pub bare_app : App
bare_app = let a = new_app (codes "tapestry") in record a { top = record a.top { no_binary_name = true } }

-- the command as it is described to `clap`: `--store` with a text, else `:memory:`, and `--sample` with a whole number from 1 to
-- 100,000
abbrev pub app : App
app = with_rule (with_rule bare_app store_rule) sample_rule
