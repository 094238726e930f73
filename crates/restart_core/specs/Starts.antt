-- Queries that count only the seconds from their definition on, and the text of a query's condition.
use Rattle.std.specs.Prelude.{ℕ, ◌-◌, List, ◌++◌, length, Bool, ◌&&◌, codes, if◌then◌else◌}
use Rattle.std.specs.Str.{str_eq_ignore_ascii_case}
use Rattle.tap_base.specs.LineWords.{word, after_words}
use Rattle.restart_core.specs.declared.start.Start.{Start}

-- is a source from now? Its first two words are then FROM and NOW, in any case
unfoldable pub is_from_now : List ℕ → Bool
is_from_now source = str_eq_ignore_ascii_case (word 0 source) (codes "FROM") && str_eq_ignore_ascii_case (word 1 source) (codes "NOW")

-- the text of its condition: what follows these words and the blanks after them; all of a source that isn't from now
unfoldable pub condition_text : List ℕ → List ℕ
condition_text source = if is_from_now source then after_words 2 source else source

-- the source that is stored: `FROM NOW ` and the condition's text, or the source unchanged
unfoldable pub stored_source : List ℕ → List ℕ
stored_source source = if is_from_now source then codes "FROM NOW " ++ condition_text source else source

-- whether a source is from now, and where the text of its condition begins
abbrev pub start_in : List ℕ → Start
start_in source = record { from_now = is_from_now source; at = length source - length (condition_text source) }
