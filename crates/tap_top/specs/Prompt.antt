-- That replies are prompt: what is out whenever the source is asked for more.
use Rattle.std.specs.Prelude.{ℕ, List, Option, ⊤}
use Rattle.tap_rows.specs.declared.tables.Tables.{Tables}
use Rattle.tap_top.specs.Statuses.{ReadCut}

-- the commands that are complete in the bytes taken were answered as in a story, their replies are out whole, and nothing else
-- was put
abbrev pub IsUpToDate : Tables → Option (List ℕ) → Option (List ℕ) → Option (List ℕ) → Option (List ℕ) → Type 0
IsUpToDate tables left left' out out' = ReadCut tables left left' out out' (λ tables'. ⊤)
