-- The lines that sum up a sample.
use Rattle.std.specs.Prelude.{ℕ, List, ◌++◌, codes}
use Rattle.std.specs.Fmt.{decimal}
use Rattle.script_lang.specs.Replies.{line}
use Rattle.sample_gen.specs.declared.summary.Summary.{Summary}

-- a line of a name and a number
abbrev pub count_line : List ℕ → ℕ → List ℕ
count_line name n = line (name ++ decimal n)

-- the six lines of a summary: a name and a number each
abbrev pub summary_lines : Summary → List ℕ
summary_lines s =
    count_line (codes "sample ") s.messages ++ count_line (codes "commands ") s.commands ++ count_line (codes "refused ") s.refused
    ++ count_line (codes "documents ") s.documents ++ count_line (codes "notes ") s.notes ++ count_line (codes "delivered ") s.delivered
