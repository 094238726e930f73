-- Lines that show stored rows.
use Rattle.std.specs.Prelude.{ℕ, List, [], ◌∷◌, ◌++◌, codes}
use Rattle.std.specs.Fmt.{decimal, signed_decimal}
use Rattle.tap_rows.specs.declared.rows.Note.{Note}
use Rattle.script_lang.specs.declared.rows.QueryState.{QueryState}
use Rattle.script_lang.specs.Replies.{moment_text}

-- a text at the end of a line, with a blank before it if it isn't empty
abbrev pub text_end : List ℕ → List ℕ
text_end [] = []
text_end (b ∷ bs) = codes " " ++ (b ∷ bs)

-- a note: its number, arrival, author, kind, value and text
abbrev pub note_text : Note → List ℕ
note_text note =
    codes "note " ++ decimal note.num.0 ++ codes " ts " ++ signed_decimal note.arrival ++ codes " author " ++ note.author
    ++ codes " kind " ++ note.kind ++ codes " value " ++ signed_decimal note.value ++ codes " text" ++ text_end note.text

-- a query of this name and condition: its arrival, its first second, its runs, the last of their moments, the entries of its box
abbrev pub query_text : List ℕ → QueryState → List ℕ → List ℕ
query_text name state text =
    codes "query " ++ name ++ codes " ts " ++ signed_decimal state.arrival ++ codes " from " ++ signed_decimal state.start
    ++ codes " runs " ++ decimal state.runs ++ codes " last " ++ moment_text state.last ++ codes " boxed " ++ decimal state.boxed
    ++ codes " text" ++ text_end text
