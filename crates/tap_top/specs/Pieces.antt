-- What was done with the bytes of a piece.
use Rattle.std.specs.Prelude.{ℕ, ◌≡◌, List, [], ◌∷◌, ◌++◌, Bool, Option}
use Rattle.tap_rows.specs.declared.tables.Tables.{Tables}
use Rattle.script_lang.specs.declared.command.Command.{Command}
use Rattle.script_lang.specs.Script.{Reading, script_from, complete_from}
use Rattle.tap_model.specs.declared.session.Session.{Session}
use Rattle.tap_top.specs.Answers.{Answered}

-- a reader took bytes, the commands that they completed were answered, and their replies were taken
pub record PieceAnswered (bytes : List ℕ) (old new : Reading) (tables : Tables) (session : Session)
    (out out' : Option (List ℕ)) (Ends : Tables → Type 0) (session' : Session) (all_ok : Bool) : Type 0 where
  pub commands : List Command
  pub all : (rest : List ℕ) → script_from old (bytes ++ rest) ≡ commands ++ script_from new rest
  pub ended : (rest : List ℕ) → complete_from old (bytes ++ rest) ≡ commands ++ complete_from new rest
  pub open_end : complete_from new [] ≡ []
  pub answered : Answered tables session commands out out' Ends session' all_ok

-- a reader took a front of the bytes, whose last byte completed the last command; it was cut off so
pub record PieceCut (bytes : List ℕ) (old : Reading) (Cut : List Command → Command → Type 0) : Type 0 where
  pub most : List ℕ
  pub byte : ℕ
  pub more : List ℕ
  pub split : bytes ≡ (most ++ byte ∷ []) ++ more
  pub done : List Command
  pub last : Command
  pub before : complete_from old most ≡ done
  pub new : Reading
  pub ended : (rest : List ℕ) → complete_from old ((most ++ byte ∷ []) ++ rest) ≡ (done ++ last ∷ []) ++ complete_from new rest
  pub open_end : complete_from new [] ≡ []
  pub cut : Cut done last

-- a reader took a front of the bytes, and was out of memory for the rest
pub record PieceOutOfMemory (bytes : List ℕ) (old : Reading) (tables : Tables) (session : Session)
    (out out' : Option (List ℕ)) (Ends : Tables → Type 0) : Type 0 where
  pub fed : List ℕ
  pub more : List ℕ
  pub split : bytes ≡ fed ++ more
  pub new : Reading
  pub session' : Session
  pub all_ok : Bool
  pub answered_piece : PieceAnswered fed old new tables session out out' Ends session' all_ok
