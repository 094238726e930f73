-- The commands of a sample: two queries, messages that answer one another, notes and runs.
use Rattle.std.specs.Prelude.{ℕ, zero, suc, pos, ◌≤◌, ◌+◌, ◌-◌, ◌*◌, ◌/◌, ◌%◌, List, [], ◌∷◌, ◌++◌, Bool, ◌&&◌, ◌==◌}
use Rattle.std.specs.Prelude.{nat_lt, codes, if◌then◌else◌}
use Rattle.std.specs.Fmt.{decimal}
use Rattle.mail_lines.specs.declared.block.Block.TheVariants.{Whole}
use Rattle.script_lang.specs.Replies.{line}
use Rattle.script_lang.specs.declared.command.Command.{Command}
use Rattle.script_lang.specs.declared.command.Command.TheVariants.{At, AsUser, Mail, AddNote, Define, Run}

-- the next number of the generator
abbrev pub next_state : ℕ → ℕ
next_state x = (x * 1103515245 + 12345) % 2147483648

-- the number of a linear congruential generator from 1 after i steps
abbrev pub generator_after : ℕ → ℕ
generator_after zero = 1
generator_after (suc i) = next_state (generator_after i)

-- what is drawn for message i: the generator's number after i steps, without its lower 16 bits
abbrev pub draw : ℕ → ℕ
draw i = generator_after i / 65536

-- the word of message i
abbrev pub word_of : ℕ → List ℕ
word_of drawn =
    if drawn % 4 == 0 then codes "alpha" else if drawn % 4 == 1 then codes "beta" else if drawn % 4 == 2 then codes "gamma"
    else codes "delta"

-- the identifier of message i
unfoldable pub message_id : ℕ → List ℕ
message_id i = codes "<m" ++ decimal i ++ codes "@parc>"

-- does message i answer an earlier one? About every third does
unfoldable pub is_answer : ℕ → ℕ → Bool
is_answer i drawn = nat_lt 1 i && drawn % 3 == 0

-- the earlier message that it answers
abbrev pub parent_of : ℕ → ℕ → ℕ
parent_of i drawn = drawn % (i - 1) + 1

-- the line that says that a message answers message j
abbrev pub answer_line : ℕ → List ℕ
answer_line j = line (codes "In-Reply-To: " ++ message_id j)

-- the line that names the message that is answered, if one is
abbrev pub parent_line : ℕ → ℕ → List ℕ
parent_line i drawn = if is_answer i drawn then answer_line (parent_of i drawn) else []

-- the text of message i: its name, for about a third of them the earlier message that is answered, and one of four words
unfoldable pub sample_message : ℕ → ℕ → List ℕ
sample_message i drawn =
    line (codes "From: user@parc") ++ line (codes "Message-ID: " ++ message_id i) ++ parent_line i drawn
    ++ line (codes "Subject: " ++ word_of drawn)
    ++ line [] ++ line (codes "about " ++ word_of drawn)

-- a run of each query
abbrev pub both_runs : List Command
both_runs = Run (codes "q1") ∷ Run (codes "q2") ∷ []

-- the note on message i: each fifth message gets one
abbrev pub note_after : ℕ → ℕ → List Command
note_after i drawn = if i % 5 == 0 then AddNote i (codes "score") (pos (drawn % 10)) (codes "good") ∷ [] else []

-- the runs after message i: both queries run after each tenth message
abbrev pub runs_after : ℕ → List Command
runs_after i = if i % 10 == 0 then both_runs else []

-- the commands of message i: its moment, its mail, a note on each fifth, and after each tenth a run of both queries
abbrev pub commands_of_message : ℕ → ℕ → List Command
commands_of_message i drawn = At (decimal (1000 + 10 * i)) ∷ Mail (Whole (sample_message i drawn)) ∷ note_after i drawn ++ runs_after i

-- the commands of the first n messages
abbrev pub commands_of_messages : ℕ → List Command
commands_of_messages zero = []
commands_of_messages (suc i) = commands_of_messages i ++ commands_of_message (suc i) (draw (suc i))

-- the user and the two queries
abbrev pub first_commands : List Command
first_commands =
    At (decimal 1000) ∷ AsUser (codes "alice") ∷ Define (codes "q1") (codes "m.words HAS 'alpha'")
    ∷ Define (codes "q2") (codes "now >= m.ts + 60 SECONDS AND NOT EXISTS (r: DOC WHERE r.inreplyto = m.msgid)") ∷ []

-- the sample with n messages: a moment, the user and the two queries, the commands of the messages in turn, and at a later moment
-- the last runs
abbrev pub sample_of : ℕ → List Command
sample_of n = first_commands ++ commands_of_messages n ++ At (decimal (1000 + 10 * n + 1000)) ∷ both_runs

-- from 1 to 100,000 messages
pub record IsSampleSize (n : ℕ) : Type 0 where
  pub some : 1 ≤ n
  pub few : n ≤ 100000
