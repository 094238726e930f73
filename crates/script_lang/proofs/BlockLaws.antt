-- A block of a script, by the lines that it has.
use Rattle.std.proofs.Common.{◌≡◌, ◌∙◌, ap, refl, ℕ, List, [], ◌∷◌, ◌++◌, Bool, false, codes}
use Rattle.std.specs.Prelude.{if◌then◌else◌}
use Rattle.mail_lines.specs.declared.line.Line.{Line}
use Rattle.mail_lines.specs.declared.line.Line.TheVariants.{Whole as WholeLine}
use Rattle.mail_lines.specs.declared.block.Block.{Block}
use Rattle.mail_lines.specs.declared.block.Block.TheVariants.{Whole}
use Rattle.mail_lines.specs.Blocks.{with_line, block_from, block_of}
use Rattle.mail_lines.specs.Lines.{lines}
use Rattle.mail_lines.proofs.BlockLaws.{block-is}
use Rattle.tap_base.specs.LineWords.{has_words}
use Rattle.script_lang.specs.declared.state.BlockKind.{BlockKind}
use Rattle.script_lang.specs.declared.state.BlockKind.TheVariants.{OfMail, OfMbox, OfFilter}
use Rattle.script_lang.specs.declared.state.State.{State}
use Rattle.script_lang.specs.declared.state.State.TheVariants.{Outside, Inside}
use Rattle.script_lang.specs.Script.{limit_of, opened, opens, block_command, after_text, commands_outside, commands_from, state_after}
use Rattle.script_lang.specs.Script.{at_end, script}
use Rattle.script_lang.specs.Laws.{word_of_block, NoDot, BlocksAreRead}

inside-commands : (kind : BlockKind) (formed : Bool) (limit : ℕ) (block : Block) (text more : List Line)
    → NoDot text
    → commands_from (Inside kind formed (record { block = block; limit = limit; failed = false })) (text ++ WholeLine (codes ".") ∷ more)
    ≡ block_command kind formed (block_from limit block text) ∷ commands_from Outside more
inside-commands kind formed limit block [] more none = refl
inside-commands kind formed limit block (line ∷ text) more none =
    rw none.0 (inside-commands kind formed limit (with_line limit block line) text more none.1)

inside-state : (kind : BlockKind) (formed : Bool) (limit : ℕ) (block : Block) (text more : List Line)
    → NoDot text
    → state_after (Inside kind formed (record { block = block; limit = limit; failed = false })) (text ++ WholeLine (codes ".") ∷ more)
    ≡ state_after Outside more
inside-state kind formed limit block [] more none = refl
inside-state kind formed limit block (line ∷ text) more none =
    let rest = text ++ WholeLine (codes ".") ∷ more in
    ap (λ b. state_after (if b then Outside else Inside kind formed
    (record { block = if b then Whole [] else with_line limit block line; limit = limit; failed = false })) rest) none.0
    ∙ inside-state kind formed limit (with_line limit block line) text more none.1

opens-kind : (kind : BlockKind) (formed : Bool) → opens formed (word_of_block kind) ≡ opened formed kind
opens-kind OfMail formed = refl
opens-kind OfMbox formed = refl
opens-kind OfFilter formed = refl

-- the commands of lines of which the first opens this state
opened-run : (state : State) (first : List ℕ) (ls : List Line)
    → after_text first ≡ state
    → commands_from Outside (WholeLine first ∷ ls) ++ at_end (state_after Outside (WholeLine first ∷ ls))
    ≡ (commands_outside state first ++ commands_from state ls) ++ at_end (state_after state ls)
opened-run state first ls is = ap (λ s. (commands_outside s first ++ commands_from s ls) ++ at_end (state_after s ls)) is

opened-commands : (first : List ℕ) (kind : BlockKind) (formed : Bool) (text more : List Line)
    → after_text first ≡ opened formed kind → NoDot text
    → commands_from Outside (WholeLine first ∷ text ++ WholeLine (codes ".") ∷ more)
    ++ at_end (state_after Outside (WholeLine first ∷ text ++ WholeLine (codes ".") ∷ more))
    ≡ block_command kind formed (block_of (limit_of kind) text) ∷ (commands_from Outside more ++ at_end (state_after Outside more))
opened-commands first kind formed text more is none =
    opened-run (opened formed kind) first (text ++ WholeLine (codes ".") ∷ more) is
    ∙ ap (λ cs. cs ++ at_end (state_after (opened formed kind) (text ++ WholeLine (codes ".") ∷ more)))
    (inside-commands kind formed (limit_of kind) (Whole []) text more none)
    ∙ ap (λ s. (block_command kind formed (block_of (limit_of kind) text) ∷ commands_from Outside more) ++ at_end s)
    (inside-state kind formed (limit_of kind) (Whole []) text more none)

pub blocks_read : BlocksAreRead
blocks_read kind bytes rest first text cut named none =
    let opened_is : after_text first ≡ opened (has_words 1 first) kind = ap (opens (has_words 1 first)) named
    ∙ opens-kind kind (has_words 1 first) in
    ap (λ ls. commands_from Outside ls ++ at_end (state_after Outside ls)) cut
    ∙ opened-commands first kind (has_words 1 first) text (lines rest) opened_is none
    ∙ ap (λ b. block_command kind (has_words 1 first) b ∷ script rest) (block-is (limit_of kind) text)
