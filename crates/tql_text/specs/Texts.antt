-- The condition of a text.
use Rattle.std.specs.Prelude.{◌≡◌, ◌⊎◌, ℕ, List, Result, Ok, Err}
use Rattle.tql_lex.specs.declared.fault.LexFault.{LexFault}
use Rattle.tql_lex.specs.declared.token.Token.{Token}
use Rattle.tql_lex.specs.Tokens.{lexed}
use Rattle.tql_tree.specs.Syntax.{Syntax}
use Rattle.tql_parse.specs.declared.fault.ParseFault.{ParseFault}
use Rattle.tql_parse.specs.Reading.{query_at}
use Rattle.tql_core.specs.declared.cond.Cond.{Cond}
use Rattle.tql_core.specs.Condition.{Condition, condition}
use Rattle.tql_types.specs.declared.fault.TypeFault.{TypeFault}
use Rattle.tql_types.specs.Core.{typed}
use Rattle.tql_text.specs.declared.fault.TextFault.{TextFault}
use Rattle.tql_text.specs.declared.fault.TextFault.TheVariants.{Lex, Parse, Types, Memory}

-- the condition of a typing, or its fault
abbrev pub of_typing : Result Condition TypeFault → Result Condition TextFault
of_typing (Err fault) = Err (Types fault)
of_typing (Ok condition) = Ok condition

-- the condition of a tree, or the first fault
abbrev pub of_tree : Result Syntax ParseFault → Result Condition TextFault
of_tree (Err fault) = Err (Parse fault)
of_tree (Ok tree) = of_typing (typed tree)

-- the condition of a text's tokens, or the first fault
abbrev pub of_tokens : Result (List Token) LexFault → Result Condition TextFault
of_tokens (Err fault) = Err (Lex fault)
of_tokens (Ok tokens) = of_tree (query_at 32 tokens)

-- the condition of a text, or its first fault
abbrev pub condition_of : List ℕ → Result Condition TextFault
condition_of text = of_tokens (lexed text)

-- the result is what the definition gives, or out of memory
abbrev pub AgreesWithText : Result Condition TextFault → Result Cond TextFault → Type 0
AgreesWithText expected (Ok cond) = expected ≡ Ok (condition cond)
AgreesWithText expected (Err fault) = (expected ≡ Err fault) ⊎ (fault ≡ Memory)
