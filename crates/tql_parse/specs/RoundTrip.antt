-- Reading a canonical text back.
use Rattle.std.specs.Prelude.{◌≡◌, ◌≤◌, ℕ, List, length, Ok}
use Rattle.tql_lex.specs.declared.token.Token.{Token}
use Rattle.tql_lex.specs.Tokens.{lexed}
use Rattle.tql_tree.specs.Syntax.{Syntax}
use Rattle.tql_tree.specs.Places.{plain}
use Rattle.tql_tree.specs.Canonical.{canonical}
use Rattle.tql_parse.specs.Grammar.{AreQueryTokens}

-- the text has tokens, and they are this query of at most 32 levels, places aside
pub record ReadsAs (text : List ℕ) (query : Syntax) : Type 0 where
  pub tokens : List Token
  pub tree : Syntax
  pub lexes : lexed text ≡ Ok tokens
  pub is_query : AreQueryTokens 32 tokens tree
  pub same : plain tree ≡ plain query

-- the canonical text of a query that was read from a text, if it isn't too long, is that query again
abbrev pub ReadsBack : Type 0
ReadsBack =
    (text : List ℕ) (tokens : List Token) (query : Syntax) → lexed text ≡ Ok tokens → AreQueryTokens 32 tokens query
    → length (canonical query) ≤ 4096 → ReadsAs (canonical query) query
