-- What the reader of tokens has to do with the grammar.
use Rattle.std.specs.Prelude.{◌≡◌, ◌↔◌, ℕ, List, Ok, Err}
use Rattle.tql_lex.specs.declared.token.Token.{Token}
use Rattle.tql_tree.specs.Syntax.{Syntax}
use Rattle.tql_parse.specs.declared.fault.ParseFault.TheVariants.{Unexpected, Ended, Deep, Memory}
use Rattle.tql_parse.specs.Grammar.{AreQueryTokens, UnexpectedAt, DeepAt, EndsEarly}
use Rattle.tql_parse.specs.Reading.{query_at}

-- the reader gives a tree if and only if the grammar does, and each fault if and only if its definition holds
pub record IsReadByGrammar (n : ℕ) (ts : List Token) : Type 0 where
  pub tree : (x : Syntax) → (query_at n ts ≡ Ok x) ↔ AreQueryTokens n ts x
  pub unexpected : (place : ℕ) → (query_at n ts ≡ Err (Unexpected place)) ↔ UnexpectedAt n ts place
  pub deep : (place : ℕ) → (query_at n ts ≡ Err (Deep place)) ↔ DeepAt n ts place
  pub ended : (query_at n ts ≡ Err Ended) ↔ EndsEarly n ts
  pub no_memory : query_at n ts ≡ Err Memory → ⊥

-- whatever the tokens and the levels allowed
abbrev pub TokensAreReadByGrammar : Type 0
TokensAreReadByGrammar = (n : ℕ) (ts : List Token) → IsReadByGrammar n ts
