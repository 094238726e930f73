use Rattle.std.proofs.Common.{rules, [], ◌∷◌}
use Rattle.row_index.proofs.TextLaws.{no_texts}
use Rattle.row_index.proofs.doc_texts.DocTexts.new.Goals as goal

pub returns : goal.returns
returns c =
    no_texts (record {
      lists = c.new.result ∷ c.new-2.result ∷ c.new-3.result ∷ c.new-4.result ∷ c.new-5.result ∷ c.new-6.result
          ∷ c.new-7.result ∷ c.new-8.result ∷ c.new-9.result ∷ [];
    }) (search rules)
