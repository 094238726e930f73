use Rattle.std.proofs.Common.{◌≡◌, length}
use Rattle.row_index.specs.Places.{cut_all}
use Rattle.row_index.specs.Texts.{AreChanged}
use Rattle.row_index.proofs.doc_texts.DocTexts.cut.Given as goal

-- the places are cut under the texts of the first few kinds
abbrev pub invariant-loop-at : goal.invariant-loop-at
invariant-loop-at l = record {
  all : length l.self.lists ≡ 9;
  cut : AreChanged (λ k es. cut_all l.len es) l.at l.fn.self l.self;
}
