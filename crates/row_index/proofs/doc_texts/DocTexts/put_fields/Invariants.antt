use Rattle.std.proofs.Common.{◌≡◌, length}
use Rattle.row_index.specs.Texts.{ArePosted}
use Rattle.row_index.proofs.doc_texts.DocTexts.put_fields.Given as goal

-- the place is under the texts of the first few kinds
abbrev pub invariant-loop-at : goal.invariant-loop-at
invariant-loop-at l = record {
  all : length l.self.lists ≡ 9;
  posted : ArePosted l.at l.fields l.place l.fn.self l.self;
}
