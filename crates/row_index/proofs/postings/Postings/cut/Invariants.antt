use Rattle.std.proofs.Common.{◌≡◌}
use Rattle.row_index.proofs.CutLaws.{cut_front}
use Rattle.row_index.proofs.postings.Postings.cut.Given as goal

-- the places are cut under the first few texts
abbrev pub invariant-loop-at : goal.invariant-loop-at
invariant-loop-at l = l.self ≡ cut_front l.len l.at l.fn.self
