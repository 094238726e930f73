use Rattle.std.proofs.Common.{◌≡◌, length}
use Rattle.row_index.proofs.WordPosts.{IsAdding}
use Rattle.row_index.proofs.postings.Postings.add_words.Given as goal

-- the place is under the first few words, and the others are left
abbrev pub invariant-words : goal.invariant-words
invariant-words l = record {
  adding : IsAdding l.fn.reader.left l.reader.left l.fn.reader.noted l.reader.noted l.place l.fn.self l.self;
  words : l.reader.words ≡ l.fn.reader.words;
}

abbrev pub decreases-words : goal.decreases-words
decreases-words l = length l.reader.left
