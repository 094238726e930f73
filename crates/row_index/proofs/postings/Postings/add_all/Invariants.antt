use Rattle.std.proofs.Common.{◌≡◌, take}
use Rattle.std.specs.Str.{bytes_eq}
use Rattle.row_index.specs.Posts.{posted_all}
use Rattle.row_index.proofs.postings.Postings.add_all.Given as goal

abbrev pub invariant-loop-key : goal.invariant-loop-key
invariant-loop-key l = l.self ≡ posted_all bytes_eq (take l.key-index l.keys) l.place l.fn.self
