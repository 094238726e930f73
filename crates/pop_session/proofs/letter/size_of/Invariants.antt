use Rattle.std.proofs.Common.{◌≡◌, ◌+◌, ◌≤◌, length}
use Rattle.pop_session.specs.Letters.{size_of}
use Rattle.pop_session.proofs.letter.size_of.Given as goal

-- the size is that of the lines so far and that of the rest
abbrev pub invariant-lines : goal.invariant-lines
invariant-lines l = record {
  whole : size_of l.fn.text ≡ l.size + size_of l.rest;
  short : size_of l.fn.text ≤ 3145728;
}

abbrev pub decreases-lines : goal.decreases-lines
decreases-lines l = length l.rest
