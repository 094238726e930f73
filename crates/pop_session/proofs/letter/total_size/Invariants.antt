use Rattle.std.proofs.Common.{◌≡◌, ◌+◌, ◌*◌, ◌≤◌, drop, length}
use Rattle.pop_session.specs.Letters.{total_size}
use Rattle.pop_session.proofs.letter.total_size.Given as goal

-- the size is that of the letters so far and that of the others
abbrev pub invariant-loop-letter : goal.invariant-loop-letter
invariant-loop-letter l = record {
  whole : total_size l.letters ≡ l.total + total_size (drop l.letter-index l.letters);
  short : total_size l.letters ≤ 3145728 * length l.letters;
}
