use Rattle.std.proofs.Common.{◌≡◌, ◌++◌, drop}
use Rattle.pop_session.specs.Sessions.{AreShort}
use Rattle.pop_box.specs.Letters.{letters_of}
use Rattle.pop_box.proofs.letters.copy_letters.Given as goal

-- the letters are those so far and those of the rows that are left
abbrev pub invariant-loop-row : goal.invariant-loop-row
invariant-loop-row g l = record {
  letters : letters_of l.engine.index.docs l.rows ≡ l.letters ++ letters_of l.engine.index.docs (drop l.row-index l.rows);
  short : AreShort l.letters;
}
