use Rattle.std.proofs.Common.{◌≡◌, ◌-◌, ◌≤◌, length, drop}
use Rattle.tap_base.specs.Words.{words}
use Rattle.tap_base.proofs.words.first_word.Given as goal

-- the text has the words of what is left
abbrev pub invariant-parts : goal.invariant-parts
invariant-parts l = record {
  words : words l.text ≡ words (drop l.start l.text);
  within : l.start ≤ length l.text;
}

abbrev pub decreases-parts : goal.decreases-parts
decreases-parts l = length l.text - l.start
