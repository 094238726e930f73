use Rattle.tap_base.proofs.line_words.+skip_words.Given as goal

abbrev pub decreases-skip_words : goal.decreases-skip_words
decreases-skip_words l = l.n
