use Rattle.std.proofs.Common.{◌≡◌, ◌∙◌, ◌≤◌, ◌+◌, ap, length, drop, rules}
use Rattle.std.specs.List.{position_or_len}
use Rattle.std.proofs.lemmas.List.{take_rest}
use Rattle.tap_base.proofs.Added.{ends_word}
use Rattle.tap_base.proofs.WordPlaces.{skip-from, begin-from}
use Rattle.tap_base.proofs.words.first_word.Goals as goal

pub returns-then-len-gt0-clause-some : goal.returns-then-len-gt0-clause-some
returns-then-len-gt0-clause-some c =
    let e : c.word_len-len.result ≡ position_or_len ends_word (drop c.parts.start c.args.text.now) = c.word_len-len.ensures.value
    ∙ ap (position_or_len ends_word) (take_rest c.args.text.now c.parts.start) in
    let within : c.parts.start + c.word_len-len.result ≤ length c.args.text.now = search rules in
    c.parts.invariant.words ∙ begin-from c.args.text.now c.parts.start c.word_len-len.result c.place_after.result e (search rules) within
    c.place_after.ensures

pub parts-preserved : goal.parts-preserved
parts-preserved c =
    let e : c.word_len-len.result ≡ position_or_len ends_word (drop c.parts.start c.args.text.now) = c.word_len-len.ensures.value
    ∙ ap (position_or_len ends_word) (take_rest c.args.text.now c.parts.start) in
    record {
      words = c.parts.invariant.words ∙ skip-from c.args.text.now c.parts.start c.word_len-len.result e (search rules);
      within = search rules;
    }
