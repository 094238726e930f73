use Rattle.std.proofs.Common.{◌∙◌, ◌++◌, ap, sym}
use Rattle.tap_base.specs.Words.{has_text}
use Rattle.row_index.proofs.WordPosts.{put_distinct, partly_distinct, noted_words}
use Rattle.row_index.proofs.postings.Postings.add_message.Goals as goal

pub into_words-requires : goal.into_words-requires
into_words-requires c =
    let left = c.in_ok-reader.reader.left in
    noted_words left c.add_words.new.reader.words c.add_words.new.reader.noted
    (c.in_ok-reader.ensures.left ∙ sym (c.add_words.ensures.words ∙ c.in_ok-reader.ensures.words))
    (λ t. c.in-Ok.ensures.noted c.requires t ∙ ap (λ noted. has_text (noted ++ left) t) c.in_ok-reader.ensures.noted)

pub returns-in-Ok-clause-ok : goal.returns-in-Ok-clause-ok
returns-in-Ok-clause-ok c = put_distinct c.in_ok-reader.reader.left c.args.words.now c.args.place c.args.self.now c.add_words.new.self
    c.in_ok-reader.ensures.left c.in-Ok.ensures.ok

pub returns-in-Ok-clause-words : goal.returns-in-Ok-clause-words
returns-in-Ok-clause-words c = c.into_words.ensures ∙ c.add_words.ensures.words ∙ c.in_ok-reader.ensures.words

pub returns-in-Err-clause-err : goal.returns-in-Err-clause-err
returns-in-Err-clause-err c = partly_distinct c.in_ok-reader.reader.left c.args.words.now c.args.place c.args.self.now c.add_words.new.self
    c.in_ok-reader.ensures.left c.in-Err.ensures.err
