use Rattle.std.proofs.Common.{◌∙◌, ◌-◌, ap, arith, drop, length, option_copied}
use Rattle.mail_fields.proofs.WordLaws.{words-of}
use Rattle.mail_fields.proofs.message_words.words_in.Goals as goal

pub of-requires : goal.of-requires
of-requires c =
    let same = ap length c.in_ok-shared.ensures in
    let len = c.len.ensures in
    omega (arith, same, len)

pub returns : goal.returns
returns c =
    let at = c.len.result - length c.args.body.now in
    c.of.ensures
    ∙ words-of (option_copied c.args.subject) c.in_ok-subject.subject c.args.body.now (drop at c.in_ok-shared.shared)
    c.in_ok-subject.ensures (ap (drop at) c.in_ok-shared.ensures
    ∙ ap (λ n. drop (n - length c.args.body.now) c.args.text.now) c.len.ensures ∙ c.requires.bytes)
