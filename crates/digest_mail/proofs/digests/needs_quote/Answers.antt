use Rattle.std.proofs.Common.{sym, ap, ◌∙◌}
use Rattle.std.specs.Prelude.{nat_eq}
use Rattle.std.specs.List.{starts_with}
use Rattle.mail_lines.specs.Mbox.{is_from_line}
use Rattle.digest_mail.proofs.Quotes.{one-quote, no-quote}
use Rattle.digest_mail.proofs.digests.needs_quote.Goals as goal

pub quotes-preserved : goal.quotes-preserved
quotes-preserved c =
    one-quote c.quotes.rest.now c.in-Some.after.now c.as_slice.result.now c.as_slice.ensures c.in-Some.ensures.cases.0
    c.in-Some.ensures.cases.1
    ∙ c.quotes.invariant

pub returns : goal.returns
returns c =
    c.starts_with.ensures.value
    ∙ ap (λ l. starts_with nat_eq c.quotes.rest.now l) c.as_slice-2.ensures
    ∙ ap is_from_line
    (sym (no-quote c.quotes.rest.now c.as_slice.result.now c.as_slice.ensures c.in_default.ensures.cases) ∙ c.quotes.invariant)
