use Rattle.mail_fields.proofs.QuoteLaws.{commas-cut}
use Rattle.mail_fields.proofs.laws.commas_cut_after_an_even_number_of_quotes.Goals as goal

pub returns : goal.returns
returns c = commas-cut
