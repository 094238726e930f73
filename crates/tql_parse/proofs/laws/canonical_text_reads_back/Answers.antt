use Rattle.tql_parse.proofs.Trip.{reads_back}
use Rattle.tql_parse.proofs.laws.canonical_text_reads_back.Goals as goal

pub returns : goal.returns
returns c = reads_back
