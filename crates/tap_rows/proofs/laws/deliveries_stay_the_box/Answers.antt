use Rattle.tap_rows.proofs.KeptLaws.{kept-docs, kept-note, kept-query, kept-filter, kept-run}
use Rattle.tap_rows.proofs.laws.deliveries_stay_the_box.Goals as goal

pub returns : goal.returns
returns c = record {
  none = λ truth start. record { docs = tt; queries = tt; runs = tt; owned = tt; picks = tt; each = tt };
  docs = λ truth start causal t tables kept by docs. kept-docs truth start causal t tables docs kept by;
  note = λ truth start causal t tables kept by note. kept-note truth start causal t tables note kept by;
  query = λ truth start causal t tables kept by query. kept-query truth start causal t tables query kept by;
  filter = λ truth start causal t tables kept by filter. kept-filter truth start causal t tables filter kept by;
  run = λ truth start causal t tables kept by query. kept-run truth start causal t tables query kept by;
}
