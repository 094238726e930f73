use Rattle.std.proofs.Common.{◌∙◌, sym, ap, ◌++◌, codes}
use Rattle.pop_session.specs.Letters.{crlf_line, rows_from}
use Rattle.tap_edges.proofs.Puts.{Put-then, Put-cut}
use Rattle.pop_session.proofs.put.put_list.Goals as goal

pub returns-in-Ok : goal.returns-in-Ok
returns-in-Ok g c =
    Put-then g.K.Sink _ _ _ _ _ _ _ _ _ (ap (λ xs. xs ++ (rows_from c.args.listing 1 c.args.letters.now ++ crlf_line (codes ".")))
    (sym (c.as_slice.ensures.value ∙ c.head_line.ensures))) c.in-Ok.ensures c.put_all_rows.ensures

pub returns-in-Err : goal.returns-in-Err
returns-in-Err g c =
    Put-cut g.K.Sink _ _ _ (rows_from c.args.listing 1 c.args.letters.now ++ crlf_line (codes ".")) _ _ _
    (ap (λ xs. xs ++ (rows_from c.args.listing 1 c.args.letters.now ++ crlf_line (codes ".")))
    (sym (c.as_slice.ensures.value ∙ c.head_line.ensures))) c.in-Err.ensures
