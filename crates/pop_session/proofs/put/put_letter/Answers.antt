use Rattle.std.proofs.Common.{◌∙◌, sym, ap, ◌++◌, codes}
use Rattle.std.specs.Fmt.{decimal}
use Rattle.pop_session.specs.Letters.{crlf_line, size_of, sent_lines}
use Rattle.tap_edges.proofs.Puts.{Put-then, Put-cut}
use Rattle.pop_session.proofs.put.put_letter.Goals as goal

pub returns-in-Ok : goal.returns-in-Ok
returns-in-Ok g c =
    let is = c.as_slice.ensures.value ∙ c.number_line.ensures
    ∙ ap (λ n. crlf_line (codes "+OK " ++ decimal n)) (c.size_of.ensures.value ∙ ap size_of c.as_slice-text.ensures) in
    Put-then g.K.Sink _ _ _ _ _ _ _ _ _
    (ap (λ xs. xs ++ (sent_lines c.args.letter.now.text ++ crlf_line (codes "."))) (sym is)
    ∙ ap (λ t. c.as_slice.result.now ++ (sent_lines t ++ crlf_line (codes "."))) (sym c.as_slice-text.ensures))
    c.in-Ok.ensures c.put_all_lines.ensures

pub returns-in-Err : goal.returns-in-Err
returns-in-Err g c =
    let is = c.as_slice.ensures.value ∙ c.number_line.ensures
    ∙ ap (λ n. crlf_line (codes "+OK " ++ decimal n)) (c.size_of.ensures.value ∙ ap size_of c.as_slice-text.ensures) in
    Put-cut g.K.Sink _ _ _ (sent_lines c.args.letter.now.text ++ crlf_line (codes ".")) _ _ _
    (ap (λ xs. xs ++ (sent_lines c.args.letter.now.text ++ crlf_line (codes "."))) (sym is)) c.in-Err.ensures
