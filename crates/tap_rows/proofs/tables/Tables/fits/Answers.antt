use Rattle.std.proofs.Common.{◌∙◌, sym}
use Rattle.tap_rows.proofs.FitsLaws.{fits-is}
use Rattle.tap_rows.proofs.tables.Tables.fits.Goals as goal

pub returns-clause-order : goal.returns-clause-order
returns-clause-order c = λ formed. c.rows_fit.ensures ∙ sym (fits-is c.args.self.now c.args.change.now formed)
