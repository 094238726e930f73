use Rattle.keeper_file.proofs.file_keeper.FileKeeper.new.Goals as goal

pub returns-clause-told : goal.returns-clause-told
returns-clause-told g c clean t told = record { told = told; exact = λ x left. g.met.O.Opener.exact c.args.opener t x clean told left }
