use Rattle.std.proofs.Common.{◌≡◌, ◌∙◌, ◌++◌, ◌∷◌, [], rules, to_z, of_z, w64}
use Rattle.row_index.proofs.HeldLaws.{stand_cut, numbers_cut}
use Rattle.row_index.proofs.doc_places.cut_last.Goals as goal

pub returns-in-Some-clause-stand : goal.returns-in-Some-clause-stand
returns-in-Some-clause-stand c =
    let all : c.args.docs.now.items ≡ c.pop.new.self.items ++ c.in-Some.doc ∷ [] = search rules in
    stand_cut c.pop.new.self.items c.args.docs.now.items c.in-Some.doc c.len-place.result all (search rules) c.requires.stand

pub returns-in-Some-clause-numbers : goal.returns-in-Some-clause-numbers
returns-in-Some-clause-numbers c =
    let all : c.args.docs.now.items ≡ c.pop.new.self.items ++ c.in-Some.doc ∷ [] = search rules in
    let back : to_z w64 (of_z w64 c.size_of.result) ≡ c.size_of.result = search rules in
    numbers_cut c.pop.new.self.items c.args.docs.now.items c.in-Some.doc c.len-place.result all (search rules) c.requires.stand
    c.args.dates.now c.forget.new.self (to_z w64 (of_z w64 c.size_of.result)) c.args.sizes.now c.forget-in-Some.new.self
    c.requires.numbers c.forget.ensures (back ∙ c.size_of.ensures) c.forget-in-Some.ensures
