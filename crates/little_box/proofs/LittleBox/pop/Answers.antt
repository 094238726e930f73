use Rattle.std.proofs.Common.{rules, ◌≡◌, ◌<◌, ◌++◌, ◌∷◌, [], subst, length}
use Rattle.little_box.specs.Boxes.{IsBox}
use Rattle.little_box.proofs.BoxLaws.{box_fewer, last_within}
use Rattle.little_box.proofs.LittleBox.pop.Goals as goal

pub index_mut-requires : goal.index_mut-requires
index_mut-requires c =
    let more : c.self.inside.entries.items ≡ c.pop.new.self.items ++ c.in-Some.entry ∷ [] = search rules in
    let within : c.in-Some.entry.doc.0 < length c.self.inside.delivered.items = last_within c.pop.new.self.items
    c.self.inside.delivered.items c.in-Some.entry (subst (λ es. IsBox es c.self.inside.delivered.items) more c.self.invariant) in
    search (rules, within)

pub invariant_of-self : goal.invariant_of-self
invariant_of-self c =
    let more : c.self.inside.entries.items ≡ c.pop.new.self.items ++ c.in-Some.entry ∷ [] = search rules in
    box_fewer c.pop.new.self.items c.self.inside.delivered.items c.in-Some.entry
    (subst (λ es. IsBox es c.self.inside.delivered.items) more c.self.invariant)
