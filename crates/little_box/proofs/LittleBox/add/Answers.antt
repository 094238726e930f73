use Rattle.std.proofs.Common.{rules, ◌≡◌, ◌++◌, ◌∷◌, [], ◌<◌, true, false, length, subst, sym}
use Rattle.std.specs.Prelude.{slice_set}
use Rattle.little_box.specs.Boxes.{is_in, IsBox}
use Rattle.little_box.proofs.BoxLaws.{box_more}
use Rattle.little_box.proofs.LittleBox.add.Goals as goal

pub invariant_of-self-2 : goal.invariant_of-self-2
invariant_of-self-2 c =
    let es = c.self.inside.entries.items in
    let marks = c.make_mark.new.delivered.items in
    let e = c.args.entry in
    let out : is_in e.doc.0 es ≡ false = search rules in
    let room : length es < 4294967295 = search rules in
    let within : e.doc.0 < length marks = search rules in
    let more : c.push.new.self.items ≡ es ++ e ∷ [] = search rules in
    subst (λ x. IsBox x (slice_set marks e.doc.0 true)) (sym more)
    (box_more es c.self.inside.delivered.items marks e c.self.invariant c.make_mark.ensures.same within out room)
