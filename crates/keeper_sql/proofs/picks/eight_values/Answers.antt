use Rattle.std.proofs.Common.{◌≡◌, ◌∙◌, ◌+◌, [], ◌∷◌, ◌++◌, map, take, ap, arith, slice_index_or, pos, rules}
use Rattle.std.proofs.lemmas.Grind.{common_steps}
use Rattle.std.proofs.lemmas.List.{map-append, length-map}
use Rattle.sqlite.specs.Values.{bound, bound_value}
use Rattle.sqlite_value.specs.Value.{owned}
use Rattle.tap_rows.specs.declared.rows.Pick.{Pick}
use Rattle.keeper_sql.specs.RowsAsValues.{pick_in}
use Rattle.keeper_sql.proofs.ReadBack.{read_more}
use Rattle.keeper_sql.proofs.EightPicks.{row_of, given_next, given_all, read_all}
use Rattle.keeper_sql.proofs.picks.eight_values.Goals as goal

pub loop-i-preserved : goal.loop-i-preserved
loop-i-preserved c =
    let i = c.loop-i.i in
    let item : Pick =
    slice_index_or c.args.picks.now i (record { num = 0; query = record { 0 = 0 }; run = 0; doc = record { 0 = 0 }; first = pos 0 }) in
    let more : take (i + 1) c.args.picks.now ≡ take i c.args.picks.now ++ item ∷ [] = grind (arith, common_steps) in
    let rows : map row_of (take (i + 1) c.args.picks.now) ≡ map row_of (take i c.args.picks.now) ++ row_of item ∷ [] =
    ap (map row_of) more ∙ map-append row_of (take i c.args.picks.now) (item ∷ []) in
    let len = length-map c.loop-i.values (λ v. bound_value (owned v)) in
    record {
      all = search rules;
      given = given_next (bound c.loop-i.values) (bound c.put_values.new.values) i c.args.picks.now item (omega (arith, len))
          c.put_values.ensures.given c.loop-i.invariant.given more;
      read = read_more pick_in row_of (take i c.args.picks.now) item _ _ rows more c.loop-i.invariant.read c.put_values.ensures.read;
    }

pub returns-clause-given : goal.returns-clause-given
returns-clause-given c =
    let len = length-map c.loop-i.values (λ v. bound_value (owned v)) in
    given_all (bound c.loop-i.values) c.loop-i.i c.args.picks.now (omega (arith, len)) (omega arith) c.loop-i.invariant.given

pub returns-clause-read : goal.returns-clause-read
returns-clause-read c = read_all c.loop-i.i c.args.picks.now (omega arith) c.loop-i.invariant.read
