use Rattle.std.proofs.Common.{◌≡◌, ◌∙◌, ap, sym, subst, refl, rules, true, false, [], ◌++◌, length, map}
use Rattle.tap_base.specs.Words.{with_new}
use Rattle.tap_rows.specs.declared.tables.Tables.{Tables}
use Rattle.tap_rows.specs.Kept.{Each, HasRun, RunsFrom}
use Rattle.tap_rows.specs.WellFormed.{is_well_formed}
use Rattle.restart_core.specs.Readings.{readings_of}
use Rattle.tap_engine.specs.declared.engine.Engine.{Engine}
use Rattle.tap_kept.specs.Keeping.{cached_query}
use Rattle.tap_engine.specs.Standing.{Represents}
use Rattle.tap_kept.specs.Starting.{runs_alone, IsRowNumber, PicksAreDistinct}
use Rattle.tap_engine.proofs.FormedLaws.{Formed, formed}
use Rattle.vote_scores.specs.Tally.{tally}
use Rattle.tap_engine.proofs.StartedLaws.{IsStarted, represents-start, ready-start}
use Rattle.tap_engine.proofs.engine.Engine.build.Goals as goal

from-sound : (tables sound : Tables) → tables ≡ sound → is_well_formed sound ≡ true → Formed tables
from-sound tables sound same e = formed tables (subst (λ t. is_well_formed t ≡ true) (sym same) e)

pub cache_delivered-requires-clause-read : goal.cache_delivered-requires-clause-read
cache_delivered-requires-clause-read c = record {
  conds = ap (λ (u : Tables). readings_of u.queries) c.into_parts-tables.ensures.tables ∙ c.into_parts-tables.ensures.conds;
  arrivals =
      (from-sound c.into_parts-tables.result.0 c.args.sound c.into_parts-tables.ensures.tables c.into_parts-tables.ensures.formed).moments;
}

pub cache_delivered-requires-clause-numbered : goal.cache_delivered-requires-clause-numbered
cache_delivered-requires-clause-numbered c =
    (from-sound c.into_parts-tables.result.0 c.args.sound c.into_parts-tables.ensures.tables c.into_parts-tables.ensures.formed).queries

pub cache_delivered-requires-clause-owned : goal.cache_delivered-requires-clause-owned
cache_delivered-requires-clause-owned c =
    let t = c.into_parts-tables.result.0 in
    let f = from-sound t c.args.sound c.into_parts-tables.ensures.tables c.into_parts-tables.ensures.formed in
    subst (λ runs. Each (λ run. IsRowNumber run.query.0 (length t.queries)) runs) (sym c.as_slice-3.ensures) f.owned

pub cache_delivered-requires-clause-deliveries : goal.cache_delivered-requires-clause-deliveries
cache_delivered-requires-clause-deliveries c =
    let t = c.into_parts-tables.result.0 in
    let f = from-sound t c.args.sound c.into_parts-tables.ensures.tables c.into_parts-tables.ensures.formed in record {
      numbered = subst (λ runs. RunsFrom 1 runs) (sym c.as_slice-3.ensures) f.runs;
      picked = subst (λ picks. Each (λ pick. HasRun pick.run pick.query.0 c.as_slice-3.result.now) picks) (sym c.as_slice-4.ensures)
          (subst (λ runs. Each (λ pick. HasRun pick.run pick.query.0 runs) t.picks) (sym c.as_slice-3.ensures) f.picked);
      once = subst (PicksAreDistinct []) (sym c.as_slice-4.ensures) f.once;
    }

pub index_rows-requires-clause-docs : goal.index_rows-requires-clause-docs
index_rows-requires-clause-docs c =
    (from-sound c.into_parts-tables.result.0 c.args.sound c.into_parts-tables.ensures.tables c.into_parts-tables.ensures.formed).docs

pub index_rows-requires-clause-short : goal.index_rows-requires-clause-short
index_rows-requires-clause-short c =
    (from-sound c.into_parts-tables.result.0 c.args.sound c.into_parts-tables.ensures.tables c.into_parts-tables.ensures.formed).short

pub index_rows-requires-clause-notes : goal.index_rows-requires-clause-notes
index_rows-requires-clause-notes c =
    (from-sound c.into_parts-tables.result.0 c.args.sound c.into_parts-tables.ensures.tables c.into_parts-tables.ensures.formed).notes

pub returns : goal.returns
returns c =
    let t = c.into_parts-tables.result.0 in
    let e : Engine = record {
      session = c.new.result;
      index = c.in_ok-index.index;
      votes = c.in_ok-votes.votes;
      hits = c.in_ok-index.hits;
      queries = c.in_ok-queries.queries;
      filters = c.in_ok-filters.filters;
      run_count = c.len.result;
      pick_count = c.len-2.result;
      bytes = c.in_ok-sums.sums.bytes;
      owners = c.in_ok-owners.owners;
      greatest = c.in_ok-sums.sums.greatest;
      stopped = false;
    } in
    let is : IsStarted e t = record {
      session = search rules;
      rows = c.in_ok-index.ensures.index;
      room = c.in_ok-index.ensures.room;
      fronts = c.in_ok-index.ensures.fronts;
      queries = c.in_ok-queries.ensures
          ∙ ap (λ runs. map (cached_query (runs_alone runs c.as_slice-4.result.now)) t.queries) c.as_slice-3.ensures
          ∙ ap (λ picks. map (cached_query (runs_alone t.runs picks)) t.queries) c.as_slice-4.ensures;
      filters = search rules;
      votes = c.in_ok-votes.ensures ∙ ap tally c.as_slice-5.ensures;
      run_count = search rules;
      pick_count = search rules;
      bytes = c.in_ok-sums.ensures.bytes;
      owners = c.in_ok-owners.ensures
          ∙ ap (λ queries. with_new [] (map (λ query. query.owner) queries ++ map (λ filter. filter.owner) c.as_slice-2.result.now))
          c.as_slice.ensures
          ∙ ap (λ filters. with_new [] (map (λ query. query.owner) t.queries ++ map (λ filter. filter.owner) filters)) c.as_slice-2.ensures;
      greatest = c.in_ok-sums.ensures.greatest;
    } in
    record {
      ok = record {
        represents = subst (λ tables. Represents e tables) c.into_parts-tables.ensures.tables (represents-start e t is);
        session = is.session;
        running = refl;
        ready = ready-start e t is (from-sound t c.args.sound c.into_parts-tables.ensures.tables c.into_parts-tables.ensures.formed);
      };
      read = search rules;
      fault = tt;
    }
