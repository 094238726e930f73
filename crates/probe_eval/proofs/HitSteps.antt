-- One turn of the search for documents beside a driving row.
use Rattle.std.proofs.Common.{◌≡◌, ◌∙◌, ◌+◌, ℕ, ℤ, Bool, Option, Some, None, List, [], ◌∷◌, refl, ap, if◌then◌else◌}
use Rattle.std.specs.Prelude.{option_to_list}
use Rattle.std.specs.List.{flat_map}
use Rattle.tap_rows.specs.declared.rows.Doc.{Doc}
use Rattle.tap_rows.specs.declared.tables.Tables.{Tables}
use Rattle.tap_rows.specs.declared.results.Entry.{Entry}
use Rattle.tql_core.specs.Row.{Row, OfDoc, OfNote}
use Rattle.tql_core.specs.Values.{Env, bind, lookup}
use Rattle.time_marks.specs.Probes.{Probe}
use Rattle.access_plan.specs.declared.reach.Reach.{Reach}
use Rattle.probe_eval.specs.StepRows.{next_rows}
use Rattle.probe_eval.specs.Work.{total}
use Rattle.probe_eval.specs.Rests.{further, cost_of}
use Rattle.probe_eval.specs.Nested.{new_doc, hit_if, over_rows, holds_here, cost_here, asked_or, hits_over, is_once, asked_cost, once_cost}
use Rattle.probe_eval.specs.Nested.{work_over}

module _ (entries : List Entry) (T : Tables) (p : Probe) (b : ℤ) where
  pub doc_hits : (order : List Reach) (env : Env) (d : Doc) → lookup 0 env ≡ Some (OfDoc d)
      → hits_over entries T p b order env ≡ option_to_list (hit_if (holds_here T p b order env) b (new_doc entries d))
  doc_hits [] env d e = ap (λ o. asked_or entries T p b [] env o []) e
  doc_hits (x ∷ rs) env d e = ap (λ o. asked_or entries T p b (x ∷ rs) env o
      (over_rows T p.path b env (further p.path b env) (λ r row. hits_over entries T p b rs (bind r.var row env)))) e

  pub note_hits : (order : List Reach) (env : Env) (row : Row) → lookup 0 env ≡ Some row → ((d : Doc) → row ≡ OfDoc d → ⊥)
      → hits_over entries T p b order env ≡ []
  note_hits order env (OfDoc d) e n = absurd (n d refl)
  note_hits [] env (OfNote x) e n = ap (λ o. asked_or entries T p b [] env o []) e
  note_hits (r ∷ rs) env (OfNote x) e n = ap (λ o. asked_or entries T p b (r ∷ rs) env o
      (over_rows T p.path b env (further p.path b env) (λ r row. hits_over entries T p b rs (bind r.var row env)))) e

  pub next_hits : (x : Reach) (rs : List Reach) (env : Env) (r : Reach) → lookup 0 env ≡ None → further p.path b env ≡ Some r
      → hits_over entries T p b (x ∷ rs) env
      ≡ flat_map (λ row. hits_over entries T p b rs (bind r.var row env)) (next_rows T p.path b env r)
  next_hits x rs env r e f =
      ap (λ o. asked_or entries T p b (x ∷ rs) env o
      (over_rows T p.path b env (further p.path b env) (λ r row. hits_over entries T p b rs (bind r.var row env)))) e
      ∙ ap (λ o. over_rows T p.path b env o (λ r row. hits_over entries T p b rs (bind r.var row env))) f

module _ (passed : Doc → Bool) (T : Tables) (p : Probe) (b : ℤ) where
  abbrev next_work : Bool → List Reach → Env → Reach → ℕ
  next_work once rs env r = total (λ row. 1 + work_over passed T p b once rs (bind r.var row env)) (next_rows T p.path b env r)

  abbrev others_cost : Reach → List Reach → Env → Option Reach → ℕ
  others_cost x rs env o =
      cost_of o (λ r. once_cost T p b (is_once p.path env rs r.var) (x ∷ rs) env (next_work (is_once p.path env rs r.var) rs env r))

  pub doc_cost : (sure : Bool) (order : List Reach) (env : Env) (d : Doc) → lookup 0 env ≡ Some (OfDoc d)
      → work_over passed T p b sure order env ≡ (if passed d then 0 else cost_here T p b sure order env)
  doc_cost sure [] env d e = ap (λ o. asked_cost passed T p b sure [] env o 0) e
  doc_cost sure (x ∷ rs) env d e = ap (λ o. asked_cost passed T p b sure (x ∷ rs) env o (others_cost x rs env (further p.path b env))) e

  pub next_cost : (sure : Bool) (x : Reach) (rs : List Reach) (env : Env) (r : Reach) → lookup 0 env ≡ None → further p.path b env ≡ Some r
      → work_over passed T p b sure (x ∷ rs) env ≡ once_cost T p b (is_once p.path env rs r.var) (x ∷ rs) env
      (total (λ row. 1 + work_over passed T p b (is_once p.path env rs r.var) rs (bind r.var row env)) (next_rows T p.path b env r))
  next_cost sure x rs env r e f = ap (λ o. asked_cost passed T p b sure (x ∷ rs) env o (others_cost x rs env (further p.path b env))) e
      ∙ ap (others_cost x rs env) f
