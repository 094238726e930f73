-- The hits that a window query finds.
use Rattle.std.specs.Prelude.{◌≡◌, ◌≤ℤ◌, ◌<ℤ◌, Bool, true, false, List}
use Rattle.tap_rows.specs.declared.rows.Doc.{Doc}
use Rattle.tap_rows.specs.declared.tables.Tables.{Tables}
use Rattle.tap_rows.specs.declared.results.Hit.{Hit}
use Rattle.tap_rows.specs.Kept.{In}
use Rattle.time_marks.specs.declared.window.Window.{Window}
use Rattle.time_marks.specs.Probes.{Probe, found}

-- an unseen document that some probe finds with the mark, in the window
pub record IsFound (seen : Doc → Bool) (X : List Probe) (T : Tables) (w : Window) (h : Hit) : Type 0 where
  pub doc : Doc
  pub is_row : In doc T.docs
  pub unseen : seen doc ≡ false
  pub num : h.doc ≡ doc.num
  pub at : found X T doc h.first ≡ true
  pub low : w.low ≤ℤ h.first
  pub high : h.first <ℤ w.high

-- a list of hits that has just these
pub record AreFound (seen : Doc → Bool) (X : List Probe) (T : Tables) (w : Window) (hits : List Hit) : Type 0 where
  pub sound : (h : Hit) → In h hits → IsFound seen X T w h
  pub complete : (h : Hit) → IsFound seen X T w h → In h hits
