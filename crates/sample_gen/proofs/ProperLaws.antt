-- The commands of a sample are such as a reader of scripts gives.
use Rattle.std.proofs.Common.{◌≡◌, ℕ, zero, suc, Bool, true, false, refl, ◌==◌}
use Rattle.std.specs.Prelude.{◌%◌}
use Rattle.std.specs.List.{list_all}
use Rattle.std.proofs.lemmas.List.Folds.{list_all-append}
use Rattle.script_lang.specs.Proper.{is_proper}
use Rattle.sample_gen.specs.Samples.{draw, note_after, runs_after, commands_of_message, commands_of_messages, sample_of}

proper_note : (i d : ℕ) → list_all is_proper (note_after i d) ≡ true
proper_note i d = go (i % 5 == 0) refl
  where
    go : (b : Bool) → (i % 5 == 0) ≡ b → list_all is_proper (note_after i d) ≡ true
    go true e = rw e refl
    go false e = rw e refl

proper_runs : (i : ℕ) → list_all is_proper (runs_after i) ≡ true
proper_runs i = go (i % 10 == 0) refl
  where
    go : (b : Bool) → (i % 10 == 0) ≡ b → list_all is_proper (runs_after i) ≡ true
    go true e = rw e refl
    go false e = rw e refl

proper_message : (i d : ℕ) → list_all is_proper (commands_of_message i d) ≡ true
proper_message i d = rw (list_all-append is_proper (note_after i d) (runs_after i), proper_note i d, proper_runs i) refl

proper_messages : (n : ℕ) → list_all is_proper (commands_of_messages n) ≡ true
proper_messages zero = refl
proper_messages (suc i) = rw (
  list_all-append is_proper (commands_of_messages i) (commands_of_message (suc i) (draw (suc i))),
  proper_messages i,
  proper_message (suc i) (draw (suc i)),
) refl

pub proper_sample : (n : ℕ) → list_all is_proper (sample_of n) ≡ true
proper_sample n = rw (list_all-append is_proper (commands_of_messages n) _, proper_messages n) refl
