use Rattle.std.proofs.Common.{ap, codes, ◌∙◌, sym}
use Rattle.clap.specs.Words.{App, first_of, takes, fault_of, is_simple, is_simple_and_free, found_of}
use Rattle.clap.specs.Simple.{matches_of}
use Rattle.command_words.specs.Words.{word_bytes}
use Rattle.command_words.proofs.Values.{first_row}
use Rattle.command_words.proofs.PopPairs.{is_simple_pop, is_free_pop}
use Rattle.command_words.proofs.pop_options.parse_pop_options.Goals as goal

pub returns-in-Ok-try_get_matches_from-clause-store : goal.returns-in-Ok-try_get_matches_from-clause-store
returns-in-Ok-try_get_matches_from-clause-store c =
    let m = c.in-Ok-try_get_matches_from.ensures.matches (ap is_simple c.in-Ok.ensures ∙ is_simple_pop) in
    c.get_str.ensures ∙ first_row (found_of c.in-Ok-try_get_matches_from.matches) (codes "store")
    ∙ ap (first_of (codes "store")) (m.0 ∙ ap (λ (a : App). matches_of a (word_bytes c.args.words.now)) c.in-Ok.ensures)

pub returns-in-Ok-try_get_matches_from-clause-user : goal.returns-in-Ok-try_get_matches_from-clause-user
returns-in-Ok-try_get_matches_from-clause-user c =
    let m = c.in-Ok-try_get_matches_from.ensures.matches (ap is_simple c.in-Ok.ensures ∙ is_simple_pop) in
    c.get_str-in-Ok-try_get_matches_from.ensures ∙ first_row (found_of c.in-Ok-try_get_matches_from.matches) (codes "user")
    ∙ ap (first_of (codes "user")) (m.0 ∙ ap (λ (a : App). matches_of a (word_bytes c.args.words.now)) c.in-Ok.ensures)

pub returns-in-Ok-try_get_matches_from-clause-name : goal.returns-in-Ok-try_get_matches_from-clause-name
returns-in-Ok-try_get_matches_from-clause-name c =
    let m = c.in-Ok-try_get_matches_from.ensures.matches (ap is_simple c.in-Ok.ensures ∙ is_simple_pop) in
    c.get_str-in-Ok-try_get_matches_from-2.ensures ∙ first_row (found_of c.in-Ok-try_get_matches_from.matches) (codes "box")
    ∙ ap (first_of (codes "box")) (m.0 ∙ ap (λ (a : App). matches_of a (word_bytes c.args.words.now)) c.in-Ok.ensures)

pub returns-in-Ok-try_get_matches_from-clause-secret : goal.returns-in-Ok-try_get_matches_from-clause-secret
returns-in-Ok-try_get_matches_from-clause-secret c =
    let m = c.in-Ok-try_get_matches_from.ensures.matches (ap is_simple c.in-Ok.ensures ∙ is_simple_pop) in
    c.get_str-in-Ok-try_get_matches_from-3.ensures ∙ first_row (found_of c.in-Ok-try_get_matches_from.matches) (codes "pass")
    ∙ ap (first_of (codes "pass")) (m.0 ∙ ap (λ (a : App). matches_of a (word_bytes c.args.words.now)) c.in-Ok.ensures)

pub returns-in-Ok-try_get_matches_from-clause-accepted : goal.returns-in-Ok-try_get_matches_from-clause-accepted
returns-in-Ok-try_get_matches_from-clause-accepted c =
    let none = c.in-Ok-try_get_matches_from.ensures.kinds (ap is_simple_and_free c.in-Ok.ensures ∙ is_free_pop) in
    sym (ap (λ (a : App). fault_of a (word_bytes c.args.words.now)) c.in-Ok.ensures) ∙ none

pub returns-else-eq-clause-taken : goal.returns-else-eq-clause-taken
returns-else-eq-clause-taken c taken =
    let out = c.in-Err.ensures.passes (ap (λ (a : App). takes a (word_bytes c.args.words.now)) c.in-Ok.ensures ∙ taken) in
    absurd (let same = rw (c.kind.ensures, out) at (sym c.if-eq.false ∙ c.eq.ensures) in cc)
