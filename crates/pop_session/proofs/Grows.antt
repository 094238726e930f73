-- The replies to bytes that go on.
use Rattle.std.proofs.Common.{◌≡◌, ◌∙◌, sym, ap, refl, ℕ, List, [], ◌∷◌, ◌++◌, Bool, true, false, if◌then◌else◌}
use Rattle.std.proofs.lemmas.List.{append_assoc}
use Rattle.mail_lines.specs.Lines.{parts, without_end}
use Rattle.mail_lines.proofs.Ends.{glue, has_first}
use Rattle.mail_lines.proofs.Grows.{last_part, parts-more}
use Rattle.pop_session.specs.declared.letter.Letter.{Letter}
use Rattle.pop_session.specs.declared.outcome.Phase.{Phase}
use Rattle.pop_session.specs.declared.outcome.Phase.TheVariants.{Authorization}
use Rattle.pop_session.specs.Requests.{requests, outcome_of}
use Rattle.pop_session.specs.Replies.{greeting, pop_reply_bytes}
use Rattle.pop_session.specs.Sessions.{replies_to, is_ended}
use Rattle.pop_session.specs.Laws.{RepliesGrow}

without_end-append : (xs : List (List ℕ)) (y : List ℕ) (ys : List (List ℕ)) → without_end (xs ++ y ∷ ys) ≡ xs ++ without_end (y ∷ ys)
without_end-append [] y ys = refl
without_end-append (x ∷ []) y ys = refl
without_end-append (x ∷ x2 ∷ xs) y ys = ap (λ zs. x ∷ zs) (without_end-append (x2 ∷ xs) y ys)

-- the requests of some bytes stay
requests-more : (a b : List ℕ) → (more : List (List ℕ)) × (requests (a ++ b) ≡ requests a ++ more)
unfolding glue
requests-more a b =
    let h = has_first b in (
      without_end ((last_part (parts a) ++ h.part) ∷ h.more),
      ap without_end (parts-more a b) ∙ rw h.is (without_end-append (without_end (parts a)) (last_part (parts a) ++ h.part) h.more),
    )

-- the replies to some requests stay
replies-more : (user secret : List ℕ) (letters : List Letter) (phase : Phase) (rs ss : List (List ℕ))
    → (more : List ℕ) × (replies_to user secret letters phase (rs ++ ss) ≡ replies_to user secret letters phase rs ++ more)
replies-more user secret letters phase [] ss = (replies_to user secret letters phase ss, refl)
replies-more user secret letters phase (r ∷ rs) ss =
    go (is_ended phase) (replies-more user secret letters (outcome_of user secret phase r).phase rs ss) where
      go : (b : Bool) → (more : List ℕ) × (replies_to user secret letters (outcome_of user secret phase r).phase (rs ++ ss)
          ≡ replies_to user secret letters (outcome_of user secret phase r).phase rs ++ more)
          → (more : List ℕ) × ((if b then [] else pop_reply_bytes letters (outcome_of user secret phase r).reply
          ++ replies_to user secret letters (outcome_of user secret phase r).phase (rs ++ ss)) ≡ (if b then [] else pop_reply_bytes letters
          (outcome_of user secret phase r).reply ++ replies_to user secret letters (outcome_of user secret phase r).phase rs) ++ more)
      go true rest = ([], refl)
      go false rest = (
        rest.0,
        ap (λ xs. pop_reply_bytes letters (outcome_of user secret phase r).reply ++ xs) rest.1
            ∙ sym (append_assoc (pop_reply_bytes letters (outcome_of user secret phase r).reply)
            (replies_to user secret letters (outcome_of user secret phase r).phase rs) rest.0),
      )

pub replies-grow : RepliesGrow
replies-grow a b user secret letters =
    let rs = requests-more a b in
    let more = replies-more user secret letters Authorization (requests a) rs.0 in
    (more.0, ap (λ xs. greeting ++ replies_to user secret letters Authorization xs) rs.1 ∙ ap (λ xs. greeting ++ xs) more.1)
