-- The requests of bytes that come in pieces.
use Rattle.std.proofs.Common.{◌≡◌, ◌∙◌, sym, ap, subst, refl, arith, ℕ, List, [], ◌∷◌, ◌++◌, ◌+◌, ◌-◌, get_or, take, length, true, false}
use Rattle.std.proofs.Common.{if◌then◌else◌, ◌≤◌, ◌<◌, inl, inr}
use Rattle.std.specs.Prelude.{nat_le, ◌⊎◌}
use Rattle.std.specs.List.{position_or_len}
use Rattle.std.proofs.lemmas.Bool.{cases_lt}
use Rattle.std.proofs.lemmas.List.{append_assoc, append-nil, take_more, take_all}
use Rattle.std.proofs.lemmas.Grind.{common_steps}
use Rattle.std.proofs.lemmas.List.Sums.{passes_at_first}
use Rattle.mail_lines.specs.Lines.{is_end, without_end, NoEnd}
use Rattle.mail_lines.proofs.Ends.{glue, has_first, parts-front, parts-line, NoEnd-append, NoEnd-take, NoEnd-front}
use Rattle.pop_session.specs.declared.letter.Letter.{Letter}
use Rattle.pop_session.specs.declared.outcome.Phase.{Phase}
use Rattle.pop_session.specs.declared.reply.PopRefusal.TheVariants.{Long}
use Rattle.pop_session.specs.Requests.{requests, outcome_of, refused_request}
use Rattle.pop_session.specs.Replies.{pop_reply_bytes}
use Rattle.pop_session.specs.Sessions.{replies_to, phase_after, is_ended, request_grown}

pub NoEnd-grown : (front bytes : List ℕ) → NoEnd front → NoEnd bytes → NoEnd (request_grown front bytes)
NoEnd-grown front bytes a b = NoEnd-append front (take (513 - length front) bytes) a (NoEnd-take (513 - length front) bytes b)

-- no request is complete without an LF
pub requests-none : (front : List ℕ) → NoEnd front → requests front ≡ []
unfolding glue
requests-none front none = ap requests (sym (append-nil front)) ∙ rw (parts-front front [] none) refl

-- a request and its LF
pub requests-line : (line rest : List ℕ) → NoEnd line → requests (line ++ 10 ∷ rest) ≡ line ∷ requests rest
requests-line line rest none = let h = has_first rest in rw (parts-line line rest none, h.is) refl

-- a request that is too long
outcome-long : (user secret : List ℕ) (phase : Phase) (part more : List ℕ)
    → 512 < length part → outcome_of user secret phase (part ++ more) ≡ refused_request phase Long
outcome-long user secret phase part more lt = let e : nat_le (length (part ++ more)) 512 ≡ false = grind (arith, common_steps) in rw e refl

-- what is said of requests and doesn't tell two that are too long
abbrev Same : {A : Type 0} → (List (List ℕ) → A) → Type 0
Same f = (a b more : List ℕ) (rest : List (List ℕ)) → 512 < length a → 512 < length b → f ((a ++ more) ∷ rest) ≡ f ((b ++ more) ∷ rest)

same-replies : (user secret : List ℕ) (letters : List Letter) (phase : Phase) → Same (replies_to user secret letters phase)
same-replies user secret letters phase a b more rest la lb =
    ap (λ o. if is_ended phase then [] else pop_reply_bytes letters o.reply ++ replies_to user secret letters o.phase rest)
    (outcome-long user secret phase a more la ∙ sym (outcome-long user secret phase b more lb))

same-phases : (user secret : List ℕ) (phase : Phase) → Same (phase_after user secret phase)
same-phases user secret phase a b more rest la lb =
    ap (λ o. if is_ended phase then phase else phase_after user secret o.phase rest)
    (outcome-long user secret phase a more la ∙ sym (outcome-long user secret phase b more lb))

long-same : {A : Type 0} (f : List (List ℕ) → A)
    → Same f → (a b rest : List ℕ) → NoEnd a → NoEnd b → 512 < length a → 512 < length b
    → f (requests (a ++ rest)) ≡ f (requests (b ++ rest))
unfolding glue
long-same f same a b rest na nb la lb =
    let h = has_first rest in
    rw (parts-front a rest na, parts-front b rest nb, h.is) (go h.part h.more) where
      go : (part : List ℕ) (more : List (List ℕ)) → f (without_end ((a ++ part) ∷ more)) ≡ f (without_end ((b ++ part) ∷ more))
      go part [] = refl
      go part (other ∷ more) = same a b part (without_end (other ∷ more)) la lb

grown-long : (front bytes : List ℕ) → 513 - length front < length bytes → 512 < length (request_grown front bytes)
grown-long front bytes lt = grind (arith, common_steps)

whole-long : (front bytes : List ℕ) → 513 - length front < length bytes → 512 < length (front ++ bytes)
whole-long front bytes lt = grind (arith, common_steps)

-- the front that a session holds serves as the open request does
grown-same : {A : Type 0} (f : List (List ℕ) → A)
    → Same f → (front bytes rest : List ℕ) → NoEnd front → NoEnd bytes
    → f (requests (front ++ bytes ++ rest)) ≡ f (requests (request_grown front bytes ++ rest))
grown-same f same front bytes rest nf nb = go (cases_lt (513 - length front) (length bytes)) where
  go : (513 - length front < length bytes) ⊎ (length bytes ≤ 513 - length front)
      → f (requests ((front ++ bytes) ++ rest)) ≡ f (requests (request_grown front bytes ++ rest))
  go (inl lt) = long-same f same (front ++ bytes) (request_grown front bytes) rest (NoEnd-append front bytes nf nb)
      (NoEnd-grown front bytes nf nb) (whole-long front bytes lt) (grown-long front bytes lt)
  go (inr le) = rw (take_all (513 - length front) bytes le) refl

pub grown-replies : (user secret : List ℕ) (letters : List Letter) (phase : Phase) (front bytes rest : List ℕ)
    → NoEnd front → NoEnd bytes
    → replies_to user secret letters phase (requests (front ++ (bytes ++ rest)))
    ≡ replies_to user secret letters phase (requests (request_grown front bytes ++ rest))
grown-replies user secret letters phase front bytes rest nf nb =
    ap (λ xs. replies_to user secret letters phase (requests xs)) (sym (append_assoc front bytes rest))
    ∙ grown-same (replies_to user secret letters phase) (same-replies user secret letters phase) front bytes rest nf nb

pub grown-phases : (user secret : List ℕ) (phase : Phase) (front bytes rest : List ℕ)
    → NoEnd front → NoEnd bytes
    → phase_after user secret phase (requests (front ++ (bytes ++ rest)))
    ≡ phase_after user secret phase (requests (request_grown front bytes ++ rest))
grown-phases user secret phase front bytes rest nf nb =
    ap (λ xs. phase_after user secret phase (requests xs)) (sym (append_assoc front bytes rest))
    ∙ grown-same (phase_after user secret phase) (same-phases user secret phase) front bytes rest nf nb

-- a piece up to its first LF
with_end : (piece : List ℕ) (n : ℕ) → n ≡ position_or_len is_end piece → n < length piece → take (n + 1) piece ≡ take n piece ++ 10 ∷ []
with_end piece n e lt = take_more piece n 0 lt ∙ ap (λ x. take n piece ++ x ∷ []) (at_end (get_or piece n 0)
    (subst (λ k. is_end (get_or piece k 0) ≡ true) (sym e) (passes_at_first is_end piece 0 (rw (sym e) lt)))) where
      at_end : (x : ℕ) → is_end x ≡ true → x ≡ 10
      at_end x e = grind arith

sides : (piece rest : List ℕ) (n : ℕ)
    → n ≡ position_or_len is_end piece → n < length piece → take (n + 1) piece ++ rest ≡ take n piece ++ 10 ∷ rest
sides piece rest n e lt = ap (λ xs. xs ++ rest) (with_end piece n e lt) ∙ append_assoc (take n piece) (10 ∷ []) rest

-- the replies to a piece up to its first LF: one reply, and those to what follows
pub cut-replies : (user secret : List ℕ) (letters : List Letter) (phase : Phase) (front piece rest : List ℕ) (n : ℕ)
    → NoEnd front → n ≡ position_or_len is_end piece → n < length piece → is_ended phase ≡ false
    → replies_to user secret letters phase (requests (front ++ (take (n + 1) piece ++ rest)))
    ≡ pop_reply_bytes letters (outcome_of user secret phase (request_grown front (take n piece))).reply
    ++ replies_to user secret letters (outcome_of user secret phase (request_grown front (take n piece))).phase (requests rest)
cut-replies user secret letters phase front piece rest n none e lt going =
    ap (λ xs. replies_to user secret letters phase (requests (front ++ xs))) (sides piece rest n e lt)
    ∙ grown-replies user secret letters phase front (take n piece) (10 ∷ rest) none (NoEnd-front piece n e)
    ∙ ap (replies_to user secret letters phase)
    (requests-line (request_grown front (take n piece)) rest (NoEnd-grown front (take n piece) none (NoEnd-front piece n e)))
    ∙ ap (λ b. if b then [] else pop_reply_bytes letters (outcome_of user secret phase (request_grown front (take n piece))).reply
    ++ replies_to user secret letters (outcome_of user secret phase (request_grown front (take n piece))).phase (requests rest)) going

pub cut-phases : (user secret : List ℕ) (phase : Phase) (front piece rest : List ℕ) (n : ℕ)
    → NoEnd front → n ≡ position_or_len is_end piece → n < length piece → is_ended phase ≡ false
    → phase_after user secret phase (requests (front ++ (take (n + 1) piece ++ rest)))
    ≡ phase_after user secret (outcome_of user secret phase (request_grown front (take n piece))).phase (requests rest)
cut-phases user secret phase front piece rest n none e lt going =
    ap (λ xs. phase_after user secret phase (requests (front ++ xs))) (sides piece rest n e lt)
    ∙ grown-phases user secret phase front (take n piece) (10 ∷ rest) none (NoEnd-front piece n e)
    ∙ ap (phase_after user secret phase)
    (requests-line (request_grown front (take n piece)) rest (NoEnd-grown front (take n piece) none (NoEnd-front piece n e)))
    ∙ ap (λ b. if b then phase
    else phase_after user secret (outcome_of user secret phase (request_grown front (take n piece))).phase (requests rest)) going

-- the one reply to a piece up to its first LF
pub cut-reply : (user secret : List ℕ) (letters : List Letter) (phase : Phase) (front piece : List ℕ) (n : ℕ)
    → NoEnd front → n ≡ position_or_len is_end piece → n < length piece → is_ended phase ≡ false
    → replies_to user secret letters phase (requests (front ++ take (n + 1) piece))
    ≡ pop_reply_bytes letters (outcome_of user secret phase (request_grown front (take n piece))).reply
cut-reply user secret letters phase front piece n none e lt going =
    ap (λ xs. replies_to user secret letters phase (requests (front ++ xs))) (sym (append-nil (take (n + 1) piece)))
    ∙ cut-replies user secret letters phase front piece [] n none e lt going
    ∙ append-nil (pop_reply_bytes letters (outcome_of user secret phase (request_grown front (take n piece))).reply)

-- a session that has ended replies nothing
pub ended-replies : (user secret : List ℕ) (letters : List Letter) (phase : Phase) (rs : List (List ℕ))
    → is_ended phase ≡ true → replies_to user secret letters phase rs ≡ []
ended-replies user secret letters phase [] e = refl
ended-replies user secret letters phase (r ∷ rs) e = rw e refl

pub ended-phases : (user secret : List ℕ) (phase : Phase) (rs : List (List ℕ)) → is_ended phase ≡ true
    → phase_after user secret phase rs ≡ phase
ended-phases user secret phase [] e = refl
ended-phases user secret phase (r ∷ rs) e = rw e refl
