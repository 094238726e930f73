-- What a session has taken of a piece.
use Rattle.std.proofs.Common.{◌≡◌, ◌∙◌, sym, ap, subst, refl, arith, ℕ, List, [], ◌∷◌, ◌++◌, ◌+◌, ◌^◌, take, drop, length, Option, Bool}
use Rattle.std.proofs.Common.{true, false, ◌<◌, inl, inr}
use Rattle.std.specs.Io.KnownBytes.{Appends}
use Rattle.std.proofs.lemmas.List.{append_assoc, append-nil, take-append-drop}
use Rattle.tap_edges.specs.declared.edges.PutFailed.{PutFailed}
use Rattle.std.specs.List.{position_or_len}
use Rattle.mail_lines.specs.Lines.{NoEnd, is_end}
use Rattle.mail_lines.proofs.Ends.{NoEnd-append}
use Rattle.pop_session.specs.Requests.{requests}
use Rattle.tap_edges.specs.Puts.{counted, TookSome}
use Rattle.pop_session.specs.Sessions.{PopSessionState, replies_from, quits_from, replies_to, phase_after, is_ended, held, open_reply}
use Rattle.pop_session.specs.Sessions.{answered, IsOver}
use Rattle.tap_edges.proofs.Puts.{Puts, Puts-cut, Puts-more, Appends-none, counted-start, first-cut-of}
use Rattle.pop_session.proofs.Pieces.{requests-none, ended-replies, ended-phases, grown-replies, grown-phases, cut-replies, cut-phases}
use Rattle.pop_session.proofs.Pieces.{cut-reply}

-- more bytes of the open request
pub held-next : (s : PopSessionState) (bytes rest : List ℕ) → NoEnd s.front → NoEnd bytes
    → replies_from s (bytes ++ rest) ≡ replies_from (held s bytes) rest
held-next s bytes rest nf nb = grown-replies s.user s.secret s.letters s.phase s.front bytes rest nf nb

pub held-quits : (s : PopSessionState) (bytes rest : List ℕ) → NoEnd s.front → NoEnd bytes
    → quits_from s (bytes ++ rest) ≡ quits_from (held s bytes) rest
held-quits s bytes rest nf nb = ap is_ended (grown-phases s.user s.secret s.phase s.front bytes rest nf nb)

pub held-none : (s : PopSessionState) (bytes : List ℕ) → NoEnd s.front → NoEnd bytes → replies_from s bytes ≡ []
held-none s bytes nf nb =
    ap (replies_to s.user s.secret s.letters s.phase) (requests-none (s.front ++ bytes) (NoEnd-append s.front bytes nf nb))

-- no reply is put
pub open-count : (start : ℕ) (bytes : List ℕ) → start < 2 ^ 64 → bytes ≡ [] → start ≡ counted (start + length bytes)
open-count start bytes small none = counted-start start small ∙ ap (λ xs. counted (start + length xs)) (sym none)

pub open-put : (out : Option (List ℕ)) (bytes : List ℕ) → bytes ≡ [] → Appends out out bytes
open-put out bytes none = subst (λ xs. Appends out out xs) (sym none) (Appends-none out)

-- a piece up to its first LF
pub cut-next : (s : PopSessionState) (piece rest : List ℕ) (n : ℕ)
    → NoEnd s.front → n ≡ position_or_len is_end piece → n < length piece → is_ended s.phase ≡ false
    → replies_from s (take (n + 1) piece ++ rest)
    ≡ open_reply (held s (take n piece)) ++ replies_from (answered (held s (take n piece))) rest
cut-next s piece rest n none e lt going = cut-replies s.user s.secret s.letters s.phase s.front piece rest n none e lt going

pub cut-quits : (s : PopSessionState) (piece rest : List ℕ) (n : ℕ)
    → NoEnd s.front → n ≡ position_or_len is_end piece → n < length piece → is_ended s.phase ≡ false
    → quits_from s (take (n + 1) piece ++ rest) ≡ quits_from (answered (held s (take n piece))) rest
cut-quits s piece rest n none e lt going = ap is_ended (cut-phases s.user s.secret s.phase s.front piece rest n none e lt going)

pub cut-one : (s : PopSessionState) (piece : List ℕ) (n : ℕ)
    → NoEnd s.front → n ≡ position_or_len is_end piece → n < length piece → is_ended s.phase ≡ false
    → replies_from s (take (n + 1) piece) ≡ open_reply (held s (take n piece))
cut-one s piece n none e lt going = cut-reply s.user s.secret s.letters s.phase s.front piece n none e lt going

-- a step whose put was cut off
pub cut-failed : (s : PopSessionState) (piece : List ℕ) (n start : ℕ) (before after : Option (List ℕ)) (failed : PutFailed)
    → NoEnd s.front → n ≡ position_or_len is_end piece → n < length piece → is_ended s.phase ≡ false
    → TookSome start before after (open_reply (held s (take n piece))) failed → TookSome start before after (replies_from s piece) failed
cut-failed s piece n start before after failed none e lt going cut =
    first-cut-of start before after (replies_from s piece) (open_reply (held s (take n piece)))
    (replies_from (answered (held s (take n piece))) (drop (n + 1) piece)) failed
    (ap (replies_from s) (sym (take-append-drop (n + 1) piece)) ∙ cut-next s piece (drop (n + 1) piece) n none e lt going)
    cut

-- some of a piece was taken: these bytes were put, and what follows is replied as the rest of the piece is
pub record Taken (old now : PopSessionState) (piece rest : List ℕ) (done : ℕ) (before after : Option (List ℕ)) : Type 0 where
  pub front : List ℕ
  pub replies : (more : List ℕ) → replies_from old (piece ++ more) ≡ front ++ replies_from now (rest ++ more)
  pub quits : (more : List ℕ) → quits_from old (piece ++ more) ≡ quits_from now (rest ++ more)
  pub puts : Puts front [] 0 done before after

pub Taken-start : (s : PopSessionState) (piece : List ℕ) (out : Option (List ℕ)) → Taken s s piece piece 0 out out
Taken-start s piece out = record {
  front = [];
  replies = λ more. refl;
  quits = λ more. refl;
  puts = record { front = []; split = refl; count = refl; written = Appends-none out };
}

-- the rest is what a step took and what is left after it
parted : (rest left more : List ℕ) (used : ℕ) → left ≡ drop used rest → rest ++ more ≡ take used rest ++ (left ++ more)
parted rest left more used is =
    ap (λ xs. xs ++ more) (sym (take-append-drop used rest))
    ∙ append_assoc (take used rest) (drop used rest) more
    ∙ ap (λ xs. take used rest ++ (xs ++ more)) (sym is)

-- one more step
pub Taken-more : (old now new : PopSessionState) (piece rest left : List ℕ) (used done done' : ℕ) (before mid after : Option (List ℕ))
    → Taken old now piece rest done before mid → left ≡ drop used rest
    → ((more : List ℕ) → replies_from now (take used rest ++ more) ≡ replies_from now (take used rest) ++ replies_from new more)
    → ((more : List ℕ) → quits_from now (take used rest ++ more) ≡ quits_from new more)
    → done' ≡ counted (done + length (replies_from now (take used rest))) → Appends mid after (replies_from now (take used rest))
    → Taken old new piece left done' before after
Taken-more old now new piece rest left used done done' before mid after taken is next quits count one = record {
  front = taken.front ++ replies_from now (take used rest);
  replies = λ more.
      taken.replies more
      ∙ ap (λ xs. taken.front ++ replies_from now xs) (parted rest left more used is)
      ∙ ap (λ xs. taken.front ++ xs) (next (left ++ more))
      ∙ sym (append_assoc taken.front (replies_from now (take used rest)) (replies_from new (left ++ more)));
  quits = λ more. taken.quits more ∙ ap (quits_from now) (parted rest left more used is) ∙ quits (left ++ more);
  puts = grow taken.front taken.puts;
} where
  grow : (front : List ℕ) → Puts front [] 0 done before mid → Puts (front ++ replies_from now (take used rest)) [] 0 done' before after
  grow front puts =
      Puts-more (front ++ replies_from now (take used rest)) (replies_from now (take used rest)) [] (replies_from now (take used rest)) 0
      done done' before mid after
      (record {
        front = puts.front;
        split = ap (λ xs. xs ++ replies_from now (take used rest)) (puts.split ∙ append-nil puts.front);
        count = puts.count;
        written = puts.written;
      })
      (sym (append-nil (replies_from now (take used rest)))) count one

-- nothing more is looked at
over-replies : (now : PopSessionState) (rest more : List ℕ) → IsOver now rest → replies_from now (rest ++ more) ≡ replies_from now more
over-replies now [] more (inl e) = refl
over-replies now (x ∷ xs) more (inl e) = absurd (omega arith)
over-replies now rest more (inr e) =
    ended-replies now.user now.secret now.letters now.phase (requests (now.front ++ (rest ++ more))) e
    ∙ sym (ended-replies now.user now.secret now.letters now.phase (requests (now.front ++ more)) e)

over-quits : (now : PopSessionState) (rest more : List ℕ) → IsOver now rest → quits_from now (rest ++ more) ≡ quits_from now more
over-quits now [] more (inl e) = refl
over-quits now (x ∷ xs) more (inl e) = absurd (omega arith)
over-quits now rest more (inr e) =
    ap is_ended (ended-phases now.user now.secret now.phase (requests (now.front ++ (rest ++ more))) e)
    ∙ sym (ap is_ended (ended-phases now.user now.secret now.phase (requests (now.front ++ more)) e))

-- no request is open and complete
pub open-replies : (now : PopSessionState) → NoEnd now.front → replies_from now [] ≡ []
open-replies now none = ap (λ xs. replies_to now.user now.secret now.letters now.phase (requests xs)) (append-nil now.front)
    ∙ ap (replies_to now.user now.secret now.letters now.phase) (requests-none now.front none)

open-quits : (now : PopSessionState) → NoEnd now.front → quits_from now [] ≡ is_ended now.phase
open-quits now none = ap (λ xs. is_ended (phase_after now.user now.secret now.phase (requests xs))) (append-nil now.front)
    ∙ ap (λ rs. is_ended (phase_after now.user now.secret now.phase rs)) (requests-none now.front none)

-- at the end the bytes that were put are the replies to the piece
taken-all : (old now : PopSessionState) (piece rest : List ℕ) (done : ℕ) (before after : Option (List ℕ))
    → (taken : Taken old now piece rest done before after) → NoEnd now.front → IsOver now rest → replies_from old piece ≡ taken.front
taken-all old now piece rest done before after taken none over =
    ap (replies_from old) (sym (append-nil piece))
    ∙ taken.replies []
    ∙ ap (λ xs. taken.front ++ xs) (over-replies now rest [] over ∙ open-replies now none)
    ∙ append-nil taken.front

pub end-put : (old now : PopSessionState) (piece rest : List ℕ) (done : ℕ) (before after : Option (List ℕ))
    → Taken old now piece rest done before after → NoEnd now.front → IsOver now rest → Appends before after (replies_from old piece)
end-put old now piece rest done before after taken none over =
    subst (λ xs. Appends before after xs)
    (sym (taken-all old now piece rest done before after taken none over ∙ taken.puts.split ∙ append-nil taken.puts.front))
    taken.puts.written

pub end-next : (old now : PopSessionState) (piece rest : List ℕ) (done : ℕ) (before after : Option (List ℕ))
    → Taken old now piece rest done before after → NoEnd now.front → IsOver now rest → (more : List ℕ)
    → replies_from old (piece ++ more) ≡ replies_from old piece ++ replies_from now more
end-next old now piece rest done before after taken none over more =
    taken.replies more
    ∙ ap (λ xs. taken.front ++ xs) (over-replies now rest more over)
    ∙ ap (λ xs. xs ++ replies_from now more) (sym (taken-all old now piece rest done before after taken none over))

pub end-quits : (old now : PopSessionState) (piece rest : List ℕ) (done : ℕ) (before after : Option (List ℕ))
    → Taken old now piece rest done before after → IsOver now rest → (more : List ℕ) → quits_from old (piece ++ more) ≡ quits_from now more
end-quits old now piece rest done before after taken over more = taken.quits more ∙ over-quits now rest more over

pub end-quit : (old now : PopSessionState) (piece rest : List ℕ) (done : ℕ) (before after : Option (List ℕ))
    → Taken old now piece rest done before after → NoEnd now.front → IsOver now rest → is_ended now.phase ≡ quits_from old piece
end-quit old now piece rest done before after taken none over =
    sym (open-quits now none)
    ∙ sym (end-quits old now piece rest done before after taken over [])
    ∙ ap (quits_from old) (append-nil piece)

-- a session that has ended replies nothing more
pub ended-silent : (now : PopSessionState) (quit : Bool) → quit ≡ is_ended now.phase → quit ≡ true → (rest : List ℕ)
    → replies_from now rest ≡ []
ended-silent now quit is e rest = ended-replies now.user now.secret now.letters now.phase (requests (now.front ++ rest)) (sym is ∙ e)

-- a put was cut off
pub taken-cut : (old now : PopSessionState) (piece rest : List ℕ) (done : ℕ) (before mid after : Option (List ℕ)) (failed : PutFailed)
    → Taken old now piece rest done before mid → TookSome done mid after (replies_from now rest) failed
    → TookSome 0 before after (replies_from old piece) failed
taken-cut old now piece rest done before mid after failed taken cut =
    Puts-cut (replies_from old piece) (replies_from now rest) [] (replies_from now rest) 0 done before mid after failed
    (record {
      front = taken.puts.front;
      split = ap (replies_from old) (sym (append-nil piece)) ∙ taken.replies []
          ∙ ap (λ xs. taken.front ++ replies_from now xs) (append-nil rest)
          ∙ ap (λ xs. xs ++ replies_from now rest) (taken.puts.split ∙ append-nil taken.puts.front);
      count = taken.puts.count;
      written = taken.puts.written;
    })
    (sym (append-nil (replies_from now rest))) cut
